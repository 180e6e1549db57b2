-- What a state of the byte machine stands for: how many comments end in the bytes behind it. No byte that the machine takes changes that,
-- but for the one that closes a comment.
use Prim.Native.Nat.{ℕ, suc}
use mathlib.Core.Bool.{Bool, true, false, cond}
use mathlib.Core.List.{List, [], ◌∷◌}
use mathlib.Core.Path.{◌≡◌, refl, sym, ◌∙◌}
use lib.Dec.{eqb, leb}
use borrow.Author.Tests.{eqb-true}
use Rattle.rules.specs.declared.Lexical.{Lexical}
use Rattle.rules.specs.Kinds
use Rattle.rules.specs.Text.{is_blank}
use Rattle.rules.specs.Lex.{is_digit, is_letter, is_word, is_hex_digit, is_escape, is_lone, maybe_two, largest}
use Rattle.theory_machine.specs.Machine as machine
use Rattle.theory_machine.specs.Machine.{Token, St, gap, minus, str, esc, two, name, zer, hex0, dec, hex, Spot, First, go, clear, over, bad, Move, fresh, on, back, Last, clean, ended, cut, number, number_end, one_sign, two_sign, passed, begin, step, finish}
use Rattle.theory_comments.specs.Comments.{code, line, block, string, escaped, comments}
use Rattle.theory_comments.proofs.Bytes.{differs, plain, plain_by, quote_opens, line_opens, block_opens, slash_alone, line_closes, line_goes_on, block_closes, block_goes_on, star_alone, string_closes, string_escapes, string_goes_on, escape_passes, sign_second}

-- the comments that end in s, where k bytes have been read which left the machine in a state
unfoldable pub ahead : St → ℕ → List ℕ → ℕ
ahead gap k s = passed (comments code s) k
ahead machine.slash k s = comments code (47 ∷ s)
ahead machine.line k s = comments line s
ahead machine.block k s = comments block s
ahead machine.star k s = comments block (42 ∷ s)
ahead minus k s = comments code s
ahead str k s = comments string s
ahead esc k s = comments escaped s
ahead (two x) k s = comments code s
ahead (name w) k s = comments code s
ahead (zer n) k s = comments code s
ahead (hex0 n) k s = comments code s
ahead (dec n v) k s = comments code s
ahead (hex n v) k s = comments code s

-- A byte was taken behind k others and s is left: n comments are still to end.
pub data Takes (k : ℕ) (s : List ℕ) (n : ℕ) : First → Type 0 where
  takes_go : (st : St) → n ≡ ahead st (suc k) s → Takes k s n (go st)
  takes_clear : n ≡ passed (comments code s) k → Takes k s n clear
  takes_over : (x : Token) → n ≡ comments code s → Takes k s n (over x)
  takes_bad : (why : Lexical) (x : Spot) → Takes k s n (bad why x)

-- the same before the byte b
pub data Moves (b k : ℕ) (s : List ℕ) (n : ℕ) : Move → Type 0 where
  moves_fresh : n ≡ passed (comments code (b ∷ s)) k → Moves b k s n fresh
  moves_on : (x : First) → Takes k s n x → Moves b k s n (on x)
  moves_back : (x : Token) → n ≡ comments code (b ∷ s) → Moves b k s n (back x)

-- the same at the text's end
pub data Closes (k n : ℕ) : Last → Type 0 where
  closes_clean : n ≡ passed 0 k → Closes k n clean
  closes_ended : (x : Token) → n ≡ 0 → Closes k n (ended x)
  closes_cut : (why : Lexical) (x : Spot) → Closes k n (cut why x)

-- what holds of both branches of a test
split : {A : Type 0} (P : A → Type 0) (t : Bool) {x y : A} → (t ≡ true → P x) → (t ≡ false → P y) → P (cond t x y)
split P true f g = f refl
split P false f g = g refl

-- ---- where a row may begin

module _ (b : ℕ) (s : List ℕ) where
  abbrev Begins : First → Type 0
  Begins = Takes 0 s (comments code (b ∷ s))

  pub begin_takes : Begins (begin b)
  unfolding begin ahead passed is_blank is_letter is_digit
  begin_takes =
      split Begins (is_blank b) (λ e. takes_clear (plain_by s is_blank b refl refl e)) (λ e.
      split Begins (eqb b 47) (λ f. takes_go _ (rw (eqb-true b 47 f))) (λ f.
      split Begins (is_letter b) (λ g. takes_go _ (plain_by s is_letter b refl refl g)) (λ g.
      split Begins (eqb b 48) (λ h. takes_go _ (rw (eqb-true b 48 h) (plain s 48 refl refl))) (λ h.
      split Begins (is_digit b) (λ i. takes_go _ (plain_by s is_digit b refl refl i)) (λ i.
      split Begins (eqb b 45) (λ j. takes_go _ (rw (eqb-true b 45 j) (plain s 45 refl refl))) (λ j.
      split Begins (eqb b 34) (λ l. takes_go _ (rw (eqb-true b 34 l) (quote_opens s))) (λ l.
      split Begins (maybe_two b) (λ m. takes_go _ (plain s b f l)) (λ m.
      split Begins (eqb (one_sign b) Kinds.Eof) (λ o. takes_bad _ _) (λ o. takes_over _ (plain s b f l))))))))))

-- ---- a byte in each state

module _ (b k : ℕ) (s : List ℕ) where
  abbrev Goes : ℕ → Move → Type 0
  Goes n = Moves b k s n

  -- outside of comments and strings
  abbrev Passes : Move → Type 0
  Passes = Goes (comments code (b ∷ s))

  -- a byte that is neither a slash nor a quote is taken in a row
  goes_plain : (st : St) → ahead st (suc k) s ≡ comments code s → eqb b 47 ≡ false → eqb b 34 ≡ false → Passes (on (go st))
  goes_plain st h e f = moves_on _ (takes_go st (plain s b e f ∙ sym h))

  goes_class : (p : ℕ → Bool) (st : St) → ahead st (suc k) s ≡ comments code s → p 47 ≡ false → p 34 ≡ false → p b ≡ true →
      Passes (on (go st))
  goes_class p st h u v e = goes_plain st h (differs p 47 b u e) (differs p 34 b v e)

  -- the row ends before the byte, or is refused
  number_goes : (negative : Bool) (v : ℕ) → Passes (number negative v)
  unfolding number
  number_goes negative v = split (Goes _) (leb v largest) (λ e. moves_back _ refl) (λ e. moves_on _ (takes_bad _ _))

  slash_goes : Goes (comments code (47 ∷ b ∷ s)) (step machine.slash k b)
  unfolding step ahead
  slash_goes =
      split (Goes _) (eqb b 47) (λ e. moves_on _ (takes_go _ (rw (eqb-true b 47 e) (line_opens s)))) (λ e.
      split (Goes _) (eqb b 42) (λ f. moves_on _ (takes_go _ (rw (eqb-true b 42 f) (block_opens s)))) (λ f.
      split (Goes _) (eqb b 61) (λ g. moves_on _ (takes_over _ (slash_alone s b e f ∙ rw (eqb-true b 61 g) (plain s 61 refl refl)))) (λ g.
      moves_back _ (slash_alone s b e f))))

  minus_goes : Passes (step minus k b)
  unfolding step ahead is_digit
  minus_goes =
      split (Goes _) (eqb b 48) (λ e. goes_class (λ x. eqb x 48) _ refl refl refl e) (λ e.
      split (Goes _) (is_digit b) (λ f. goes_class is_digit _ refl refl refl f) (λ f.
      split (Goes _) (eqb b 61) (λ g. moves_on _ (takes_over _ (plain_by s (λ x. eqb x 61) b refl refl g))) (λ g. moves_back _ refl)))

  block_goes : Goes (comments block (b ∷ s)) (step machine.block k b)
  unfolding step ahead
  block_goes =
      split (Goes _) (eqb b 42) (λ e. moves_on _ (takes_go _ (rw (eqb-true b 42 e)))) (λ e. moves_on _ (takes_go _ (block_goes_on s b e)))

  string_goes : Goes (comments string (b ∷ s)) (step str k b)
  unfolding step ahead
  string_goes =
      split (Goes _) (eqb b 34) (λ e. moves_on _ (takes_over _ (rw (eqb-true b 34 e) (string_closes s)))) (λ e.
      split (Goes _) (eqb b 10) (λ f. moves_on _ (takes_bad _ _)) (λ f.
      split (Goes _) (eqb b 92) (λ g. moves_on _ (takes_go _ (rw (eqb-true b 92 g) (string_escapes s)))) (λ g.
      moves_on _ (takes_go _ (string_goes_on s b e g)))))

  escape_goes : Goes (comments escaped (b ∷ s)) (step esc k b)
  unfolding step ahead
  escape_goes = split (Goes _) (is_escape b) (λ e. moves_on _ (takes_go _ (escape_passes s b))) (λ e. moves_on _ (takes_bad _ _))

  two_goes : (x : ℕ) → Passes (step (two x) k b)
  unfolding step
  two_goes x =
      split (Goes _) (eqb (two_sign x b) Kinds.Eof) (λ e.
      split (Goes _) (is_lone x) (λ f. moves_on _ (takes_bad _ _)) (λ f. moves_back _ refl)) (λ e.
      let z = sign_second x b e in moves_on _ (takes_over _ (plain s b z.0 z.1)))

  name_goes : (w : List ℕ) → Passes (step (name w) k b)
  unfolding step ahead is_word is_letter is_digit
  name_goes w = split (Goes _) (is_word b) (λ e. goes_class is_word _ refl refl refl e) (λ e. moves_back _ refl)

  zero_goes : (negative : Bool) → Passes (step (zer negative) k b)
  unfolding step ahead is_digit
  zero_goes negative =
      split (Goes _) (eqb b 120) (λ e. goes_class (λ x. eqb x 120) _ refl refl refl e) (λ e.
      split (Goes _) (is_digit b) (λ f. goes_class is_digit _ refl refl refl f) (λ f. number_goes negative 0))

  -- a hex digit, and else what the state does with any other byte
  hex_goes : (negative : Bool) (v : ℕ) (x : Move) → Passes x → Passes (cond (is_hex_digit b) (on (go (hex negative v))) x)
  unfolding ahead is_hex_digit is_digit
  hex_goes negative v x h = split (Goes _) (is_hex_digit b) (λ e. goes_class is_hex_digit _ refl refl refl e) (λ e. h)

  decimal_goes : (negative : Bool) (v : ℕ) → Passes (step (dec negative v) k b)
  unfolding step ahead is_digit
  decimal_goes negative v = split (Goes _) (is_digit b) (λ e. goes_class is_digit _ refl refl refl e) (λ e. number_goes negative v)

-- a comment that closes is one more
module _ (b k : ℕ) (s : List ℕ) where
  line_goes : Goes b (suc k) s (comments line (b ∷ s)) (step machine.line (suc k) b)
  unfolding step ahead passed
  line_goes =
      split (Goes b (suc k) s _) (eqb b 10) (λ e. moves_on _ (takes_clear (rw (eqb-true b 10 e) (line_closes s)))) (λ e.
      moves_on _ (takes_go _ (line_goes_on s b e)))

  star_goes : Goes b (suc k) s (comments block (42 ∷ b ∷ s)) (step machine.star (suc k) b)
  unfolding step ahead passed
  star_goes =
      split (Goes b (suc k) s _) (eqb b 47) (λ e. moves_on _ (takes_clear (rw (eqb-true b 47 e) (block_closes s)))) (λ e.
      split (Goes b (suc k) s _) (eqb b 42) (λ f. moves_on _ (takes_go _ (rw (eqb-true b 42 f) (star_alone s 42 refl)))) (λ f.
      moves_on _ (takes_go _ (star_alone s b e ∙ block_goes_on s b f))))

-- ---- any state

-- Behind no byte the machine stands in a gap.
pub data Stands : St → ℕ → Type 0 where
  stands_gap : Stands gap 0
  stands_in : (st : St) (k : ℕ) → Stands st (suc k)

pub step_moves : {st : St} {k : ℕ} (b : ℕ) (s : List ℕ) → Stands st k → Moves b k s (ahead st k (b ∷ s)) (step st k b)
unfolding step ahead
step_moves b s stands_gap = moves_fresh refl
step_moves b s (stands_in gap k) = moves_fresh refl
step_moves b s (stands_in machine.slash k) = slash_goes b (suc k) s
step_moves b s (stands_in machine.line k) = line_goes b k s
step_moves b s (stands_in machine.block k) = block_goes b (suc k) s
step_moves b s (stands_in machine.star k) = star_goes b k s
step_moves b s (stands_in minus k) = minus_goes b (suc k) s
step_moves b s (stands_in str k) = string_goes b (suc k) s
step_moves b s (stands_in esc k) = escape_goes b (suc k) s
step_moves b s (stands_in (two x) k) = two_goes b (suc k) s x
step_moves b s (stands_in (name w) k) = name_goes b (suc k) s w
step_moves b s (stands_in (zer n) k) = zero_goes b (suc k) s n
step_moves b s (stands_in (hex0 n) k) = hex_goes b (suc k) s n _ _ (moves_on _ (takes_bad _ _))
step_moves b s (stands_in (dec n v) k) = decimal_goes b (suc k) s n v
step_moves b s (stands_in (hex n v) k) = hex_goes b (suc k) s n _ _ (number_goes b (suc k) s n v)

-- ---- the text's end

number_closes : (negative : Bool) (v k : ℕ) → Closes k 0 (number_end negative v)
unfolding number_end
number_closes negative v k = split (Closes k 0) (leb v largest) (λ e. closes_ended _ refl) (λ e. closes_cut _ _)

pub finish_closes : {st : St} {k : ℕ} → Stands st k → Closes k (ahead st k []) (finish st k)
unfolding finish ahead passed comments
finish_closes stands_gap = closes_clean refl
finish_closes (stands_in gap k) = closes_clean refl
finish_closes (stands_in machine.slash k) = closes_ended _ refl
finish_closes (stands_in machine.line k) = closes_clean refl
finish_closes (stands_in machine.block k) = closes_cut _ _
finish_closes (stands_in machine.star k) = closes_cut _ _
finish_closes (stands_in minus k) = closes_ended _ refl
finish_closes (stands_in str k) = closes_cut _ _
finish_closes (stands_in esc k) = closes_cut _ _
finish_closes (stands_in (two x) k) = split (Closes (suc k) 0) (is_lone x) (λ e. closes_cut _ _) (λ e. closes_ended _ refl)
finish_closes (stands_in (name w) k) = closes_ended _ refl
finish_closes (stands_in (zer n) k) = number_closes n 0 (suc k)
finish_closes (stands_in (hex0 n) k) = closes_cut _ _
finish_closes (stands_in (dec n v) k) = number_closes n v (suc k)
finish_closes (stands_in (hex n v) k) = number_closes n v (suc k)
