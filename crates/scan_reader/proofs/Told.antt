-- From what was told back to the item: by its kind or code, what stands at the front, how many bytes it has, and that they are there.
use mathlib.Core.Path.{◌≡◌, refl, sym, subst⁻¹}
use mathlib.Core.Bool.{Bool, true, false, cond, ◌&&◌, ◌||◌}
use mathlib.Core.List.{List, [], ◌∷◌}
use Prim.Native.Nat.{ℕ, ◌+◌, ◌-◌, ◌≤◌, ◌<◌}
use native.Mathlib.Nat.{add_assoc}
use native.Mathlib.Decide.{ℕ_discrete}
use native.Mathlib.Omega.{arith}
use lib.ListN.{length, take, drop, get_or, length-drop}
use lib.Dec.{eqb, leb, ltb}
use borrow.Author.Tests.{eqb-true, eqb-false, ltb-true, ltb-false}
use Rattle.rules.specs.Text.{front, not_newline, is_blank}
use Rattle.rules.specs.Kinds.{Spelt, Identifier, StringLiteral, Number, Eof, reserved, signs, same_bytes, kind_in}
use Rattle.rules.specs.Rows.{bits_of}
use Rattle.rules.specs.Lex.{Piece, blank, comment, row, refused, Item, known, end, unknown, item, piece, beginning, decided_at, is_letter, is_digit, is_word, is_lone, maybe_two, largest, word, number, number_of, string, line_comment, block_comment, before_close, slashed, dashed, single, sign}
use Rattle.rules.specs.declared.Lexical.{Lexical}
use Rattle.rules.specs.declared.Lexical.TheVariants.{LoneSign, NoRowBegins, NoHexDigit, OpenComment, OpenString, BadEscape, NumberTooLarge}
use Rattle.laws.proofs.Tests.{both_true}
use Rattle.laws.proofs.Fronts.{front_le, front_more, front_in_line, inside}
use Rattle.laws.proofs.Spelled.{same_eq}
use Rattle.scan_runs.specs.declared.Unclosed.TheVariants.{Open, Escape}
use Rattle.scan_runs.specs.declared.Digits.{Digits}
use Rattle.std.proofs.Common.{Ok, Err}
use Rattle.scan_runs.specs.Leaf.{Quoted, digits_of}
use Rattle.scan_runs.proofs.Quotes.{string_piece, reach_of}
use Rattle.scan_runs.proofs.Bodies.{body_line}
use Rattle.scan_reader.specs.declared.Brief.{Brief}
use Rattle.scan_reader.specs.Brief.{Blank, Line, Block, End, Unknown, refusal_code, told}
use Rattle.scan_reader.proofs.Numbers.{opening, hex_at, digits_front, hex_front, digit_inside, number_behind, none_is, some_is}
use Rattle.scan_reader.proofs.Strings.{quoted_at, string_is, string_line}
use Rattle.scan_reader.proofs.Reasons.{code_least}

-- ---- a piece at the front of s has its bytes there, a row and a refusal's place in the line

pub data Sound (s : List ℕ) : Piece → Type 0 where
  of_blank : 0 < length s → is_blank (get_or s 0 0) ≡ true → Sound s blank
  of_comment : (n d : ℕ) → 1 ≤ n → n ≤ length s → (get_or s 1 0 ≡ 47 → n - 1 ≤ front not_newline s) → Sound s (comment n d)
  of_row : (k n v d : ℕ) → k < Blank → 1 ≤ n → n ≤ front not_newline s → Sound s (row k n v d)
  of_refused : (w : Lexical) (p d : ℕ) → p ≤ front not_newline s → Sound s (refused w p d)

-- a spelling's bytes are bytes of a line, and its kind is below all codes
clean : List ℕ → Bool
clean [] = true
clean (b ∷ w) = (ltb 0 b && not_newline b) && clean w

lined : List Spelt → Bool
lined [] = true
lined (e ∷ es) = (clean e.spelling && ltb e.kind 64) && lined es

lined_signs : lined signs ≡ true
unfolding lined clean signs
lined_signs = refl

lined_reserved : lined reserved ≡ true
unfolding lined clean reserved
lined_reserved = refl

module _ (d : ℕ) (w : List ℕ) where
  kind_low : (es : List Spelt) → lined es ≡ true → d < 64 → kind_in es d w < 64
  unfolding lined kind_in
  kind_low [] l h = h
  kind_low (e ∷ es) l h =
      let x = both_true (clean e.spelling && ltb e.kind 64) (lined es) l in
      pick (same_bytes e.spelling w) (ltb-true _ _ (both_true (clean e.spelling) _ x.0).1) (kind_low es x.1 h)
    where
      pick : (p : Bool) → e.kind < 64 → kind_in es d w < 64 → elim p as (λ _. ℕ) [ true ↦ e.kind | false ↦ kind_in es d w ] < 64
      pick true k r = k
      pick false k r = r

  kind_clean : (es : List Spelt) → lined es ≡ true → (kind_in es d w ≡ d → ⊥) → clean w ≡ true
  unfolding lined kind_in
  kind_clean [] l n = absurd (n refl)
  kind_clean (e ∷ es) l n =
      let x = both_true (clean e.spelling && ltb e.kind 64) (lined es) l in
      pick (same_bytes e.spelling w) refl n (both_true (clean e.spelling) _ x.0).0 (kind_clean es x.1)
    where
      pick : (p : Bool) → same_bytes e.spelling w ≡ p → (elim p as (λ _. ℕ) [ true ↦ e.kind | false ↦ kind_in es d w ] ≡ d → ⊥) →
          clean e.spelling ≡ true →
          ((kind_in es d w ≡ d → ⊥) → clean w ≡ true) → clean w ≡ true
      pick true q n c r = rw (← same_eq e.spelling w q) c
      pick false q n c r = r n

-- ---- bytes of the line

module _ (s : List ℕ) where
  one_front : 0 < length s → not_newline (get_or s 0 0) ≡ true → 1 ≤ front not_newline s
  one_front h e = front_more not_newline s 0 0 (omega arith) h e

  two_front : 1 ≤ front not_newline s → 0 < get_or s 1 0 → not_newline (get_or s 1 0) ≡ true → 2 ≤ front not_newline s
  two_front h z e = front_more not_newline s 0 1 h (inside s 1 (get_or s 1 0) refl z) e

  -- ---- signs

  single_sound : (d : ℕ) → 0 < length s → Sound s (single (get_or s 0 0) d)
  unfolding single clean
  single_sound d h = pick (is_lone (get_or s 0 0)) (eqb (kind_in signs Eof (get_or s 0 0 ∷ [])) Eof) refl
    where
      one : eqb (kind_in signs Eof (get_or s 0 0 ∷ [])) Eof ≡ false → 1 ≤ front not_newline s
      one e =
          let k = kind_in signs Eof (get_or s 0 0 ∷ []) in
          let x = both_true (ltb 0 (get_or s 0 0) && not_newline (get_or s 0 0)) true
          (kind_clean Eof (get_or s 0 0 ∷ []) signs lined_signs (eqb-false k Eof e)) in
          one_front h (both_true (ltb 0 (get_or s 0 0)) (not_newline (get_or s 0 0)) x.0).1

      pick : (p q : Bool) → eqb (kind_in signs Eof (get_or s 0 0 ∷ [])) Eof ≡ q →
          Sound s (cond p (refused LoneSign 0 d) (cond q (refused NoRowBegins 0 d) (row (kind_in signs Eof (get_or s 0 0 ∷ [])) 1 0 d)))
      pick true q e = of_refused LoneSign 0 d (omega arith)
      pick false true e = of_refused NoRowBegins 0 d (omega arith)
      pick false false e = of_row (kind_in signs Eof (get_or s 0 0 ∷ [])) 1 0 d
          (kind_low Eof (get_or s 0 0 ∷ []) signs lined_signs (omega arith)) (omega arith) (one e)

  sign_sound : 0 < length s → Sound s (sign s)
  unfolding sign clean
  sign_sound h = pick (maybe_two (get_or s 0 0)) (eqb two Eof) refl
    where
      two : ℕ
      two = kind_in signs Eof (get_or s 0 0 ∷ get_or s 1 0 ∷ [])

      line : eqb two Eof ≡ false → 2 ≤ front not_newline s
      line e =
          let b = get_or s 0 0 in
          let c = get_or s 1 0 in
          let x = both_true (ltb 0 b && not_newline b) ((ltb 0 c && not_newline c) && true)
          (kind_clean Eof (b ∷ c ∷ []) signs lined_signs (eqb-false two Eof e)) in
          let y = both_true (ltb 0 c) (not_newline c) (both_true (ltb 0 c && not_newline c) true x.1).0 in
          two_front (one_front h (both_true (ltb 0 b) (not_newline b) x.0).1) (ltb-true 0 c y.0) y.1

      pick : (p q : Bool) → eqb two Eof ≡ q → Sound s (cond p (cond q (single (get_or s 0 0) 1) (row two 2 0 1)) (single (get_or s 0 0) 0))
      pick true true e = single_sound 1 h
      pick true false e = of_row two 2 0 1 (kind_low Eof (get_or s 0 0 ∷ get_or s 1 0 ∷ []) signs lined_signs (omega arith)) (omega arith)
          (line e)
      pick false q e = single_sound 0 h

  -- ---- words

  word_sound : 0 < length s → is_letter (get_or s 0 0) ≡ true → Sound s (word s)
  unfolding word is_word is_letter is_digit
  word_sound h e =
      let w = take (front is_word s) s in
      of_row (kind_in reserved Identifier w) (front is_word s) 0 (front is_word s)
      (kind_low Identifier w reserved lined_reserved (omega arith))
      (front_more is_word s 0 0 (omega arith) h (rw e)) (front_in_line is_word refl s)

  -- ---- comments

  line_sound : 0 < length s → Sound s (line_comment s)
  unfolding line_comment
  line_sound h = pick (ltb (front not_newline s) (length s)) refl
    where
      pick : (p : Bool) → ltb (front not_newline s) (length s) ≡ p →
          Sound s (cond p (comment (front not_newline s + 1) (front not_newline s)) (comment (length s) (length s)))
      pick true e = let l : front not_newline s < length s = ltb-true _ _ e in
          of_comment (front not_newline s + 1) (front not_newline s) (omega arith) (omega arith) (λ _. omega arith)
      pick false e = let l : length s ≤ front not_newline s = ltb-false _ _ e in
          of_comment (length s) (length s) (omega arith) (omega arith) (λ _. omega arith)

  abbrev body : ℕ
  body = before_close (drop 2 s)

  body_inside : body < length (drop 2 s) → body + 4 ≤ length s
  body_inside l = omega (
    arith,
    body_line (drop 2 s) l,
    front_le not_newline (drop body (drop 2 s)),
    length-drop body
        (drop 2 s),
    length-drop 2 s,
  )

  block_sound : 1 ≤ front not_newline s → get_or s 1 0 ≡ 42 → Sound s (block_comment s)
  unfolding block_comment
  block_sound h e = pick (ltb body (length (drop 2 s))) refl (two_front h (rw e (omega arith)) (rw e)) (λ z. omega arith)
    where
      pick : (p : Bool) → ltb body (length (drop 2 s)) ≡ p → 2 ≤ front not_newline s → (get_or s 1 0 ≡ 47 → ⊥) →
          Sound s (cond p (comment (body + 4) (body + 3)) (refused OpenComment 2 (length s)))
      pick true q l n = of_comment (body + 4) (body + 3) (omega arith) (body_inside (ltb-true _ _ q)) (λ z. absurd (n z))
      pick false q l n = of_refused OpenComment 2 (length s) l

  slash_sound : 0 < length s → get_or s 0 0 ≡ 47 → Sound s (slashed s)
  unfolding slashed
  slash_sound h e = pick (eqb (get_or s 1 0) 47) (eqb (get_or s 1 0) 42) refl
    where
      pick : (p q : Bool) → eqb (get_or s 1 0) 42 ≡ q → Sound s (cond p (line_comment s) (cond q (block_comment s) (sign s)))
      pick true q r = line_sound h
      pick false true r = block_sound (one_front h (rw e)) (eqb-true _ _ r)
      pick false false r = sign_sound h

-- ---- numbers, m bytes behind the front

module _ (s : List ℕ) (m : ℕ) (l : m ≤ front not_newline s) (negative : Bool) (g : is_digit (get_or s (0 + m) 0) ≡ true) where
  abbrev hexed : Bool
  hexed = hex_at s (0 + m)

  abbrev from : ℕ
  from = 0 + m + opening hexed

  abbrev digits : Digits
  digits = digits_of hexed from (drop from s)

  from_line : (h : Bool) → h ≡ hex_at s (0 + m) → 0 + m + opening h ≤ front not_newline s
  from_line true x = omega (arith, hex_front s 0 m l (sym x))
  from_line false x = omega arith

  digit_there : 0 + m < length s
  digit_there = digit_inside s (0 + m) g

  number_of_lem : (n v : ℕ) → 1 ≤ n → n ≤ front not_newline s → Sound s (number_of negative n v)
  unfolding number_of
  number_of_lem n v a b = either (leb v largest)
    where
      either : (p : Bool) → Sound s (cond p (row Number n (bits_of negative v) n) (refused NumberTooLarge 0 n))
      either true = of_row Number n (bits_of negative v) n (omega arith) a b
      either false = of_refused NumberTooLarge 0 n (omega arith)

  size_line : digits.end - 0 ≤ front not_newline s
  size_line = rw (add_assoc 0 m (opening hexed)) (digits_front s 0 (m + opening hexed) hexed (omega (arith, from_line hexed refl)))

  number_sound : Sound s (number negative m (drop m (drop 0 s)))
  number_sound = pick (ℕ_discrete digits.end from)
    where
      pick : Dec (digits.end ≡ from) → Sound s (number negative m (drop m (drop 0 s)))
      pick (yes z) =
          rw (none_is s 0 m digit_there g hexed refl from refl digits refl negative z)
          (of_refused NoHexDigit (from - 0) (from - 0) (omega (arith, from_line hexed refl)))
      pick (no z) =
          rw (some_is s 0 m digit_there g hexed refl from refl digits refl negative z)
          (number_of_lem (digits.end - 0) digits.value
          (omega (arith, number_behind s 0 m digit_there g hexed refl from refl digits refl)) size_line)

-- ---- strings

module _ (s : List ℕ) (h : 0 < length s) (e : get_or s 0 0 ≡ 34) where
  quoted_sound : (q : Quoted) → quoted_at s 0 ≡ q → Sound s (string_piece 0 q)
  unfolding string_piece reach_of
  quoted_sound (Ok x) r = of_row StringLiteral (x + 1 - 0) 0 (x - 0) (omega arith) (omega arith) (string_line s 0 h e (Ok x) r)
  quoted_sound (Err (Open x)) r = of_refused OpenString (x - 0) (x - 0) (string_line s 0 h e (Err (Open x)) r)
  quoted_sound (Err (Escape x)) r = of_refused BadEscape (x - 0) (x + 1 - 0) (string_line s 0 h e (Err (Escape x)) r)

  string_sound : Sound s (string false 1 (drop 1 s))
  string_sound = rw (string_is s 0 h e (quoted_at s 0) refl) (quoted_sound (quoted_at s 0) refl)

-- ---- the piece

module _ (s : List ℕ) (h : 0 < length s) where
  abbrev b : ℕ
  b = get_or s 0 0

  dash_sound : b ≡ 45 → Sound s (dashed s)
  unfolding dashed
  dash_sound e = pick (is_digit (get_or s 1 0)) refl
    where
      pick : (p : Bool) → is_digit (get_or s 1 0) ≡ p → Sound s (cond p (number true 1 (drop 1 s)) (sign s))
      pick true g = number_sound s 1 (one_front s h (rw e)) true g
      pick false g = sign_sound s h

  piece_sound : Sound s (piece s)
  unfolding piece beginning
  piece_sound = pick (is_blank b) (eqb b 47) (is_letter b) (is_digit b) (eqb b 45) (eqb b 34) refl refl refl refl refl refl
    where
      pick : (p q r u v w : Bool) → is_blank b ≡ p → eqb b 47 ≡ q → is_letter b ≡ r → is_digit b ≡ u → eqb b 45 ≡ v → eqb b 34 ≡ w →
          Sound s (cond p blank (cond q (slashed s)
          (cond r (word s) (cond u (number false 0 s) (cond v (dashed s) (cond w (string false 1 (drop 1 s)) (sign s)))))))
      pick true q r u v w a c d e f g = of_blank h a
      pick false true r u v w a c d e f g = slash_sound s h (eqb-true _ _ c)
      pick false false true u v w a c d e f g = word_sound s h d
      pick false false false true v w a c d e f g = number_sound s 0 (omega arith) false e
      pick false false false false true w a c d e f g = dash_sound (eqb-true _ _ f)
      pick false false false false false true a c d e f g = string_sound s h (eqb-true _ _ g)
      pick false false false false false false a c d e f g = sign_sound s h

-- ---- the item

pub data Stands (s : List ℕ) : Item → Type 0 where
  of_known : {p : Piece} → Sound s p → Stands s (known p)
  of_end : Stands s end
  of_unknown : Stands s unknown

pub item_stands : (whole : Bool) (s : List ℕ) → Stands s (item whole s)
unfolding item
item_stands true [] = of_end
item_stands false [] = of_unknown
item_stands whole (b ∷ s) = pick (whole || ltb (decided_at (piece (b ∷ s))) (length (b ∷ s)))
  where
    pick : (p : Bool) → Stands (b ∷ s) (cond p (known (piece (b ∷ s))) unknown)
    pick true = of_known (piece_sound (b ∷ s) (omega arith))
    pick false = of_unknown

-- ---- what is told

-- a row
pub record RowTold (s : List ℕ) (x : Item) (r : Brief) : Type 0 where
  pub decided : ℕ
  pub item_is : x ≡ known (row r.kind r.size r.bits decided)
  pub some : 1 ≤ r.size
  pub inside : r.size ≤ length s
  pub line : r.size ≤ front not_newline s

-- a blank
pub record BlankTold (s : List ℕ) (x : Item) (r : Brief) : Type 0 where
  pub item_is : x ≡ known blank
  pub one : r.size ≡ 1
  pub inside : 1 ≤ length s
  pub blank_is : is_blank (get_or s 0 0) ≡ true

-- a comment; all but the last byte of one to the end of its line are bytes of the line
pub record CommentTold (s : List ℕ) (x : Item) (r : Brief) : Type 0 where
  pub decided : ℕ
  pub item_is : x ≡ known (comment r.size decided)
  pub some : 1 ≤ r.size
  pub inside : r.size ≤ length s
  pub line : r.kind ≡ Line → r.size - 1 ≤ front not_newline s

-- a refusal, and how far on its place is
pub record RefusedTold (s : List ℕ) (x : Item) (r : Brief) : Type 0 where
  pub why : Lexical
  pub decided : ℕ
  pub code : r.kind ≡ refusal_code why
  pub item_is : x ≡ known (refused why r.size decided)
  pub inside : r.size ≤ length s
  pub line : r.size ≤ front not_newline s

-- a comment's code, by the byte behind the slash
data IsComment (s : List ℕ) : ℕ → Type 0 where
  a_line : get_or s 1 0 ≡ 47 → IsComment s Line
  a_block : IsComment s Block

comment_code : (s : List ℕ) → IsComment s (cond (eqb (get_or s 1 0) 47) Line Block)
comment_code s = pick (eqb (get_or s 1 0) 47) refl
  where
    pick : (p : Bool) → eqb (get_or s 1 0) 47 ≡ p → IsComment s (cond p Line Block)
    pick true e = a_line (eqb-true _ _ e)
    pick false e = a_block

over_rows : {s : List ℕ} {k : ℕ} → IsComment s k → Blank < k
over_rows (a_line e) = omega arith
over_rows a_block = omega arith

under_end : {s : List ℕ} {k : ℕ} → IsComment s k → k < End
under_end (a_line e) = omega arith
under_end a_block = omega arith

line_byte : {s : List ℕ} {k : ℕ} → IsComment s k → k ≡ Line → get_or s 1 0 ≡ 47
line_byte (a_line e) h = e
line_byte a_block h = absurd (no h)
  where
    no : Block ≡ Line → ⊥
    no h = omega arith

-- what is told is one of these, by its kind or code
pub data View (s : List ℕ) (x : Item) (r : Brief) : Type 0 where
  is_row : r.kind < Blank → RowTold s x r → View s x r
  is_blank_lem : r.kind ≡ Blank → BlankTold s x r → View s x r
  is_comment : Blank < r.kind → r.kind < End → CommentTold s x r → View s x r
  is_end : r.kind ≡ End → x ≡ end → View s x r
  is_unknown : r.kind ≡ Unknown → x ≡ unknown → View s x r
  is_refused : Unknown < r.kind → RefusedTold s x r → View s x r

view_of : (s : List ℕ) (x : Item) → Stands s x → View s x (told s x)
unfolding told
view_of s (known blank) (of_known (of_blank i b)) = is_blank_lem refl (record { item_is = refl; one = refl; inside = i; blank_is = b })
view_of s (known (comment n d)) (of_known (of_comment _ _ a b c)) =
    let k = comment_code s in
    is_comment (over_rows k) (under_end k) (record { decided = d; item_is = refl; some = a; inside = b; line = λ e. c (line_byte k e) })
view_of s (known (row k n v d)) (of_known (of_row _ _ _ _ a b c)) =
    is_row a (record { decided = d; item_is = refl; some = b; inside = omega (arith, front_le not_newline s); line = c })
view_of s (known (refused w p d)) (of_known (of_refused _ _ _ a)) =
    is_refused (code_least w) (record { why = w; decided = d; code = refl; item_is = refl; inside = omega (arith, front_le not_newline s); line = a })
view_of s end of_end = is_end refl refl
view_of s unknown of_unknown = is_unknown refl refl

-- ---- the laws, for what was told of the item at the front of s

module _ (whole : Bool) (s : List ℕ) (r : Brief) (e : r ≡ told s (item whole s)) where
  abbrev x : Item
  x = item whole s

  pub viewed : View s x r
  viewed = subst⁻¹ (λ (y : Brief). View s x y) e (view_of s x (item_stands whole s))

  pub by_row : r.kind < Blank → RowTold s x r
  by_row h = pick viewed
    where
      pick : View s x r → RowTold s x r
      pick (is_row k z) = z
      pick (is_blank_lem k z) = absurd (omega arith)
      pick (is_comment k l z) = absurd (omega arith)
      pick (is_end k z) = absurd (omega arith)
      pick (is_unknown k z) = absurd (omega arith)
      pick (is_refused k z) = absurd (omega arith)

  pub by_blank : r.kind ≡ Blank → BlankTold s x r
  by_blank h = pick viewed
    where
      pick : View s x r → BlankTold s x r
      pick (is_row k z) = absurd (omega arith)
      pick (is_blank_lem k z) = z
      pick (is_comment k l z) = absurd (omega arith)
      pick (is_end k z) = absurd (omega arith)
      pick (is_unknown k z) = absurd (omega arith)
      pick (is_refused k z) = absurd (omega arith)

  pub by_end : r.kind ≡ End → x ≡ end
  by_end h = pick viewed
    where
      pick : View s x r → x ≡ end
      pick (is_row k z) = absurd (omega arith)
      pick (is_blank_lem k z) = absurd (omega arith)
      pick (is_comment k l z) = absurd (omega arith)
      pick (is_end k z) = z
      pick (is_unknown k z) = absurd (omega arith)
      pick (is_refused k z) = absurd (omega arith)

  pub by_unknown : r.kind ≡ Unknown → x ≡ unknown
  by_unknown h = pick viewed
    where
      pick : View s x r → x ≡ unknown
      pick (is_row k z) = absurd (omega arith)
      pick (is_blank_lem k z) = absurd (omega arith)
      pick (is_comment k l z) = absurd (omega arith)
      pick (is_end k z) = absurd (omega arith)
      pick (is_unknown k z) = z
      pick (is_refused k z) = absurd (omega arith)

  pub by_refused : Unknown < r.kind → RefusedTold s x r
  by_refused h = pick viewed
    where
      pick : View s x r → RefusedTold s x r
      pick (is_row k z) = absurd (omega arith)
      pick (is_blank_lem k z) = absurd (omega arith)
      pick (is_comment k l z) = absurd (omega arith)
      pick (is_end k z) = absurd (omega arith)
      pick (is_unknown k z) = absurd (omega arith)
      pick (is_refused k z) = z

  pub by_comment : Blank < r.kind → r.kind < End → CommentTold s x r
  by_comment h i = pick viewed
    where
      pick : View s x r → CommentTold s x r
      pick (is_row k z) = absurd (omega arith)
      pick (is_blank_lem k z) = absurd (omega arith)
      pick (is_comment k l z) = z
      pick (is_end k z) = absurd (omega arith)
      pick (is_unknown k z) = absurd (omega arith)
      pick (is_refused k z) = absurd (omega arith)

  -- all but the last byte of a comment to the end of its line are bytes of the line
  pub by_line : r.kind ≡ Line → r.size - 1 ≤ front not_newline s
  by_line h = (by_comment (omega arith) (omega arith)).line h
