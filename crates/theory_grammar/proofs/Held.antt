-- What a misfit tells of its lost row is its set: where another table has the rows in front alike, and at the lost row a kind that is not
-- in
-- the set, there is a misfit too. Here what this says of two answers, and how it goes through one answer behind another and through loops.
use mathlib.Core.Path.{◌≡◌, refl, sym, ap, ◌∙◌, subst}
use mathlib.Core.Bool.{Bool, true, false, cond, true≢false}
use mathlib.Core.List.{List}
use mathlib.Core.Logic.{◌⊎◌, inl, inr}
use Prim.Native.Nat.{ℕ, zero, suc, ◌+◌, ◌-◌, ◌≤◌, ◌<◌}
use native.Mathlib.Nat.{eq-or-lt_of_le}
use native.Mathlib.Omega.{arith}
use lib.Dec.{eqb}
use lib.ListN.{length}
use borrow.Author.Tests.{eqb-true}
use Rattle.rules.specs.declared.Syntax.{Syntax}
use Rattle.rules.specs.declared.Syntax.TheVariants.{Wanted, NotTopLevel, NotMapField, MapTypeUnknown, NotType, MaxNegative, OutOfRange, ShiftCount, MapLacks, NotEventType, CallOnOther, TooDeep}
use Rattle.rules.specs.Fits.{has, wrong, set_told, retold}
use Rattle.rules.specs.Tree.{Tok, kind_of, Tree}
use Rattle.rules.specs.Parse
use Rattle.rules.specs.Parse.{Out, ok, no, P, then, or, many, kind_at}
use Rattle.theory_grammar.specs.Lost.{is_misfit, lost}
use Rattle.theory_grammar.proofs.Runs.{All, all_any}
use Rattle.theory_grammar.proofs.Cases.{or_no, retold_misfit, retold_lost}
use Rattle.theory_grammar.proofs.Local.{Alike}
use Rattle.theory_grammar.proofs.Members.{told_wrong}

-- 21, 22, 23, 25 or 30
abbrev pub Misfit : Out → Type 0
Misfit (ok t j) = ⊥
Misfit (no why r) = is_misfit why ≡ true

pub misfit_then : (o : Out) (f : Tree → P) → Misfit o → Misfit (then o f)
unfolding then
misfit_then (ok t j) f m = absurd m
misfit_then (no why r) f m = m

misfit_or : (s q : ℕ) (o : Out) → Misfit o → Misfit (or s q o)
unfolding or
misfit_or s q (ok t j) m = m
misfit_or s q (no why r) m = or_no (λ x k. is_misfit x ≡ true) s q why r (retold_misfit s why ∙ m) m

-- a kind that is not in a set fails the tests of those that are
pub unmet : (s : ℕ) (test : ℕ → Bool) → ((k : ℕ) → test k ≡ true → has s k ≡ true) → (k : ℕ) → has s k ≡ false → test k ≡ false
unmet s test h k e = go (test k) refl
  where
    go : (b : Bool) → test k ≡ b → b ≡ false
    go true q = absurd (true≢false (sym (h k q) ∙ e))
    go false q = refl

-- such an answer again: the same tree, or some misfit
abbrev pub Again : Out → Out → Type 0
Again (ok t j) o' = o' ≡ ok t j
Again (no why r) o' = Misfit o'

-- an answer that rests on no row behind row n: a tree that ends there or in front, a misfit that is lost at row n
abbrev pub Near : List Tok → ℕ → Out → Type 0
Near ts n (ok t j) = j ≤ n
Near ts n (no why r) = (is_misfit why ≡ true) × (lost ts why r ≡ n)

-- ---- two tables and their row n

module _ (ts ts' : List Tok) (n : ℕ) where
  -- a test that row n fails in the first table, it fails in the other
  pub record Off (test : ℕ → Bool) : Type 0 where
    pub fails : test (kind_at ts n) ≡ false → test (kind_at ts' n) ≡ false

  -- row n of the other table is of no kind in the set s; or of the kind that it has in the first
  pub data Spared (s : ℕ) : Type 0 where
    out : has s (kind_at ts' n) ≡ false → Spared s
    alike : kind_at ts' n ≡ kind_at ts n → Spared s

  -- an answer that rests on what stands at row n only in ways that the other table shares: F tells of a tree what must not go on with it
  abbrev pub Free : (Tree → Type 0) → Out → Type 0
  Free F (ok t j) = j ≡ n → F t
  Free F (no why r) = Spared (set_told why)

  -- An answer from row i on, if it is near and free, is given in the other table again.
  pub record Held (F : Tree → Type 0) (i : ℕ) (o o' : Out) : Type 0 where
    pub near : Near ts n o → i ≤ n
    pub again : Near ts n o → Free F o → Again o o'

  -- a loop whose steps take the row that is tested, with trees that go on by that test
  pub record Loop (test : ℕ → Bool) (step step' : Tree → P) (E : Tree → Type 0) : Type 0 where
    pub held : (t : Tree) (j : ℕ)
        → Held E j (Parse.loop ts (λ r. test (kind_at ts r)) step t j) (Parse.loop ts' (λ r. test (kind_at ts' r)) step' t j)
    pub free : (t : Tree) → Near ts n (Parse.loop ts (λ r. test (kind_at ts r)) step t n)
        → Free E (Parse.loop ts (λ r. test (kind_at ts r)) step t n) → E t

module _ (ts : List Tok) (n : ℕ) where
  -- what is near by its end is near by its beginning
  pub then_near : (o : Out) (f : Tree → P) → ((t : Tree) (j : ℕ) → Near ts n (f t j) → j ≤ n) → Near ts n (then o f) → Near ts n o
  unfolding then
  then_near (ok t j) f h a = h t j a
  then_near (no why r) f h a = a

  pub or_near : (s q : ℕ) (o : Out) → Near ts n (or s q o) → Near ts n o
  unfolding or
  or_near s q (ok t j) a = a
  or_near s q (no why r) a = go (eqb r q) a
    where
      go : (c : Bool) → Near ts n (no (cond c (retold s why) why) r) → Near ts n (no why r)
      go true a = (sym (retold_misfit s why) ∙ a.0, sym (retold_lost ts s why r) ∙ a.1)
      go false a = a

module _ {ts ts' : List Tok} {n : ℕ} where
  pub off : (s : ℕ) (test : ℕ → Bool) → ((k : ℕ) → test k ≡ true → has s k ≡ true) → Spared ts ts' n s → Off ts ts' n test
  off s test h (out e) = record { fails = λ f. unmet s test h (kind_at ts' n) e }
  off s test h (alike e) = record { fails = λ f. ap test e ∙ f }

  pub off_kind : (s k : ℕ) → has s k ≡ true → Spared ts ts' n s → Off ts ts' n (λ x. eqb x k)
  off_kind s k h p = off s (λ x. eqb x k) (λ x b. ap (has s) (eqb-true x k b) ∙ h) p

  -- the set of 21
  pub spared_of : (s : ℕ) → Spared ts ts' n (set_told (wrong s)) → Spared ts ts' n s
  spared_of s p = subst (Spared ts ts' n) (told_wrong s) p

  -- ---- answers

  pub held_from : {F : Tree → Type 0} {i q : ℕ} {o o' : Out} → i ≤ q → Held ts ts' n F q o o' → Held ts ts' n F i o o'
  held_from h x = record { near = λ a. let b : _ ≤ n = x.near a in omega arith; again = x.again }

  -- what is refused by something else
  pub other_held : {F : Tree → Type 0} {i r : ℕ} {why : Syntax} {o' : Out} → is_misfit why ≡ false → Held ts ts' n F i (no why r) o'
  other_held e = record { near = λ a. absurd (true≢false (sym a.0 ∙ e)); again = λ a f. absurd (true≢false (sym a.0 ∙ e)) }

  pub ok_held : {F : Tree → Type 0} (i : ℕ) (t : Tree) (k : ℕ) → i ≤ k → Held ts ts' n F i (ok t k) (ok t k)
  ok_held i t k h = record { near = λ a. omega arith; again = λ a f. refl }

  pub then_known : {i : ℕ} (F G C : Tree → Type 0) (o o' : Out) (f f' : Tree → P) → All (λ t j. C t) o → Held ts ts' n F i o o'
      → ((t : Tree) (j : ℕ) → C t → Held ts ts' n G j (f t j) (f' t j))
      → ((t : Tree) → C t → Near ts n (f t n) → Free ts ts' n G (f t n) → F t)
      → Held ts ts' n G i (then o f) (then o' f')
  unfolding then
  then_known F G C (ok t j) o' f f' c h k cover = record {
    near = λ a. h.near ((k t j c).near a);
    again = λ a x.
        let e : o' ≡ ok t j =
        h.again ((k t j c).near a) (λ q. cover t c (subst (λ (m : ℕ). Near ts n (f t m)) q a)
        (subst (λ (m : ℕ). Free ts ts' n G (f t m)) q x)) in
        subst (λ (y : Out). Again (f t j) (then y f')) (sym e) ((k t j c).again a x);
  }
  then_known F G C (no why r) o' f f' c h k cover = record { near = h.near; again = λ a x. misfit_then o' f' (h.again a x) }

  pub then_held : {i : ℕ} (F G : Tree → Type 0) (o o' : Out) (f f' : Tree → P) → Held ts ts' n F i o o'
      → ((t : Tree) (j : ℕ) → Held ts ts' n G j (f t j) (f' t j))
      → ((t : Tree) → Near ts n (f t n) → Free ts ts' n G (f t n) → F t) → Held ts ts' n G i (then o f) (then o' f')
  then_held F G o o' f f' h k cover = then_known F G (λ t. Unit {0}) o o' f f' (all_any o) h (λ t j c. k t j) (λ t c. cover t)

  -- 21 with the set s in place of its own, and any other refusal
  retold_held : {F : Tree → Type 0} {i r : ℕ} (s : ℕ) (why : Syntax) (o o' : Out) → (Misfit o → Misfit o') → Held ts ts' n F i (no why r) o
      → (Near ts n (no why r) → r ≡ n → has s (kind_at ts' n) ≡ false → Misfit o) → Held ts ts' n F i (no (retold s why) r) o'
  unfolding retold is_misfit lost
  retold_held {r = r} s (Wanted low high) o o' k h m =
      record { near = h.near; again = λ a f. k (told (spared_of s f) a) }
    where
      told : Spared ts ts' n s → Near ts n (no (Wanted low high) r) → Misfit o
      told (out e) a = m a a.1 e
      told (alike e) a = h.again a (alike e)
  retold_held s NotTopLevel o o' k h m = record { near = h.near; again = λ a f. k (h.again a f) }
  retold_held s NotMapField o o' k h m = record { near = h.near; again = λ a f. k (h.again a f) }
  retold_held s MapTypeUnknown o o' k h m = other_held refl
  retold_held s NotType o o' k h m = record { near = h.near; again = λ a f. k (h.again a f) }
  retold_held s MaxNegative o o' k h m = other_held refl
  retold_held s OutOfRange o o' k h m = other_held refl
  retold_held s ShiftCount o o' k h m = other_held refl
  retold_held s (MapLacks f) o o' k h m = other_held refl
  retold_held s NotEventType o o' k h m = record { near = h.near; again = λ a f. k (h.again a f) }
  retold_held s CallOnOther o o' k h m = other_held refl
  retold_held s TooDeep o o' k h m = other_held refl

  -- the set s where row q itself is refused
  pub or_held : {F : Tree → Type 0} {i : ℕ} (s q : ℕ) (o o' : Out) → Held ts ts' n F i o o'
      → (Near ts n o → q ≡ n → has s (kind_at ts' n) ≡ false → Misfit o')
      → Held ts ts' n F i (or s q o) (or s q o')
  unfolding or
  or_held s q (ok t j) o' h m = record { near = h.near; again = λ a f. ap (or s q) (h.again a f) }
  or_held {F} {i} s q (no why r) o' h m = go (eqb r q) refl
    where
      go : (c : Bool) → eqb r q ≡ c → Held ts ts' n F i (no (cond c (retold s why) why) r) (or s q o')
      go true e = retold_held s why o' (or s q o') (misfit_or s q o') h (λ a p. m a (sym (eqb-true r q e) ∙ p))
      go false e = record { near = h.near; again = λ a f. misfit_or s q o' (h.again a f) }

  -- ---- loops

  module _ (agreed : Alike ts ts' n) (test : ℕ → Bool) (step step' : Tree → P) (S E : Tree → Type 0)
      (up : (t : Tree) (j : ℕ) → test (kind_at ts j) ≡ true → All (λ u k. j < k) (step t j))
      (next : (t : Tree) (j : ℕ) → test (kind_at ts j) ≡ true → Held ts ts' n S j (step t j) (step' t j))
      (stays : (t : Tree) → test (kind_at ts n) ≡ false → E t → S t × (test (kind_at ts' n) ≡ false))
      (goes : (t : Tree) → test (kind_at ts n) ≡ true → Near ts n (step t n) → Free ts ts' n S (step t n)
      → S t × (test (kind_at ts' n) ≡ true)) where
    abbrev At : ℕ → Bool
    At r = test (kind_at ts r)

    abbrev At' : ℕ → Bool
    At' r = test (kind_at ts' r)

    -- the rest of the loop, behind a step
    abbrev Rest : ℕ → Tree → P
    Rest f u k = many At step f (At k) u k

    many_near : (f : ℕ) (b : Bool) (t : Tree) (j : ℕ) → At j ≡ b → Near ts n (many At step f b t j) → j ≤ n
    unfolding many
    many_near zero b t j e a = a
    many_near (suc f) false t j e a = a
    many_near (suc f) true t j e a = (next t j e).near (then_near ts n (step t j) (Rest f) (λ u k x. many_near f (At k) u k refl x) a)

    -- a step from row n on ends behind it, or is refused there
    step_free : (f : ℕ) (o : Out) → All (λ u k. n < k) o → Near ts n (then o (Rest f)) → Free ts ts' n E (then o (Rest f))
        → Free ts ts' n S o
    unfolding then
    step_free f (ok u k) l a x = let m : k ≤ n = many_near f (At k) u k refl a in absurd (omega (arith, l))
    step_free f (no why p) l a x = x

    -- at row n: what must not go on with the tree does not, and both tables go on, or neither does
    there : (f : ℕ) (b : Bool) (t : Tree) → At n ≡ b → 0 < f → Near ts n (many At step f b t n) → Free ts ts' n E (many At step f b t n)
        → S t × (At' n ≡ b)
    unfolding many
    there zero b t e l a x = absurd (omega arith)
    there (suc f) false t e l a x = stays t e (x refl)
    there (suc f) true t e l a x =
        goes t e (then_near ts n (step t n) (Rest f) (λ u k y. many_near f (At k) u k refl y) a) (step_free f (step t n) (up t n e) a x)

    at_n : (f : ℕ) (b : Bool) (t : Tree) (j : ℕ) → At j ≡ b → n < f + j → j ≡ n → Near ts n (many At step f b t j)
        → Free ts ts' n E (many At step f b t j)
        → S t × (At' j ≡ b)
    at_n f b t j e l q a x =
        let y : S t × (At' n ≡ b) = there f b t (ap At (sym q) ∙ e) (omega arith) (subst (λ (m : ℕ). Near ts n (many At step f b t m)) q a)
        (subst (λ (m : ℕ). Free ts ts' n E (many At step f b t m)) q x) in
        (y.0, ap At' q ∙ y.1)

    both_go : (f : ℕ) (b : Bool) (t : Tree) (j : ℕ) → At j ≡ b → n < f + j → Near ts n (many At step f b t j)
        → Free ts ts' n E (many At step f b t j) → At' j ≡ b
    both_go f b t j e l a x = go (eq-or-lt_of_le (many_near f b t j e a))
      where
        go : (j ≡ n) ⊎ (j < n) → At' j ≡ b
        go (inl q) = (at_n f b t j e l q a x).1
        go (inr h) = ap (λ (y : Tok). test (kind_of y)) (sym (agreed.agree j h)) ∙ e

    many_again : (f f' : ℕ) (b : Bool) (t : Tree) (j : ℕ) → At j ≡ b → n < f + j → n < f' + j → Near ts n (many At step f b t j)
        → Free ts ts' n E (many At step f b t j)
        → Again (many At step f b t j) (many At' step' f' b t j)
    unfolding many then
    many_again zero f' b t j e l l' a x = absurd (omega (arith, a))
    many_again (suc f) zero b t j e l l' a x = absurd (omega (arith, many_near (suc f) b t j e a))
    many_again (suc f) (suc f') false t j e l l' a x = refl
    many_again (suc f) (suc f') true t j e l l' a x =
        go (step t j) refl (up t j e) a x (λ u k h y z.
        subst (λ (b : Bool). Again (Rest f u k) (many At' step' f' b u k)) (sym (both_go f (At k) u k refl (omega arith) y z))
        (many_again f f' (At k) u k refl (omega arith) (omega arith) y z))
      where
        go : (o : Out) → step t j ≡ o → All (λ u k. j < k) o → Near ts n (then o (Rest f)) → Free ts ts' n E (then o (Rest f))
            → ((u : Tree) (k : ℕ) → j < k → Near ts n (Rest f u k) → Free ts ts' n E (Rest f u k)
            → Again (Rest f u k) (many At' step' f' (At' k) u k))
            → Again (then o (Rest f)) (then (step' t j) (λ u k. many At' step' f' (At' k) u k))
        go (ok u k) w h a x r =
            let y : step' t j ≡ ok u k = subst (λ (o : Out). Again o (step' t j)) w
            ((next t j e).again (subst (Near ts n) (sym w) (many_near f (At k) u k refl a))
            (subst (Free ts ts' n S) (sym w) (λ q. (at_n f (At k) u k refl (omega arith) q a x).0))) in
            subst (λ (o : Out). Again (Rest f u k) (then o (λ u k. many At' step' f' (At' k) u k))) (sym y) (r u k h a x)
        go (no why p) w h a x r =
            misfit_then (step' t j) _ (subst (λ (o : Out). Again o (step' t j)) w
            ((next t j e).again (subst (Near ts n) (sym w) a) (subst (Free ts ts' n S) (sym w) x)))

    pub loop_held : (t : Tree) (j : ℕ) → Held ts ts' n E j (Parse.loop ts At step t j) (Parse.loop ts' At' step' t j)
    unfolding Parse.loop
    loop_held t j = record {
      near = λ a. many_near (suc (length ts)) (At j) t j refl a;
      again = λ a x.
          subst (λ (b : Bool). Again (many At step (suc (length ts)) (At j) t j) (many At' step' (suc (length ts')) b t j))
          (sym (both_go (suc (length ts)) (At j) t j refl (omega (arith, agreed.fit)) a x))
          (many_again (suc (length ts)) (suc (length ts')) (At j) t j refl (omega (arith, agreed.fit)) (omega (arith, agreed.fit')) a x);
    }

    -- what the loop leaves free at row n was free in front of it
    pub loop_free : (t : Tree) → Near ts n (Parse.loop ts At step t n) → Free ts ts' n E (Parse.loop ts At step t n) → S t
    unfolding Parse.loop
    loop_free t a x = (at_n (suc (length ts)) (At n) t n refl (omega (arith, agreed.fit)) refl a x).0

  pub steps_held : (agreed : Alike ts ts' n) (test : ℕ → Bool) (step step' : Tree → P) (E : Tree → Type 0)
      → ((t : Tree) (j : ℕ) → test (kind_at ts j) ≡ true → All (λ u k. j < k) (step t j))
      → ((t : Tree) (j : ℕ) → test (kind_at ts j) ≡ true → Held ts ts' n E (j + 1) (step t j) (step' t j))
      → ((t : Tree) → E t → Off ts ts' n test) → Loop ts ts' n test step step' E
  steps_held agreed test step step' E up next ends = record {
    held = λ t j. loop_held agreed test step step' E E up (λ u k b. held_from (omega arith) (next u k b)) stays goes t j;
    free = λ t a x. loop_free agreed test step step' E E up (λ u k b. held_from (omega arith) (next u k b)) stays goes t a x;
  }
    where
      stays : (t : Tree) → test (kind_at ts n) ≡ false → E t → E t × (test (kind_at ts' n) ≡ false)
      stays t b x = (x, (ends t x).fails b)

      goes : (t : Tree) → test (kind_at ts n) ≡ true → Near ts n (step t n) → Free ts ts' n E (step t n) → E t × (test (kind_at ts' n) ≡ true)
      goes t b a x = absurd (omega (arith, (next t n b).near a))
