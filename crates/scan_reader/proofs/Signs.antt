-- Laws of signs at an index, and of the two bytes that decide between a sign and a comment or a number.
use mathlib.Core.Path.{◌≡◌, refl, ap, ◌∙◌}
use mathlib.Core.Bool.{Bool, true, false, cond, not, ◌||◌}
use mathlib.Core.List.{List, [], ◌∷◌}
use Prim.Native.Nat.{ℕ, ◌+◌, ◌<◌}
use native.Mathlib.Nat.{add-zero}
use lib.ListN.{length, drop, get_or}
use lib.Seq.{get_or-drop}
use lib.Dec.{eqb, ltb}
use borrow.Author.Tests.{eq-eqb, ne_eqb, eqb-false, not-true}
use Rattle.rules.specs.Kinds.{Eof, signs, same_bytes, kind_in}
use Rattle.rules.specs.Lex.{Piece, row, refused, known, decided_at, is_lone, is_digit, maybe_two, single, sign, slashed, dashed, line_comment, block_comment, number}
use Rattle.rules.specs.declared.Lexical.TheVariants.{LoneSign, NoRowBegins}
use Rattle.laws.specs.Tests.{all_below}
use Rattle.laws.proofs.Tests.{below}
use Rattle.scan_reader.specs.Brief.{refusal_code, told, settled}
use Rattle.scan_reader.proofs.Settled.{nothing, settled_known, settled_unknown, byte_next}

-- ---- one byte

pub single_decided : (b d : ℕ) → decided_at (single b d) ≡ d
unfolding single decided_at
single_decided b d = pick (is_lone b) (eqb (kind_in signs Eof (b ∷ [])) Eof)
  where
    pick : (p q : Bool) → decided_at (cond p (refused LoneSign 0 d) (cond q (refused NoRowBegins 0 d) (row (kind_in signs Eof (b ∷ [])) 1 0 d))) ≡ d
    pick true q = refl
    pick false true = refl
    pick false false = refl

-- the first of two that is no lone sign is a sign of its own
some_test : ℕ → Bool
some_test b = cond (maybe_two b) (is_lone b || not (eqb (kind_in signs Eof (b ∷ [])) Eof)) true

some_tests : all_below some_test 256 ≡ true
unfolding some_test maybe_two kind_in signs same_bytes
some_tests = refl

some_sign : (b : ℕ) → b < 256 → maybe_two b ≡ true → is_lone b ≡ false → kind_in signs Eof (b ∷ []) ≡ Eof → ⊥
unfolding some_test
some_sign b h d l = eqb-false _ _ (not-true _ (rw (d, l) at (below some_test 256 some_tests b h)))

-- ---- two bytes

abbrev pub two_at : List ℕ → ℕ → ℕ
two_at t a = kind_in signs Eof (get_or t a 0 ∷ get_or t (a + 1) 0 ∷ [])

pub byte_here : (t : List ℕ) (i : ℕ) → get_or (drop i t) 0 0 ≡ get_or t i 0
byte_here t i = rw (get_or-drop, add-zero)

-- a sign at an index that may be the first byte of two
module _ (t : List ℕ) (a : ℕ) (d : maybe_two (get_or t a 0) ≡ true) where
  sign_is : sign (drop a t) ≡ cond (eqb (two_at t a) Eof) (single (get_or t a 0) 1) (row (two_at t a) 2 0 1)
  unfolding sign
  sign_is = rw (byte_here t a, byte_next t a, d)

  sign_decided : decided_at (sign (drop a t)) ≡ 1
  unfolding decided_at
  sign_decided = rw sign_is (pick (eqb (two_at t a) Eof))
    where
      pick : (p : Bool) → decided_at (cond p (single (get_or t a 0) 1) (row (two_at t a) 2 0 1)) ≡ 1
      pick true = single_decided (get_or t a 0) 1
      pick false = refl

  module _ (whole : Bool) where
    pub sign_unknown : (whole || ltb (a + 1) (length t)) ≡ false → settled whole t a (sign (drop a t)) ≡ nothing
    sign_unknown h = settled_unknown whole t a (sign (drop a t)) (a + 1) (rw sign_decided) h

    module _ (h : (whole || ltb (a + 1) (length t)) ≡ true) where
      sign_known : settled whole t a (sign (drop a t))
          ≡ told (drop a t) (known (cond (eqb (two_at t a) Eof) (single (get_or t a 0) 1) (row (two_at t a) 2 0 1)))
      sign_known = settled_known whole t a (sign (drop a t)) (a + 1) (rw sign_decided) h
          ∙ ap (λ (x : Piece). told (drop a t) (known x)) sign_is

      pub sign_two : (two_at t a ≡ Eof → ⊥) → settled whole t a (sign (drop a t)) ≡ record { size = 2; kind = two_at t a; bits = 0 }
      unfolding told
      sign_two e = sign_known ∙ rw (ne_eqb (two_at t a) Eof e)

      module _ (e : two_at t a ≡ Eof) where
        pub sign_lone : is_lone (get_or t a 0) ≡ true → settled whole t a (sign (drop a t))
            ≡ record { size = 0; kind = refusal_code LoneSign; bits = 0 }
        unfolding told single
        sign_lone l = sign_known ∙ rw (eq-eqb (two_at t a) Eof e, l)

        pub sign_one : get_or t a 0 < 256 → is_lone (get_or t a 0) ≡ false → settled whole t a (sign (drop a t))
            ≡ record { size = 1; kind = kind_in signs Eof (get_or t a 0 ∷ []); bits = 0 }
        unfolding told single
        sign_one b l = sign_known ∙ rw (eq-eqb (two_at t a) Eof e, l, ne_eqb _ _ (some_sign (get_or t a 0) b d l))

-- ---- a slash and a dash, by the byte behind them

pub slash_two : (b : ℕ) → b ≡ 47 → maybe_two b ≡ true
unfolding maybe_two
slash_two b e = rw e

pub dash_two : (b : ℕ) → b ≡ 45 → maybe_two b ≡ true
unfolding maybe_two
dash_two b e = rw e

module _ (t : List ℕ) (a : ℕ) where
  pub slash_line : get_or t (a + 1) 0 ≡ 47 → slashed (drop a t) ≡ line_comment (drop a t)
  unfolding slashed
  slash_line e = rw (byte_next t a, e)

  pub slash_block : get_or t (a + 1) 0 ≡ 42 → slashed (drop a t) ≡ block_comment (drop a t)
  unfolding slashed
  slash_block e = rw (byte_next t a, e)

  pub slash_sign : (get_or t (a + 1) 0 ≡ 47 → ⊥) → (get_or t (a + 1) 0 ≡ 42 → ⊥) → slashed (drop a t) ≡ sign (drop a t)
  unfolding slashed
  slash_sign e f = rw (byte_next t a, ne_eqb _ 47 e, ne_eqb _ 42 f)

  pub dash_number : is_digit (get_or t (a + 1) 0) ≡ true → dashed (drop a t) ≡ number true 1 (drop 1 (drop a t))
  unfolding dashed
  dash_number e = rw (byte_next t a, e)

  pub dash_sign : is_digit (get_or t (a + 1) 0) ≡ false → dashed (drop a t) ≡ sign (drop a t)
  unfolding dashed
  dash_sign e = rw (byte_next t a, e)
