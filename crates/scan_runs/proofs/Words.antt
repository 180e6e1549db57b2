-- Laws of a word at an index: what its bytes come to packed, and that it stands in a line.
use mathlib.Core.Path.{◌≡◌, sym, ◌∙◌}
use mathlib.Core.Bool.{true, false}
use mathlib.Core.List.{List, []}
use Prim.Native.Nat.{ℕ, suc, ◌+◌, ◌-◌, ◌*◌, ◌%◌, ◌^◌, ◌≤◌, ◌<◌}
use native.Mathlib.Numerals.{add-one}
use native.Mathlib.Omega.{arith}
use lib.ListN.{length, take, drop, get_or}
use lib.Seq.{drop-cons, take_all}
use Rattle.rules.specs.Text.{front}
use Rattle.rules.specs.Lex.{is_word}
use Rattle.laws.proofs.Fronts.{front_on, front_off, front_end}
use Rattle.scan_words.specs.Class.{Digit, Classes}
use Rattle.scan_words.specs.Words.{packed_of, packable}
use Rattle.scan_words.proofs.Marks.{mark_word, mark_other}
use Rattle.scan_runs.specs.Leaf.{packed_front, word_of}
use Rattle.scan_runs.specs.declared.Word.{Word}

-- ---- packed from an index on

-- bytes packed, and one more
abbrev pub packed_with : ℕ → ℕ → ℕ
packed_with v b = v % 2 ^ 56 * 256 + b

take_none : (n : ℕ) → take {A = ℕ} n [] ≡ []
take_none n = take_all {A = ℕ} n [] (omega arith)

module _ (v n : ℕ) (t : List ℕ) (i : ℕ) where
  packed_on : i < length t → is_word (get_or t i 0) ≡ true →
      packed_front v (suc n) (drop i t) ≡ packed_front (packed_with v (get_or t i 0)) n (drop (i + 1) t)
  unfolding packed_front front packed_of
  packed_on h e = rw (drop-cons t i 0 h, add-one i) (rw (front, e))

  packed_off : i < length t → is_word (get_or t i 0) ≡ false → packed_front v n (drop i t) ≡ v
  unfolding packed_front packed_of
  packed_off h e = rw (front_off is_word t i h e) (rw (take_none n))

  packed_end : length t ≤ i → packed_front v n (drop i t) ≡ v
  unfolding packed_front packed_of
  packed_end h = rw (front_end is_word t i h) (rw (take_none n))

-- ---- a loop over a word from index i₀ on, which has come to i with the number v of fewer bytes than are packed

pub record Packing (t : List ℕ) (i₀ v i : ℕ) : Type 0 where
  pub inside : i ≤ length t
  pub behind : i₀ ≤ i
  pub few : i < i₀ + packable
  pub ends : i + front is_word (drop i t) ≡ i₀ + front is_word (drop i₀ t)
  pub packs : packed_front v (i₀ + packable - i) (drop i t) ≡ packed_front 0 packable (drop i₀ t)

abbrev found : ℕ → ℕ → Word
found e v = record { end = e; packed = v }

module _ {cl : List ℕ} (c : Classes cl) (t : List ℕ) (i₀ v i : ℕ) (r : Packing t i₀ v i) where
  answer : {e w : ℕ} → e ≡ i₀ + front is_word (drop i₀ t) → w ≡ packed_front 0 packable (drop i₀ t) → found e w ≡ word_of i₀ (drop i₀ t)
  unfolding word_of
  answer p q = rw (p, q)

  module _ (h : i < length t) (b : get_or t i 0 < 256) where
    module _ (m : get_or cl (get_or t i 0) 0 ≤ Digit) where
      on_ends : i + 1 + front is_word (drop (i + 1) t) ≡ i₀ + front is_word (drop i₀ t)
      on_ends = omega (arith, front_on is_word t i h (mark_word c (get_or t i 0) b m), r.ends)

      on_packs : (n : ℕ) → i₀ + packable - i ≡ suc n →
          packed_front (packed_with v (get_or t i 0)) n (drop (i + 1) t) ≡ packed_front 0 packable (drop i₀ t)
      on_packs n e = sym (packed_on v n t i h (mark_word c (get_or t i 0) b m)) ∙ (rw e at r.packs)

      pub packing_on : (i + 1 - i₀ ≡ packable → ⊥) → Packing t i₀ (packed_with v (get_or t i 0)) (i + 1)
      packing_on l = record {
        inside = omega arith;
        behind = omega arith;
        few = omega arith;
        ends = on_ends;
        packs = on_packs (i₀ + packable - (i + 1)) (omega arith);
      }

      pub packing_full : i + 1 - i₀ ≡ packable → {e : ℕ} → e ≡ i + 1 + front is_word (drop (i + 1) t)
          → found e (packed_with v (get_or t i 0)) ≡ word_of i₀ (drop i₀ t)
      unfolding packed_front packed_of
      packing_full l d = answer (d ∙ on_ends) (on_packs 0 (omega arith))

    pub packing_stop : Digit < get_or cl (get_or t i 0) 0 → found i v ≡ word_of i₀ (drop i₀ t)
    packing_stop m =
        let n = mark_other c (get_or t i 0) b m in
        answer (omega (arith, front_off is_word t i h n, r.ends)) (sym (packed_off v _ t i h n) ∙ r.packs)

  pub packing_end : length t ≤ i → found i v ≡ word_of i₀ (drop i₀ t)
  packing_end h = answer (omega (arith, front_end is_word t i h, r.ends)) (sym (packed_end v _ t i h) ∙ r.packs)
