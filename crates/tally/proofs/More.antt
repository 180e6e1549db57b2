-- A tally with one unit, map, event or statement more, as what is added up.
use Prim.Native.Nat.{ℕ, zero, suc, ◌+◌, ◌-◌, ◌≤◌}
use mathlib.Core.Bool.{Bool, true, false, cond}
use mathlib.Core.List.{List, map}
use mathlib.Core.Path.{◌≡◌, refl, ap, fun_ext}
use native.Mathlib.Omega.{arith}
use native.Mathlib.Nat.{add-zero}
use lib.Dec.{eqb}
use lib.ListN.{get_or}
use Rattle.rules.specs.Sets.{program_kinds}
use Rattle.rules.specs.Tree.{map_type_numbers}
use Rattle.rules_tally.specs.declared.Tally.{Tally}
use Rattle.rules_tally.specs.Tally.{Thing, a_unit, a_map, an_event, a_statement, unit_of, map_of, event_of, statement_of, max_of, methods_of, tally_by}
use Rattle.tally_steps.specs.Steps.{one_more, with_unit, with_map}

-- ---- lists of counts

units_more : (h : ℕ → ℕ) (k : ℕ) → k ≤ 10 → one_more (map h program_kinds) k ≡ map (λ j. h j + cond (eqb k j) 1 0) program_kinds
units_more h zero l = simp add-zero
units_more h (suc zero) l = simp add-zero
units_more h (suc (suc zero)) l = simp add-zero
units_more h (suc (suc (suc zero))) l = simp add-zero
units_more h (suc (suc (suc (suc zero)))) l = simp add-zero
units_more h (suc (suc (suc (suc (suc zero))))) l = simp add-zero
units_more h (suc (suc (suc (suc (suc (suc zero)))))) l = simp add-zero
units_more h (suc (suc (suc (suc (suc (suc (suc zero))))))) l = simp add-zero
units_more h (suc (suc (suc (suc (suc (suc (suc (suc zero)))))))) l = simp add-zero
units_more h (suc (suc (suc (suc (suc (suc (suc (suc (suc zero))))))))) l = simp add-zero
units_more h (suc (suc (suc (suc (suc (suc (suc (suc (suc (suc zero)))))))))) l = simp add-zero
units_more h (suc (suc (suc (suc (suc (suc (suc (suc (suc (suc (suc k))))))))))) l = absurd (omega arith)

maps_more : (h : ℕ → ℕ) (k : ℕ) → 1 ≤ k → k ≤ 5 → one_more (map h map_type_numbers) (k - 1) ≡ map (λ j. h j + cond (eqb k j) 1 0) map_type_numbers
maps_more h zero o l = absurd (omega arith)
maps_more h (suc zero) o l = simp add-zero
maps_more h (suc (suc zero)) o l = simp add-zero
maps_more h (suc (suc (suc zero))) o l = simp add-zero
maps_more h (suc (suc (suc (suc zero)))) o l = simp add-zero
maps_more h (suc (suc (suc (suc (suc zero))))) o l = simp add-zero
maps_more h (suc (suc (suc (suc (suc (suc k)))))) o l = absurd (omega arith)

none_more : (h : ℕ → ℕ) (ks : List ℕ) → map h ks ≡ map (λ k. h k + 0) ks
none_more h ks = ap (λ (f : ℕ → ℕ). map f ks) (fun_ext (λ k. omega arith))

-- the count of a kind, and of a type
pub unit_at : (h : ℕ → ℕ) (k : ℕ) → k ≤ 10 → get_or (map h program_kinds) k 0 ≡ h k
unit_at h zero l = refl
unit_at h (suc zero) l = refl
unit_at h (suc (suc zero)) l = refl
unit_at h (suc (suc (suc zero))) l = refl
unit_at h (suc (suc (suc (suc zero)))) l = refl
unit_at h (suc (suc (suc (suc (suc zero))))) l = refl
unit_at h (suc (suc (suc (suc (suc (suc zero)))))) l = refl
unit_at h (suc (suc (suc (suc (suc (suc (suc zero))))))) l = refl
unit_at h (suc (suc (suc (suc (suc (suc (suc (suc zero)))))))) l = refl
unit_at h (suc (suc (suc (suc (suc (suc (suc (suc (suc zero))))))))) l = refl
unit_at h (suc (suc (suc (suc (suc (suc (suc (suc (suc (suc zero)))))))))) l = refl
unit_at h (suc (suc (suc (suc (suc (suc (suc (suc (suc (suc (suc k))))))))))) l = absurd (omega arith)

pub type_at : (h : ℕ → ℕ) (k : ℕ) → 1 ≤ k → k ≤ 5 → get_or (map h map_type_numbers) (k - 1) 0 ≡ h k
type_at h zero o l = absurd (omega arith)
type_at h (suc zero) o l = refl
type_at h (suc (suc zero)) o l = refl
type_at h (suc (suc (suc zero))) o l = refl
type_at h (suc (suc (suc (suc zero)))) o l = refl
type_at h (suc (suc (suc (suc (suc zero))))) o l = refl
type_at h (suc (suc (suc (suc (suc (suc k)))))) o l = absurd (omega arith)

-- ---- tallies

-- a node that is neither a unit nor a map
abbrev pub with_other : Tally → Bool → Bool → Tally
with_other t e s = record {
  units = t.units;
  maps = t.maps;
  events = t.events + cond e 1 0;
  statements = t.statements + cond s 1 0;
  max = t.max;
  methods = t.methods;
}

module _ (g : (Thing → ℕ) → ℕ) where
  pub unit_more : (k : ℕ) → k ≤ 10 → with_unit (tally_by g) k ≡ tally_by (λ f. g f + f (a_unit k))
  unfolding with_unit tally_by unit_of map_of event_of statement_of max_of methods_of
  unit_more k l =
      rw (units_more (λ j. g (unit_of j)) k l, ← none_more (λ j. g (map_of j)) map_type_numbers, add-zero (g event_of), add-zero (g statement_of), add-zero (g max_of))

  pub map_more : (k max : ℕ) → 1 ≤ k → k ≤ 5 → with_map (tally_by g) k max ≡ tally_by (λ f. g f + f (a_map k max))
  unfolding with_map tally_by unit_of map_of event_of statement_of max_of methods_of
  map_more k max o l =
      rw (maps_more (λ j. g (map_of j)) k o l, ← none_more (λ j. g (unit_of j)) program_kinds, add-zero (g event_of), add-zero (g statement_of), add-zero (g methods_of))

  pub other_more : (e s : Bool) → (e ≡ true → s ≡ false)
      → with_other (tally_by g) e s ≡ tally_by (λ f. g f + cond e (f an_event) (cond s (f a_statement) 0))
  unfolding tally_by unit_of map_of event_of statement_of max_of methods_of
  other_more true s h =
      rw (h refl, ← none_more (λ j. g (unit_of j)) program_kinds, ← none_more (λ j. g (map_of j)) map_type_numbers, add-zero (g max_of), add-zero (g methods_of))
  other_more false true h =
      rw (← none_more (λ j. g (unit_of j)) program_kinds, ← none_more (λ j. g (map_of j)) map_type_numbers, add-zero (g max_of), add-zero (g methods_of))
  other_more false false h =
      rw (← none_more (λ j. g (unit_of j)) program_kinds, ← none_more (λ j. g (map_of j)) map_type_numbers, add-zero (g max_of), add-zero (g methods_of))
