-- A list of a map's fields, with one field more or a refusal.
use mathlib.Core.Path.{◌≡◌, refl, ap, ◌∙◌}
use mathlib.Core.Bool.{Bool, true, false, cond}
use mathlib.Core.List.{List}
use Prim.Native.Nat.{ℕ, ◌-◌, ◌≤◌, ◌<◌}
use lib.Dec.{eqb}
use Rattle.std.specs.Prelude.{Some, None}
use native.Mathlib.Omega.{arith}
use lib.ListN.{length}
use Rattle.rules.specs.declared.Syntax.{Syntax}
use Rattle.rules.specs.Kinds.{KeywordKey, KeywordValue, RBrace}
use Rattle.rules.specs.Fits.{map_fields}
use Rattle.rules.specs.Tree.{Tok, Tree, none, seq, hangs, last_of, type_of, typed_by, limit_of}
use Rattle.rules.specs.Parse
use Rattle.rules.specs.Parse.{ok, no, then, kind_at}
use Rattle.rules.specs.Grammar.{Is, MapField, MapFields, i_type, i_typed, i_limit, i_no_fields, i_fields}
use Rattle.theory_grammar.proofs.Laws.{is_wide}
use Rattle.theory_grammar.proofs.Runs.{All, map_all}
use Rattle.theory_grammar.proofs.Sound.{Reads, list_sound, map_field_sound}
use Rattle.parse_nodes.specs.Fitting.{retold_at}
use Rattle.parse_nodes.proofs.Steps.{Flat, flat_none, flat_seq}
use Rattle.parse_maps.specs.Steps.{told, told_less, later, over, listed, facts_of}
use Rattle.parse_maps.specs.declared.Facts.{Facts}

flat_field : {d : ℕ} {t : Tree} → Is true MapField d t → Flat t
unfolding hangs
flat_field (i_type p) = refl
flat_field (i_typed a b) = refl
flat_field (i_limit a p) = refl

-- a field from row i on ends at row k
pub record FieldEnds (ts : List Tok) (i : ℕ) (t : Tree) (k : ℕ) : Type 0 where
  pub up : i < k
  pub inside : k ≤ length ts
  pub flat : Flat t

pub field_ends : (ts : List Tok) (i : ℕ) → All (FieldEnds ts i) (Parse.map_field ts i)
field_ends ts i =
    map_all (Reads ts MapField 64 i) (FieldEnds ts i) (Parse.map_field ts i) (map_field_sound ts i)
    (λ t k r. record { up = omega (arith, r.next, is_wide r.is); inside = r.inside; flat = flat_field r.is })

-- the facts f are those of the fields l
pub record Holds (f : Facts) (l : Tree) : Type 0 where
  pub facts : f ≡ facts_of l f.row
  pub flat : Flat l

pub holds_none : (i : ℕ) → Holds (record { row = i; maptype = None; key = None; value = None; max = None }) none
unfolding type_of typed_by limit_of
holds_none i = record { facts = refl; flat = flat_none }

-- of two numbers the last that tells something
later_told : (x y : ℕ) → later (told x) (told y) ≡ told (last_of x y)
later_told x y = go (eqb y 0) refl
  where
    go : (b : Bool) → eqb y 0 ≡ b → later (told x) (cond b None (Some y)) ≡ told (cond b x y)
    go true e = refl
    go false e = rw e

later_less : (x y : ℕ) → later (told_less x) (told_less y) ≡ told_less (last_of x y)
later_less x y = go (eqb y 0) refl
  where
    go : (b : Bool) → eqb y 0 ≡ b → later (told_less x) (cond b None (Some (y - 1))) ≡ told_less (cond b x y)
    go true e = refl
    go false e = rw e

pub holds_more : (f g : Facts) (l t : Tree) → Holds f l → g ≡ over f t g.row → Flat t → Holds g (seq l t)
unfolding type_of typed_by limit_of
holds_more f g l t h e q = record {
  facts =
      e ∙ ap (λ (x : Facts). over x t g.row) h.facts
      ∙ (λ k. record {
        row = g.row;
        maptype = later_told (type_of l) (type_of t) k;
        key = later_told (typed_by KeywordKey l) (typed_by KeywordKey t) k;
        value = later_told (typed_by KeywordValue l) (typed_by KeywordValue t) k;
        max = later_less (limit_of l) (limit_of t) k;
      });
  flat = flat_seq l t q;
}

module _ (ts : List Tok) (l : Tree) (j : ℕ) where
  pub one_more : (t : Tree) (k : ℕ) → Parse.map_field ts j ≡ ok t k → Parse.list_step ts map_fields (Parse.map_field ts) l j ≡ ok (seq l t) k
  unfolding Parse.list_step Parse.or then
  one_more t k e = rw e

  -- where the field's first row is refused with 21, what begins a field is told
  pub one_refused : Flat l → (why : Syntax) (q : ℕ) → Parse.map_field ts j ≡ no why q
      → Parse.list_step ts map_fields (Parse.map_field ts) l j ≡ no (retold_at map_fields j why q) q
  unfolding Parse.list_step Parse.else_behind Parse.or then retold_at
  one_refused flat why q e = rw (e, flat)

-- the fields from row i on are those of the grammar
pub fields_read : (ts : List Tok) (i : ℕ) → i ≤ length ts → All (Reads ts MapFields 64 i) (listed ts i)
fields_read ts i h =
    map_all (λ l j. Reads ts MapFields 64 i l j × (kind_at ts j ≡ RBrace)) (Reads ts MapFields 64 i) (listed ts i)
    (list_sound ts MapFields MapField 64 i_no_fields (λ l s a b. i_fields a b) (omega arith)
    RBrace map_fields (Parse.map_field ts) (map_field_sound ts) i h)
    (λ l j r. r.0)
