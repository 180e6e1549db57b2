-- The fields that are written of a map give the same type, key, value and max, and are fields of the grammar.
use mathlib.Core.Path.{◌≡◌, refl, sym, ap, ◌∙◌, subst}
use mathlib.Core.Bool.{Bool, true, false, cond, not, ◌&&◌, true≢false, and-eq-true_iff}
use mathlib.Core.List.{List, [], ◌∷◌}
use Prim.Native.Nat.{ℕ, zero, suc, pred, ◌+◌, ◌-◌, ◌^◌, ◌≤◌, ◌<◌}
use native.Mathlib.Omega.{arith}
use lib.Dec.{eqb, leb}
use borrow.Author.Tests.{eqb-true, eqb-false, leb-true, le-leb, lt-leb, eq-eqb, ne_eqb, not-true}
use Rattle.rules.specs.Kinds.{Spelt, kind_in, same_bytes, KeywordKey, KeywordValue}
use Rattle.rules.specs.Tree.{Tree, none, seq, map_type, typed, limit, first, map_decl, map_types, map_type_number, max_bits, type_of, typed_by, limit_of, lacking, last_of, type_number}
use Rattle.rules.specs.Parse.{is_type, is_typed, most32}
use Rattle.rules.specs.Grammar.{Chain, MapField, MapFields, Decl, Is, i_first, i_shifted, i_type, i_typed, i_limit, i_no_fields, i_fields, i_map}
use Rattle.laws.proofs.Tests.{both_true}
use Rattle.rules_layout.specs.Rows.{spelling_in, type_kind, with_typed, type_field, fields_of}

-- ---- what fields of the grammar may say

pub last_below : (x y m : ℕ) → x ≤ m → y ≤ m → last_of x y ≤ m
last_below x y m h v = go (eqb y 0)
  where
    go : (b : Bool) → cond b x y ≤ m
    go true = h
    go false = v

kind_step : (e : Spelt) (es : List Spelt) (d m : ℕ) (w : List ℕ) → e.kind ≤ m → kind_in es d w ≤ m → kind_in (e ∷ es) d w ≤ m
unfolding kind_in
kind_step e es d m w x y = go (same_bytes e.spelling w)
  where
    go : (b : Bool) → elim b [ true ↦ e.kind | false ↦ kind_in es d w ] ≤ m
    go true = x
    go false = y

none_below : (w : List ℕ) → kind_in [] 0 w ≤ 5
unfolding kind_in
none_below w = omega arith

pub type_below : (w : List ℕ) → map_type_number w ≤ 5
unfolding map_type_number map_types
type_below w =
    kind_step _ _ 0 5 w (omega arith)
    (kind_step _ _ 0 5 w (omega arith)
    (kind_step _ _ 0 5 w (omega arith)
    (kind_step _ _ 0 5 w (omega arith)
    (kind_step _ _ 0 5 w (omega arith) (none_below w)))))

-- types are 1 to 5, keys and values 1 to 4, and max is one less than what is told of it; 0 is none
pub record Said (l : Tree) : Type 0 where
  pub type : type_of l ≤ 5
  pub key : typed_by KeywordKey l ≤ 4
  pub val : typed_by KeywordValue l ≤ 4
  pub lim : limit_of l ≤ 2 ^ 32

said_none : Said none
unfolding type_of typed_by limit_of
said_none = record { type = omega arith; key = omega arith; val = omega arith; lim = omega arith }

typed_below : (k f t : ℕ) → is_type t ≡ true → cond (eqb k f) (type_number t) 0 ≤ 4
typed_below k f t b = go (eqb k f)
  where
    small : type_number t ≤ 4
    small = omega (arith, leb-true t 24 (both_true (leb 21 t) (leb t 24) b).1)

    go : (c : Bool) → cond c (type_number t) 0 ≤ 4
    go true = small
    go false = omega arith

said_field : {d : ℕ} {s : Tree} → Is true MapField d s → Said s
unfolding type_of typed_by limit_of
said_field (i_type {w = w} q) = record { type = type_below w; key = omega arith; val = omega arith; lim = omega arith }
said_field (i_typed {k = k} {t = t} b c) =
    record { type = omega arith; key = typed_below k KeywordKey t c; val = typed_below k KeywordValue t c; lim = omega arith }
said_field (i_limit {c = c} h q) =
    let e : max_bits c ≤ most32 = leb-true (max_bits c) most32 (both_true (not (leb (2 ^ 63) (max_bits c))) (leb (max_bits c) most32) (q refl)).1 in
    record { type = omega arith; key = omega arith; val = omega arith; lim = omega (arith, e) }

pub said : {d : ℕ} {l : Tree} → Is true MapFields d l → Said l
unfolding type_of typed_by limit_of
said i_no_fields = said_none
said (i_fields {l = l} {s = s} h v) =
    let x : Said l = said h in
    let y : Said s = said_field v in
    record {
      type = last_below (type_of l) (type_of s) 5 x.type y.type;
      key = last_below (typed_by KeywordKey l) (typed_by KeywordKey s) 4 x.key y.key;
      val = last_below (typed_by KeywordValue l) (typed_by KeywordValue s) 4 x.val y.val;
      lim = last_below (limit_of l) (limit_of s) (2 ^ 32) x.lim y.lim;
    }

-- ---- what the written fields say

-- the name of a type is that type's
type_named : (n : ℕ) → n ≤ 5 → last_of 0 (map_type_number (spelling_in map_types [] n)) ≡ n
unfolding map_type_number map_types spelling_in kind_in same_bytes
type_named zero h = refl
type_named (suc zero) h = refl
type_named (suc (suc zero)) h = refl
type_named (suc (suc (suc zero))) h = refl
type_named (suc (suc (suc (suc zero)))) h = refl
type_named (suc (suc (suc (suc (suc zero))))) h = refl
type_named (suc (suc (suc (suc (suc (suc n)))))) h = absurd (omega arith)

-- a key or value leaves type and max, and what the other field says
module _ (f n : ℕ) (l : Tree) where
  pub by_zero : (C : Tree → Type 0) → (n ≡ 0 → C l) → (eqb n 0 ≡ false → C (seq l (typed f (type_kind n)))) → C (with_typed f n l)
  unfolding with_typed
  by_zero C x y = go (eqb n 0) refl
    where
      go : (b : Bool) → eqb n 0 ≡ b → C (cond b l (seq l (typed f (type_kind n))))
      go true e = x (eqb-true n 0 e)
      go false e = y e

  typed_type : type_of (with_typed f n l) ≡ type_of l
  unfolding type_of
  typed_type = by_zero (λ u. type_of u ≡ type_of l) (λ e. refl) (λ e. refl)

  typed_limit : limit_of (with_typed f n l) ≡ limit_of l
  unfolding limit_of
  typed_limit = by_zero (λ u. limit_of u ≡ limit_of l) (λ e. refl) (λ e. refl)

  typed_other : (g : ℕ) → eqb f g ≡ false → typed_by g (with_typed f n l) ≡ typed_by g l
  unfolding typed_by
  typed_other g b = by_zero (λ u. typed_by g u ≡ typed_by g l) (λ e. refl) (λ e. rw b)

  typed_own : typed_by f l ≡ 0 → typed_by f (with_typed f n l) ≡ n
  unfolding typed_by
  typed_own z = by_zero (λ u. typed_by f u ≡ n) (λ e. z ∙ sym e) (λ e. rw (eq-eqb f f refl, same) (rw e))
    where
      same : type_number (type_kind n) ≡ n
      same = omega arith

-- the fields that are written, up to the key and up to the value
abbrev keyed : Tree → Tree
keyed l = with_typed KeywordKey (typed_by KeywordKey l) (type_field l)

abbrev valued : Tree → Tree
valued l = with_typed KeywordValue (typed_by KeywordValue l) (keyed l)

module _ (l : Tree) where
  pub fields_type : type_of l ≤ 5 → type_of (fields_of l) ≡ type_of l
  unfolding fields_of type_of type_field
  fields_type h =
      typed_type KeywordValue (typed_by KeywordValue l) (keyed l) ∙ typed_type KeywordKey (typed_by KeywordKey l) (type_field l) ∙ type_named (type_of l) h

  pub fields_key : typed_by KeywordKey (fields_of l) ≡ typed_by KeywordKey l
  unfolding fields_of typed_by type_field
  fields_key =
      typed_other KeywordValue (typed_by KeywordValue l) (keyed l) KeywordKey refl ∙ typed_own KeywordKey (typed_by KeywordKey l) (type_field l) refl

  pub fields_value : typed_by KeywordValue (fields_of l) ≡ typed_by KeywordValue l
  unfolding fields_of typed_by type_field
  fields_value =
      typed_own KeywordValue (typed_by KeywordValue l) (keyed l) (typed_other KeywordKey (typed_by KeywordKey l) (type_field l) KeywordValue refl)

  -- what stands last, where it is something
  last_some : (x n : ℕ) → last_of x (n + 1) ≡ n + 1
  last_some x n = rw (ne_eqb (n + 1) 0 (λ e. omega arith))

  pub fields_limit : eqb (limit_of l) 0 ≡ false → limit_of (fields_of l) ≡ limit_of l
  unfolding fields_of limit_of max_bits
  fields_limit e = go (limit_of l) e
    where
      go : (n : ℕ) → eqb n 0 ≡ false → last_of (limit_of (valued l)) (pred n + 1) ≡ n
      go zero f = absurd (true≢false f)
      go (suc n) f = last_some (limit_of (valued l)) n ∙ omega arith

  -- max as it is written, whether there is one or not
  pub fields_most : pred (limit_of (fields_of l)) ≡ pred (limit_of l)
  unfolding fields_of limit_of max_bits
  fields_most = ap pred (last_some (limit_of (valued l)) (pred (limit_of l))) ∙ omega arith

-- fields that say the same are written alike
pub same_fields : (u l : Tree) → type_of u ≡ type_of l → typed_by KeywordKey u ≡ typed_by KeywordKey l → typed_by KeywordValue u ≡ typed_by KeywordValue l
    → pred (limit_of u) ≡ pred (limit_of l) → fields_of u ≡ fields_of l
unfolding fields_of type_field
same_fields u l a b c d = rw (a, b, c, d)

-- ---- they are fields of the grammar

-- a map that lacks nothing has a type and a max
module _ (type key val lim : ℕ) (e : lacking type key val lim ≡ 0) where
  pub has_type : eqb type 0 ≡ false
  unfolding lacking
  has_type = go (eqb type 0) refl e
    where
      go : (b : Bool) → eqb type 0 ≡ b
          → ◌≡◌ {A = ℕ} (cond b 1 (cond (eqb type 3) (cond (eqb lim 0) 4 0) (cond (eqb key 0) 2 (cond (eqb val 0) 3 (cond (eqb lim 0) 4 0))))) 0
          → eqb type 0 ≡ false
      go true f z = absurd (omega arith)
      go false f z = f

  has_limit : eqb lim 0 ≡ false
  unfolding lacking
  has_limit = go (eqb type 0) (eqb type 3) (eqb key 0) (eqb val 0) (eqb lim 0) refl e
    where
      go : (a b c d x : Bool) → eqb lim 0 ≡ x → ◌≡◌ {A = ℕ} (cond a 1 (cond b (cond x 4 0) (cond c 2 (cond d 3 (cond x 4 0))))) 0 → eqb lim 0 ≡ false
      go true b c d x f z = absurd (omega arith)
      go false true c d true f z = absurd (omega arith)
      go false true c d false f z = f
      go false false true d x f z = absurd (omega arith)
      go false false false true x f z = absurd (omega arith)
      go false false false false true f z = absurd (omega arith)
      go false false false false false f z = f

with_typed_lem : {d : ℕ} (f n : ℕ) (l : Tree) → is_typed f ≡ true → n ≤ 4 → Is true MapFields d l → Is true MapFields d (with_typed f n l)
with_typed_lem {d} f n l b h i =
    by_zero f n l (Is true MapFields d) (λ e. i)
    (λ e. i_fields i (i_typed b ((and-eq-true_iff _ _).1 (le-leb 21 (type_kind n) (pos e), le-leb (type_kind n) 24 (omega arith)))))
  where
    pos : eqb n 0 ≡ false → 21 ≤ type_kind n
    pos e = go n e
      where
        go : (n : ℕ) → eqb n 0 ≡ false → 21 ≤ type_kind n
        go zero e = absurd (true≢false e)
        go (suc n) e = omega arith

type_some : (n : ℕ) → n ≤ 5 → eqb n 0 ≡ false → not (eqb (map_type_number (spelling_in map_types [] n)) 0) ≡ true
unfolding map_type_number map_types spelling_in kind_in same_bytes
type_some zero h f = absurd (true≢false f)
type_some (suc zero) h f = refl
type_some (suc (suc zero)) h f = refl
type_some (suc (suc (suc zero))) h f = refl
type_some (suc (suc (suc (suc zero)))) h f = refl
type_some (suc (suc (suc (suc (suc zero))))) h f = refl
type_some (suc (suc (suc (suc (suc (suc n)))))) h f = absurd (omega arith)

limit_some : (n : ℕ) → n ≤ 2 ^ 32 → not (leb (2 ^ 63) (pred n)) && leb (pred n) most32 ≡ true
limit_some n h = rw (lt-leb (2 ^ 63) (pred n) (small n h), le-leb (pred n) most32 (below n h))
  where
    small : (n : ℕ) → n ≤ 2 ^ 32 → pred n < 2 ^ 63
    small zero h = omega arith
    small (suc n) h = omega arith

    below : (n : ℕ) → n ≤ 2 ^ 32 → pred n ≤ most32
    below zero h = omega arith
    below (suc n) h = omega arith

module _ {d : ℕ} {l : Tree} (i : Is true MapFields d l) (e : lacking (type_of l) (typed_by KeywordKey l) (typed_by KeywordValue l) (limit_of l) ≡ 0) where
  written_fields : Is true MapFields d (fields_of l)
  unfolding fields_of type_field max_bits
  written_fields =
      let x : Said l = said i in
      i_fields
      (with_typed_lem KeywordValue (typed_by KeywordValue l) (keyed l) refl x.val
      (with_typed_lem KeywordKey (typed_by KeywordKey l) (type_field l) refl x.key
      (i_fields i_no_fields (i_type (λ _. type_some (type_of l) x.type (has_type _ _ _ _ e))))))
      (i_limit i_first (λ _. limit_some (limit_of l) x.lim))

  -- The map that is written is one of the grammar.
  pub written_map : {w : List ℕ} → Is true Decl d (map_decl w (fields_of l))
  written_map = i_map written_fields (λ _. eq-eqb _ 0 same)
    where
      same : lacking (type_of (fields_of l)) (typed_by KeywordKey (fields_of l)) (typed_by KeywordValue (fields_of l)) (limit_of (fields_of l)) ≡ 0
      same = rw (fields_type l (said i).type, fields_key l, fields_value l, fields_limit l (has_limit (type_of l) (typed_by KeywordKey l) (typed_by KeywordValue l) (limit_of l) e)) e
