-- Laws of what is written of things and of their braces.
use mathlib.Core.Path.{◌≡◌, refl, sym, ap, ◌∙◌, subst}
use mathlib.Core.List.{List, [], ◌++◌, append_assoc, append-nil}
use Prim.Native.Nat.{ℕ, suc, ◌-◌, ◌≤◌, ◌<◌}
use native.Mathlib.Omega.{arith}
use lib.ListN.{length}
use Rattle.rules.specs.Text.{bytes}
use Rattle.layout_back.specs.Back.{Wrote}
use Rattle.layout_back.specs.Words.{word_of, SpelledAs}
use Rattle.layout_back.proofs.Back.{wrote_none, wrote_then, wrote_as}
use Rattle.layout_expr.specs.declared.Back.{Back}
use Rattle.layout_expr.specs.Parts.{kind_of}
use Rattle.layout_expr.specs.Written.{Done}
use Rattle.layout_expr.proofs.Ways.{Named}
use Rattle.layout_lines.specs.Lines.{WroteLine}
use Rattle.layout_lines.proofs.ByKind.{spelled_at}
use Rattle.layout_tree.specs.Things.{Sort, One, Body, Many, Thing, t_line, t_unit, t_event, t_if, t_if_else, t_body, t_none, t_more, Program, WroteThing, WroteHeaded, WroteGuarded, WroteBranch}

module _ {t rows nodes : List ℕ} where
  -- ---- one thing

  pub no_thing : {m n : ℕ} {bs : List ℕ} → n ≡ 0 → Thing t rows nodes One m n 0 bs → ⊥
  no_thing h (t_line a b c q) = omega (arith, h)
  no_thing h (t_unit e q s) = omega (arith, h)
  no_thing h (t_event e q s) = omega (arith, h)
  no_thing h (t_if e c s q) = omega (arith, h)
  no_thing h (t_if_else e c s q u) = omega (arith, h)

  pub no_body : {m n : ℕ} {bs : List ℕ} → n ≡ 0 → Thing t rows nodes Body m n 0 bs → ⊥
  no_body h (t_body e q) = omega (arith, h)

  -- the node in front
  behind : {s : Sort} {m n c : ℕ} {bs : List ℕ} → (n ≡ 0 → ⊥) → Thing t rows nodes s m n c bs → Thing t rows nodes s m (suc (n - 1)) c bs
  behind {s} {m} {n} {c} {bs} h q = let e : n ≡ suc (n - 1) = omega (arith, h) in subst (λ (i : ℕ). Thing t rows nodes s m i c bs) e q

  unit_is : {m j at : ℕ} {bs room room' : List ℕ} {b : Back} → kind_of nodes j ≡ 25 → WroteHeaded t rows nodes (bytes "unit ")
      (suc j) room at room' b
      → Thing t rows nodes One m (suc j) 0 bs → Done m bs room at room' b
  unit_is k w (t_line a b c q) = absurd (b k)
  unit_is k w (t_unit e q s) = w.done refl q s
  unit_is k w (t_event e q s) = absurd (omega (arith, k, e))
  unit_is k w (t_if e c s q) = absurd (omega (arith, k, e))
  unit_is k w (t_if_else e c s q u) = absurd (omega (arith, k, e))

  event_is : {m j at : ℕ} {bs room room' : List ℕ} {b : Back} → kind_of nodes j ≡ 27 → WroteHeaded t rows nodes (bytes "event ")
      (suc j) room at room' b
      → Thing t rows nodes One m (suc j) 0 bs → Done m bs room at room' b
  event_is k w (t_line a b c q) = absurd (c k)
  event_is k w (t_unit e q s) = absurd (omega (arith, k, e))
  event_is k w (t_event e q s) = w.done refl q s
  event_is k w (t_if e c s q) = absurd (omega (arith, k, e))
  event_is k w (t_if_else e c s q u) = absurd (omega (arith, k, e))

  line_is : {m j at : ℕ} {bs room room' : List ℕ} {b : Back} → (kind_of nodes j ≡ 20 → ⊥) → (kind_of nodes j ≡ 25 → ⊥) →
      (kind_of nodes j ≡ 27 → ⊥)
      → WroteLine t rows nodes j room at room' b → Thing t rows nodes One m (suc j) 0 bs → Done m bs room at room' b
  line_is f g h w (t_line a b c q) = w.done q
  line_is f g h w (t_unit e q s) = absurd (g e)
  line_is f g h w (t_event e q s) = absurd (h e)
  line_is f g h w (t_if e c s q) = absurd (f e)
  line_is f g h w (t_if_else e c s q u) = absurd (f e)

  -- the same of the node in front of n
  headed_at : {n at : ℕ} {word room room' : List ℕ} {b : Back} → (n ≡ 0 → ⊥) → WroteHeaded t rows nodes word n room at room' b
      → WroteHeaded t rows nodes word (suc (n - 1)) room at room' b
  headed_at {n} {at} {word} {room} {room'} {b} h w =
      let e : n ≡ suc (n - 1) = omega (arith, h) in subst (λ (i : ℕ). WroteHeaded t rows nodes word i room at room' b) e w

  module _ {m n at : ℕ} {bs room room' : List ℕ} {b : Back} (h : n ≡ 0 → ⊥) where
    pub branch_done : kind_of nodes (n - 1) ≡ 20 → WroteBranch t rows nodes (n - 1) room at room' b → Thing t rows nodes One m n 0 bs
        → Done m bs room at room' b
    branch_done k w q = w.done k (behind h q)

    pub unit_done : kind_of nodes (n - 1) ≡ 25 → WroteHeaded t rows nodes (bytes "unit ") n room at room' b
        → Thing t rows nodes One m n 0 bs → Done m bs room at room' b
    unit_done k w q = unit_is k (headed_at h w) (behind h q)

    pub event_done : kind_of nodes (n - 1) ≡ 27 → WroteHeaded t rows nodes (bytes "event ") n room at room' b
        → Thing t rows nodes One m n 0 bs → Done m bs room at room' b
    event_done k w q = event_is k (headed_at h w) (behind h q)

    pub line_done : (kind_of nodes (n - 1) ≡ 20 → ⊥) → (kind_of nodes (n - 1) ≡ 25 → ⊥) → (kind_of nodes (n - 1) ≡ 27 → ⊥)
        → WroteLine t rows nodes (n - 1) room at room' b → Thing t rows nodes One m n 0 bs → Done m bs room at room' b
    line_done f g k w q = line_is f g k w (behind h q)

  -- ---- braces

  pub headed_done : {word : List ℕ} {m n j row a r at : ℕ} {bs w room room₁ room₂ room₃ : List ℕ} {b : Back} → n ≡ suc j → row
      ≡ word_of nodes (n - 1) 2
      → WroteThing t rows nodes Body n 0 room at room₁ b → Named t rows row room₁ b.at room₂ a → Wrote word room₂ a room₃ r
      → Thing t rows nodes Body m (suc j) 0 bs → SpelledAs t rows (word_of nodes j 2) w
      → Done m (word ++ ((w ++ bytes " ") ++ bs)) room at room₃ (record { node = b.node; at = r })
  headed_done {m = m} {n = n} {j = j} {bs = bs} {w = w} e i v f u q s =
      let g : n - 1 ≡ j = omega (arith, e) in
      let d = v.done (subst (λ (k : ℕ). Thing t rows nodes Body m k 0 bs) (sym e) q) in
      record { node = d.node; wrote = wrote_then (wrote_then d.wrote (f w (spelled_at (i ∙ ap (λ (k : ℕ). word_of nodes k 2) g) s))) u }

  body_is : {m j c a r at : ℕ} {bs room room₁ room₂ room₃ : List ℕ} {b : Back} → c ≡ word_of nodes j 3 → Wrote (bytes "}\n") room at room₁ a
      → WroteThing t rows nodes Many j c room₁ a room₂ b → Wrote (bytes "{\n") room₂ b.at room₃ r → Thing t rows nodes Body m
      (suc j) 0 bs
      → Done m bs room at room₃ (record { node = b.node; at = r })
  body_is {m = m} {j = j} e v w u (t_body {bs = bs} f q) =
      let d = w.done (subst (λ (k : ℕ). Thing t rows nodes Many m j k bs) (sym (e ∙ f)) q) in
      record { node = d.node; wrote = wrote_then (wrote_then v d.wrote) u }

  pub body_done : {m n c a r at : ℕ} {bs room room₁ room₂ room₃ : List ℕ} {b : Back} → (n ≡ 0 → ⊥) → c ≡ word_of nodes (n - 1) 3 → Wrote
      (bytes "}\n") room at room₁ a
      → WroteThing t rows nodes Many (n - 1) c room₁ a room₂ b → Wrote (bytes "{\n") room₂ b.at room₃ r
      → Thing t rows nodes Body m n 0 bs
      → Done m bs room at room₃ (record { node = b.node; at = r })
  body_done h e v w u q = body_is e v w u (behind h q)

  -- ---- `if`

  pub lone_done : {m j at : ℕ} {bs room room' : List ℕ} {b : Back} → (word_of nodes j 3 ≡ 3 → ⊥) → kind_of nodes j ≡ 20
      → WroteGuarded t rows nodes j room at room' b → Thing t rows nodes One m (suc j) 0 bs → Done m bs room at room' b
  lone_done f k w (t_line a b c q) = absurd (a k)
  lone_done f k w (t_unit e q s) = absurd (omega (arith, k, e))
  lone_done f k w (t_event e q s) = absurd (omega (arith, k, e))
  lone_done f k w (t_if e c s q) = w.done s q
  lone_done f k w (t_if_else e c s q u) = absurd (f c)

  pub else_done : {m j a at : ℕ} {bs room room₁ room₂ room₃ : List ℕ} {b d : Back} → word_of nodes j 3 ≡ 3 → kind_of nodes j ≡ 20
      → WroteThing t rows nodes Body j 0 room at room₁ b → Wrote (bytes "else ") room₁ b.at room₂ a → WroteGuarded t rows nodes
      b.node room₂ a room₃ d
      → Thing t rows nodes One m (suc j) 0 bs → Done m bs room at room₃ d
  else_done f k w v z (t_line a b c q) = absurd (a k)
  else_done f k w v z (t_unit e q s) = absurd (omega (arith, k, e))
  else_done f k w v z (t_event e q s) = absurd (omega (arith, k, e))
  else_done f k w v z (t_if e c s q) = absurd (omega (arith, f, c))
  else_done {m = m} f k w v z (t_if_else {bs = bs} {cs = cs} {w = l} e c s q u) =
      let d = w.done u in
      let g = z.done s (subst (λ (i : ℕ). Thing t rows nodes Body (suc m) i 0 bs) (sym d.node) q) in
      record { node = g.node; wrote = wrote_as (else_bytes l bs cs) (wrote_then (wrote_then d.wrote v) g.wrote) }
    where
      else_bytes : (l bs cs : List ℕ) → (bytes "if guard ( " ++ ((l ++ bytes " ") ++ (bytes ") " ++ bs))) ++ (bytes "else " ++ cs)
          ≡ bytes "if guard ( " ++ ((l ++ bytes " ") ++ (bytes ") " ++ (bs ++ (bytes "else " ++ cs))))
      else_bytes l bs cs = simp append_assoc

  pub guarded_done : {m n row a c r at : ℕ} {bs w room room₁ room₂ room₃ room₄ : List ℕ} {b : Back}
      → WroteThing t rows nodes Body n 0 room at room₁ b
      → row ≡ word_of nodes (b.node - 1) 2 → Wrote (bytes ") ") room₁ b.at room₂ a → Named t rows row room₂ a room₃ c
      → Wrote (bytes "if guard ( ") room₃ c room₄ r → SpelledAs t rows (word_of nodes m 2) w → Thing t rows nodes Body (suc m) n 0 bs
      → Done m (bytes "if guard ( " ++ ((w ++ bytes " ") ++ (bytes ") " ++ bs))) room at room₄ (record { node = b.node - 1; at = r })
  guarded_done {m = m} {w = w} {b = b} v e u f z s q =
      let d = v.done q in
      let g : b.node - 1 ≡ m = omega (arith, d.node) in
      record {
        node = g;
        wrote = wrote_then (wrote_then (wrote_then d.wrote u)
            (f w (spelled_at (e ∙ ap (λ (k : ℕ). word_of nodes k 2) g) s))) z;
      }

  pub unguarded : {m n at : ℕ} {bs room room' : List ℕ} {b : Back} → b.node ≡ 0 → WroteThing t rows nodes Body n 0 room at room' b
      → Thing t rows nodes Body (suc m) n 0 bs → ⊥
  unguarded e v q = omega (arith, e, (v.done q).node)

-- ---- things one after the other

module _ (t rows nodes : List ℕ) where
  -- of many things those behind `us` are written
  pub record Listing (m : ℕ) (bs : List ℕ) (end left : ℕ) (room : List ℕ) (at : ℕ) (room' : List ℕ) (to : ℕ) : Type 0 where
    pub us : List ℕ
    pub more : List ℕ
    pub part : Thing t rows nodes Many m end left us
    pub all : bs ≡ us ++ more
    pub wrote : Wrote more room at room' to

  -- what holds on the way through the things that end in front of node n
  pub record InList (n count : ℕ) (room : List ℕ) (at end left : ℕ) (room' : List ℕ) (to : ℕ) : Type 0 where
    pub few : end ≤ n
    pub long : length room' ≡ length room
    pub goes : {m : ℕ} {bs : List ℕ} → Thing t rows nodes Many m n count bs → Listing m bs end left room at room' to

module _ {t rows nodes : List ℕ} where
  pub listing_none : {m n c : ℕ} {bs : List ℕ} (room : List ℕ) (at : ℕ) → Thing t rows nodes Many m n c bs
      → Listing t rows nodes m bs n c room at room at
  listing_none {bs = bs} room at q = record { us = bs; more = []; part = q; all = sym (append-nil bs); wrote = wrote_none room at }

  on_list : {m end left to at : ℕ} {bs us more room room' room'' : List ℕ} {b : Back} → 0 < left → Thing t rows nodes Many m end left us
      → bs ≡ us ++ more → Wrote more room at room' to → WroteThing t rows nodes One end 0 room' to room'' b
      → Listing t rows nodes m bs b.node (left - 1) room at room'' b.at
  on_list h t_none e v w = absurd (omega (arith, h))
  on_list {m = m} {more = more} {b = b} h (t_more {c = c} {bs = us} {cs = cs} q x) e v w =
      let d = w.done x in
      let i : c ≡ suc c - 1 = omega arith in
      record {
        us = us;
        more = cs ++ more;
        part = subst (λ (k : ℕ). Thing t rows nodes Many m b.node k us) i
            (subst (λ (n : ℕ). Thing t rows nodes Many m n c us) (sym d.node) q);
        all = e ∙ append_assoc us cs more;
        wrote = wrote_then v d.wrote;
      }

  pub listing_on : {m end left to at : ℕ} {bs room room' room'' : List ℕ} {b : Back} → 0 < left
      → Listing t rows nodes m bs end left room at room' to
      → WroteThing t rows nodes One end 0 room' to room'' b → Listing t rows nodes m bs b.node (left - 1) room at room'' b.at
  listing_on h a w = on_list h a.part a.all a.wrote w

  end_list : {m end left : ℕ} {us : List ℕ} → left ≤ 0 → Thing t rows nodes Many m end left us → (end ≡ m) × (us ≡ [])
  end_list h t_none = (refl, refl)
  end_list h (t_more q x) = absurd (omega (arith, h))

  pub listing_all : {m end left to at : ℕ} {bs room room' : List ℕ} → left ≤ 0 → Listing t rows nodes m bs end left room at room' to
      → Done m bs room at room' (record { node = end; at = to })
  listing_all h a =
      let e = end_list h a.part in
      record { node = e.0; wrote = wrote_as (sym (a.all ∙ ap (λ (l : List ℕ). l ++ a.more) e.1)) a.wrote }

  -- ---- programs

  pub program_done : {n c at : ℕ} {bs room room' : List ℕ} {b : Back} → c ≡ word_of nodes (n - 1) 3
      → WroteThing t rows nodes Many (n - 1) c room at room' b → Program t rows nodes n bs → Wrote bs room at room' b.at
  program_done {n} {c} {bs = bs} e w p =
      let i : p.last ≡ n - 1 = omega (arith, p.ends) in
      (w.done (subst (λ (k : ℕ). Thing t rows nodes Many 0 (n - 1) k bs) (sym e)
      (subst (λ (k : ℕ). Thing t rows nodes Many 0 k (word_of nodes k 3) bs) i p.things))).wrote

  pub no_program : {n : ℕ} {bs : List ℕ} → n ≡ 0 → Program t rows nodes n bs → ⊥
  no_program h p = omega (arith, h, p.ends)
