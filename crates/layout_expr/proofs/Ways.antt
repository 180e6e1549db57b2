-- Laws of what is written of an expression, step by step along its left parts.
use mathlib.Core.Path.{◌≡◌, refl, sym, ap, ◌∙◌, subst}
use mathlib.Core.List.{List, [], ◌∷◌, ◌++◌, append_assoc, append-nil}
use Prim.Native.Nat.{ℕ, suc, ◌+◌, ◌-◌, ◌≤◌, ◌<◌}
use native.Mathlib.Omega.{arith}
use lib.ListN.{length}
use Rattle.rules.specs.Text.{bytes}
use Rattle.rules_decimal.specs.Decimal.{signed}
use Rattle.layout_back.specs.Back.{Wrote}
use Rattle.layout_back.specs.Words.{word_of, number_of, SpelledAs}
use Rattle.layout_back.proofs.Back.{wrote_none, wrote_then, wrote_as}
use Rattle.layout_signs.specs.Levels.{node_level, right_place, operator_of, put, pairs, repeated, comma}
use Rattle.layout_signs.proofs.Signs.{put_is, put_any, repeated_add}
use Rattle.layout_expr.specs.declared.Back.{Back}
use Rattle.layout_expr.specs.Parts.{kind_of, Expr, Args, Part, p_var, p_num, p_star, p_field, p_call, p_bin, p_none, p_arg}
use Rattle.layout_expr.specs.Written.{Done, Stepped, WroteExpr, WroteArgs, WroteLeaf, WroteStep}

-- what `name` promises of a row
abbrev pub Named : (t rows : List ℕ) (row : ℕ) (room : List ℕ) (at : ℕ) (room' : List ℕ) (r : ℕ) → Type 0
Named t rows row room at room' r = (w : List ℕ) → SpelledAs t rows row w → Wrote (w ++ (32 ∷ [])) room at room' r

-- what holds of the way whatever the nodes are
pub record Fit (n end opens : ℕ) (room room' : List ℕ) : Type 0 where
  pub few : opens + end ≤ n
  pub long : length room' ≡ length room

field_level : (k : ℕ) → k ≡ 12 → node_level k ≡ 4
unfolding node_level
field_level k e = rw e

call_level : (k : ℕ) → k ≡ 11 → node_level k ≡ 4
unfolding node_level
call_level k e = rw e

shut_bytes : (a b : ℕ) (ls more : List ℕ) (takes level : ℕ) → b ≡ pairs takes level
    → repeated a (bytes "( ") ++ (put takes level ls ++ more) ≡ repeated (a + b) (bytes "( ") ++ (ls ++ (repeated b (bytes ") ") ++ more))
shut_bytes a b ls more takes level e =
    let x : put takes level ls ≡ repeated b (bytes "( ") ++ (ls ++ repeated b (bytes ") ")) =
    put_is takes level ls ∙ ap (λ (n : ℕ). repeated n (bytes "( ") ++ (ls ++ repeated n (bytes ") "))) (sym e) in
    ap (λ (l : List ℕ). repeated a (bytes "( ") ++ (l ++ more)) x
    ∙ ap (λ (l : List ℕ). repeated a (bytes "( ") ++ l) (append_assoc (repeated b (bytes "( ")) (ls ++ repeated b (bytes ") ")) more)
    ∙ sym (append_assoc (repeated a (bytes "( ")) (repeated b (bytes "( ")) ((ls ++ repeated b (bytes ") ")) ++ more))
    ∙ ap (λ (l : List ℕ). l ++ ((ls ++ repeated b (bytes ") ")) ++ more)) (sym (repeated_add a b (bytes "( ")))
    ∙ ap (λ (l : List ℕ). repeated (a + b) (bytes "( ") ++ l) (append_assoc ls (repeated b (bytes ") ")) more)

module _ (t rows nodes : List ℕ) where
  -- of a call's arguments those behind `us` are written
  pub record Arguing (m : ℕ) (bs : List ℕ) (end left : ℕ) (room : List ℕ) (at : ℕ) (room' : List ℕ) (to : ℕ) : Type 0 where
    pub us : List ℕ
    pub more : List ℕ
    pub part : Part t rows nodes Args m end left us
    pub all : bs ≡ us ++ more
    pub wrote : Wrote more room at room' to

  -- Of the expression all that stands behind a left part is written, but for the parentheses that opens in front of it.
  pub record Spine (m : ℕ) (full : List ℕ) (end takes opens : ℕ) (room : List ℕ) (at : ℕ) (room' : List ℕ) (to : ℕ) : Type 0 where
    pub level : ℕ
    pub left : List ℕ
    pub more : List ℕ
    pub part : Part t rows nodes Expr m end level left
    pub all : full ≡ repeated opens (bytes "( ") ++ (put takes level left ++ more)
    pub wrote : Wrote more room at room' to

  -- the same, behind the parentheses that close behind it
  pub record Shut (m : ℕ) (full : List ℕ) (j opens : ℕ) (room : List ℕ) (at : ℕ) (room' : List ℕ) (to : ℕ) : Type 0 where
    pub level : ℕ
    pub left : List ℕ
    pub more : List ℕ
    pub part : Part t rows nodes Expr m (suc j) level left
    pub all : full ≡ repeated opens (bytes "( ") ++ (left ++ more)
    pub wrote : Wrote more room at room' to

  -- what holds on the way through the arguments that end in front of node n
  pub record InArgs (n things : ℕ) (room : List ℕ) (at end left : ℕ) (room' : List ℕ) (to : ℕ) : Type 0 where
    pub fit : Fit n end 0 room room'
    pub goes : {m : ℕ} {bs : List ℕ} → Part t rows nodes Args m n things bs → Arguing m bs end left room at room' to

  -- what holds on the way to the left in the expression that ends in front of node n
  pub record OnWay (n place : ℕ) (room : List ℕ) (at end takes opens : ℕ) (room' : List ℕ) (to : ℕ) : Type 0 where
    pub fit : Fit n end opens room room'
    pub goes : {m l : ℕ} {bs : List ℕ} → Part t rows nodes Expr m n l bs → Spine m (put place l bs) end takes opens room at room' to

module _ {t rows nodes : List ℕ} where
  -- ---- leaves

  pub num_done : {m j l low high to at : ℕ} {bs room room' : List ℕ} → kind_of nodes j ≡ 2 → low ≡ word_of nodes j 4 → high ≡ word_of nodes j 5
      → Wrote (signed (number_of low high) ++ (32 ∷ [])) room at room' to → Part t rows nodes Expr m (suc j) l bs
      → Done m bs room at room' (record { node = j; at = to })
  num_done k a b w (p_var e s) = absurd (omega (arith, k, e))
  num_done {j = j} {low = low} {high = high} k a b w (p_num e) =
      record {
        node = refl;
        wrote = wrote_as (ap (λ (x : ℕ). signed (number_of x high) ++ (32 ∷ [])) a ∙ ap
            (λ (x : ℕ). signed (number_of (word_of nodes j 4) x) ++ (32 ∷ [])) b) w;
      }
  num_done k a b w (p_star e q) = absurd (omega (arith, k, e))
  num_done k a b w (p_field e q s) = absurd (omega (arith, k, e))
  num_done k a b w (p_call e q u c s) = absurd (omega (arith, k, e))
  num_done k a b w (p_bin x y q u) = absurd (omega (arith, k, x))

  pub star_done : {m j l to at : ℕ} {bs room room' room'' : List ℕ} {b : Back} → kind_of nodes j ≡ 3
      → WroteExpr t rows nodes j 3 room at room' b
      → Wrote (bytes "* ") room' b.at room'' to → Part t rows nodes Expr m (suc j) l bs → Done m bs room at room''
      (record { node = b.node; at = to })
  star_done k v w (p_var e s) = absurd (omega (arith, k, e))
  star_done k v w (p_num e) = absurd (omega (arith, k, e))
  star_done k v w (p_star e q) = record { node = (v.done q).node; wrote = wrote_then (v.done q).wrote w }
  star_done k v w (p_field e q s) = absurd (omega (arith, k, e))
  star_done k v w (p_call e q u c s) = absurd (omega (arith, k, e))
  star_done k v w (p_bin x y q u) = absurd (omega (arith, k, x))

  pub var_done : {m j l row to at : ℕ} {bs room room' : List ℕ} → (kind_of nodes j ≡ 2 → ⊥) → (kind_of nodes j ≡ 3 → ⊥) → kind_of nodes j ≤ 3
      → row ≡ word_of nodes j 2 → Named t rows row room at room' to → Part t rows nodes Expr m (suc j) l bs
      → Done m bs room at room' (record { node = j; at = to })
  var_done k h g a f (p_var {w = w} e s) = record { node = refl; wrote = f w (subst (λ (r : ℕ). SpelledAs t rows r w) (sym a) s) }
  var_done k h g a f (p_num e) = absurd (k e)
  var_done k h g a f (p_star e q) = absurd (h e)
  var_done k h g a f (p_field e q s) = absurd (omega (arith, g, e))
  var_done k h g a f (p_call e q u c s) = absurd (omega (arith, g, e))
  var_done k h g a f (p_bin x y q u) = absurd (omega (arith, g, x))

  -- ---- steps to the left

  pub field_steps : {m j l row to r at : ℕ} {bs room room' room'' : List ℕ} → kind_of nodes j ≡ 12 → row ≡ word_of nodes j 2
      → Named t rows row room at room' to → Wrote (bytes ". ") room' to room'' r → Part t rows nodes Expr m (suc j) l bs
      → Stepped t rows nodes m (kind_of nodes j) bs room at room'' (record { node = j; at = r })
  field_steps k a f v (p_var e s) = absurd (omega (arith, k, e))
  field_steps k a f v (p_num e) = absurd (omega (arith, k, e))
  field_steps k a f v (p_star e q) = absurd (omega (arith, k, e))
  field_steps {j = j} k a f v (p_field {l = l} {bs = bs} {w = w} e q s) =
      record {
        level = l;
        left = bs;
        rest = bytes ". " ++ (w ++ bytes " ");
        part = q;
        all = ap (λ (p : ℕ). put p l bs ++ (bytes ". " ++ (w ++ bytes " "))) (sym (field_level (kind_of nodes j) k));
        wrote = wrote_then (f w (subst (λ (r : ℕ). SpelledAs t rows r w) (sym a) s)) v;
      }
  field_steps k a f v (p_call e q u c s) = absurd (omega (arith, k, e))
  field_steps k a f v (p_bin x y q u) = absurd (omega (arith, k, y))

  pub call_steps : {m j l row things r₁ r₃ r₄ r at : ℕ} {bs room room₁ room₂ room₃ room₄ room₅ : List ℕ} {b : Back} → kind_of nodes j ≡ 11
      → things ≡ word_of nodes j 3 → row ≡ word_of nodes j 2
      → Wrote (bytes ") ") room at room₁ r₁ → WroteArgs t rows nodes j things room₁ r₁ room₂ b → Wrote (bytes "( ") room₂ b.at room₃ r₃
      → Named t rows row room₃ r₃ room₄ r₄ → Wrote (bytes ". ") room₄ r₄ room₅ r → Part t rows nodes Expr m (suc j) l bs
      → Stepped t rows nodes m (kind_of nodes j) bs room at room₅ (record { node = b.node; at = r })
  call_steps k h a w₁ w₂ w₃ f w₅ (p_var e s) = absurd (omega (arith, k, e))
  call_steps k h a w₁ w₂ w₃ f w₅ (p_num e) = absurd (omega (arith, k, e))
  call_steps k h a w₁ w₂ w₃ f w₅ (p_star e q) = absurd (omega (arith, k, e))
  call_steps k h a w₁ w₂ w₃ f w₅ (p_field e q s) = absurd (omega (arith, k, e))
  call_steps {m = m} {j = j} {b = b} k h a w₁ w₂ w₃ f w₅ (p_call {q = p} {l = l} {bs = bs} {us = us} {w = w} e q u g s) =
      let d : Done p us _ _ _ b = w₂.done (subst (λ (c : ℕ). Part t rows nodes Args p j c us) (sym (h ∙ g)) u) in
      record {
        level = l;
        left = bs;
        rest = bytes ". " ++ ((w ++ bytes " ") ++ (bytes "( " ++ (us ++ bytes ") ")));
        part = subst (λ (i : ℕ). Part t rows nodes Expr m i l bs) (sym d.node) q;
        all = ap (λ (i : ℕ). put i l bs ++ (bytes ". " ++ ((w ++ bytes " ") ++ (bytes "( " ++ (us ++ bytes ") ")))))
            (sym (call_level (kind_of nodes j) k));
        wrote = wrote_then (wrote_then (wrote_then (wrote_then w₁ d.wrote) w₃)
            (f w (subst (λ (r : ℕ). SpelledAs t rows r w) (sym a) s))) w₅;
      }
  call_steps k h a w₁ w₂ w₃ f w₅ (p_bin x y q u) = absurd (omega (arith, k, y))

  pub bin_steps : {m j l p k r at : ℕ} {bs room room' room'' : List ℕ} {b : Back} → (kind_of nodes j ≡ 11 → ⊥) → (kind_of nodes j ≡ 12 → ⊥)
      → 4 ≤ kind_of nodes j → p ≡ right_place (kind_of nodes j) → k ≡ kind_of nodes j → WroteExpr t rows nodes j p room at room' b
      → Wrote (operator_of k) room' b.at room'' r → Part t rows nodes Expr m (suc j) l bs
      → Stepped t rows nodes m (kind_of nodes j) bs room at room'' (record { node = b.node; at = r })
  bin_steps g h x i a v w (p_var e s) = absurd (omega (arith, x, e))
  bin_steps g h x i a v w (p_num e) = absurd (omega (arith, x, e))
  bin_steps g h x i a v w (p_star e q) = absurd (omega (arith, x, e))
  bin_steps g h x i a v w (p_field e q s) = absurd (h e)
  bin_steps g h x i a v w (p_call e q u c s) = absurd (g e)
  bin_steps {m = m} {j = j} {b = b} g h x i a v w (p_bin {q = p} {l = l} {r = r} {bs = bs} {cs = cs} y z q u) =
      let d : Done p (put _ r cs) _ _ _ b = v.done u in
      record {
        level = l;
        left = bs;
        rest = operator_of (kind_of nodes j) ++ put (right_place (kind_of nodes j)) r cs;
        part = subst (λ (n : ℕ). Part t rows nodes Expr m n l bs) (sym d.node) q;
        all = refl;
        wrote = wrote_then (wrote_as (ap (λ (n : ℕ). put n r cs) i) d.wrote) (wrote_as (ap operator_of a) w);
      }

  -- ---- arguments

  pub arguing_none : {m n c : ℕ} {bs : List ℕ} (room : List ℕ) (at : ℕ) → Part t rows nodes Args m n c bs
      → Arguing t rows nodes m bs n c room at room at
  arguing_none {bs = bs} room at q = record { us = bs; more = []; part = q; all = sym (append-nil bs); wrote = wrote_none room at }

  on_args : {m end left to r at : ℕ} {bs us more room room' room'' room''' : List ℕ} {b : Back} → 1 < left
      → Part t rows nodes Args m end left us
      → bs ≡ us ++ more → Wrote more room at room' to → WroteExpr t rows nodes end 0 room' to room'' b → Wrote (comma (left - 1)) room''
      b.at room''' r
      → Arguing t rows nodes m bs b.node (left - 1) room at room''' r
  on_args h p_none e v w u = absurd (omega (arith, h))
  on_args {m = m} {more = more} {b = b} h (p_arg {q = p} {c = c} {l = l} {us = us} {bs = cs} q x) e v w u =
      let d : Done p (put 0 l cs) _ _ _ b = w.done x in
      let i : c ≡ suc c - 1 = omega arith in
      record {
        us = us;
        more = comma c ++ (cs ++ more);
        part = subst (λ (k : ℕ). Part t rows nodes Args m b.node k us) i
            (subst (λ (n : ℕ). Part t rows nodes Args m n c us) (sym d.node) q);
        all = e ∙ append_assoc us (comma c ++ cs) more ∙ ap (λ (ws : List ℕ). us ++ ws) (append_assoc (comma c) cs more);
        wrote = wrote_then (wrote_then v (wrote_as (put_any l cs) d.wrote)) (wrote_as (ap comma (sym i)) u);
      }

  pub arguing_on : {m end left to r at : ℕ} {bs room room' room'' room''' : List ℕ} {b : Back} → 1 < left
      → Arguing t rows nodes m bs end left room at room' to
      → WroteExpr t rows nodes end 0 room' to room'' b → Wrote (comma (left - 1)) room'' b.at room''' r
      → Arguing t rows nodes m bs b.node (left - 1) room at room''' r
  arguing_on h a w u = on_args h a.part a.all a.wrote w u

  end_args : {m end left : ℕ} {us : List ℕ} → left ≤ 1 → Part t rows nodes Args m end left us → (end ≡ m) × (us ≡ [])
  end_args h p_none = (refl, refl)
  end_args h (p_arg q x) = absurd (some_args q h)
    where
      some_args : {m end c : ℕ} {us : List ℕ} → Part t rows nodes Args m end c us → suc c ≤ 1 → ⊥
      some_args p_none h = omega (arith, h)
      some_args (p_arg q x) h = omega (arith, h)

  pub arguing_all : {m end left to at : ℕ} {bs room room' : List ℕ} → left ≤ 1 → Arguing t rows nodes m bs end left room at room' to
      → Done m bs room at room' (record { node = end; at = to })
  arguing_all h a =
      let e = end_args h a.part in
      record { node = e.0; wrote = wrote_as (sym (a.all ∙ ap (λ (l : List ℕ). l ++ a.more) e.1)) a.wrote }

  -- ---- the way to the left

  pub no_expr : {m n l : ℕ} {bs : List ℕ} → n ≤ 0 → Part t rows nodes Expr m n l bs → ⊥
  no_expr h (p_var e s) = omega (arith, h)
  no_expr h (p_num e) = omega (arith, h)
  no_expr h (p_star e q) = omega (arith, h)
  no_expr h (p_field e q s) = omega (arith, h)
  no_expr h (p_call e q u c s) = omega (arith, h)
  no_expr h (p_bin x y q u) = omega (arith, h)

  level_of : {m j l : ℕ} {bs : List ℕ} → Part t rows nodes Expr m (suc j) l bs → node_level (kind_of nodes j) ≡ l
  unfolding node_level
  level_of (p_var e s) = rw e
  level_of (p_num e) = rw e
  level_of (p_star e q) = rw e
  level_of (p_field e q s) = rw e
  level_of (p_call e q u c s) = rw e
  level_of (p_bin x y q u) = refl

  pub spine_none : {m n l : ℕ} {bs : List ℕ} (p : ℕ) (room : List ℕ) (at : ℕ) → Part t rows nodes Expr m n l bs → Spine t rows nodes m
      (put p l bs) n p 0 room at room at
  unfolding repeated
  spine_none {l = l} {bs = bs} p room at q =
      record { level = l; left = bs; more = []; part = q; all = sym (append-nil (put p l bs)); wrote = wrote_none room at }

  pub spine_shut : {m end takes opens o to r at : ℕ} {full room room' room'' : List ℕ} → 0 < end
      → Spine t rows nodes m full end takes opens room at room' to
      → o ≡ pairs takes (node_level (kind_of nodes (end - 1))) → Wrote (repeated o (bytes ") ")) room' to room'' r
      → Shut t rows nodes m full (end - 1) (opens + o) room at room'' r
  spine_shut {m} {end} {takes} {opens} {o} h s e w =
      let i : end ≡ suc (end - 1) = omega arith in
      let q : Part t rows nodes Expr m (suc (end - 1)) s.level s.left = subst
      (λ (n : ℕ). Part t rows nodes Expr m n s.level s.left) i s.part in
      record {
        level = s.level;
        left = s.left;
        more = repeated o (bytes ") ") ++ s.more;
        part = q;
        all = s.all ∙ shut_bytes opens o s.left s.more takes s.level (e ∙ ap (pairs takes) (level_of q));
        wrote = wrote_then s.wrote w;
      }

  pub spine_leaf : {m j opens to r at : ℕ} {full room room' room'' room''' : List ℕ} {b : Back} → kind_of nodes j ≤ 3
      → Shut t rows nodes m full j opens room at room' to
      → WroteLeaf t rows nodes j room' to room'' b → Wrote (repeated opens (bytes "( ")) room'' b.at room''' r
      → Done m full room at room''' (record { node = b.node; at = r })
  spine_leaf h s v w =
      let d = v.done h s.part in
      record { node = d.node; wrote = wrote_as (sym s.all) (wrote_then (wrote_then s.wrote d.wrote) w) }

  pub spine_step : {m j k opens to at : ℕ} {full room room' room'' : List ℕ} {b : Back} → 4 ≤ kind_of nodes j → k ≡ node_level (kind_of nodes j)
      → Shut t rows nodes m full j opens room at room' to → WroteStep t rows nodes j room' to room'' b → Spine t rows nodes m full
      b.node k opens room at room'' b.at
  spine_step {j = j} {opens = opens} h e s v =
      let d = v.done h s.part in
      let p = put (node_level (kind_of nodes j)) d.level d.left in
      record {
        level = d.level;
        left = d.left;
        more = d.rest ++ s.more;
        part = d.part;
        all =
            s.all
            ∙ ap (λ (l : List ℕ). repeated opens (bytes "( ") ++ (l ++ s.more)) d.all
            ∙ ap (λ (l : List ℕ). repeated opens (bytes "( ") ++ l) (append_assoc p d.rest s.more)
            ∙ ap (λ (n : ℕ). repeated opens (bytes "( ") ++ (put n d.level d.left ++ (d.rest ++ s.more))) (sym e);
        wrote = wrote_then s.wrote d.wrote;
      }
