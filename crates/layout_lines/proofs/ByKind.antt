-- Laws of what is written of a line, kind by kind.
use mathlib.Core.Path.{◌≡◌, refl, sym, ap, subst}
use mathlib.Core.List.{List, ◌++◌}
use Prim.Native.Nat.{ℕ, suc, ◌≤◌, ◌<◌}
use native.Mathlib.Omega.{arith}
use Rattle.rules.specs.Text.{bytes}
use Rattle.layout_back.specs.Back.{Wrote}
use Rattle.layout_back.specs.Words.{word_of, SpelledAs}
use Rattle.layout_back.proofs.Back.{wrote_then, wrote_as}
use Rattle.layout_signs.proofs.Signs.{put_any}
use Rattle.layout_words.specs.Words.{decl_word, assign_sign, text_word, field_words, map_lines}
use Rattle.layout_expr.specs.declared.Back.{Back}
use Rattle.layout_expr.specs.Parts.{kind_of, Expr, Part}
use Rattle.layout_expr.specs.Written.{Done, WroteExpr}
use Rattle.layout_expr.proofs.Ways.{Named}
use Rattle.layout_lines.specs.Lines.{map_at, field_at, Line, l_plain, l_assign, l_decl, l_return, l_text, l_field, l_map}

module _ {t rows nodes : List ℕ} where
  -- an expression at a place that takes everything
  pub anywhere : {m n l at : ℕ} {bs room room' : List ℕ} {b : Back} → WroteExpr t rows nodes n 0 room at room' b
      → Part t rows nodes Expr m n l bs
      → Done m bs room at room' b
  anywhere {l = l} {bs = bs} w q = let d = w.done q in record { node = d.node; wrote = wrote_as (put_any l bs) d.wrote }

  -- ---- statements

  pub plain_done : {m j a at : ℕ} {bs room room₁ room₂ : List ℕ} {b : Back} → kind_of nodes j ≡ 13 → Wrote (bytes ";\n") room at room₁ a
      → WroteExpr t rows nodes j 0 room₁ a room₂ b → Line t rows nodes m (suc j) bs → Done m bs room at room₂ b
  plain_done k v w (l_plain e q) = let d = anywhere w q in record { node = d.node; wrote = wrote_then v d.wrote }
  plain_done k v w (l_assign x y q u) = absurd (omega (arith, k, x))
  plain_done k v w (l_decl x y q s) = absurd (omega (arith, k, x))
  plain_done k v w (l_return e q) = absurd (omega (arith, k, e))
  plain_done k v w (l_text x y s) = absurd (omega (arith, k, x))
  plain_done k v w (l_field e s) = absurd (omega (arith, k, e))
  plain_done k v w (l_map e s) = absurd (omega (arith, k, e))

  pub return_done : {m j a r at : ℕ} {bs room room₁ room₂ room₃ : List ℕ} {b : Back} → kind_of nodes j ≡ 19 → Wrote
      (bytes ";\n") room at room₁ a
      → WroteExpr t rows nodes j 0 room₁ a room₂ b → Wrote (bytes "return ") room₂ b.at room₃ r → Line t rows nodes m (suc j) bs
      → Done m bs room at room₃ (record { node = b.node; at = r })
  return_done k v w u (l_plain e q) = absurd (omega (arith, k, e))
  return_done k v w u (l_assign x y q s) = absurd (omega (arith, k, y))
  return_done k v w u (l_decl x y q s) = absurd (omega (arith, k, y))
  return_done k v w u (l_return e q) = let d = anywhere w q in record { node = d.node; wrote = wrote_then (wrote_then v d.wrote) u }
  return_done k v w u (l_text x y s) = absurd (omega (arith, k, x))
  return_done k v w u (l_field e s) = absurd (omega (arith, k, e))
  return_done k v w u (l_map e s) = absurd (omega (arith, k, e))

  pub assign_done : {m j k a c at : ℕ} {bs room room₁ room₂ room₃ room₄ : List ℕ} {b d : Back} → (kind_of nodes j ≡ 13 → ⊥)
      → kind_of nodes j ≤ 15
      → k ≡ kind_of nodes j → Wrote (bytes ";\n") room at room₁ a → WroteExpr t rows nodes j 0 room₁ a room₂ b
      → Wrote (assign_sign k) room₂ b.at room₃ c → WroteExpr t rows nodes b.node 0 room₃ c room₄ d → Line t rows nodes m (suc j) bs
      → Done m bs room at room₄ d
  assign_done g h i v w u z (l_plain e q) = absurd (g e)
  assign_done {m = m} g h i v w u z (l_assign {l = l} {bs = bs} x y q s) =
      let d = anywhere w s in
      let f = anywhere z (subst (λ (n : ℕ). Part t rows nodes Expr m n l bs) (sym d.node) q) in
      record { node = f.node; wrote = wrote_then (wrote_then (wrote_then v d.wrote) (wrote_as (ap assign_sign i) u)) f.wrote }
  assign_done g h i v w u z (l_decl x y q s) = absurd (omega (arith, h, x))
  assign_done g h i v w u z (l_return e q) = absurd (omega (arith, h, e))
  assign_done g h i v w u z (l_text x y s) = absurd (omega (arith, h, x))
  assign_done g h i v w u z (l_field e s) = absurd (omega (arith, h, e))
  assign_done g h i v w u z (l_map e s) = absurd (omega (arith, h, e))

  pub decl_done : {m j k row a c d r at : ℕ} {bs room room₁ room₂ room₃ room₄ room₅ : List ℕ} {b : Back} → (kind_of nodes j ≡ 13 → ⊥)
      → (kind_of nodes j ≡ 19 → ⊥) → 15 < kind_of nodes j → kind_of nodes j ≤ 19 → k ≡ kind_of nodes j → row ≡ word_of nodes j 2
      → Wrote (bytes ";\n") room at room₁ a → WroteExpr t rows nodes j 0 room₁ a room₂ b
      → Wrote (bytes "= ") room₂ b.at room₃ c → Named t rows row room₃ c room₄ d → Wrote (decl_word k) room₄ d room₅ r
      → Line t rows nodes m (suc j) bs
      → Done m bs room at room₅ (record { node = b.node; at = r })
  decl_done g h x y i o v w u f z (l_plain e q) = absurd (g e)
  decl_done g h x y i o v w u f z (l_assign p n q s) = absurd (omega (arith, x, n))
  decl_done g h x y i o v w u f z (l_decl {w = l} p n q s) =
      let d = anywhere w q in
      record {
        node = d.node;
        wrote = wrote_then (wrote_then (wrote_then (wrote_then v d.wrote) u)
            (f l (subst (λ (r : ℕ). SpelledAs t rows r l) (sym o) s))) (wrote_as (ap decl_word i) z);
      }
  decl_done g h x y i o v w u f z (l_return e q) = absurd (h e)
  decl_done g h x y i o v w u f z (l_text p n s) = absurd (omega (arith, y, p))
  decl_done g h x y i o v w u f z (l_field e s) = absurd (omega (arith, y, e))
  decl_done g h x y i o v w u f z (l_map e s) = absurd (omega (arith, y, e))

  -- ---- lines of one node

  pub field_done : {m j r at : ℕ} {bs room room' : List ℕ} → kind_of nodes j ≡ 26
      → ((w : List ℕ) → SpelledAs t rows (word_of nodes j 2) w → Wrote ((w ++ bytes " ") ++ field_at nodes j) room at room' r)
      → Line t rows nodes m (suc j) bs → Done m bs room at room' (record { node = j; at = r })
  field_done k f (l_plain e q) = absurd (omega (arith, k, e))
  field_done k f (l_assign x y q s) = absurd (omega (arith, k, y))
  field_done k f (l_decl x y q s) = absurd (omega (arith, k, y))
  field_done k f (l_return e q) = absurd (omega (arith, k, e))
  field_done k f (l_text x y s) = absurd (omega (arith, k, y))
  field_done k f (l_field {w = w} e s) = record { node = refl; wrote = f w s }
  field_done k f (l_map e s) = absurd (omega (arith, k, e))

  pub map_done : {m j r at : ℕ} {bs room room' : List ℕ} → kind_of nodes j ≡ 28
      → ((w : List ℕ) → SpelledAs t rows (word_of nodes j 2) w
      → Wrote (bytes "map " ++ ((w ++ bytes " ") ++ (bytes "{\n" ++ (map_at nodes j ++ bytes "}\n")))) room at room' r)
      → Line t rows nodes m (suc j) bs → Done m bs room at room' (record { node = j; at = r })
  map_done k f (l_plain e q) = absurd (omega (arith, k, e))
  map_done k f (l_assign x y q s) = absurd (omega (arith, k, y))
  map_done k f (l_decl x y q s) = absurd (omega (arith, k, y))
  map_done k f (l_return e q) = absurd (omega (arith, k, e))
  map_done k f (l_text x y s) = absurd (omega (arith, k, y))
  map_done k f (l_field e s) = absurd (omega (arith, k, e))
  map_done k f (l_map {w = w} e s) = record { node = refl; wrote = f w s }

  pub text_done : {m j r at : ℕ} {bs room room' : List ℕ} → 19 < kind_of nodes j → (kind_of nodes j ≡ 26 → ⊥) → (kind_of nodes j ≡ 28 → ⊥)
      → ((w : List ℕ) → SpelledAs t rows (word_of nodes j 2) w → Wrote
      (text_word (kind_of nodes j) ++ ((w ++ bytes " ") ++ bytes ";\n")) room at room' r)
      → Line t rows nodes m (suc j) bs → Done m bs room at room' (record { node = j; at = r })
  text_done x g h f (l_plain e q) = absurd (omega (arith, x, e))
  text_done x g h f (l_assign p n q s) = absurd (omega (arith, x, n))
  text_done x g h f (l_decl p n q s) = absurd (omega (arith, x, n))
  text_done x g h f (l_return e q) = absurd (omega (arith, x, e))
  text_done x g h f (l_text {w = w} p n s) = record { node = refl; wrote = f w s }
  text_done x g h f (l_field e s) = absurd (g e)
  text_done x g h f (l_map e s) = absurd (h e)

-- a row that a word tells
pub spelled_at : {t rows w : List ℕ} {i j : ℕ} → i ≡ j → SpelledAs t rows j w → SpelledAs t rows i w
spelled_at {t} {rows} {w} e s = subst (λ (r : ℕ). SpelledAs t rows r w) (sym e) s

-- facts that words tell
pub fields_are : {a b c a' b' c' : ℕ} → a ≡ a' → b ≡ b' → c ≡ c' → field_words a b c ≡ field_words a' b' c'
fields_are e f g = cc

pub lines_are : {a b c d a' b' c' d' : ℕ} → a ≡ a' → b ≡ b' → c ≡ c' → d ≡ d' → map_lines a b c d ≡ map_lines a' b' c' d'
lines_are e f g h = cc
