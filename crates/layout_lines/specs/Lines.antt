-- The bytes of nodes that have no braces of their own: statements but `if`, sections and licences, fields of events, and maps.
use Rattle.std.specs.Prelude.{◌≡◌, List, ◌++◌, ℕ, suc, ◌≤◌}
use Rattle.rules.specs.Text.{bytes}
use Rattle.rules.specs.Nodes.{NodeExpression, NodeAssign, NodeAddAssign, NodeReg, NodeHeap, NodeReturn, NodeSection, NodeLicense, NodeEventField, NodeMap}
use Rattle.layout_back.specs.Words.{word_of, SpelledAs}
use Rattle.layout_words.specs.Words.{decl_word, assign_sign, text_word, map_lines, field_words}
use Rattle.layout_expr.specs.declared.Back.{Back}
use Rattle.layout_expr.specs.Parts.{at_name, at_fact0, at_fact1, at_fact2, at_fact3, kind_of, Expr, Part}
use Rattle.layout_expr.specs.Written.{Done}

-- what stands in a map's braces, and behind the name of an event's field, by the facts of node j
abbrev pub map_at : List ℕ → ℕ → List ℕ
map_at nodes j = map_lines (word_of nodes j at_fact0) (word_of nodes j at_fact1) (word_of nodes j at_fact2) (word_of nodes j at_fact3)

abbrev pub field_at : List ℕ → ℕ → List ℕ
field_at nodes j = field_words (word_of nodes j at_fact0) (word_of nodes j at_fact1) (word_of nodes j at_fact2)

module _ (t rows nodes : List ℕ) where
  -- the nodes from m up to n are a line, or a map's lines, and have these bytes
  pub data Line : (m n : ℕ) → List ℕ → Type 0 where
    l_plain : {m j l : ℕ} {bs : List ℕ} → kind_of nodes j ≡ NodeExpression → Part t rows nodes Expr m j l bs → Line m (suc j)
        (bs ++ bytes ";\n")
    l_assign : {m q j l r : ℕ} {bs cs : List ℕ} → NodeAssign ≤ kind_of nodes j → kind_of nodes j ≤ NodeAddAssign
        → Part t rows nodes Expr m q l bs
        → Part t rows nodes Expr q j r cs → Line m (suc j) (bs ++ (assign_sign (kind_of nodes j) ++ (cs ++ bytes ";\n")))
    l_decl : {m j l : ℕ} {bs w : List ℕ} → NodeReg ≤ kind_of nodes j → kind_of nodes j ≤ NodeHeap → Part t rows nodes Expr m j l bs
        → SpelledAs t rows (word_of nodes j at_name) w
        → Line m (suc j) (decl_word (kind_of nodes j) ++ ((w ++ bytes " ") ++ (bytes "= " ++ (bs ++ bytes ";\n"))))
    l_return : {m j l : ℕ} {bs : List ℕ} → kind_of nodes j ≡ NodeReturn → Part t rows nodes Expr m j l bs
        → Line m (suc j) (bytes "return " ++ (bs ++ bytes ";\n"))
    l_text : {j : ℕ} {w : List ℕ} → NodeSection ≤ kind_of nodes j → kind_of nodes j ≤ NodeLicense → SpelledAs t rows (word_of nodes j at_name) w
        → Line j (suc j) (text_word (kind_of nodes j) ++ ((w ++ bytes " ") ++ bytes ";\n"))
    l_field : {j : ℕ} {w : List ℕ} → kind_of nodes j ≡ NodeEventField → SpelledAs t rows (word_of nodes j at_name) w
        → Line j (suc j) ((w ++ bytes " ") ++ field_at nodes j)
    l_map : {j : ℕ} {w : List ℕ} → kind_of nodes j ≡ NodeMap → SpelledAs t rows (word_of nodes j at_name) w
        → Line j (suc j) (bytes "map " ++ ((w ++ bytes " ") ++ (bytes "{\n" ++ (map_at nodes j ++ bytes "}\n"))))

  -- the line of node j
  pub record WroteLine (j : ℕ) (room : List ℕ) (at : ℕ) (room' : List ℕ) (r : Back) : Type 0 where
    pub low : r.node ≤ j
    pub done : {m : ℕ} {bs : List ℕ} → Line m (suc j) bs → Done m bs room at room' r

  -- the statement of node j
  pub record WroteStatement (j : ℕ) (room : List ℕ) (at : ℕ) (room' : List ℕ) (r : Back) : Type 0 where
    pub low : r.node ≤ j
    pub done : {m : ℕ} {bs : List ℕ} → kind_of nodes j ≤ NodeReturn → Line m (suc j) bs → Done m bs room at room' r
