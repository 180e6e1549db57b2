-- The bytes of all nodes: lines, and what has lines in braces.
use Rattle.std.specs.Prelude.{◌≡◌, List, [], ◌++◌, ℕ, suc, ◌≤◌}
use Rattle.rules.specs.Text.{bytes}
use Rattle.rules.specs.Nodes.{NodeIf, NodeUnit, NodeEvent}
use Rattle.layout_back.specs.Back.{Wrote}
use Rattle.layout_back.specs.Words.{word_of, SpelledAs}
use Rattle.layout_expr.specs.declared.Back.{Back}
use Rattle.layout_expr.specs.Parts.{at_name, at_children, kind_of}
use Rattle.layout_expr.specs.Written.{Done}
use Rattle.layout_lines.specs.Lines.{Line}

pub data Sort : Type 0 where
  One Body Many : Sort

module _ (t rows nodes : List ℕ) where
  -- The nodes from m up to n are one thing (a line, an `if`, a unit, an event), the body of one, or so many things, and have these bytes.
  pub data Thing : Sort → (m n c : ℕ) → List ℕ → Type 0 where
    t_line : {m j : ℕ} {bs : List ℕ} → (kind_of nodes j ≡ NodeIf → ⊥) → (kind_of nodes j ≡ NodeUnit → ⊥) → (kind_of nodes j ≡ NodeEvent → ⊥)
        → Line t rows nodes m (suc j) bs → Thing One m (suc j) 0 bs
    t_unit : {m j : ℕ} {bs w : List ℕ} → kind_of nodes j ≡ NodeUnit → Thing Body m (suc j) 0 bs → SpelledAs t rows (word_of nodes j at_name) w
        → Thing One m (suc j) 0 (bytes "unit " ++ ((w ++ bytes " ") ++ bs))
    t_event : {m j : ℕ} {bs w : List ℕ} → kind_of nodes j ≡ NodeEvent → Thing Body m (suc j) 0 bs → SpelledAs t rows
        (word_of nodes j at_name) w
        → Thing One m (suc j) 0 (bytes "event " ++ ((w ++ bytes " ") ++ bs))
    t_if : {m j : ℕ} {bs w : List ℕ} → kind_of nodes j ≡ NodeIf → word_of nodes j at_children ≡ 2 → SpelledAs t rows (word_of nodes m at_name) w
        → Thing Body (suc m) j 0 bs → Thing One m (suc j) 0 (bytes "if guard ( " ++ ((w ++ bytes " ") ++ (bytes ") " ++ bs)))
    t_if_else : {m q j : ℕ} {bs cs w : List ℕ} → kind_of nodes j ≡ NodeIf → word_of nodes j at_children ≡ 3 → SpelledAs t rows
        (word_of nodes m at_name) w
        → Thing Body (suc m) q 0 bs → Thing Body q j 0 cs
        → Thing One m (suc j) 0 (bytes "if guard ( " ++ ((w ++ bytes " ") ++ (bytes ") " ++ (bs ++ (bytes "else " ++ cs)))))
    t_body : {m j c : ℕ} {bs : List ℕ} → word_of nodes j at_children ≡ c → Thing Many m j c bs
        → Thing Body m (suc j) 0 (bytes "{\n" ++ (bs ++ bytes "}\n"))
    t_none : {m : ℕ} → Thing Many m m 0 []
    t_more : {m q n c : ℕ} {bs cs : List ℕ} → Thing Many m q c bs → Thing One q n 0 cs → Thing Many m n (suc c) (bs ++ cs)

  -- the nodes up to n are a program's
  pub record Program (n : ℕ) (bs : List ℕ) : Type 0 where
    pub last : ℕ
    pub ends : n ≡ suc last
    pub things : Thing Many 0 last (word_of nodes last at_children) bs

  -- the thing, the body, or so many things, that end in front of node n
  pub record WroteThing (s : Sort) (n c : ℕ) (room : List ℕ) (at : ℕ) (room' : List ℕ) (r : Back) : Type 0 where
    pub low : r.node ≤ n
    pub done : {m : ℕ} {bs : List ℕ} → Thing s m n c bs → Done m bs room at room' r

  -- what a word stands in front of: a name and the body of node n - 1
  pub record WroteHeaded (word : List ℕ) (n : ℕ) (room : List ℕ) (at : ℕ) (room' : List ℕ) (r : Back) : Type 0 where
    pub low : r.node ≤ n
    pub done : {m j : ℕ} {bs w : List ℕ} → n ≡ suc j → Thing Body m (suc j) 0 bs → SpelledAs t rows (word_of nodes j at_name) w
        → Done m (word ++ ((w ++ bytes " ") ++ bs)) room at room' r

  -- an `if` whose first body ends in front of node n
  pub record WroteGuarded (n : ℕ) (room : List ℕ) (at : ℕ) (room' : List ℕ) (r : Back) : Type 0 where
    pub low : r.node ≤ n
    pub done : {m : ℕ} {bs w : List ℕ} → SpelledAs t rows (word_of nodes m at_name) w → Thing Body (suc m) n 0 bs
        → Done m (bytes "if guard ( " ++ ((w ++ bytes " ") ++ (bytes ") " ++ bs))) room at room' r

  -- the `if` of node j
  pub record WroteBranch (j : ℕ) (room : List ℕ) (at : ℕ) (room' : List ℕ) (r : Back) : Type 0 where
    pub low : r.node ≤ j
    pub done : {m : ℕ} {bs : List ℕ} → kind_of nodes j ≡ NodeIf → Thing One m (suc j) 0 bs → Done m bs room at room' r

  -- a program whose nodes end in front of node n
  pub record WroteProgram (n : ℕ) (room : List ℕ) (at : ℕ) (room' : List ℕ) (r : ℕ) : Type 0 where
    pub done : {bs : List ℕ} → Program n bs → Wrote bs room at room' r
