-- What is read of an expression's rows, from its parts: one law for each constructor of the grammar.
use mathlib.Core.Path.{◌≡◌, refl, subst}
use mathlib.Core.Bool.{true}
use mathlib.Core.List.{List}
use Prim.Native.Nat.{ℕ, suc, ◌+◌}
use Rattle.rules.specs.Kinds.{LParen, RParen, Dot, Comma, Star, Identifier, Number}
use Rattle.rules.specs.Tree.{Tok, Tree, bin, yield, is_variable}
use Rattle.rules.specs.Parse.{is_add, is_shift, is_mul, kind_at}
use Rattle.rules.specs.Grammar.{Nt, Add, Shift, Mul, Unary, Basic, Args, Is, i_num, i_var, i_group, i_field, i_bare, i_call, i_one, i_more, i_prim, i_star, i_unary, i_mul, i_lone, i_shift, i_up, i_add}
use Rattle.theory_grammar.proofs.Leads.{add_mark, shift_mark, mul_mark}
use Rattle.theory_grammar.proofs.Runs.{is_mark, row, name_row, value_row, ◌▸◌}
use Rattle.parse_pass_expr.specs.Seen.{Read}
use Rattle.parse_pass_expr.proofs.Built.{built, rows_of, read_as}

module _ {ts : List Tok} {d i : ℕ} where
  -- the same rows, up to a row that is written otherwise
  pub read_to : {N : Nt} {j k : ℕ} → j ≡ k → Read ts N d i j → Read ts N d i k
  read_to {N} e r = subst (λ (x : ℕ). Read ts N d i x) e r

  -- ---- the same tree, of the next nonterminal

  pub prim : {j : ℕ} → Read ts Basic d i j → Read ts Unary d i j
  prim r = read_as (λ t h. i_prim h) r

  pub unary : {j : ℕ} → Read ts Unary d i j → Read ts Mul d i j
  unary r = read_as (λ t h. i_unary h) r

  pub lone : {j : ℕ} → Read ts Mul d i j → Read ts Shift d i j
  lone r = read_as (λ t h. i_lone h) r

  pub up : {j : ℕ} → Read ts Shift d i j → Read ts Add d i j
  up r = read_as (λ t h. i_up h) r

  -- ---- numbers, variables, what is read of them

  pub number : kind_at ts i ≡ Number → Read ts Basic d i (i + 1)
  unfolding yield
  number e = built i_num (value_row ts i e)

  pub variable : kind_at ts i ≡ Identifier → Read ts Basic d i (i + 1)
  unfolding yield
  variable e = built i_var (name_row ts i e)

  pub field : {j : ℕ} → Read ts Basic d i j → kind_at ts j ≡ Dot → kind_at ts (j + 1) ≡ Identifier → Read ts Basic d i (j + 1 + 1)
  unfolding yield
  field {j} r e f = built (i_field r.is) (rows_of r ▸ row ts j Dot e refl ▸ name_row ts (j + 1) f)

  -- a method of a variable, with no arguments
  pub bare : kind_at ts i ≡ Identifier → kind_at ts (i + 1) ≡ Dot → kind_at ts (i + 1 + 1) ≡ Identifier → kind_at ts (i + 1 + 1 + 1) ≡ LParen
      → kind_at ts (i + 1 + 1 + 1 + 1) ≡ RParen → Read ts Basic d i (i + 1 + 1 + 1 + 1 + 1)
  unfolding yield is_variable
  bare v e f h c =
      built (i_bare i_var (λ _. refl))
      (name_row ts i v ▸ row ts (i + 1) Dot e refl ▸ name_row ts (i + 1 + 1) f ▸ row ts (i + 1 + 1 + 1) LParen h refl
      ▸ row ts (i + 1 + 1 + 1 + 1) RParen c refl)

-- ---- what opens a construct: one more is open than in it

module _ {ts : List Tok} {d e i j : ℕ} (q : suc e ≡ d) where
  opened : {N : Nt} → Read ts N (suc e) i j → Read ts N d i j
  opened {N} r = subst (λ (x : ℕ). Read ts N x i j) q r

module _ {ts : List Tok} {d e i j : ℕ} (q : suc e ≡ d) where
  pub call : kind_at ts i ≡ Identifier → kind_at ts (i + 1) ≡ Dot → kind_at ts (i + 1 + 1) ≡ Identifier → kind_at ts (i + 1 + 1 + 1) ≡ LParen
      → Read ts Args e (i + 1 + 1 + 1 + 1) j → kind_at ts j ≡ RParen → Read ts Basic d i (j + 1)
  unfolding yield is_variable
  call v k f h a c =
      opened q (built (i_call i_var (λ _. refl) a.is)
      (name_row ts i v ▸ row ts (i + 1) Dot k refl ▸ name_row ts (i + 1 + 1) f ▸ row ts (i + 1 + 1 + 1) LParen h refl ▸ rows_of a
      ▸ row ts j RParen c refl))

  pub group : kind_at ts i ≡ LParen → Read ts Add e (i + 1) j → kind_at ts j ≡ RParen → Read ts Basic d i (j + 1)
  unfolding yield
  group k r f = opened q (built (i_group r.is) (row ts i LParen k refl ▸ rows_of r ▸ row ts j RParen f refl))

  pub star : kind_at ts i ≡ Star → Read ts Unary e (i + 1) j → Read ts Unary d i j
  unfolding yield
  star k r = opened q (built (i_star r.is) (row ts i Star k refl ▸ rows_of r))

-- ---- lists: the first, and one more behind the row j

module _ {ts : List Tok} {d i j : ℕ} where
  pub one : Read ts Add d i j → Read ts Args d i j
  unfolding yield
  one r = built (i_one r.is) (rows_of r)

  module _ {k : ℕ} where
    pub more : Read ts Args d i j → kind_at ts j ≡ Comma → Read ts Add d (j + 1) k → Read ts Args d i k
    unfolding yield
    more a e r = built (i_more a.is r.is) (rows_of a ▸ row ts j Comma e refl ▸ rows_of r)

    -- operators: what the kind of row j joins
    joined : {N M : Nt} → ((l r : Tree) → Is true N d l → Is true M d r → Is true N d (bin (kind_at ts j) l r)) → is_mark (kind_at ts j) ≡ true
        → Read ts N d i j → Read ts M d (j + 1) k → Read ts N d i k
    unfolding yield
    joined join m l r = built (join l.tree r.tree l.is r.is) (rows_of l ▸ row ts j (kind_at ts j) refl m ▸ rows_of r)

    pub mul : Read ts Mul d i j → is_mul (kind_at ts j) ≡ true → Read ts Unary d (j + 1) k → Read ts Mul d i k
    mul l b r = joined (λ t u p q. i_mul p b q) (mul_mark (kind_at ts j) b) l r

    pub shift : Read ts Shift d i j → is_shift (kind_at ts j) ≡ true → Read ts Mul d (j + 1) k → Read ts Shift d i k
    shift l b r = joined (λ t u p q. i_shift p b q) (shift_mark (kind_at ts j) b) l r

    pub add : Read ts Add d i j → is_add (kind_at ts j) ≡ true → Read ts Mul d (j + 1) k → Read ts Add d i k
    add l b r = joined (λ t u p q. i_add p b q) (add_mark (kind_at ts j) b) l r
