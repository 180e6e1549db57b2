-- What is seen of a statement, an item and a unit, from what is seen of their parts: a law for each way to build one.
use mathlib.Core.Path.{◌≡◌, refl, sym, subst}
use mathlib.Core.Bool.{true, false}
use mathlib.Core.List.{List, [], ◌∷◌, ◌++◌}
use Prim.Native.Nat.{ℕ, suc, ◌+◌, ◌≤◌, ◌<◌}
use Rattle.std.specs.Prelude.{Option, Some, None, MatchOption, ◌≢◌}
use native.Mathlib.Omega.{arith}
use lib.Dec.{eqb}
use Rattle.rules.specs.Kinds.{KeywordUnit, KeywordReturn, KeywordIf, KeywordElse, KeywordGuard, Identifier, StringLiteral, Eof, LBrace, RBrace, LParen, RParen, Semicolon, Equals}
use Rattle.rules.specs.Tree.{Tok, sign, name, spelling_of, Tree, none, seq, yield}
use Rattle.rules.specs.Parse.{is_assign, is_declaring, is_text, tok_at}
use Rattle.rules.specs.Grammar.{Nt, Add, Stmt, Stmts, Item, Items, Decl, Is, i_decl, i_ret, i_plain, i_assign, i_if, i_if_else, i_stmt, i_text, i_unit}
use Rattle.theory_grammar.proofs.Leads.{assign_mark, declaring_mark, text_mark}
use Rattle.theory_grammar.proofs.Runs.{Run, is_mark, run_none, row, name_row, string_row, ◌▸◌}
use Rattle.parse_nodes.specs.Post.{Tells}
use Rattle.parse_pass_expr.specs.Seen.{kind_in, Read, Looks, Seen, Sees}
use Rattle.parse_pass_expr.proofs.Built.{built, rows_of, read_as, told_kind, row_behind}
use Rattle.parse_pass_units.specs.Closed.{SeenHead, SeenBody, SeesBody}

-- the last row is Eof
abbrev pub Shut : List ℕ → ℕ → Type 0
Shut ws n = (j : ℕ) → suc j ≡ n → kind_in ws j ≡ Eof

-- what is asked at one row, and so at another, and with other constructs left
pub looking : {ws : List ℕ} {n i d : ℕ} → Looks ws n i d → (j : ℕ) → j < n → Looks ws n j d
looking p j h = record { lent = p.lent; inside = h; short = p.short; closed = p.closed; nest = p.nest }

pub left_with : {ws : List ℕ} {n i d : ℕ} → Looks ws n i d → (e : ℕ) → e ≤ 64 → Looks ws n i e
left_with p e h = record { lent = p.lent; inside = p.inside; short = p.short; closed = p.closed; nest = h }

-- behind a row of a kind, which is not Eof, stands another
pub past : {ws : List ℕ} {n i d : ℕ} → Looks ws n i d → (j k : ℕ) {r : ℕ} → j < n → kind_in ws j ≡ k → r ≡ j + 1 → eqb k Eof ≡ false → r < n
past {ws} {n} p j k h e q b = omega (arith, row_behind ws n j k p.closed h e b)

-- the part of a list that is read between rows i and j
pub record Listed (N : Nt) (d : ℕ) (ws : List ℕ) (n i j : ℕ) : Type 0 where
  pub up : i ≤ j
  pub inside : j < n
  pub read : (ts : List Tok) → Tells ts ws n → Read ts N d i j

module _ (Ns : Nt) (d : ℕ) (ws : List ℕ) (n : ℕ) where
  -- nothing yet
  pub list_none : (i : ℕ) → Is true Ns d none → i < n → Listed Ns d ws n i i
  unfolding yield
  list_none i nil h = record { up = omega arith; inside = h; read = λ ts tl. built nil (run_none ts i (omega (arith, tl.long))) }

  -- one more
  pub list_more : (M : Nt) (i j k : ℕ) → ((l s : Tree) → Is true Ns d l → Is true M d s → Is true Ns d (seq l s)) → Listed Ns d ws n i j
      → Seen M d ws n j k → Listed Ns d ws n i k
  unfolding yield
  list_more M i j k join l s = record {
    up = omega (arith, l.up, s.up);
    inside = s.inside;
    read = λ ts tl.
        let a = l.read ts tl in
        let b = s.read ts tl in
        built (join a.tree b.tree a.is b.is) (rows_of a ▸ rows_of b);
  }

-- the same run, written from another row
from : {ts xs : List Tok} {i k j : ℕ} → Run ts k xs j → i ≡ k → Run ts i xs j
from {ts} {xs} {j = j} r e = subst (λ (x : ℕ). Run ts x xs j) (sym e) r

-- the same statements, with as many constructs left
as_deep : {ts : List Tok} {N : Nt} {d e i j : ℕ} → Read ts N d i j → d ≡ e → Read ts N e i j
as_deep {ts} {N} {i = i} {j = j} r e = subst (λ (x : ℕ). Read ts N x i j) e r

module _ (ws : List ℕ) (n : ℕ) where
  -- rows by their kinds, for the tokens that they tell
  module _ {ts : List Tok} (tl : Tells ts ws n) where
    mark : (i k : ℕ) → i < n → kind_in ws i ≡ k → is_mark k ≡ true → Run ts i (sign k ∷ []) (i + 1)
    mark i k h e b = row ts i k (told_kind ws i tl h e) b

    word : (i : ℕ) → i < n → kind_in ws i ≡ Identifier → Run ts i (name (spelling_of (tok_at ts i)) ∷ []) (i + 1)
    word i h e = name_row ts i (told_kind ws i tl h e)

    -- `if guard ( name )`
    head_run : (i o : ℕ) → kind_in ws i ≡ KeywordIf → SeenHead ws n i o
        → Run ts i (sign KeywordIf ∷ sign KeywordGuard ∷ sign LParen ∷ name (spelling_of (tok_at ts (i + 3))) ∷ sign RParen ∷ []) o
    head_run i o e h =
        let l : i + 5 < n = omega (arith, h.next, h.inside) in
        mark i KeywordIf (omega arith) e refl
        ▸ mark (i + 1) KeywordGuard (omega arith) h.guard refl
        ▸ from (mark (i + 2) LParen (omega arith) h.paren refl) (omega arith)
        ▸ from (word (i + 3) (omega arith) h.name) (omega arith)
        ▸ from (mark (i + 4) RParen (omega arith) h.close refl) (omega arith)
        ▸ from (run_none ts o (omega (arith, h.inside, tl.long))) (omega (arith, h.next))

    -- a body, with its braces
    body_run : (d i j : ℕ) (b : SeenBody d ws n i j) → Run ts i (sign LBrace ∷ (yield (b.read ts tl).tree ++ (sign RBrace ∷ []))) j
    body_run d i j b =
        let l : b.last < n = omega (arith, b.next, b.inside) in
        mark i LBrace (omega (arith, b.up, b.inside)) b.brace refl
        ▸ rows_of (b.read ts tl)
        ▸ subst (λ (x : ℕ). Run ts b.last (sign RBrace ∷ []) x) (sym b.next) (mark b.last RBrace l b.close refl)

  -- `if` without `else`
  pub ifs : (d i o j : ℕ) → kind_in ws i ≡ KeywordIf → SeenHead ws n i o → SeenBody d ws n o j → Seen Stmt d ws n i j
  unfolding yield
  ifs d i o j e h b = record {
    up = omega (arith, h.next, b.up);
    inside = b.inside;
    read = λ ts tl.
        let r = body_run tl d o j b in
        as_deep (built (i_if (b.read ts tl).is) (head_run tl i o e h ▸ r ▸ run_none ts j r.inside)) (sym b.deep);
  }

  -- `if` with `else`
  pub if_elses : (d i o j k : ℕ) → kind_in ws i ≡ KeywordIf → SeenHead ws n i o → SeenBody d ws n o j
      → kind_in ws j ≡ KeywordElse → SeenBody d ws n (j + 1) k → Seen Stmt d ws n i k
  unfolding yield
  if_elses d i o j k e h b f s = record {
    up = omega (arith, h.next, b.up, s.up);
    inside = s.inside;
    read = λ ts tl.
        let q : s.under ≡ b.under = omega (arith, b.deep, s.deep) in
        let t : Tree = (s.read ts tl).tree in
        as_deep
        (built (i_if_else (b.read ts tl).is (subst (λ (x : ℕ). Is true Stmts x t) q (s.read ts tl).is))
        (head_run tl i o e h ▸ body_run tl d o j b ▸ mark tl j KeywordElse b.inside f refl ▸ body_run tl d (j + 1) k s))
        (sym b.deep);
  }

  -- the same, if the body behind `else` is told
  pub else_told : (d i o j : ℕ) (r : Option ℕ) → kind_in ws i ≡ KeywordIf → SeenHead ws n i o → SeenBody d ws n o j
      → kind_in ws j ≡ KeywordElse → SeesBody d ws n (j + 1) r → Sees Stmt d ws n i r
  else_told d i o j None e h b f s = tt
  else_told d i o j (Some k) e h b f s = if_elses d i o j k e h b f s

  module _ (shut : Shut ws n) where
    -- behind what is seen and the `;` behind it another row stands
    ended : {N : Nt} {d i j : ℕ} → Seen N d ws n i j → kind_in ws j ≡ Semicolon → j + 1 < n
    ended {j = j} s c = row_behind ws n j Semicolon shut s.inside c refl

    -- `reg`, `imm` or `heap`, name `=` expression `;`
    pub declares : (d i j : ℕ) {v : ℕ} → v ≡ i + 3 → is_declaring (kind_in ws i) ≡ true → kind_in ws (i + 1) ≡ Identifier → kind_in ws (i + 1 + 1) ≡ Equals
        → Seen Add d ws n v j → kind_in ws j ≡ Semicolon → Seen Stmt d ws n i (j + 1)
    unfolding yield
    declares d i j {v} q b e f s c = record {
      up = omega (arith, s.up);
      inside = ended s c;
      read = λ ts tl.
          let l : i + 3 < n = omega (arith, s.up, s.inside) in
          built (i_decl b (s.read ts tl).is)
          (mark tl i (kind_in ws i) (omega arith) refl (declaring_mark (kind_in ws i) b)
          ▸ word tl (i + 1) (omega arith) e
          ▸ mark tl (i + 1 + 1) Equals (omega arith) f refl
          ▸ from (rows_of (s.read ts tl)) (omega arith)
          ▸ mark tl j Semicolon s.inside c refl);
    }

    -- `return` expression `;`
    pub gives : (d i j : ℕ) → kind_in ws i ≡ KeywordReturn → Seen Add d ws n (i + 1) j → kind_in ws j ≡ Semicolon → Seen Stmt d ws n i (j + 1)
    unfolding yield
    gives d i j e s c = record {
      up = omega (arith, s.up);
      inside = ended s c;
      read = λ ts tl.
          built (i_ret (s.read ts tl).is)
          (mark tl i KeywordReturn (omega (arith, s.up, s.inside)) e refl ▸ rows_of (s.read ts tl)
          ▸ mark tl j Semicolon s.inside c refl);
    }

    -- expression `;`
    pub plains : (d i j : ℕ) → Seen Add d ws n i j → kind_in ws j ≡ Semicolon → Seen Stmt d ws n i (j + 1)
    unfolding yield
    plains d i j s c = record {
      up = omega (arith, s.up);
      inside = ended s c;
      read = λ ts tl. built (i_plain (s.read ts tl).is) (rows_of (s.read ts tl) ▸ mark tl j Semicolon s.inside c refl);
    }

    -- expression, `=` or `+=`, expression `;`
    pub assigns : (d i j k : ℕ) → Seen Add d ws n i j → is_assign (kind_in ws j) ≡ true → Seen Add d ws n (j + 1) k → kind_in ws k ≡ Semicolon
        → Seen Stmt d ws n i (k + 1)
    unfolding yield
    assigns d i j k s b u c = record {
      up = omega (arith, s.up, u.up);
      inside = ended u c;
      read = λ ts tl.
          built (i_assign b (s.read ts tl).is (u.read ts tl).is)
          (rows_of (s.read ts tl) ▸ mark tl j (kind_in ws j) s.inside refl (assign_mark (kind_in ws j) b)
          ▸ rows_of (u.read ts tl) ▸ mark tl k Semicolon u.inside c refl);
    }

    -- `section` or `license`, string, and `;` if row e is one
    pub texts : (d i e : ℕ) (o : Option ℕ) → e ≡ i + 1 + 1 → e < n → is_text (kind_in ws i) ≡ true → kind_in ws (i + 1) ≡ StringLiteral
        → MatchOption o (kind_in ws e ≢ Semicolon) (λ r. (kind_in ws e ≡ Semicolon) × (r ≡ e + 1)) → Sees Item d ws n i o
    unfolding yield
    texts d i e None q l b s c = tt
    texts d i e (Some r) q l b s c =
        let h : r < n = omega (arith, row_behind ws n e Semicolon shut l c.0 refl, c.1) in
        record {
          up = omega (arith, c.1);
          inside = h;
          read = λ ts tl.
              built (i_text b)
              (mark tl i (kind_in ws i) (omega arith) refl (text_mark (kind_in ws i) b)
              ▸ string_row ts (i + 1) (told_kind ws (i + 1) tl (omega arith) s)
              ▸ from (mark tl e Semicolon l c.0 refl) (omega arith)
              ▸ from (run_none ts r (omega (arith, h, tl.long))) (omega (arith, c.1)));
        }

    -- the braces around statements
    pub braces : (d e i j : ℕ) {a : ℕ} → a ≡ i + 1 → d ≡ suc e → kind_in ws i ≡ LBrace → Listed Stmts e ws n a j
        → kind_in ws j ≡ RBrace → SeenBody d ws n i (j + 1)
    braces d e i j {a} p q b l c = record {
      up = omega (arith, l.up);
      inside = row_behind ws n j RBrace shut l.inside c refl;
      brace = b;
      under = e;
      deep = q;
      last = j;
      next = refl;
      close = c;
      read = λ ts tl. subst (λ (x : ℕ). Read ts Stmts e x j) p (l.read ts tl);
    }

    -- `unit` name, and things in braces
    pub units : (d i j : ℕ) {a : ℕ} → a ≡ i + 3 → kind_in ws i ≡ KeywordUnit → kind_in ws (i + 1) ≡ Identifier
        → kind_in ws (i + 1 + 1) ≡ LBrace → Listed Items d ws n a j → kind_in ws j ≡ RBrace → Seen Decl d ws n i (j + 1)
    unfolding yield
    units d i j {a} q k e b l c = record {
      up = omega (arith, l.up);
      inside = row_behind ws n j RBrace shut l.inside c refl;
      read = λ ts tl.
          let m : i + 2 < n = omega (arith, l.up, l.inside) in
          built (i_unit (l.read ts tl).is)
          (mark tl i KeywordUnit (omega arith) k refl
          ▸ word tl (i + 1) (omega arith) e
          ▸ mark tl (i + 1 + 1) LBrace (omega arith) b refl
          ▸ from (rows_of (l.read ts tl)) (omega arith)
          ▸ mark tl j RBrace l.inside c refl);
    }

-- a statement, as a thing that a unit holds
pub as_item : (d : ℕ) (ws : List ℕ) (n i : ℕ) (o : Option ℕ) → Sees Stmt d ws n i o → Sees Item d ws n i o
as_item d ws n i None s = tt
as_item d ws n i (Some r) s =
    record { up = s.up; inside = s.inside; read = λ ts tl. read_as (λ t h. i_stmt h) (s.read ts tl) }
