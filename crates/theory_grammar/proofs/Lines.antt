-- Which kinds the rows of a program have: those of the grammar's lines.
use mathlib.Core.Path.{◌≡◌, refl, sym, ap, ◌∙◌}
use mathlib.Core.Bool.{Bool, true}
use mathlib.Core.List.{List, [], ◌∷◌, ◌++◌}
use Prim.Native.Nat.{ℕ, zero, suc}
use Rattle.rules.specs.Kinds.{KeywordSection, KeywordLicense, KeywordReg, KeywordImm, KeywordHeap, KeywordKey, KeywordValue, is_made}
use Rattle.rules.specs.Kinds.{Equals, PlusEquals, Plus, Minus, Star, Slash, Percent, Shl, Shr}
use Rattle.rules.specs.Tree.{Tok, kind_of, Tree, yield}
use Rattle.rules.specs.Parse.{is_add, is_shift, is_mul, is_assign, is_declaring, is_text, is_type, is_typed, kind_at}
use Rattle.rules.specs.Grammar.{Nt, Is}
use Rattle.rules.specs.Grammar.{i_num, i_var, i_group, i_field, i_bare, i_call, i_one, i_more, i_prim, i_star, i_unary, i_mul, i_lone}
use Rattle.rules.specs.Grammar.{i_shift, i_up, i_add, i_decl, i_ret, i_plain, i_assign, i_if, i_if_else, i_no_stmts, i_stmts, i_stmt}
use Rattle.rules.specs.Grammar.{i_text, i_no_items, i_items, i_first, i_shifted, i_type, i_typed, i_limit, i_no_fields, i_fields}
use Rattle.rules.specs.Grammar.{i_plain_field, i_bytes_field, i_array_field, i_no_event_fields, i_event_fields, i_unit, i_map, i_event}
use Rattle.rules.specs.Grammar.{i_no_decls, i_decls, i_program}
use Rattle.theory_grammar.specs.Fitting.{in_grammar, Fitting}
use Rattle.theory_grammar.proofs.Laws.{either_kind, three_kinds}
use Rattle.theory_grammar.proofs.AgainProgram.{type_case}

-- every token of a list is of such a kind
data Lined : List Tok → Type 0 where
  none : Lined []
  and : {x : Tok} {l : List Tok} → in_grammar (kind_of x) ≡ true → Lined l → Lined (x ∷ l)

join : {a b : List Tok} → Lined a → Lined b → Lined (a ++ b)
join none q = q
join (and h p) q = and h (join p q)

lined_at : {l : List Tok} → Lined l → (i : ℕ) → in_grammar (kind_at l i) ≡ true
unfolding in_grammar is_made kind_of
lined_at none i = refl
lined_at (and h p) zero = h
lined_at (and h p) (suc i) = lined_at p i

-- the kinds that the lines name by a test
lined_add : (k : ℕ) → is_add k ≡ true → in_grammar k ≡ true
unfolding in_grammar is_made
lined_add k e = either_kind (λ x. in_grammar x ≡ true) k Plus Minus e refl refl

lined_shift : (k : ℕ) → is_shift k ≡ true → in_grammar k ≡ true
unfolding in_grammar is_made
lined_shift k e = either_kind (λ x. in_grammar x ≡ true) k Shl Shr e refl refl

lined_mul : (k : ℕ) → is_mul k ≡ true → in_grammar k ≡ true
unfolding in_grammar is_made
lined_mul k e = three_kinds (λ x. in_grammar x ≡ true) k Star Slash Percent e refl refl refl

lined_assign : (k : ℕ) → is_assign k ≡ true → in_grammar k ≡ true
unfolding in_grammar is_made
lined_assign k e = either_kind (λ x. in_grammar x ≡ true) k Equals PlusEquals e refl refl

lined_declaring : (k : ℕ) → is_declaring k ≡ true → in_grammar k ≡ true
unfolding in_grammar is_made
lined_declaring k e = three_kinds (λ x. in_grammar x ≡ true) k KeywordReg KeywordImm KeywordHeap e refl refl refl

lined_text : (k : ℕ) → is_text k ≡ true → in_grammar k ≡ true
unfolding in_grammar is_made
lined_text k e = either_kind (λ x. in_grammar x ≡ true) k KeywordSection KeywordLicense e refl refl

lined_typed : (k : ℕ) → is_typed k ≡ true → in_grammar k ≡ true
unfolding in_grammar is_made
lined_typed k e = either_kind (λ x. in_grammar x ≡ true) k KeywordKey KeywordValue e refl refl

lined_type : (k : ℕ) → is_type k ≡ true → in_grammar k ≡ true
unfolding in_grammar is_made
lined_type k e = type_case (λ x. in_grammar x ≡ true) k e refl refl refl refl

module _ {strict : Bool} where
  is_lined : {N : Nt} {d : ℕ} {t : Tree} → Is strict N d t → Lined (yield t)
  unfolding yield kind_of in_grammar is_made
  is_lined i_num = and refl none
  is_lined i_var = and refl none
  is_lined (i_group h) = and refl (join (is_lined h) (and refl none))
  is_lined (i_field h) = join (is_lined h) (and refl (and refl none))
  is_lined (i_bare h q) = join (is_lined h) (and refl (and refl (and refl (and refl none))))
  is_lined (i_call h q v) = join (is_lined h) (and refl (and refl (and refl (join (is_lined v) (and refl none)))))
  is_lined (i_one h) = is_lined h
  is_lined (i_more h v) = join (is_lined h) (and refl (is_lined v))
  is_lined (i_prim h) = is_lined h
  is_lined (i_star h) = and refl (is_lined h)
  is_lined (i_unary h) = is_lined h
  is_lined (i_mul {k = k} h b v) = join (is_lined h) (and (lined_mul k b) (is_lined v))
  is_lined (i_lone h) = is_lined h
  is_lined (i_shift {k = k} h b v) = join (is_lined h) (and (lined_shift k b) (is_lined v))
  is_lined (i_up h) = is_lined h
  is_lined (i_add {k = k} h b v) = join (is_lined h) (and (lined_add k b) (is_lined v))
  is_lined (i_decl {k = k} b h) = and (lined_declaring k b) (and refl (and refl (join (is_lined h) (and refl none))))
  is_lined (i_ret h) = and refl (join (is_lined h) (and refl none))
  is_lined (i_plain h) = join (is_lined h) (and refl none)
  is_lined (i_assign {k = k} b h v) = join (is_lined h) (and (lined_assign k b) (join (is_lined v) (and refl none)))
  is_lined (i_if h) =
      and refl (and refl (and refl (and refl (and refl (join (and refl (join (is_lined h) (and refl none))) none)))))
  is_lined (i_if_else h v) =
      and refl (and refl (and refl (and refl (and refl
      (join (and refl (join (is_lined h) (and refl none))) (and refl (and refl (join (is_lined v) (and refl none)))))))))
  is_lined i_no_stmts = none
  is_lined (i_stmts h v) = join (is_lined h) (is_lined v)
  is_lined (i_stmt h) = is_lined h
  is_lined (i_text {k = k} b) = and (lined_text k b) (and refl (and refl none))
  is_lined i_no_items = none
  is_lined (i_items h v) = join (is_lined h) (is_lined v)
  is_lined i_first = and refl none
  is_lined (i_shifted {k = k} h b q) = join (is_lined h) (and (lined_shift k b) (and refl none))
  is_lined (i_type q) = and refl (and refl (and refl (and refl (and refl none))))
  is_lined (i_typed {k = k} {t = t} b c) = and (lined_typed k b) (and refl (and (lined_type t c) (and refl none)))
  is_lined (i_limit h q) = and refl (and refl (join (is_lined h) (and refl none)))
  is_lined i_no_fields = none
  is_lined (i_fields h v) = join (is_lined h) (is_lined v)
  is_lined (i_plain_field {t = t} b) = and refl (and refl (and (lined_type t b) (and refl none)))
  is_lined (i_bytes_field q) = and refl (and refl (and refl (and refl (and refl (and refl (and refl none))))))
  is_lined (i_array_field {t = t} b q) =
      and refl (and refl (and (lined_type t b) (and refl (and refl (and refl (and refl none))))))
  is_lined i_no_event_fields = none
  is_lined (i_event_fields h v) = join (is_lined h) (is_lined v)
  is_lined (i_unit h) = and refl (and refl (and refl (join (is_lined h) (and refl none))))
  is_lined (i_map h q) = and refl (and refl (and refl (join (is_lined h) (and refl none))))
  is_lined (i_event h) = and refl (and refl (and refl (join (is_lined h) (and refl none))))
  is_lined i_no_decls = none
  is_lined (i_decls h v) = join (is_lined h) (is_lined v)
  is_lined (i_program h) = join (is_lined h) (and refl none)

-- What would have fitted is of such a kind.
pub fits_lined : (ts : List Tok) (s k : ℕ) → Fitting ts s k → in_grammar k ≡ true
fits_lined ts s k f = ap in_grammar (sym f.next) ∙ lined_at (is_lined f.is) s
