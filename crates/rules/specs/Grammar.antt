-- "Grammar", as a statement about trees: which trees each nonterminal has, with at most d constructs open. What a tree is read from
-- is its `yield`. strict: the checks of 24, 26 to 29 and 31 hold as well.
use Rattle.std.specs.Prelude.{◌≡◌, Bool, true, not, ◌&&◌, List, ℕ, suc, ◌^◌, eqb, leb}
use Rattle.rules.specs.Kinds.{KeywordKey, KeywordValue}
use Rattle.rules.specs.Tree.{Tree, none, num, var, star, group, field, call, bin, one, more, decl, ret, plain, assign, guard, then_body, else_body, seq, text, unit, map_type, typed, limit, first, shifted, map_decl, plain_field, bytes_field, array_field, event, program, is_variable, map_type_number, max_bits, type_of, typed_by, limit_of, lacking}
use Rattle.rules.specs.Parse.{is_add, is_shift, is_mul, is_assign, is_declaring, is_text, is_type, is_typed, most32, most_shift}

pub data Nt : Type 0 where
  Add Shift Mul Unary Basic Args : Nt
  Stmt Stmts Item Items : Nt
  Chain MapField MapFields EventField EventFields : Nt
  Decl Decls Program : Nt

module _ (strict : Bool) where
  -- a check, where checks count
  abbrev pub Passes : Bool → Type 0
  Passes b = strict ≡ true → b ≡ true

  pub data Is : Nt → ℕ → Tree → Type 0 where
    -- prim = (Number | Identifier | '(' add ')') ('.' Identifier ['(' [add (',' add)*] ')'])*
    i_num : {d v : ℕ} → Is Basic d (num v)
    i_var : {d : ℕ} {w : List ℕ} → Is Basic d (var w)
    i_group : {d : ℕ} {t : Tree} → Is Add d t → Is Basic (suc d) (group t)
    i_field : {d : ℕ} {t : Tree} {w : List ℕ} → Is Basic d t → Is Basic d (field t w)
    i_bare : {d : ℕ} {t : Tree} {w : List ℕ} → Is Basic d t → Passes (is_variable t) → Is Basic d (call t w none)
    i_call : {d : ℕ} {t a : Tree} {w : List ℕ} → Is Basic (suc d) t → Passes (is_variable t) → Is Args d a → Is Basic (suc d) (call t w a)
    i_one : {d : ℕ} {t : Tree} → Is Add d t → Is Args d (one t)
    i_more : {d : ℕ} {a t : Tree} → Is Args d a → Is Add d t → Is Args d (more a t)
    -- unary = '*' unary | prim
    i_prim : {d : ℕ} {t : Tree} → Is Basic d t → Is Unary d t
    i_star : {d : ℕ} {t : Tree} → Is Unary d t → Is Unary (suc d) (star t)
    -- mul = unary (('*'|'/'|'%') unary)*
    i_unary : {d : ℕ} {t : Tree} → Is Unary d t → Is Mul d t
    i_mul : {d k : ℕ} {l r : Tree} → Is Mul d l → is_mul k ≡ true → Is Unary d r → Is Mul d (bin k l r)
    -- shift = mul (('<<'|'>>') mul)*
    i_lone : {d : ℕ} {t : Tree} → Is Mul d t → Is Shift d t
    i_shift : {d k : ℕ} {l r : Tree} → Is Shift d l → is_shift k ≡ true → Is Mul d r → Is Shift d (bin k l r)
    -- add = shift (('+'|'-') mul)*
    i_up : {d : ℕ} {t : Tree} → Is Shift d t → Is Add d t
    i_add : {d k : ℕ} {l r : Tree} → Is Add d l → is_add k ≡ true → Is Mul d r → Is Add d (bin k l r)
    -- statements
    i_decl : {d k : ℕ} {w : List ℕ} {e : Tree} → is_declaring k ≡ true → Is Add d e → Is Stmt d (decl k w e)
    i_ret : {d : ℕ} {e : Tree} → Is Add d e → Is Stmt d (ret e)
    i_plain : {d : ℕ} {e : Tree} → Is Add d e → Is Stmt d (plain e)
    i_assign : {d k : ℕ} {l r : Tree} → is_assign k ≡ true → Is Add d l → Is Add d r → Is Stmt d (assign k l r)
    i_if : {d : ℕ} {w : List ℕ} {b : Tree} → Is Stmts d b → Is Stmt (suc d) (guard w (then_body b) none)
    i_if_else : {d : ℕ} {w : List ℕ} {b e : Tree} → Is Stmts d b → Is Stmts d e → Is Stmt (suc d) (guard w (then_body b) (else_body e))
    i_no_stmts : {d : ℕ} → Is Stmts d none
    i_stmts : {d : ℕ} {l s : Tree} → Is Stmts d l → Is Stmt d s → Is Stmts d (seq l s)
    -- a unit holds statements, sections and licences in any order
    i_stmt : {d : ℕ} {s : Tree} → Is Stmt d s → Is Item d s
    i_text : {d k : ℕ} {w : List ℕ} → is_text k ≡ true → Is Item d (text k w)
    i_no_items : {d : ℕ} → Is Items d none
    i_items : {d : ℕ} {l s : Tree} → Is Items d l → Is Item d s → Is Items d (seq l s)
    -- map fields: `type:.` name`;`, `key:` or `value:` type`;`, `max:` Number (shift Number)*`;`
    i_first : {d v : ℕ} → Is Chain d (first v)
    i_shifted : {d k v : ℕ} {c : Tree} → Is Chain d c → is_shift k ≡ true → Passes (leb v most_shift) → Is Chain d (shifted k c v)
    i_type : {d : ℕ} {w : List ℕ} → Passes (not (eqb (map_type_number w) 0)) → Is MapField d (map_type w)
    i_typed : {d k t : ℕ} → is_typed k ≡ true → is_type t ≡ true → Is MapField d (typed k t)
    i_limit : {d : ℕ} {c : Tree} → Is Chain d c → Passes (not (leb (2 ^ 63) (max_bits c)) && leb (max_bits c) most32) → Is MapField d (limit c)
    i_no_fields : {d : ℕ} → Is MapFields d none
    i_fields : {d : ℕ} {l s : Tree} → Is MapFields d l → Is MapField d s → Is MapFields d (seq l s)
    -- event fields: name`:` and a type, type`[n]` or `bytes[n]`, then `;`
    i_plain_field : {d t : ℕ} {w : List ℕ} → is_type t ≡ true → Is EventField d (plain_field w t)
    i_bytes_field : {d v : ℕ} {w : List ℕ} → Passes (leb v most32) → Is EventField d (bytes_field w v)
    i_array_field : {d t v : ℕ} {w : List ℕ} → is_type t ≡ true → Passes (leb v most32) → Is EventField d (array_field w t v)
    i_no_event_fields : {d : ℕ} → Is EventFields d none
    i_event_fields : {d : ℕ} {l s : Tree} → Is EventFields d l → Is EventField d s → Is EventFields d (seq l s)
    -- top level: `map`, `event` or `unit`, name, `{` contents `}`, in any order
    i_unit : {d : ℕ} {w : List ℕ} {l : Tree} → Is Items d l → Is Decl d (unit w l)
    i_map : {d : ℕ} {w : List ℕ} {l : Tree} → Is MapFields d l
        → Passes (eqb (lacking (type_of l) (typed_by KeywordKey l) (typed_by KeywordValue l) (limit_of l)) 0) → Is Decl d (map_decl w l)
    i_event : {d : ℕ} {w : List ℕ} {l : Tree} → Is EventFields d l → Is Decl d (event w l)
    i_no_decls : {d : ℕ} → Is Decls d none
    i_decls : {d : ℕ} {l s : Tree} → Is Decls d l → Is Decl d s → Is Decls d (seq l s)
    i_program : {d : ℕ} {l : Tree} → Is Decls d l → Is Program d (program l)
