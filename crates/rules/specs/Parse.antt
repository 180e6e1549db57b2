-- "Grammar" and "Refusal numbers": the parser as a function of the tokens, with every refusal 21 to 32 in reading order. An answer is
-- a tree and the row behind it, or why and the row where. Every recursion is the one loop `many`, or goes by the nesting that is left.
use Rattle.std.specs.Prelude.{ℕ, zero, suc, ◌+◌, ◌-◌, ◌^◌, Bool, true, false, cond, not, ◌&&◌, ◌||◌, List, eqb, leb, length, get_or}
use Rattle.rules.specs.declared.Syntax.{Syntax}
use Rattle.rules.specs.declared.Syntax.TheVariants.{NotTopLevel, NotMapField, MapTypeUnknown, NotType, MaxNegative, OutOfRange, ShiftCount, MapLacks, NotEventType, CallOnOther, TooDeep}
use Rattle.rules.specs.Text.{within}
use Rattle.rules.specs.Kinds.{TypeU32, TypeI64, KeywordUnit, KeywordSection, KeywordLicense, KeywordReturn, KeywordReg, KeywordImm, KeywordMap, KeywordType, KeywordKey, KeywordValue, KeywordMax, KeywordIf, KeywordElse, KeywordGuard, KeywordHeap, KeywordEvent, LBrace, RBrace, LParen, RParen, Colon, Dot, Comma, Semicolon, LBracket, RBracket, Equals, PlusEquals, Plus, Minus, Star, Slash, Percent, Shr, Shl, Identifier, StringLiteral, Number, KeywordBytes, Eof}
use Rattle.rules.specs.Fits.{only, operands, ons, shifts, assigns, first_arguments, body_things, unit_things, event_fields, tops, map_fields, wrong, retold}
use Rattle.rules.specs.Tree.{Tok, sign, kind_of, spelling_of, bits_in, Tree, none, num, var, star, group, field, call, bin, one, more, decl, ret, plain, assign, guard, then_body, else_body, seq, text, unit, map_type, typed, limit, first, shifted, map_decl, plain_field, bytes_field, array_field, event, program, is_variable, is_sum, hangs, map_type_number, max_bits, type_of, typed_by, limit_of, lacking}

pub data Out : Type 0 where
  ok : Tree → ℕ → Out
  no : Syntax → ℕ → Out

-- what reads at a row
abbrev pub P : Type 0
P = ℕ → Out

unfoldable pub then : Out → (Tree → P) → Out
then (ok t j) f = f t j
then (no why r) f = no why r

abbrev pub pick : Bool → Out → Out → Out
pick true x y = x
pick false x y = y

-- where row i itself is refused with 21, the set s is told
unfoldable pub or : ℕ → ℕ → Out → Out
or s i (ok t j) = ok t j
or s i (no why r) = no (cond (eqb r i) (retold s why) why) r

-- while the test holds at the row, a step
unfoldable pub many : (ℕ → Bool) → (Tree → P) → ℕ → Bool → Tree → P
many test step zero b t j = ok t j
many test step (suc f) false t j = ok t j
many test step (suc f) true t j = then (step t j) (λ u k. many test step f (test k) u k)

-- ---- kinds by what they begin or join

abbrev pub is_add : ℕ → Bool
is_add k = eqb k Plus || eqb k Minus

abbrev pub is_shift : ℕ → Bool
is_shift k = eqb k Shl || eqb k Shr

abbrev pub is_mul : ℕ → Bool
is_mul k = (eqb k Star || eqb k Slash) || eqb k Percent

abbrev pub is_assign : ℕ → Bool
is_assign k = eqb k Equals || eqb k PlusEquals

-- reg, imm, heap
abbrev pub is_declaring : ℕ → Bool
is_declaring k = (eqb k KeywordReg || eqb k KeywordImm) || eqb k KeywordHeap

abbrev pub is_text : ℕ → Bool
is_text k = eqb k KeywordSection || eqb k KeywordLicense

-- u32 u64 i32 i64
abbrev pub is_type : ℕ → Bool
is_type k = within TypeU32 TypeI64 k

-- key, value
abbrev pub is_typed : ℕ → Bool
is_typed k = eqb k KeywordKey || eqb k KeywordValue

pub data Lead : Type 0 where
  number identifier paren other : Lead

unfoldable pub lead : ℕ → Lead
lead k = cond (eqb k Number) number (cond (eqb k LParen) paren (cond (eqb k Identifier) identifier other))

pub data StmtLead : Type 0 where
  declaring returning branching expression : StmtLead

unfoldable pub stmt_lead : ℕ → StmtLead
stmt_lead k =
    cond (is_declaring k) declaring (cond (eqb k KeywordReturn) returning (cond (eqb k KeywordIf) branching expression))

pub data FieldLead : Type 0 where
  typing keying limiting nothing : FieldLead

unfoldable pub field_lead : ℕ → FieldLead
field_lead k = cond (eqb k KeywordType) typing (cond (is_typed k) keying (cond (eqb k KeywordMax) limiting nothing))

pub data EventLead : Type 0 where
  type_lead bytes_lead no_lead : EventLead

unfoldable pub event_lead : ℕ → EventLead
event_lead k = cond (is_type k) type_lead (cond (eqb k KeywordBytes) bytes_lead no_lead)

pub data TopLead : Type 0 where
  map_lead unit_lead event_top no_top : TopLead

unfoldable pub top_lead : ℕ → TopLead
top_lead k = cond (eqb k KeywordMap) map_lead (cond (eqb k KeywordUnit) unit_lead (cond (eqb k KeywordEvent) event_top no_top))

-- 2^32 - 1
abbrev pub most32 : ℕ
most32 = 4294967295

-- how many constructs may be open
abbrev pub most_open : ℕ
most_open = 64

-- the largest shift count
abbrev pub most_shift : ℕ
most_shift = 63

-- what can stand behind an opening row: an operand behind a star, an expression behind a parenthesis or a comma
pub data Sort : Type 0 where
  operand whole : Sort

module _ (ts : List Tok) where
  abbrev pub tok_at : ℕ → Tok
  tok_at i = get_or ts i (sign Eof)

  abbrev pub kind_at : ℕ → ℕ
  kind_at i = kind_of (tok_at i)

  -- 21: a row of kind k, and then f behind it; else the set s is told
  unfoldable pub want_by : Bool → ℕ → P → P
  want_by true s f i = f (i + 1)
  want_by false s f i = no (wrong s) i

  unfoldable pub want_in : ℕ → ℕ → P → P
  want_in s k f i = want_by (eqb (kind_at i) k) s f i

  -- where nothing else would have fitted
  unfoldable pub want : ℕ → P → P
  want k f i = want_in (only k) k f i

  -- the same, with f at the row itself
  unfoldable pub need_by : Bool → ℕ → P → P
  need_by true k f i = f i
  need_by false k f i = no (wrong (only k)) i

  unfoldable pub need : ℕ → P → P
  need k f i = need_by (eqb (kind_at i) k) k f i

  -- a name, a string, a number, handed on
  unfoldable pub named : (List ℕ → P) → P
  named f i = want Identifier (f (spelling_of (tok_at i))) i

  unfoldable pub quoted : (List ℕ → P) → P
  quoted f i = want StringLiteral (f (spelling_of (tok_at i))) i

  unfoldable pub valued : (ℕ → P) → P
  valued f i = want Number (f (bits_in (tok_at i))) i

  -- a loop from a row on, over what was read
  unfoldable pub loop : (ℕ → Bool) → (Tree → P) → Tree → P
  loop test step t j = many test step (suc (length ts)) (test j) t j

  -- behind an `if` without `else`
  unfoldable pub else_behind : Tree → ℕ
  else_behind l = cond (hangs l) (only KeywordElse) 0

  -- Things up to a row of a kind, which is not taken. In place of a thing's first row the set s would have fitted, and maybe `else`.
  unfoldable pub list_step : ℕ → P → Tree → P
  list_step s p l j = then (or (s + else_behind l) j (p j)) (λ t k. ok (seq l t) k)

  unfoldable pub list_to : ℕ → ℕ → P → P
  list_to stop s p j = loop (λ r. not (eqb (kind_at r) stop)) (list_step s p) none j

  -- name `{` contents `}`, behind the row at i
  unfoldable pub braced : ℕ → P → (List ℕ → Tree → P) → P
  braced s p f i = named (λ w. want LBrace (λ j. then (list_to RBrace s p j) (λ l k. f w l (k + 1)))) (i + 1)

  -- ---- expressions, over what is read behind an opening row

  -- the row in front of row i is a name behind a dot
  abbrev pub dot_name : ℕ → Bool
  dot_name i = eqb (kind_at (i - 1)) Identifier && eqb (kind_at (i - 2)) Dot

  -- what goes on with the expression or arguments t in front of row i
  unfoldable pub onward : Tree → ℕ → ℕ
  onward t i = ons + cond (is_sum t) 0 shifts + cond (dot_name i) (only LParen) 0

  -- a row of kind k behind t; else what goes on with t is told, and the set s of what may stand behind it
  unfoldable pub end_in : ℕ → ℕ → Tree → P → P
  end_in s k t f i = want_in (onward t i + s) k f i

  -- where nothing but that kind may stand behind it
  unfoldable pub end : ℕ → Tree → P → P
  end k t f i = end_in (only k) k t f i

  -- a call's end at row k, with the method's name at row m: 31 on anything but a variable
  unfoldable pub called : Tree → List ℕ → Tree → ℕ → P
  called t w a m k = pick (is_variable t) (ok (call t w a) k) (no CallOnOther m)

  module _ (g : Sort → P) where
    unfoldable pub atom_by : Lead → P
    atom_by number i = ok (num (bits_in (tok_at i))) (i + 1)
    atom_by identifier i = ok (var (spelling_of (tok_at i))) (i + 1)
    atom_by paren i = then (g whole i) (λ t j. end RParen t (ok (group t)) j)
    atom_by other i = no (wrong operands) i

    unfoldable pub atom : P
    atom i = atom_by (lead (kind_at i)) i

    unfoldable pub arg_step : Tree → P
    arg_step a j = then (g whole j) (λ t k. ok (more a t) k)

    -- arguments behind the parenthesis at row j; in place of the first one's first row `)` would have fitted
    unfoldable pub args : P
    args j = then (or first_arguments (j + 1) (g whole j)) (λ t k. loop (λ r. eqb (kind_at r) Comma) arg_step (one t) k)

    -- the parenthesis of a call is at row k: is the next one `)`?
    unfoldable pub call_by : Bool → Tree → List ℕ → ℕ → P
    call_by true t w m k = called t w none m (k + 1 + 1)
    call_by false t w m k = then (args k) (λ a r. end_in (only Comma + only RParen) RParen a (called t w a m) r)

    -- behind the name: is there a parenthesis?
    unfoldable pub open_by : Bool → Tree → List ℕ → ℕ → P
    open_by true t w m k = call_by (eqb (kind_at (k + 1)) RParen) t w m k
    open_by false t w m k = ok (field t w) k

    -- a field or a call, with its dot at row j
    unfoldable pub post : Tree → P
    post t j = named (λ w k. open_by (eqb (kind_at k) LParen) t w (j + 1) k) (j + 1)

    unfoldable pub prim : P
    prim i = then (atom i) (λ t j. loop (λ r. eqb (kind_at r) Dot) post t j)

    unfoldable pub unary_by : Bool → P
    unary_by true i = then (g operand i) (λ t j. ok (star t) j)
    unary_by false i = prim i

    unfoldable pub unary : P
    unary i = unary_by (eqb (kind_at i) Star) i

    unfoldable pub bin_step : P → Tree → P
    bin_step p t j = then (p (j + 1)) (λ u k. ok (bin (kind_at j) t u) k)

    unfoldable pub mul : P
    mul i = then (unary i) (λ t j. loop (λ r. is_mul (kind_at r)) (bin_step unary) t j)

    unfoldable pub shift : P
    shift i = then (mul i) (λ t j. loop (λ r. is_shift (kind_at r)) (bin_step mul) t j)

    -- an operand behind a sign is no shift
    unfoldable pub add : P
    add i = then (shift i) (λ t j. loop (λ r. is_add (kind_at r)) (bin_step mul) t j)

  -- what stands behind the opening row o, with d constructs left: 32 where none is
  unfoldable pub inner : ℕ → Sort → P
  inner zero s o = no TooDeep o
  inner (suc d) operand o = unary (inner d) (o + 1)
  inner (suc d) whole o = add (inner d) (o + 1)

  unfoldable pub expr : ℕ → P
  expr d i = add (inner d) i

  -- ---- statements; d constructs are left, and p reads the statements of the body whose brace is at a row

  module _ (d : ℕ) (p : P) where
    unfoldable pub else_by : Bool → List ℕ → Tree → P
    else_by true w b k = then (need LBrace p (k + 1)) (λ e r. ok (guard w b (else_body e)) r)
    else_by false w b k = ok (guard w b none) k

    unfoldable pub assign_by : Bool → Tree → P
    assign_by true e j = then (expr d (j + 1)) (λ r k. end Semicolon r (ok (assign (kind_at j) e r)) k)
    assign_by false e j = end_in (only Semicolon + assigns) Semicolon e (ok (plain e)) j

    -- behind `if guard ( name )`
    unfoldable pub bodies : List ℕ → P
    bodies w j = then (need LBrace p j) (λ b k. else_by (eqb (kind_at k) KeywordElse) w (then_body b) k)

    unfoldable pub stmt_by : StmtLead → P
    stmt_by declaring i =
        named (λ w. want Equals (λ j. then (expr d j) (λ e k. end Semicolon e (ok (decl (kind_at i) w e)) k))) (i + 1)
    stmt_by returning i = then (expr d (i + 1)) (λ e k. end Semicolon e (ok (ret e)) k)
    stmt_by branching i = want KeywordGuard (want LParen (named (λ w. want RParen (bodies w)))) (i + 1)
    stmt_by expression i = then (expr d i) (λ e j. assign_by (is_assign (kind_at j)) e j)

    unfoldable pub stmt : P
    stmt i = stmt_by (stmt_lead (kind_at i)) i

  -- the statements of the body whose brace is at row o
  unfoldable pub body : ℕ → P
  body zero o = no TooDeep o
  body (suc d) o = then (list_to RBrace body_things (stmt d (body d)) (o + 1)) (λ l j. ok l (j + 1))

  -- ---- units

  unfoldable pub item_by : Bool → P
  item_by true i = quoted (λ w. want Semicolon (ok (text (kind_at i) w))) (i + 1)
  item_by false i = stmt most_open (body most_open) i

  unfoldable pub item : P
  item i = item_by (is_text (kind_at i)) i

  unfoldable pub unit_at : P
  unit_at i = braced unit_things item (λ w l k. ok (unit w l) k) i

  -- ---- maps

  unfoldable pub type_by : Bool → List ℕ → P
  type_by true w j = no MapTypeUnknown j
  type_by false w j = want Semicolon (ok (map_type w)) j

  -- 25: the row after it; Eof if it is Eof
  unfoldable pub key_by : Bool → ℕ → P
  key_by true k j = want Semicolon (ok (typed k (kind_at j))) (j + 1)
  key_by false k j = no NotType (cond (eqb (kind_at j) Eof) j (j + 1))

  unfoldable pub count_by : Bool → Tree → ℕ → ℕ → P
  count_by true c k v r = ok (shifted (kind_at k) c v) r
  count_by false c k v r = no ShiftCount (k + 1)

  -- a shift whose sign is at row k
  unfoldable pub chain_step : Tree → P
  chain_step c k = valued (λ v. count_by (leb v most_shift) c k v) (k + 1)

  unfoldable pub chain : P
  chain j = valued (λ v. loop (λ r. is_shift (kind_at r)) chain_step (first v)) j

  -- 26 at the row after the expression, 27 at the last number read
  unfoldable pub limit_by : (negative large : Bool) → Tree → P
  limit_by true x c k = no MaxNegative k
  limit_by false true c k = no OutOfRange (k - 1)
  limit_by false false c k = want_in (only Semicolon + shifts) Semicolon (ok (limit c)) k

  unfoldable pub map_field_by : FieldLead → P
  map_field_by typing i = want Colon (want Dot (named (λ w. type_by (eqb (map_type_number w) 0) w))) (i + 1)
  map_field_by keying i = want Colon (λ j. key_by (is_type (kind_at j)) (kind_at i) j) (i + 1)
  map_field_by limiting i =
      want Colon (λ j. then (chain j) (λ c k. limit_by (leb (2 ^ 63) (max_bits c)) (not (leb (max_bits c) most32)) c k)) (i + 1)
  map_field_by nothing i = no NotMapField i

  unfoldable pub map_field : P
  map_field i = map_field_by (field_lead (kind_at i)) i

  -- 29 at the row after `}`
  unfoldable pub map_end : ℕ → List ℕ → Tree → P
  map_end zero w l k = ok (map_decl w l) k
  map_end (suc f) w l k = no (MapLacks (suc f)) k

  unfoldable pub map_at : P
  map_at i =
      braced map_fields map_field (λ w l k. map_end (lacking (type_of l) (typed_by KeywordKey l) (typed_by KeywordValue l) (limit_of l)) w l k) i

  -- ---- events

  unfoldable pub length_by : Bool → (ℕ → Tree) → ℕ → ℕ → P
  length_by true f v k r = want RBracket (want Semicolon (ok (f v))) r
  length_by false f v k r = no OutOfRange k

  -- a length at row k, `]` and `;`
  unfoldable pub length_at : (ℕ → Tree) → P
  length_at f k = valued (λ v. length_by (leb v most32) f v k) k

  unfoldable pub array_by : Bool → List ℕ → P
  array_by true w j = length_at (λ v. array_field w (kind_at j) v) (j + 1 + 1)
  array_by false w j = want_in (only Semicolon + only LBracket) Semicolon (ok (plain_field w (kind_at j))) (j + 1)

  unfoldable pub event_type_by : EventLead → List ℕ → P
  event_type_by type_lead w j = array_by (eqb (kind_at (j + 1)) LBracket) w j
  event_type_by bytes_lead w j = want LBracket (length_at (λ v. bytes_field w v)) (j + 1)
  event_type_by no_lead w j = no NotEventType j

  unfoldable pub event_field : P
  event_field i = named (λ w. want Colon (λ j. event_type_by (event_lead (kind_at j)) w j)) i

  unfoldable pub event_at : P
  event_at i = braced event_fields event_field (λ w l k. ok (event w l) k) i

  -- ---- program

  unfoldable pub top_by : TopLead → P
  top_by map_lead i = map_at i
  top_by unit_lead i = unit_at i
  top_by event_top i = event_at i
  top_by no_top i = no NotTopLevel i

  unfoldable pub top : P
  top i = top_by (top_lead (kind_at i)) i

  unfoldable pub parse : Out
  parse = then (list_to Eof tops top 0) (λ l j. ok (program l) (j + 1))
