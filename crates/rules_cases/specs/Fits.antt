-- Sets of kinds that would have fitted: of each of the 42 sets the smallest texts that are refused with it, and texts
-- with 64 constructs open. One table under one theorem.
use Rattle.std.specs.Prelude.{◌≡◌, refl, List, [], ◌∷◌, ◌++◌, map, ℕ, zero, suc}
use Rattle.rules.specs.Text
use Rattle.rules.specs.Text.{bytes}
use Rattle.rules.specs.Kinds
use Rattle.rules.specs.Fits
use Rattle.rules.specs.Fits.{set_told}
use Rattle.rules.specs.Refusals.{syntax_number}
use Rattle.rules.specs.Rows
use Rattle.rules.specs.Lex
use Rattle.rules.specs.Scan
use Rattle.rules.specs.Scan.{scan, read_rows}
use Rattle.rules.specs.Tree
use Rattle.rules.specs.Parse
use Rattle.rules.specs.Parse.{Out, ok, no, parse}
use Rattle.rules.specs.Calls.{tokens}
use Rattle.rules.specs.Calls

-- A text, the number of its refusal and the set that is told, bit k for kind k.
pub record Case : Type 0 where
  pub text : List ℕ
  pub number : ℕ
  pub set : ℕ

pub told : List ℕ → Out → Case
told t (ok tree j) = record { text = t; number = 0; set = 0 }
told t (no why r) = record { text = t; number = syntax_number why; set = set_told why }

pub answer : List ℕ → Case
answer t = told t (parse (tokens t (read_rows (scan t))))

abbrev of : List ℕ → ℕ → ℕ → Case
of t n s = record { text = t; number = n; set = s }

-- bytes so many times, and then others, in a unit
abbrev times : ℕ → List ℕ → List ℕ → List ℕ
times zero s t = t
times (suc n) s t = s ++ times n s t

abbrev nested : ℕ → List ℕ → List ℕ → List ℕ
nested n s t = bytes "unit u{" ++ times n s t

abbrev pub cases : List Case
cases =
    -- unit map event Eof
    of (bytes ":") 22 0x10000000008041
    ∷ of (bytes "event e{}:") 22 0x10000000008041
    -- a name
    ∷ of (bytes "map:") 21 0x1000000000000
    ∷ of (bytes "event:") 21 0x1000000000000
    ∷ of (bytes "unit:") 21 0x1000000000000
    ∷ of (bytes "unit u{reg:") 21 0x1000000000000
    ∷ of (bytes "unit u{imm:") 21 0x1000000000000
    ∷ of (bytes "unit u{heap:") 21 0x1000000000000
    ∷ of (bytes "unit u{if guard(:") 21 0x1000000000000
    ∷ of (bytes "map m{type:.:") 21 0x1000000000000
    ∷ of (bytes "unit u{x.:") 21 0x1000000000000
    ∷ of (bytes "unit u{x.value;") 21 0x1000000000000
    -- `{`
    ∷ of (bytes "map m:") 21 0x2000000
    ∷ of (bytes "event e:") 21 0x2000000
    ∷ of (bytes "unit u:") 21 0x2000000
    ∷ of (bytes "unit u{if guard(x):") 21 0x2000000
    ∷ of (bytes "unit u{if guard(x){}else:") 21 0x2000000
    -- what a map holds
    ∷ of (bytes "map m{:") 23 0x4000780
    ∷ of (bytes "map m{max:1;:") 23 0x4000780
    -- `:`
    ∷ of (bytes "map m{type;") 21 0x20000000
    ∷ of (bytes "map m{key;") 21 0x20000000
    ∷ of (bytes "map m{value;") 21 0x20000000
    ∷ of (bytes "map m{max;") 21 0x20000000
    ∷ of (bytes "event e{a;") 21 0x20000000
    -- `.`
    ∷ of (bytes "map m{type::") 21 0x40000000
    -- a type of a key or a value; the place is one row on, or Eof itself
    ∷ of (bytes "map m{key::") 25 0x1E00000
    ∷ of (bytes "map m{value::") 25 0x1E00000
    ∷ of (bytes "map m{key:") 25 0x1E00000
    ∷ of (bytes "map m{key:q u32;") 25 0x1E00000
    -- a number
    ∷ of (bytes "map m{max::") 21 0x4000000000000
    ∷ of (bytes "map m{max:1<<:") 21 0x4000000000000
    ∷ of (bytes "event e{a:bytes[:") 21 0x4000000000000
    ∷ of (bytes "event e{a:u32[:") 21 0x4000000000000
    -- behind a number of a max
    ∷ of (bytes "map m{max:1:") 21 0xC00100000000
    ∷ of (bytes "map m{max:1<<2:") 21 0xC00100000000
    -- `;`
    ∷ of (bytes "map m{type:.hash:") 21 0x100000000
    ∷ of (bytes "map m{key:u32:") 21 0x100000000
    ∷ of (bytes "event e{a:u32[1]:") 21 0x100000000
    ∷ of (bytes "unit u{section\"s\":") 21 0x100000000
    ∷ of (bytes "unit u{license\"s\":") 21 0x100000000
    -- what an event holds
    ∷ of (bytes "event e{:") 21 0x1000004000000
    ∷ of (bytes "event e{a:u32;:") 21 0x1000004000000
    ∷ of (bytes "event e{key:u32;}") 21 0x1000004000000
    -- a type in an event
    ∷ of (bytes "event e{a::") 30 0x8000001E00000
    -- behind it
    ∷ of (bytes "event e{a:u32:") 21 0x300000000
    -- `[`
    ∷ of (bytes "event e{a:bytes:") 21 0x200000000
    -- `]`
    ∷ of (bytes "event e{a:bytes[1:") 21 0x400000000
    -- what a unit holds
    ∷ of (bytes "unit u{:") 21 0x508000C00483E
    ∷ of (bytes "unit u{a;:") 21 0x508000C00483E
    ∷ of (bytes "unit u{if guard(x){}else{}:") 21 0x508000C00483E
    ∷ of (bytes "unit u{if guard(x){}a;:") 21 0x508000C00483E
    ∷ of (bytes "unit u{if guard(x){}section\"s\";:") 21 0x508000C00483E
    -- and `else`
    ∷ of (bytes "unit u{if guard(x){}:") 21 0x508000C00583E
    ∷ of (bytes "unit u{a;if guard(x){}:") 21 0x508000C00583E
    -- what a body holds
    ∷ of (bytes "unit u{if guard(x){:") 21 0x508000C004838
    ∷ of (bytes "unit u{if guard(x){a;:") 21 0x508000C004838
    ∷ of (bytes "unit u{if guard(x){if guard(y){}else{}:") 21 0x508000C004838
    -- and `else`
    ∷ of (bytes "unit u{if guard(x){if guard(y){}:") 21 0x508000C005838
    -- a string
    ∷ of (bytes "unit u{section:") 21 0x2000000000000
    ∷ of (bytes "unit u{license:") 21 0x2000000000000
    -- `=`
    ∷ of (bytes "unit u{reg a:") 21 0x800000000
    ∷ of (bytes "unit u{imm a:") 21 0x800000000
    ∷ of (bytes "unit u{heap a:") 21 0x800000000
    -- `guard`
    ∷ of (bytes "unit u{if:") 21 0x2000
    -- `(`
    ∷ of (bytes "unit u{if guard:") 21 0x8000000
    -- `)`
    ∷ of (bytes "unit u{if guard(x:") 21 0x10000000
    -- what begins an expression
    ∷ of (bytes "unit u{a=:") 21 0x5080008000000
    ∷ of (bytes "unit u{a+=:") 21 0x5080008000000
    ∷ of (bytes "unit u{return:") 21 0x5080008000000
    ∷ of (bytes "unit u{reg a=:") 21 0x5080008000000
    ∷ of (bytes "unit u{a+:") 21 0x5080008000000
    ∷ of (bytes "unit u{a*:") 21 0x5080008000000
    ∷ of (bytes "unit u{a<<:") 21 0x5080008000000
    ∷ of (bytes "unit u{*:") 21 0x5080008000000
    ∷ of (bytes "unit u{(:") 21 0x5080008000000
    ∷ of (bytes "unit u{x.f(1,:") 21 0x5080008000000
    ∷ of (bytes "unit u{x.f(*:") 21 0x5080008000000
    -- or `)`
    ∷ of (bytes "unit u{x.f(:") 21 0x5080018000000
    ∷ of (bytes "unit u{1.f(:") 21 0x5080018000000
    -- behind a statement's first expression
    ∷ of (bytes "unit u{a:") 21 0xFE1940000000
    ∷ of (bytes "unit u{1:") 21 0xFE1940000000
    ∷ of (bytes "unit u{*a:") 21 0xFE1940000000
    ∷ of (bytes "unit u{a*b:") 21 0xFE1940000000
    ∷ of (bytes "unit u{a<<b:") 21 0xFE1940000000
    ∷ of (bytes "unit u{a.b():") 21 0xFE1940000000
    ∷ of (bytes "unit u{(x.f):") 21 0xFE1940000000
    -- and behind a name behind a dot
    ∷ of (bytes "unit u{a.b:") 21 0xFE1948000000
    ∷ of (bytes "unit u{1.f:") 21 0xFE1948000000
    -- behind a statement's first expression with a sum
    ∷ of (bytes "unit u{a+b:") 21 0x3E1940000000
    ∷ of (bytes "unit u{a<<b+c:") 21 0x3E1940000000
    ∷ of (bytes "unit u{a+(b):") 21 0x3E1940000000
    -- and behind a name behind a dot
    ∷ of (bytes "unit u{a+b.c:") 21 0x3E1948000000
    -- behind a second expression
    ∷ of (bytes "unit u{a=b:") 21 0xFE0140000000
    ∷ of (bytes "unit u{return a:") 21 0xFE0140000000
    ∷ of (bytes "unit u{reg a=b:") 21 0xFE0140000000
    -- and behind a name behind a dot
    ∷ of (bytes "unit u{a=b.c:") 21 0xFE0148000000
    -- behind a second expression with a sum
    ∷ of (bytes "unit u{a=b+c:") 21 0x3E0140000000
    ∷ of (bytes "unit u{return a-b:") 21 0x3E0140000000
    -- and behind a name behind a dot
    ∷ of (bytes "unit u{return a+b.c:") 21 0x3E0148000000
    -- in a group
    ∷ of (bytes "unit u{(a:") 21 0xFE0050000000
    ∷ of (bytes "unit u{a+(b:") 21 0xFE0050000000
    -- and behind a name behind a dot
    ∷ of (bytes "unit u{(a.b:") 21 0xFE0058000000
    -- in a group with a sum
    ∷ of (bytes "unit u{(a+b:") 21 0x3E0050000000
    -- and behind a name behind a dot
    ∷ of (bytes "unit u{(a+b.c:") 21 0x3E0058000000
    -- in an argument list
    ∷ of (bytes "unit u{x.f(a:") 21 0xFE00D0000000
    ∷ of (bytes "unit u{x.f(a+b,c:") 21 0xFE00D0000000
    -- and behind a name behind a dot
    ∷ of (bytes "unit u{x.f(a.b:") 21 0xFE00D8000000
    -- in an argument list with a sum
    ∷ of (bytes "unit u{x.f(a+b:") 21 0x3E00D0000000
    ∷ of (bytes "unit u{x.f(a,b+c:") 21 0x3E00D0000000
    -- and behind a name behind a dot
    ∷ of (bytes "unit u{x.f(a+b.c:") 21 0x3E00D8000000
    -- With 64 constructs open the sets are the same, since what would have fitted is asked of programs of any nesting:
    -- `(`, `*` and `{` are told.
    ∷ of (nested 64 (bytes "(") (bytes ":")) 21 0x5080008000000
    ∷ of (nested 64 (bytes "*") (bytes ":")) 21 0x5080008000000
    ∷ of (nested 64 (bytes "if guard(x){") (bytes "if guard(x):")) 21 0x2000000
    -- A `(` or a `{` there is refused with 32 all the same.
    ∷ of (nested 64 (bytes "(") (bytes "(")) 32 0
    ∷ of (nested 64 (bytes "if guard(x){") (bytes "if guard(x){")) 32 0
    ∷ []

pub right : map (λ (c : Case). answer c.text) cases ≡ cases
unfolding told answer Text.front Text.utf8 Text.met Text.line_in Text.char_at Text.is_cut Text.valid_from Text.valid_bytes Text.valid Text.cut_bytes Text.is_blank Text.newlines Text.line_at Text.column_at Text.place_at Text.text_judged Text.moved Text.over Text.along Kinds.is_made Kinds.reserved Kinds.signs Kinds.same_bytes Kinds.kind_in Kinds.length_in Rows.row_words Rows.row_in Rows.rows_in Rows.words_of Rows.bits_of Rows.value_bits Rows.row_at Rows.eof_row Rows.row_place Rows.every Rows.chained Rows.length_fits Rows.spans_fit Rows.value_fits Rows.place_fits Rows.lines_fit Rows.row_fits Rows.follows Rows.last_row Rows.ends_behind Rows.is_eof Rows.eof_last Rows.ending_fits Rows.rows_fit Rows.well_formed Rows.spelling Lex.line_comment Lex.before_close Lex.block_comment Lex.is_digit Lex.is_letter Lex.is_word Lex.word Lex.is_hex_digit Lex.digit_value Lex.spelt Lex.number_of Lex.decimal Lex.hex Lex.number Lex.is_escape Lex.string Lex.maybe_two Lex.single Lex.sign Lex.slashed Lex.dashed Lex.beginning Lex.piece Lex.decided_at Lex.item Scan.read_rows Scan.read_ending Scan.read Scan.scan Scan.room_of Scan.told Scan.laid Scan.scan_told Scan.scan_leaves Tree.kind_of Tree.spelling_of Tree.bits_in Tree.tok_of Tree.yield Tree.is_variable Tree.is_sum Tree.hangs Tree.count Tree.sections_of Tree.content Tree.section_text Tree.kind_of_first Tree.unit_kind Tree.map_types Tree.map_type_number Tree.shift_right Tree.shift_bits Tree.max_bits Tree.type_of Tree.typed_by Tree.limit_of Tree.lacking Fits.has Fits.set_told Fits.retold Parse.then Parse.or Parse.many Parse.lead Parse.stmt_lead Parse.field_lead Parse.event_lead Parse.top_lead Parse.want_by Parse.want_in Parse.want Parse.need_by Parse.need Parse.named Parse.quoted Parse.valued Parse.loop Parse.else_behind Parse.list_step Parse.list_to Parse.braced Parse.onward Parse.end_in Parse.end Parse.called Parse.atom_by Parse.atom Parse.arg_step Parse.args Parse.call_by Parse.open_by Parse.post Parse.prim Parse.unary_by Parse.unary Parse.bin_step Parse.mul Parse.shift Parse.add Parse.inner Parse.expr Parse.else_by Parse.assign_by Parse.bodies Parse.stmt_by Parse.stmt Parse.body Parse.item_by Parse.item Parse.unit_at Parse.type_by Parse.key_by Parse.count_by Parse.chain_step Parse.chain Parse.limit_by Parse.map_field_by Parse.map_field Parse.map_end Parse.map_at Parse.length_by Parse.length_at Parse.array_by Parse.event_type_by Parse.event_field Parse.event_at Parse.top_by Parse.top Parse.parse Calls.judged Calls.spelling_judged Calls.spelling_part Calls.member_asked Calls.size_asked Calls.tokens Calls.place_of_row Calls.node_room Calls.out_told Calls.out_leaves Calls.reading Calls.ending_told Calls.ending_leaves Calls.parse_told Calls.parse_leaves
right = refl
