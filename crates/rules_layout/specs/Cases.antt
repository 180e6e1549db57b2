-- Worked cases: the layouts of small texts byte by byte, and what the call tells and leaves where an easy misreading would do another
-- thing. Each table is under one theorem that the checker computes.
use Rattle.std.specs.Prelude.{◌≡◌, refl, List, [], ◌∷◌, ◌++◌, map, ℕ, length, set, replicate, None, Result, Ok, Err}
use Rattle.rules.specs.declared.Table.{Table}
use Rattle.rules.specs.Text
use Rattle.rules.specs.Text.{bytes}
use Rattle.rules.specs.Kinds
use Rattle.rules.specs.Fits
use Rattle.rules.specs.Rows
use Rattle.rules.specs.Rows.{words_of}
use Rattle.rules.specs.Lex
use Rattle.rules.specs.Scan
use Rattle.rules.specs.Scan.{scan, read_rows, read_ending}
use Rattle.rules.specs.Sets
use Rattle.rules.specs.Tree
use Rattle.rules.specs.Nodes
use Rattle.rules.specs.Nodes.{tree_words, size}
use Rattle.rules.specs.Parse
use Rattle.rules.specs.Parse.{Out, ok, no}
use Rattle.rules.specs.Calls
use Rattle.rules_decimal.specs.Decimal
use Rattle.rules_layout.specs.declared.Unlaid.{Unlaid}
use Rattle.rules_layout.specs.declared.Unlaid.TheVariants.{NotItsTree, NoRoom}
use Rattle.rules_layout.specs.Rows as Written
use Rattle.rules_layout.specs.Bytes
use Rattle.rules_layout.specs.Layout
use Rattle.rules_layout.specs.Layout.{reading, laid_of, layout_told, layout_leaves}

-- ---- layouts

-- A text and its layout.
pub record Case : Type 0 where
  pub text : List ℕ
  pub layout : List ℕ

abbrev pub answer : Case → Case
answer c = record { text = c.text; layout = laid_of (reading c.text) }

-- a unit of one statement, and the layout of that
abbrev pub unit_of : List ℕ → List ℕ → Case
unit_of s l = record { text = bytes "unit u{" ++ s ++ bytes "}"; layout = bytes "unit u {\n" ++ l ++ bytes "}\n" }

abbrev pub cases : List Case
cases =
    record { text = []; layout = [] }
    ∷ record { text = bytes "unit u{\n x+=-1;\n}\n"; layout = bytes "unit u {\nx += -1 ;\n}\n" }
    ∷ record { text = bytes "event e{b:bytes[0x10];c:u32;}"; layout = bytes "event e {\nb : bytes [ 16 ] ;\nc : u32 ;\n}\n" }
    ∷ unit_of (bytes "if guard(x){}else{}") (bytes "if guard ( x ) {\n}\nelse {\n}\n")
    -- numbers by their value; a minus sign belongs to its number
    ∷ unit_of (bytes "0x1F;-0x10;-0;000;") (bytes "31 ;\n-16 ;\n0 ;\n0 ;\n")
    ∷ unit_of (bytes "(-1).f;a-(-1);") (bytes "-1 . f ;\na - -1 ;\n")
    -- fields in their order, the last of each, a ringbuf's key too
    ∷ record { text = bytes "map m{max:1<<4;type:.ringbuf;key:u64;}"; layout = bytes "map m {\ntype : . ringbuf ;\nkey : u64 ;\nmax : 16 ;\n}\n" }
    ∷ record {
      text = bytes "map m{key:u32;value:i64;key:i32;type:.hash;type:.array;max:3;}";
      layout = bytes "map m {\ntype : . array ;\nkey : i32 ;\nvalue : i64 ;\nmax : 3 ;\n}\n";
    }
    -- two ladders: a shift may stand left of a sum, not right of it
    ∷ unit_of (bytes "(a<<1)-b;") (bytes "a << 1 - b ;\n")
    ∷ unit_of (bytes "a-(b<<1);") (bytes "a - ( b << 1 ) ;\n")
    ∷ unit_of (bytes "(a+b)<<1;") (bytes "( a + b ) << 1 ;\n")
    ∷ unit_of (bytes "a<<(b*c);") (bytes "a << b * c ;\n")
    ∷ unit_of (bytes "a<<(b<<c);") (bytes "a << ( b << c ) ;\n")
    ∷ unit_of (bytes "a*(b*c);(a*b)*c;") (bytes "a * ( b * c ) ;\na * b * c ;\n")
    -- stars and fields
    ∷ unit_of (bytes "a**b;*a.b;") (bytes "a * * b ;\n* a . b ;\n")
    ∷ unit_of (bytes "(*a).b;*(a.b);*(a*b);") (bytes "( * a ) . b ;\n* a . b ;\n* ( a * b ) ;\n")
    ∷ unit_of (bytes "((x)).m();x.m((a+b),((c)));") (bytes "x . m ( ) ;\nx . m ( a + b , c ) ;\n")
    -- sections and licences as they are spelled
    ∷ unit_of (bytes "section \"xdp\";license \"G\\\"PL\";return(x);") (bytes "section \"xdp\" ;\nlicense \"G\\\"PL\" ;\nreturn x ;\n")
    ∷ []

pub right : map answer cases ≡ cases
unfolding
    Text.front Text.utf8 Text.met Text.line_in Text.char_at Text.is_cut Text.valid_from Text.valid_bytes Text.valid Text.is_blank
    Text.newlines Text.line_at Text.column_at Text.place_at Text.text_judged Kinds.reserved Kinds.signs Kinds.same_bytes Kinds.kind_in
    Rows.row_words Rows.row_in Rows.rows_in Rows.words_of Rows.bits_of Rows.value_bits Rows.row_at Rows.eof_row Rows.row_place
    Rows.spelling Lex.line_comment Lex.before_close Lex.block_comment Lex.is_digit Lex.is_letter Lex.is_word Lex.word Lex.is_hex_digit
    Lex.digit_value Lex.spelt Lex.number_of Lex.decimal Lex.hex Lex.number Lex.is_escape Lex.string Lex.maybe_two Lex.single Lex.sign
    Lex.slashed Lex.dashed Lex.beginning Lex.piece Scan.read_rows Scan.read_ending Scan.read Scan.scan Tree.kind_of Tree.spelling_of
    Tree.bits_in Tree.tok_of Tree.yield Tree.is_variable Tree.is_sum Tree.hangs Tree.count Tree.sections_of Tree.content
    Tree.section_text Tree.kind_of_first Tree.unit_kind Tree.map_types Tree.map_type_number Tree.shift_right Tree.shift_bits Tree.max_bits
    Tree.type_of Tree.typed_by Tree.limit_of Tree.lacking Fits.has Fits.set_told Fits.retold Parse.then Parse.or Parse.many Parse.lead
    Parse.stmt_lead Parse.field_lead Parse.event_lead Parse.top_lead Parse.want_by Parse.want_in Parse.want Parse.need_by Parse.need
    Parse.named Parse.quoted Parse.valued Parse.loop Parse.else_behind Parse.list_step Parse.list_to Parse.braced Parse.onward
    Parse.end_in Parse.end Parse.called Parse.atom_by Parse.atom Parse.arg_step Parse.args Parse.call_by Parse.open_by Parse.post
    Parse.prim Parse.unary_by Parse.unary Parse.bin_step Parse.mul Parse.shift Parse.add Parse.inner Parse.expr Parse.else_by
    Parse.assign_by Parse.bodies Parse.stmt_by Parse.stmt Parse.body Parse.item_by Parse.item Parse.unit_at Parse.type_by Parse.key_by
    Parse.count_by Parse.chain_step Parse.chain Parse.limit_by Parse.map_field_by Parse.map_field Parse.map_end Parse.map_at
    Parse.length_by Parse.length_at Parse.array_by Parse.event_type_by Parse.event_field Parse.event_at Parse.top_by Parse.top Parse.parse
    Calls.tokens Nodes.width Nodes.place_of Nodes.licence_row Nodes.binary_node Nodes.decl_node Nodes.assign_node Nodes.text_node
    Nodes.nodes_of Nodes.size Nodes.node_words Nodes.words_of_nodes Nodes.tree_words Sets.from_section Decimal.digits Decimal.decimal
    Decimal.signed Written.spelling_in Written.with_typed Written.type_field Written.fields_of Written.level_by Written.right_of
    Written.level Written.laid Bytes.spelled Bytes.behind Bytes.row_bytes Bytes.rows_bytes Bytes.layout Layout.is_whole Layout.is_scan
    Layout.is_tree Layout.reading Layout.room_told Layout.tree_told Layout.layout_told Layout.laid_of Layout.layout_leaves
right = refl

-- ---- what is told and left

-- what a call tells, and how it leaves the room
pub record Does : Type 0 where
  pub told : Result ℕ Unlaid
  pub room : List ℕ

-- the table of a text, and its nodes
abbrev pub table_of : List ℕ → Table
table_of t = record { count = length (read_rows (scan t)); length = length t; ending = None }

abbrev pub nodes_in : Out → List ℕ
nodes_in (ok u j) = tree_words 0 u
nodes_in (no why r) = []

abbrev pub count_in : Out → ℕ
count_in (ok u j) = size u
count_in (no why r) = 0

-- a text with its own rows and nodes, into a room
abbrev pub does : List ℕ → List ℕ → Does
does t room =
    let ws : List ℕ = words_of (read_rows (scan t)) in
    let ns : List ℕ = nodes_in (reading t) in
    let n : ℕ = count_in (reading t) in
    record { told = layout_told t ws (table_of t) ns n (length room); room = layout_leaves t ws (table_of t) ns n room }

-- the probe of the forged cases, its layout of 15 bytes, and what is no tree of it
abbrev pub probe : List ℕ
probe = bytes "unit u{x;}"

abbrev pub rows_of : List ℕ → List ℕ
rows_of t = words_of (read_rows (scan t))

abbrev pub nodes_of : List ℕ → List ℕ
nodes_of t = nodes_in (reading t)

-- a text with these rows, table, nodes and count, into 20 bytes
abbrev pub does_of : List ℕ → List ℕ → Table → List ℕ → ℕ → Does
does_of t ws tbl ns n =
    let room : List ℕ = replicate 20 7 in
    record { told = layout_told t ws tbl ns n (length room); room = layout_leaves t ws tbl ns n room }

abbrev pub does_with : List ℕ → Table → List ℕ → ℕ → Does
does_with ws tbl ns n = does_of probe ws tbl ns n

abbrev pub refused : Does
refused = record { told = Err NotItsTree; room = replicate 20 7 }

abbrev pub done : Does
done = record { told = Ok 15; room = bytes "unit u {\nx ;\n}\n" ++ replicate 5 7 }

abbrev pub calls : List Does
calls =
    -- no declaration: no bytes, in no room
    does [] []
    -- a room of just the length, and of one byte less
    ∷ does probe (replicate 15 7)
    ∷ does probe (replicate 14 7)
    -- a text that is refused by the scan, by the parse, or that is no UTF-8, and one whose `+` was forged to a name: 3, in no room too
    ∷ does (bytes "unit u{@}") []
    ∷ does (bytes "unit u{+;}") []
    ∷ does (0xFF ∷ []) []
    ∷ does_of (bytes "unit u{+;}") (rows_of probe) (table_of probe) (nodes_of probe) 4
    -- words that are lent behind the rows and the nodes play no part
    ∷ does_with (rows_of probe ++ (9 ∷ [])) (table_of probe) (nodes_of probe ++ (9 ∷ [])) 4
    -- another line, another count, another place of a node, a node less, a node more
    ∷ does_with (set (rows_of probe) 3 2) (table_of probe) (nodes_of probe) 4
    ∷ does_with (rows_of probe) (record { count = 6; length = 10; ending = None }) (nodes_of probe) 4
    ∷ does_with (rows_of probe) (table_of probe) (set (nodes_of probe) 1 2) 4
    ∷ does_with (rows_of probe) (table_of probe) (nodes_of probe) 3
    ∷ does_with (rows_of probe) (table_of probe) (nodes_of probe ++ replicate 8 0) 5
    ∷ []

pub calls_right :
    calls
    ≡ (record { told = Ok 0; room = [] }
    ∷ record { told = Ok 15; room = bytes "unit u {\nx ;\n}\n" }
    ∷ record { told = Err NoRoom; room = replicate 14 7 }
    ∷ record { told = Err NotItsTree; room = [] }
    ∷ record { told = Err NotItsTree; room = [] }
    ∷ record { told = Err NotItsTree; room = [] }
    ∷ refused
    ∷ done
    ∷ refused ∷ refused ∷ refused ∷ refused ∷ refused ∷ [])
unfolding
    Text.front Text.utf8 Text.met Text.line_in Text.char_at Text.is_cut Text.valid_from Text.valid_bytes Text.valid Text.is_blank
    Text.newlines Text.line_at Text.column_at Text.place_at Text.text_judged Kinds.reserved Kinds.signs Kinds.same_bytes Kinds.kind_in
    Rows.row_words Rows.row_in Rows.rows_in Rows.words_of Rows.bits_of Rows.value_bits Rows.row_at Rows.eof_row Rows.row_place
    Rows.spelling Lex.line_comment Lex.before_close Lex.block_comment Lex.is_digit Lex.is_letter Lex.is_word Lex.word Lex.is_hex_digit
    Lex.digit_value Lex.spelt Lex.number_of Lex.decimal Lex.hex Lex.number Lex.is_escape Lex.string Lex.maybe_two Lex.single Lex.sign
    Lex.slashed Lex.dashed Lex.beginning Lex.piece Scan.read_rows Scan.read_ending Scan.read Scan.scan Tree.kind_of Tree.spelling_of
    Tree.bits_in Tree.tok_of Tree.yield Tree.is_variable Tree.is_sum Tree.hangs Tree.count Tree.sections_of Tree.content
    Tree.section_text Tree.kind_of_first Tree.unit_kind Tree.map_types Tree.map_type_number Tree.shift_right Tree.shift_bits Tree.max_bits
    Tree.type_of Tree.typed_by Tree.limit_of Tree.lacking Fits.has Fits.set_told Fits.retold Parse.then Parse.or Parse.many Parse.lead
    Parse.stmt_lead Parse.field_lead Parse.event_lead Parse.top_lead Parse.want_by Parse.want_in Parse.want Parse.need_by Parse.need
    Parse.named Parse.quoted Parse.valued Parse.loop Parse.else_behind Parse.list_step Parse.list_to Parse.braced Parse.onward
    Parse.end_in Parse.end Parse.called Parse.atom_by Parse.atom Parse.arg_step Parse.args Parse.call_by Parse.open_by Parse.post
    Parse.prim Parse.unary_by Parse.unary Parse.bin_step Parse.mul Parse.shift Parse.add Parse.inner Parse.expr Parse.else_by
    Parse.assign_by Parse.bodies Parse.stmt_by Parse.stmt Parse.body Parse.item_by Parse.item Parse.unit_at Parse.type_by Parse.key_by
    Parse.count_by Parse.chain_step Parse.chain Parse.limit_by Parse.map_field_by Parse.map_field Parse.map_end Parse.map_at
    Parse.length_by Parse.length_at Parse.array_by Parse.event_type_by Parse.event_field Parse.event_at Parse.top_by Parse.top Parse.parse
    Calls.tokens Nodes.width Nodes.place_of Nodes.licence_row Nodes.binary_node Nodes.decl_node Nodes.assign_node Nodes.text_node
    Nodes.nodes_of Nodes.size Nodes.node_words Nodes.words_of_nodes Nodes.tree_words Sets.from_section Decimal.digits Decimal.decimal
    Decimal.signed Written.spelling_in Written.with_typed Written.type_field Written.fields_of Written.level_by Written.right_of
    Written.level Written.laid Bytes.spelled Bytes.behind Bytes.row_bytes Bytes.rows_bytes Bytes.layout Layout.is_whole Layout.is_scan
    Layout.is_tree Layout.reading Layout.room_told Layout.tree_told Layout.layout_told Layout.laid_of Layout.layout_leaves
calls_right = refl
