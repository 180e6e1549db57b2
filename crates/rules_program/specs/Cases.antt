-- Worked cases: pairs of texts, and what the call tells and leaves where an easy misreading would do another thing. Each table is under one
-- theorem that the checker computes.
use Rattle.std.specs.Prelude.{◌≡◌, refl, List, [], ◌∷◌, ◌++◌, map, ℕ, ◌+◌, length, replicate}
use Rattle.rules.specs.declared.Table.{Table}
use Rattle.rules.specs.declared.Cursor.{Cursor}
use Rattle.rules.specs.declared.Outer.TheVariants.{BadByte, NoNodeRoom}
use Rattle.rules.specs.declared.Syntax.TheVariants.{NotTopLevel, NotMapField}
use Rattle.rules.specs.declared.Reason.TheVariants as reason
use Rattle.rules.specs.Text
use Rattle.rules.specs.Text.{bytes, place, start_place}
use Rattle.rules.specs.Kinds
use Rattle.rules.specs.Fits
use Rattle.rules.specs.Rows
use Rattle.rules.specs.Rows.{words_of}
use Rattle.rules.specs.Lex
use Rattle.rules.specs.Scan
use Rattle.rules.specs.Scan.{scan, read_rows, read_ending}
use Rattle.rules.specs.Sets
use Rattle.rules.specs.Tree
use Rattle.rules.specs.Nodes
use Rattle.rules.specs.Nodes.{missing}
use Rattle.rules.specs.Parse
use Rattle.rules.specs.Calls
use Rattle.rules_program.specs.declared.Which.TheVariants.{Prelude, Probe}
use Rattle.rules_program.specs.declared.Unjoined.TheVariants as why
use Rattle.rules_program.specs.Both
use Rattle.rules_program.specs.Names
use Rattle.rules_program.specs.Program
use Rattle.rules_program.specs.Program.{Told, joined, refused, program_told, program_leaves_nodes, program_leaves_index}

-- a text's own rows and table
abbrev pub rows_of : List ℕ → List ℕ
rows_of t = words_of (read_rows (scan t))

abbrev pub table_of : List ℕ → Table
table_of t = record { count = length (read_rows (scan t)); length = length t; ending = read_ending (scan t) }

-- two texts with room for so many nodes and entries, and what is told
pub record Case : Type 0 where
  pub prelude : List ℕ
  pub probe : List ℕ
  pub nodes : ℕ
  pub entries : ℕ
  pub told : Told

abbrev pub answer : Case → Case
answer c =
    record {
      prelude = c.prelude;
      probe = c.probe;
      nodes = c.nodes;
      entries = c.entries;
      told = program_told c.prelude (rows_of c.prelude) (table_of c.prelude) c.probe (rows_of c.probe) (table_of c.probe) c.nodes
          c.entries;
    }

abbrev pub pair : (prelude probe : List ℕ) (nodes entries : ℕ) → Told → Case
pair prelude probe nodes entries told =
    record { prelude = prelude; probe = probe; nodes = nodes; entries = entries; told = told }

-- a place in the first line
abbrev pub in_line : ℕ → Cursor
in_line n = place n 1 (n + 1)

abbrev pub cases : List Case
cases =
    -- nothing at all: two rows, one node
    pair [] [] 2 0 (joined 1 0)
    -- an event of the prelude, and the units of the probe
    ∷ pair (bytes "event e{}") (bytes "unit u{}") 10 1 (joined 3 1)
    -- the prelude's own refusal comes first, then the probe's; 5 after both
    ∷ pair (bytes "map a{") (0xFF ∷ []) 0 0 (refused (why.Own (reason.Syntax NotMapField)) (in_line 6) 0 Prelude)
    ∷ pair [] (0xFF ∷ []) 0 0 (refused (why.Own (reason.Outer BadByte)) (in_line 0) 0 Probe)
    ∷ pair (bytes ";") [] 0 0 (refused (why.Own (reason.Syntax NotTopLevel)) (in_line 0) 0 Prelude)
    ∷ pair [] (bytes ";") 0 0 (refused (why.Own (reason.Syntax NotTopLevel)) (in_line 0) 0 Probe)
    ∷ pair [] [] 1 0 (refused (why.Own (reason.Outer NoNodeRoom)) start_place 0 Prelude)
    -- 50 at the unit's keyword, before 51
    ∷ pair (bytes "event a{} event a{} unit u{}") [] 40 0 (refused why.UnitInPrelude (in_line 20) 0 Prelude)
    -- 51 at the later name, before 4; maps and events share their names, units have none
    ∷ pair (bytes "event e{}") (bytes "event e{}") 40 0 (refused why.DeclaredTwice (in_line 6) 0 Probe)
    ∷ pair (bytes "event e{}map e{type:.ringbuf;max:1;}") [] 40 1 (refused why.DeclaredTwice (in_line 13) 0 Prelude)
    ∷ pair (bytes "event u{}") (bytes "unit u{}unit u{}") 40 1 (joined 4 1)
    -- of a, b, b, a it is the third
    ∷ pair (bytes "event a{}event b{}") (bytes "event b{}event a{}") 40 0 (refused why.DeclaredTwice (in_line 6) 0 Probe)
    -- 4 last
    ∷ pair (bytes "event e{}") (bytes "event f{}") 40 1 (refused why.NoIndexRoom start_place 0 Prelude)
    ∷ []

-- ---- what is left: nodes, then index

abbrev pub left : (prelude probe nodes index : List ℕ) → List ℕ
left prelude probe nodes index =
    program_leaves_nodes prelude (rows_of prelude) (table_of prelude) probe (rows_of probe) (table_of probe) nodes index
    ++ program_leaves_index prelude (rows_of prelude) (table_of prelude) probe (rows_of probe) (table_of probe) nodes index

abbrev pub lefts : List (List ℕ)
lefts =
    left (bytes "event e{}") (bytes "unit u{license \"GPL\";}") (replicate 113 7) (replicate 3 7)
    ∷ left [] (bytes "unit u{}") (replicate 48 7) []
    ∷ left (bytes "event aa{}event Z{}") (bytes "event a{}event a0{}") (replicate 200 7) (replicate 8 7)
    ∷ left (bytes "event e{}") (bytes "event f{}") (replicate 80 7) (replicate 3 7)
    ∷ []

abbrev pub expected : List (List ℕ)
expected =
    -- The rows count over both texts: the event's are 0 to 4, its text's Eof among them, and the probe's 5 to 12.
    ((27 ∷ 1 ∷ 1 ∷ 0 ∷ 0 ∷ 0 ∷ 0 ∷ 0
    ∷ 24 ∷ 9 ∷ 9 ∷ 0 ∷ 0 ∷ 0 ∷ 0 ∷ 0
    ∷ 25 ∷ 5 ∷ 6 ∷ 1 ∷ 10 ∷ 9 ∷ 0 ∷ 0
    ∷ 29 ∷ 12 ∷ missing ∷ 2 ∷ 0 ∷ 0 ∷ 0 ∷ 0 ∷ replicate 81 7)
    ++ (1 ∷ 0 ∷ 7 ∷ []))
    -- An empty prelude has one row. The missing licence is not moved.
    ∷ (25 ∷ 1 ∷ 2 ∷ 0 ∷ 10 ∷ missing ∷ 0 ∷ 0
    ∷ 29 ∷ 5 ∷ missing ∷ 1 ∷ 0 ∷ 0 ∷ 0 ∷ 0 ∷ replicate 32 7)
    -- The index rises by the names' bytes, a shorter name before a longer that it begins.
    ∷ ((27 ∷ 1 ∷ 1 ∷ 0 ∷ 0 ∷ 0 ∷ 0 ∷ 0
    ∷ 27 ∷ 5 ∷ 5 ∷ 0 ∷ 0 ∷ 0 ∷ 0 ∷ 0
    ∷ 27 ∷ 10 ∷ 10 ∷ 0 ∷ 0 ∷ 0 ∷ 0 ∷ 0
    ∷ 27 ∷ 14 ∷ 14 ∷ 0 ∷ 0 ∷ 0 ∷ 0 ∷ 0
    ∷ 29 ∷ 17 ∷ missing ∷ 4 ∷ 0 ∷ 0 ∷ 0 ∷ 0 ∷ replicate 160 7)
    ++ (5 ∷ 1 ∷ 10 ∷ 2 ∷ 14 ∷ 3 ∷ 1 ∷ 0 ∷ []))
    -- a refusal, 4 for three words of index, leaves both
    ∷ replicate 83 7
    ∷ []

pub right : (map answer cases ≡ cases) × (lefts ≡ expected)
unfolding
    Text.front Text.utf8 Text.met Text.line_in Text.char_at Text.is_cut Text.valid_from Text.valid_bytes Text.valid Text.is_blank
    Text.newlines Text.line_at Text.column_at Text.place_at Text.text_judged Kinds.reserved Kinds.signs Kinds.same_bytes Kinds.kind_in Kinds.is_made Kinds.length_in
    Rows.row_words Rows.row_in Rows.rows_in Rows.words_of Rows.bits_of Rows.value_bits Rows.row_at Rows.eof_row Rows.row_place
    Rows.spelling Lex.line_comment Lex.before_close Lex.block_comment Lex.is_digit Lex.is_letter Lex.is_word Lex.word Lex.is_hex_digit
    Lex.digit_value Lex.spelt Lex.number_of Lex.decimal Lex.hex Lex.number Lex.is_escape Lex.string Lex.maybe_two Lex.single Lex.sign
    Lex.slashed Lex.dashed Lex.beginning Lex.piece Scan.read_rows Scan.read_ending Scan.read Scan.scan Tree.kind_of Tree.spelling_of
    Tree.bits_in Tree.tok_of Tree.yield Tree.is_variable Tree.is_sum Tree.hangs Tree.count Tree.sections_of Tree.content
    Tree.section_text Tree.kind_of_first Tree.unit_kind Tree.map_types Tree.map_type_number Tree.shift_right Tree.shift_bits Tree.max_bits
    Tree.type_of Tree.typed_by Tree.limit_of Tree.lacking Fits.has Fits.set_told Fits.retold Parse.then Parse.or Parse.many Parse.lead
    Parse.stmt_lead Parse.field_lead Parse.event_lead Parse.top_lead Parse.want_by Parse.want_in Parse.want Parse.need_by Parse.need
    Parse.named Parse.quoted Parse.valued Parse.loop Parse.else_behind Parse.list_step Parse.list_to Parse.braced Parse.onward
    Parse.end_in Parse.end Parse.called Parse.atom_by Parse.atom Parse.arg_step Parse.args Parse.call_by Parse.open_by Parse.post
    Parse.prim Parse.unary_by Parse.unary Parse.bin_step Parse.mul Parse.shift Parse.add Parse.inner Parse.expr Parse.else_by
    Parse.assign_by Parse.bodies Parse.stmt_by Parse.stmt Parse.body Parse.item_by Parse.item Parse.unit_at Parse.type_by Parse.key_by
    Parse.count_by Parse.chain_step Parse.chain Parse.limit_by Parse.map_field_by Parse.map_field Parse.map_end Parse.map_at
    Parse.length_by Parse.length_at Parse.array_by Parse.event_type_by Parse.event_field Parse.event_at Parse.top_by Parse.top Parse.parse
    Nodes.width Nodes.place_of Nodes.licence_row Nodes.binary_node Nodes.decl_node Nodes.assign_node Nodes.text_node
    Nodes.nodes_of Nodes.size Nodes.node_words Nodes.words_of_nodes Nodes.tree_words Sets.from_section
    Rows.every Rows.chained Rows.length_fits Rows.spans_fit Rows.value_fits Rows.place_fits Rows.lines_fit Rows.row_fits Rows.follows Rows.gap_fits Rows.gaps_fit
    Rows.last_row Rows.ends_behind Rows.is_eof Rows.eof_last Rows.ending_fits Rows.rows_fit Rows.well_formed
    Calls.tokens Calls.judged Calls.reading Calls.out_told Calls.ending_told Calls.parse_told Calls.place_of_row Calls.node_room
    Both.declarations Both.listed Both.both Both.rows_of_all Both.size_of_all Both.nodes_of_all Both.nodes_of_both Both.declared_as Both.declared_in Both.declared_both
    Names.unit_rows Names.named Names.names_of Names.has_name Names.twin_rows Names.comes_before Names.placed_in Names.rising Names.entry_words
    Program.which_text Program.place_of_both Program.tree_in Program.entry_room Program.index_told Program.twin_told Program.unit_told Program.room_told Program.program_told Program.nodes_left Program.index_left Program.program_leaves_nodes Program.program_leaves_index
right = (refl, refl)
