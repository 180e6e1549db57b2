-- Worked cases of the lister, that of LANGUAGE.md 11 first: texts and the lines that they give, as the checker computes them from the definitions.
use Rattle.std.specs.Prelude.{◌≡◌, refl, List, [], ◌∷◌, ◌++◌, map, ℕ}
use Rattle.rules.specs.Calls
use Rattle.rules.specs.Fits
use Rattle.rules.specs.Kinds
use Rattle.rules.specs.Lex
use Rattle.rules.specs.Nodes
use Rattle.rules.specs.Parse
use Rattle.rules.specs.Rows
use Rattle.rules.specs.Scan
use Rattle.rules.specs.Sets
use Rattle.rules.specs.Text
use Rattle.rules.specs.Tree
use Rattle.rules_decimal.specs.Decimal
use Rattle.lister_parts.specs.Parts
use Rattle.lister_lines.specs.Lines
use Rattle.rules.specs.Text.{bytes}
use Rattle.lister_lines.specs.Lines.{listed}

pub record Case : Type 0 where
  pub text : List ℕ
  pub printed : List ℕ

abbrev pub cases : List Case
cases =
    -- the example of LANGUAGE.md 11, 18 bytes
    record {
      text = bytes "unit u{\n x+=-1;\n}\n";
      printed =
          bytes "rows 9\n"
          ++ bytes "0 0 0 4 1 1 0\n"
          ++ bytes "1 48 5 6 1 6 0\n"
          ++ bytes "2 25 6 7 1 7 0\n"
          ++ bytes "3 48 9 10 2 2 0\n"
          ++ bytes "4 36 10 12 2 3 0\n"
          ++ bytes "5 50 12 14 2 5 -1\n"
          ++ bytes "6 32 14 15 2 7 0\n"
          ++ bytes "7 26 16 17 3 1 0\n"
          ++ bytes "8 52 18 18 4 1 0\n"
          ++ bytes "nodes 5\n"
          ++ bytes "0 1 3 3 0 0 0 0 0\n"
          ++ bytes "1 2 5 4294967295 0 4294967295 4294967295 0 0\n"
          ++ bytes "2 15 3 4294967295 2 0 0 0 0\n"
          ++ bytes "3 25 0 1 1 10 4294967295 0 0\n"
          ++ bytes "4 29 8 4294967295 1 0 0 0 0\n";
    } ∷
    -- a refusal of the scan
    record {
      text = bytes "map m\n{ @ }";
      printed =
          bytes "rows 3\n"
          ++ bytes "0 6 0 3 1 1 0\n"
          ++ bytes "1 48 4 5 1 5 0\n"
          ++ bytes "2 25 6 7 2 1 0\n"
          ++ bytes "refused 11 8 2 3\n";
    } ∷
    -- a refusal of the parse
    record {
      text = bytes "unit u{\n x -1;\n}\n";
      printed =
          bytes "rows 8\n"
          ++ bytes "0 0 0 4 1 1 0\n"
          ++ bytes "1 48 5 6 1 6 0\n"
          ++ bytes "2 25 6 7 1 7 0\n"
          ++ bytes "3 48 9 10 2 2 0\n"
          ++ bytes "4 50 11 13 2 4 -1\n"
          ++ bytes "5 32 13 14 2 6 0\n"
          ++ bytes "6 26 15 16 3 1 0\n"
          ++ bytes "7 52 17 17 4 1 0\n"
          ++ bytes "refused 21 11 2 4\n";
    } ∷
    []

pub right : map (λ (c : Case). listed c.text) cases ≡ map (λ (c : Case). c.printed) cases
unfolding
    Decimal.digits Decimal.decimal Decimal.signed Parts.spaced Parts.heading Parts.row_line Parts.node_line Parts.refusal_line Parts.lines Lines.room
    Parts.listed_rows Parts.listed_nodes Lines.listed_parse Lines.listed_tree Lines.listed_scan Lines.listed_text Lines.listed Text.front Text.utf8 Text.met
    Text.line_in Text.char_at Text.valid_from Text.valid_bytes Text.valid Text.is_blank Text.newlines Text.line_at Text.column_at Text.place_at Text.text_judged Text.moved Text.over Text.along Kinds.is_made Kinds.reserved
    Kinds.signs Kinds.same_bytes Kinds.kind_in Kinds.length_in Rows.row_words Rows.row_in Rows.rows_in Rows.words_of Rows.bits_of Rows.value_bits Rows.row_at Rows.eof_row Rows.row_place Rows.every
    Rows.chained Rows.length_fits Rows.spans_fit Rows.value_fits Rows.place_fits Rows.lines_fit Rows.row_fits Rows.follows Rows.gap_fits
    Rows.gaps_fit Rows.last_row Rows.ends_behind Rows.is_eof Rows.eof_last Rows.ending_fits Rows.rows_fit Rows.well_formed Rows.spelling
    Lex.line_comment Lex.before_close Lex.block_comment Lex.is_digit
    Lex.is_letter Lex.is_word Lex.word Lex.is_hex_digit Lex.digit_value Lex.spelt Lex.number_of Lex.decimal Lex.hex Lex.number Lex.is_escape Lex.string
    Lex.maybe_two Lex.single Lex.sign Lex.slashed Lex.dashed Lex.beginning Lex.piece Lex.decided_at Lex.item Scan.read_rows Scan.read_ending Scan.read
    Scan.scan Scan.room_of Scan.told Scan.laid Scan.scan_told Scan.scan_leaves Sets.sections Sets.fits Sets.kind_of_section Sets.from_section
    Sets.allowed Sets.member Sets.allows Sets.set_size Tree.kind_of Tree.spelling_of Tree.bits_in Tree.tok_of Tree.yield Tree.is_variable
    Tree.is_sum Tree.hangs Tree.count Tree.sections_of Tree.content Tree.section_text Tree.kind_of_first Tree.unit_kind Tree.map_types
    Tree.map_type_number Tree.shift_right Tree.shift_bits Tree.max_bits Tree.type_of Tree.typed_by Tree.limit_of Tree.lacking Nodes.width
    Nodes.place_of Nodes.licence_row Nodes.binary_node Nodes.decl_node Nodes.assign_node Nodes.text_node Nodes.nodes_of Nodes.size
    Nodes.node_words Nodes.words_of_nodes Nodes.tree_words Fits.retold Parse.then Parse.or Parse.many Parse.lead Parse.stmt_lead
    Parse.else_behind Parse.onward Parse.end_in Parse.end Parse.field_lead Parse.event_lead Parse.top_lead Parse.want_by Parse.want_in Parse.want
    Parse.need_by Parse.need Parse.named Parse.quoted Parse.valued Parse.loop Parse.list_step Parse.list_to Parse.braced Parse.called
    Parse.atom_by Parse.atom Parse.arg_step Parse.args Parse.call_by Parse.open_by Parse.post Parse.prim Parse.unary_by Parse.unary
    Parse.bin_step Parse.mul Parse.shift Parse.add Parse.inner Parse.expr Parse.else_by Parse.assign_by Parse.bodies Parse.stmt_by Parse.stmt
    Parse.body Parse.item_by Parse.item Parse.unit_at Parse.type_by Parse.key_by Parse.count_by Parse.chain_step Parse.chain Parse.limit_by
    Parse.map_field_by Parse.map_field Parse.map_end Parse.map_at Parse.length_by Parse.length_at Parse.array_by Parse.event_type_by
    Parse.event_field Parse.event_at Parse.top_by Parse.top Parse.parse Calls.judged Calls.spelling_judged Calls.spelling_part
    Calls.member_asked Calls.size_asked Calls.tokens Calls.place_of_row Calls.node_room Calls.out_told Calls.out_leaves Calls.reading
    Calls.ending_told Calls.ending_leaves Calls.parse_told Calls.parse_leaves
right = refl
