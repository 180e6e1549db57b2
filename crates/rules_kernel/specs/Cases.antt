-- Worked cases: maps by their facts, and texts, where an easy misreading would tell another rule. Each table is under one theorem that the
-- checker computes.
use Rattle.std.specs.Prelude.{◌≡◌, refl, List, [], ◌∷◌, map, ℕ, ◌+◌, ◌^◌, length, Ok}
use Rattle.rules.specs.declared.Table.{Table}
use Rattle.rules.specs.declared.Syntax.TheVariants.{NotTopLevel}
use Rattle.rules.specs.declared.Outer.TheVariants.{NoNodeRoom}
use Rattle.rules.specs.declared.Reason.TheVariants as reason
use Rattle.rules.specs.Text
use Rattle.rules.specs.Text.{bytes, place, start_place}
use Rattle.rules.specs.Kinds
use Rattle.rules.specs.Fits
use Rattle.rules.specs.Rows
use Rattle.rules.specs.Rows.{words_of}
use Rattle.rules.specs.Lex
use Rattle.rules.specs.Scan
use Rattle.rules.specs.Scan.{scan, read_rows, read_ending}
use Rattle.rules.specs.Sets
use Rattle.rules.specs.Tree
use Rattle.rules.specs.Tree.{MapHash, MapArray, MapRingbuf, MapLruHash, MapProgArray}
use Rattle.rules.specs.Nodes
use Rattle.rules.specs.Parse
use Rattle.rules.specs.Calls
use Rattle.rules_program.specs.Both
use Rattle.rules_program.specs.Program
use Rattle.rules_kernel.specs.declared.Breach.{Breach}
use Rattle.rules_kernel.specs.declared.Breach.TheVariants.{MaxZero, RingbufTyped, RingbufSize, KeySize, ValueSize}
use Rattle.rules_kernel.specs.declared.Unloaded.TheVariants as why
use Rattle.rules_kernel.specs.Rules
use Rattle.rules_kernel.specs.Rules.{Map, breaches}
use Rattle.rules_kernel.specs.Profile
use Rattle.rules_kernel.specs.Profile.{Profiled, refused, profile_told}

-- ---- maps by their facts

-- types of keys and values: 0 none, 1 u32, 2 u64, 3 i32, 4 i64
abbrev pub of : (type key value max : ℕ) → Map
of type key value max = record { row = 0; type = type; key = key; value = value; max = max }

abbrev pub maps : List Map
maps =
    -- a ringbuf's sizes: one bit and a multiple of 4,096, the smallest and the largest; one bit alone; a multiple alone
    of MapRingbuf 0 0 4096
    ∷ of MapRingbuf 0 0 (2 ^ 31)
    ∷ of MapRingbuf 0 0 2048
    ∷ of MapRingbuf 0 0 1
    ∷ of MapRingbuf 0 0 12288
    -- 60 before 62, 61 before 62, by the key and by the value
    ∷ of MapRingbuf 0 0 0
    ∷ of MapRingbuf 2 0 1
    ∷ of MapRingbuf 0 1 4096
    -- keys of arrays, keys and values of prog_arrays: u32 and i32; hashes take any
    ∷ of MapArray 1 2 1
    ∷ of MapArray 3 4 1
    ∷ of MapArray 2 1 1
    ∷ of MapProgArray 1 3 1
    ∷ of MapProgArray 2 2 1
    ∷ of MapProgArray 3 2 1
    ∷ of MapHash 4 4 1
    ∷ of MapLruHash 2 2 3
    ∷ of MapHash 1 1 0
    ∷ []

abbrev pub breach : List (List Breach)
breach =
    [] ∷ [] ∷ (RingbufSize ∷ []) ∷ (RingbufSize ∷ []) ∷ (RingbufSize ∷ []) ∷ (MaxZero ∷ RingbufSize ∷ []) ∷ (RingbufTyped ∷ RingbufSize ∷ [])
    ∷ (RingbufTyped ∷ []) ∷ [] ∷ [] ∷ (KeySize ∷ []) ∷ [] ∷ (KeySize ∷ ValueSize ∷ []) ∷ (ValueSize ∷ []) ∷ [] ∷ [] ∷ (MaxZero ∷ []) ∷ []

-- ---- texts

-- a text, the switch, the room for nodes, and what is told
pub record Case : Type 0 where
  pub text : List ℕ
  pub kernel : ℕ
  pub room : ℕ
  pub told : Profiled

abbrev pub table_of : List ℕ → Table
table_of t = record { count = length (read_rows (scan t)); length = length t; ending = read_ending (scan t) }

abbrev pub answer : Case → Case
answer c =
    record {
      text = c.text;
      kernel = c.kernel;
      room = c.room;
      told = profile_told c.text (words_of (read_rows (scan c.text))) (table_of c.text) c.kernel c.room;
    }

abbrev pub on : List ℕ → Profiled → Case
on t told = record { text = t; kernel = 1; room = 90; told = told }

-- a rule broken, at a place of the first line
abbrev pub at : ℕ → Breach → Profiled
at n b = refused (why.Broken b) (place n 1 (n + 1)) 0

abbrev pub cases : List Case
cases =
    on (bytes "map m{type:.ringbuf;max:4096;}") (Ok 2)
    ∷ on (bytes "map m{type:.ringbuf;max:1;}") (at 4 RingbufSize)
    -- off, and on by another number
    ∷ record { text = bytes "map m{type:.ringbuf;max:1;}"; kernel = 0; room = 90; told = Ok 2 }
    ∷ record { text = bytes "map m{type:.ringbuf;max:0;}"; kernel = 7; room = 90; told = at 4 MaxZero }
    -- the first map that breaks a rule, not the smallest number of all
    ∷ on (bytes "map m{type:.ringbuf;max:1;}map n{type:.ringbuf;max:0;}") (at 4 RingbufSize)
    ∷ on (bytes "event e{}map m{type:.ringbuf;max:4096;}map n{type:.ringbuf;max:0;}") (at 43 MaxZero)
    -- the facts decide, not the fields that a later one replaced
    ∷ on (bytes "map m{type:.ringbuf;key:u64;value:u64;type:.array;max:1;}") (at 4 KeySize)
    ∷ on (bytes "map m{type:.hash;key:u32;type:.ringbuf;max:4096;}") (at 4 RingbufTyped)
    ∷ on (bytes "map m{type:.ringbuf;max:1;max:8192;}") (Ok 2)
    -- the rules stand behind every other refusal, a later declaration's and 5 among them
    ∷ on (bytes "map m{type:.ringbuf;max:0;};") (refused (why.Unread (reason.Syntax NotTopLevel)) (place 27 1 28) 0)
    ∷ record { text = bytes "map m{type:.ringbuf;max:0;}"; kernel = 1; room = 0; told = refused (why.Unread (reason.Outer NoNodeRoom)) start_place 0 }
    ∷ []

pub right : (map breaches maps ≡ breach) × (map answer cases ≡ cases)
unfolding
    Text.front Text.utf8 Text.met Text.line_in Text.char_at Text.is_cut Text.valid_from Text.valid_bytes Text.valid Text.is_blank
    Text.newlines Text.line_at Text.column_at Text.place_at Text.text_judged Kinds.reserved Kinds.signs Kinds.same_bytes
    Kinds.kind_in Kinds.is_made Kinds.length_in Rows.row_words Rows.row_in Rows.rows_in Rows.words_of Rows.bits_of Rows.value_bits
    Rows.row_at Rows.eof_row Rows.row_place Rows.spelling Lex.line_comment Lex.before_close Lex.block_comment Lex.is_digit
    Lex.is_letter Lex.is_word Lex.word Lex.is_hex_digit Lex.digit_value Lex.spelt Lex.number_of Lex.decimal Lex.hex Lex.number
    Lex.is_escape Lex.string Lex.maybe_two Lex.single Lex.sign Lex.slashed Lex.dashed Lex.beginning Lex.piece Scan.read_rows
    Scan.read_ending Scan.read Scan.scan Tree.kind_of Tree.spelling_of Tree.bits_in Tree.tok_of Tree.yield Tree.is_variable
    Tree.is_sum Tree.hangs Tree.count Tree.sections_of Tree.content Tree.section_text Tree.kind_of_first Tree.unit_kind
    Tree.map_types Tree.map_type_number Tree.shift_right Tree.shift_bits Tree.max_bits Tree.type_of Tree.typed_by Tree.limit_of
    Tree.lacking Fits.has Fits.set_told Fits.retold Parse.then Parse.or Parse.many Parse.lead Parse.stmt_lead Parse.field_lead
    Parse.event_lead Parse.top_lead Parse.want_by Parse.want_in Parse.want Parse.need_by Parse.need Parse.named Parse.quoted
    Parse.valued Parse.loop Parse.else_behind Parse.list_step Parse.list_to Parse.braced Parse.onward Parse.end_in Parse.end
    Parse.called Parse.atom_by Parse.atom Parse.arg_step Parse.args Parse.call_by Parse.open_by Parse.post Parse.prim
    Parse.unary_by Parse.unary Parse.bin_step Parse.mul Parse.shift Parse.add Parse.inner Parse.expr Parse.else_by
    Parse.assign_by Parse.bodies Parse.stmt_by Parse.stmt Parse.body Parse.item_by Parse.item Parse.unit_at Parse.type_by
    Parse.key_by Parse.count_by Parse.chain_step Parse.chain Parse.limit_by Parse.map_field_by Parse.map_field Parse.map_end
    Parse.map_at Parse.length_by Parse.length_at Parse.array_by Parse.event_type_by Parse.event_field Parse.event_at Parse.top_by
    Parse.top Parse.parse Nodes.width Nodes.place_of Nodes.licence_row Nodes.binary_node Nodes.decl_node Nodes.assign_node
    Nodes.text_node Nodes.nodes_of Nodes.size Nodes.node_words Nodes.words_of_nodes Nodes.tree_words Sets.from_section Rows.every
    Rows.chained Rows.length_fits Rows.spans_fit Rows.value_fits Rows.place_fits Rows.lines_fit Rows.row_fits Rows.follows
    Rows.gap_fits Rows.gaps_fit Rows.last_row Rows.ends_behind Rows.is_eof Rows.eof_last Rows.ending_fits Rows.rows_fit
    Rows.well_formed Calls.tokens Calls.judged Calls.reading Calls.out_told Calls.ending_told Calls.parse_told Calls.place_of_row
    Calls.node_room Both.declarations Program.tree_in Rules.ones Rules.is_ring_size Rules.breaches Rules.map_as Rules.maps_in
    Rules.first_of Rules.broken_in Profile.rules_told Profile.profile_told
right = (refl, refl)
