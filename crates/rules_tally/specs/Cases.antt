-- Worked cases: the tallies of small texts, of lent nodes, and of joinings, where an easy misreading would give another. Each table is under
-- one theorem that the checker computes.
use Rattle.std.specs.Prelude.{Result, Ok, Err, ◌≡◌, refl, List, [], ◌∷◌, ◌++◌, map, ℕ, ◌-◌, ◌^◌, set, replicate}
use Rattle.rules.specs.Text
use Rattle.rules.specs.Text.{bytes}
use Rattle.rules.specs.Kinds
use Rattle.rules.specs.Fits
use Rattle.rules.specs.Rows
use Rattle.rules.specs.Lex
use Rattle.rules.specs.Scan
use Rattle.rules.specs.Scan.{scan, read_rows}
use Rattle.rules.specs.Sets
use Rattle.rules.specs.Sets.{Xdp, Tracepoint, Unknown}
use Rattle.rules.specs.Tree
use Rattle.rules.specs.Tree.{Tree, MapHash, MapRingbuf}
use Rattle.rules.specs.Nodes
use Rattle.rules.specs.Nodes.{NodeVariable, NodeExpression, NodeIf, NodeThen, NodeUnit, NodeEvent, NodeMap, NodeProgram, node_words, tree_words, size, fact_node}
use Rattle.rules.specs.Parse
use Rattle.rules.specs.Parse.{Out, ok, no, parse}
use Rattle.rules.specs.Calls
use Rattle.rules.specs.Calls.{tokens}
use Rattle.rules_tally.specs.declared.Tally.{Tally}
use Rattle.rules_tally.specs.declared.NotNodes.{NotNodes}
use Rattle.rules_tally.specs.declared.CountTooLarge.{CountTooLarge}
use Rattle.rules_tally.specs.Tally
use Rattle.rules_tally.specs.Tally.{empty, tally_of}
use Rattle.rules_tally.specs.Calls as Figures
use Rattle.rules_tally.specs.Calls.{tallied, untallied, joined}

-- ---- texts

-- A text, its tree's tally, and what a tallying of its nodes gives.
pub record Case : Type 0 where
  pub text : List ℕ
  pub tree : Tally
  pub nodes : Result Tally NotNodes

abbrev pub whole : Tally → Result Tally NotNodes
whole t = Ok t

abbrev pub refused : Result Tally NotNodes
refused = untallied

abbrev pub tree_in : Out → Tally
tree_in (ok t j) = tally_of t
tree_in (no why r) = empty

abbrev pub nodes_in : Out → Result Tally NotNodes
nodes_in (ok t j) = tallied (tree_words 0 t) (size t)
nodes_in (no why r) = refused

abbrev pub reading : List ℕ → Out
reading t = parse (tokens t (read_rows (scan t)))

abbrev pub answer : Case → Case
answer c = record { text = c.text; tree = tree_in (reading c.text); nodes = nodes_in (reading c.text) }

abbrev pub none : List ℕ
none = replicate 11 0

abbrev pub no_maps : List ℕ
no_maps = replicate 5 0

-- a text with this tally, by its tree and by its nodes
abbrev pub has : List ℕ → Tally → Case
has s t = record { text = s; tree = t; nodes = whole t }

-- a unit without a section, with so many statements
abbrev pub unit_with : List ℕ → ℕ → Case
unit_with s n =
    has (bytes "unit u{" ++ s ++ bytes "}")
    (record { units = set none Unknown 1; maps = no_maps; events = 0; statements = n; max = 0; methods = 0 })

abbrev pub cases : List Case
cases =
    -- no declaration
    has [] (record { units = none; maps = no_maps; events = 0; statements = 0; max = 0; methods = 0 })
    -- an `if` is one statement, and so is what is in its bodies; a body is none
    ∷ unit_with (bytes "if guard(a){x;}") 2
    ∷ unit_with (bytes "if guard(a){}else{}") 1
    ∷ unit_with (bytes "if guard(a){if guard(b){}}else{x;y;}") 4
    -- each statement once, whatever is in it
    ∷ unit_with (bytes "reg a=1;imm b=2;heap c=3;x=*y;x+=y.f(1,2);return x;x+1*2;") 7
    -- a licence is no statement, and the methods of an unknown kind are none
    ∷ unit_with (bytes "license \"GPL\";") 0
    -- the first section gives the kind, with its methods
    ∷ has (bytes "unit u{section \"xdp\";section \"tracepoint/x\";}unit v{section \"tracepoint/x\";}")
    (record {
      units = set (set none Xdp 1) Tracepoint 1;
      maps = no_maps;
      events = 0;
      statements = 0;
      max = 0;
      methods = 24;
    })
    -- an event's fields are no events
    ∷ has (bytes "event e{a:u32;b:u32;}event f{}")
    (record { units = none; maps = no_maps; events = 2; statements = 0; max = 0; methods = 0 })
    -- the last type and the last max hold
    ∷ has (bytes "map m{max:1;max:1<<4;type:.hash;type:.ringbuf;}")
    (record { units = none; maps = 0 ∷ 0 ∷ 1 ∷ 0 ∷ 0 ∷ []; events = 0; statements = 0; max = 16; methods = 0 })
    -- max is added in more than 32 bits
    ∷ has (bytes "map a{type:.ringbuf;max:4294967295;}map b{type:.ringbuf;max:4294967295;}")
    (record { units = none; maps = 0 ∷ 0 ∷ 2 ∷ 0 ∷ 0 ∷ []; events = 0; statements = 0; max = 8589934590; methods = 0 })
    ∷ []

pub right : map answer cases ≡ cases
unfolding
    Text.front Text.utf8 Text.met Text.line_in Text.char_at Text.is_cut Text.valid_from Text.valid_bytes Text.valid Text.is_blank
    Text.newlines Text.line_at Text.column_at Text.place_at Text.text_judged Kinds.reserved Kinds.signs Kinds.same_bytes Kinds.kind_in
    Rows.row_words Rows.row_in Rows.rows_in Rows.words_of Rows.bits_of Rows.value_bits Rows.row_at Rows.eof_row Rows.row_place
    Rows.spelling Lex.line_comment Lex.before_close Lex.block_comment Lex.is_digit Lex.is_letter Lex.is_word Lex.word Lex.is_hex_digit
    Lex.digit_value Lex.spelt Lex.number_of Lex.decimal Lex.hex Lex.number Lex.is_escape Lex.string Lex.maybe_two Lex.single Lex.sign
    Lex.slashed Lex.dashed Lex.beginning Lex.piece Scan.read_rows Scan.read_ending Scan.read Scan.scan Tree.kind_of Tree.spelling_of
    Tree.bits_in Tree.tok_of Tree.is_variable Tree.is_sum Tree.hangs Tree.count Tree.sections_of Tree.content
    Tree.section_text Tree.kind_of_first Tree.unit_kind Tree.map_types Tree.map_type_number Tree.shift_right Tree.shift_bits Tree.max_bits
    Tree.type_of Tree.typed_by Tree.limit_of Tree.lacking Fits.has Fits.set_told Fits.retold Parse.then Parse.or Parse.many Parse.lead
    Parse.stmt_lead Parse.field_lead Parse.event_lead Parse.top_lead Parse.want_by Parse.want_in Parse.want Parse.need_by Parse.need
    Parse.named Parse.quoted Parse.valued Parse.loop Parse.else_behind Parse.list_step Parse.list_to Parse.braced Parse.onward
    Parse.end_in Parse.end Parse.called Parse.atom_by Parse.atom Parse.arg_step Parse.args Parse.call_by Parse.open_by Parse.post
    Parse.prim Parse.unary_by Parse.unary Parse.bin_step Parse.mul Parse.shift Parse.add Parse.inner Parse.expr Parse.else_by
    Parse.assign_by Parse.bodies Parse.stmt_by Parse.stmt Parse.body Parse.item_by Parse.item Parse.unit_at Parse.type_by Parse.key_by
    Parse.count_by Parse.chain_step Parse.chain Parse.limit_by Parse.map_field_by Parse.map_field Parse.map_end Parse.map_at
    Parse.length_by Parse.length_at Parse.array_by Parse.event_type_by Parse.event_field Parse.event_at Parse.top_by Parse.top Parse.parse
    Calls.tokens Nodes.width Nodes.place_of Nodes.licence_row Nodes.binary_node Nodes.decl_node Nodes.assign_node Nodes.text_node
    Nodes.nodes_of Nodes.size Nodes.node_words Nodes.words_of_nodes Nodes.tree_words Sets.from_section
    Sets.sections Sets.fits Sets.kind_of_section Sets.allowed Sets.set_size Tally.unit_of Tally.map_of Tally.event_of Tally.statement_of Tally.max_of Tally.methods_of Tally.tally_by Tally.total Tally.tally_of
    Tally.node_in Tally.nodes_in Tally.node_total Tally.nodes_total Tally.nodes_tally Figures.is_countable Figures.are_countable Figures.tallied
    Figures.add_each Figures.sum Figures.counts_of Figures.all_fit Figures.joined
right = refl

-- ---- lent nodes

-- the words of a node of a kind with its first fact and its last
abbrev pub a_node : ℕ → ℕ → ℕ → List ℕ
a_node kind first last = node_words (fact_node kind 9 9 9 first 9 9 last)

abbrev pub statements : ℕ → Tally
statements n = record { units = none; maps = no_maps; events = 0; statements = n; max = 0; methods = 0 }

abbrev pub calls : List (Result Tally NotNodes)
calls =
    -- no node at all
    tallied [] 0
    -- a statement, then a node of kind 0, or 30: nothing is told of the statement
    ∷ tallied (a_node NodeExpression 0 0 ++ a_node 0 0 0) 2
    ∷ tallied (a_node NodeExpression 0 0 ++ a_node 30 0 0) 2
    -- behind the count it plays no part
    ∷ tallied (a_node NodeExpression 0 0 ++ a_node 0 0 0) 1
    -- both ends of the statements
    ∷ tallied (a_node 12 0 0 ++ a_node NodeExpression 0 0 ++ a_node NodeIf 0 0 ++ a_node NodeThen 0 0) 4
    -- a word is lacking
    ∷ tallied (replicate 7 1) 1
    -- a unit's kind over 10, a map's type 0 or over 5; of other nodes no fact is looked at
    ∷ tallied (a_node NodeUnit 11 0) 1
    ∷ tallied (a_node NodeMap 0 7) 1
    ∷ tallied (a_node NodeMap 6 7) 1
    ∷ tallied (a_node NodeVariable 11 0 ++ a_node NodeIf 0 7) 2
    ∷ tallied (a_node NodeUnit 10 7 ++ a_node NodeMap MapHash 7 ++ a_node NodeMap 5 8) 3
    -- a program node counts nothing, wherever it stands and however many there are
    ∷ tallied (a_node NodeProgram 0 7 ++ a_node NodeEvent 0 7 ++ a_node NodeProgram 0 7) 3
    ∷ []

pub calls_right :
    calls
    ≡ (whole empty
    ∷ refused
    ∷ refused
    ∷ whole (statements 1)
    ∷ whole (statements 2)
    ∷ refused
    ∷ refused
    ∷ refused
    ∷ refused
    ∷ whole (statements 1)
    ∷ whole (record { units = set none 10 1; maps = 1 ∷ 0 ∷ 0 ∷ 0 ∷ 1 ∷ []; events = 0; statements = 0; max = 15; methods = 0 })
    ∷ whole (record { units = none; maps = no_maps; events = 1; statements = 0; max = 0; methods = 0 })
    ∷ [])
unfolding
    Sets.allowed Sets.set_size Nodes.node_words Tally.unit_of Tally.map_of Tally.event_of Tally.statement_of Tally.max_of Tally.methods_of Tally.tally_by Tally.total Tally.tally_of
    Tally.node_in Tally.nodes_in Tally.node_total Tally.nodes_total Tally.nodes_tally Figures.is_countable Figures.are_countable Figures.tallied
    Figures.add_each Figures.sum Figures.counts_of Figures.all_fit Figures.joined
calls_right = refl

-- ---- joinings

abbrev pub most : ℕ
most = 2 ^ 64 - 1

-- so many units of kind 0, and so many methods
abbrev pub ends : ℕ → ℕ → Tally
ends u m = record { units = set none 0 u; maps = no_maps; events = 0; statements = 0; max = 0; methods = m }

abbrev pub joinings : List (Result Tally CountTooLarge)
joinings =
    joined (ends 1 2) (ends 3 4)
    -- the largest count and 0, on either side
    ∷ joined (ends most 0) (ends 0 most)
    -- the first count passes, or the last: the first tally, whole
    ∷ joined (ends most 1) (ends 1 2)
    ∷ joined (ends 1 1) (ends 2 most)
    -- the other way round it is the other one
    ∷ joined (ends 2 most) (ends 1 1)
    ∷ []

pub joinings_right :
    joinings
    ≡ (Ok (ends 4 6)
    ∷ Ok (ends most most)
    ∷ Err (record { first = ends most 1 })
    ∷ Err (record { first = ends 1 1 })
    ∷ Err (record { first = ends 2 most })
    ∷ [])
unfolding Tally.unit_of Tally.map_of Tally.event_of Tally.statement_of Tally.max_of Tally.methods_of Tally.tally_by Tally.total Tally.tally_of
    Tally.node_in Tally.nodes_in Tally.node_total Tally.nodes_total Tally.nodes_tally Figures.is_countable Figures.are_countable Figures.tallied
    Figures.add_each Figures.sum Figures.counts_of Figures.all_fit Figures.joined
joinings_right = refl
