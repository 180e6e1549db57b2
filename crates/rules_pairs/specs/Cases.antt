-- Worked pairs of edits, through the calls as the rules define them: each call is lent what the one before left and told.
-- Either order where the two are apart, and what comes of two that touch; in a row, and by one edit that covers both; and
-- several on both sides. Three tables, and the cases that touch, under one theorem, `right`.
use Rattle.std.specs.Prelude.{◌≡◌, refl, Bool, true, false, List, [], ◌∷◌, ◌++◌, map, ℕ, length, drop, Ok, Err, None}
use Rattle.rules.specs.Outcomes.{Told}
use Rattle.rules.specs.declared.Table.{Table}
use Rattle.rules.specs.Text
use Rattle.rules.specs.Text.{bytes, valid}
use Rattle.rules.specs.Kinds
use Rattle.rules.specs.Rows
use Rattle.rules.specs.Rows.{Row, words_of}
use Rattle.rules.specs.Lex
use Rattle.rules.specs.Scan
use Rattle.rules.specs.Scan.{scan, read_rows, read_ending, room_of, scan_told, scan_leaves}
use Rattle.rules.specs.Edit as edits
use Rattle.rules.specs.Edit.{restart, edit_told, edit_leaves}
use Rattle.rules_pairs.specs.Pairs.{Edit, after, put, before, apart, shift, adjusted, both, cover_from, cover_to, cover_size, covering}
use Rattle.rules_pairs.specs.Merges.{after_all, across_all}

-- ---- what a console holds of a text: rows in words, and a table

pub record Held : Type 0 where
  pub words : List ℕ
  pub table : Table

-- what a call told, and the words that it left
pub record Outcome : Type 0 where
  pub told : Told
  pub words : List ℕ

-- A call's outcome is held, where it told a table; a refusal leaves nothing to hold.
pub held_of : Outcome → Held
held_of o = by o.told
  where
    by : Told → Held
    by (Ok table) = record { words = o.words; table = table }
    by (Err e) = record { words = []; table = record { count = 0; length = 0; ending = None } }

-- lent memory: room for six rows, every word 7
abbrev sevens : List ℕ
sevens = 7 ∷ 7 ∷ 7 ∷ 7 ∷ 7 ∷ 7 ∷ 7 ∷ 7 ∷ []

abbrev memory : List ℕ
memory = sevens ++ sevens ++ sevens ++ sevens ++ sevens ++ sevens

pub scanned : List ℕ → Outcome
scanned t = record { told = scan_told t (room_of memory); words = scan_leaves t memory }

-- the edit e of the text t, with all of the new text from the restart place on as its window
pub edited : List ℕ → Edit → Held → Outcome
edited t e h =
    let start : ℕ = (restart (read_rows (scan t)) e.from).offset.0 in
    let window : List ℕ = drop start (after t e) in
    record {
      told = edit_told h.words h.table e.from e.to (put e) start window (room_of memory);
      words = edit_leaves h.words h.table e.from e.to (put e) start window memory;
    }

-- ---- either order

-- Two edits of a text; whether they are apart, and the text after the first and then the other, and after the other and
-- then the first.
pub record Either : Type 0 where
  pub text : List ℕ
  pub one : Edit
  pub other : Edit
  pub apart : Bool
  pub last : List ℕ
  pub swapped : List ℕ

pub record EitherOutcome : Type 0 where
  pub apart : Bool
  pub last : Outcome
  pub swapped : Outcome

-- e, and then f with its places adjusted
abbrev through : List ℕ → Edit → Edit → Outcome
through t e f = edited (after t e) (adjusted e f) (held_of (edited t e (held_of (scanned t))))

pub either_told : Either → EitherOutcome
either_told c = record {
  apart = apart c.one c.other;
  last = through c.text c.one c.other;
  swapped = through c.text c.other c.one;
}

pub either_means : Either → EitherOutcome
either_means c = record { apart = c.apart; last = scanned c.last; swapped = scanned c.swapped }

-- é is two bytes, € three and 😀 four
abbrev e_acute : List ℕ
e_acute = 0xC3 ∷ 0xA9 ∷ []

abbrev euro : List ℕ
euro = 0xE2 ∷ 0x82 ∷ 0xAC ∷ []

abbrev smile : List ℕ
smile = 0xF0 ∷ 0x9F ∷ 0x98 ∷ 0x80 ∷ []

abbrev edit : ℕ → ℕ → List ℕ → Edit
edit a b new = record { from = a; to = b; bytes = new }

-- two that are apart, and their last text
abbrev ends : List ℕ → Edit → Edit → List ℕ → Either
ends t e f last = record { text = t; one = e; other = f; apart = true; last = last; swapped = last }

-- two that touch, and their last texts
abbrev touching : List ℕ → Edit → Edit → List ℕ → List ℕ → Either
touching t e f last swapped = record { text = t; one = e; other = f; apart = false; last = last; swapped = swapped }

-- two that are put at one place
abbrev puts_a : Edit
puts_a = edit 0 0 (bytes "a")

abbrev puts_1 : Edit
puts_1 = edit 0 0 (bytes "1")

-- a character of three bytes, whose first byte one edit changes and whose second the other; E0 80 begins none
abbrev three : List ℕ
three = 0xE1 ∷ 0xA0 ∷ 0xA0 ∷ []

abbrev first_byte : Edit
first_byte = edit 0 1 (0xE0 ∷ [])

abbrev second_byte : Edit
second_byte = edit 1 2 (0x80 ∷ [])

abbrev pub eithers : List Either
eithers =
    -- one byte between: a name grows and a number shrinks
    ends (bytes "a 12") (edit 0 1 (bytes "xyz")) (edit 2 4 (bytes "3")) (bytes "xyz 3")
    -- the later one first, and the earlier takes bytes away
    ∷ ends (bytes "abc d") (edit 5 5 (bytes "e")) (edit 1 3 []) (bytes "a de")
    -- a text in between ends in a refusal: one opens a comment, and the other closes it
    ∷ ends (bytes "a b ") (edit 1 1 (bytes "/*")) (edit 4 4 (bytes "*/")) (bytes "a/* b */")
    -- a stray byte stays where it is, and the last text is refused as well
    ∷ ends (bytes "a@b") (edit 0 1 (bytes "cc")) (edit 2 3 []) (bytes "cc@")
    -- a character's first byte and its third, and the byte between is its second; E1 82 81 is one too
    ∷ ends (bytes "\"" ++ euro ++ bytes "\"") (edit 1 2 (smile ++ 0xE1 ∷ [])) (edit 3 4 (0x81 ∷ []))
    (bytes "\"" ++ smile ++ 0xE1 ∷ 0x82 ∷ 0x81 ∷ bytes "\"")
    -- no byte between: each order has its text, and its rows
    ∷ touching [] puts_a puts_1 (bytes "1a") (bytes "a1")
    -- no byte between: both orders have one text, and it is refused with 2
    ∷ touching three first_byte second_byte (0xE0 ∷ 0x80 ∷ 0xA0 ∷ []) (0xE0 ∷ 0x80 ∷ 0xA0 ∷ [])
    ∷ []

-- how many rows a call told
pub counted : Outcome → ℕ
counted o = (held_of o).table.count

-- ---- in a row

-- Two edits, the second in places of the text after the first; where the covering edit begins and ends and how many bytes
-- it puts there; and the last text.
pub record Turn : Type 0 where
  pub text : List ℕ
  pub one : Edit
  pub next : Edit
  pub from : ℕ
  pub to : ℕ
  pub size : ℕ
  pub last : List ℕ

pub record TurnOutcome : Type 0 where
  pub from : ℕ
  pub to : ℕ
  pub size : ℕ
  pub last : Outcome
  pub covered : Outcome

pub turn_told : Turn → TurnOutcome
turn_told c =
    let g : Edit = covering c.text c.one c.next in
    record {
      from = g.from;
      to = g.to;
      size = put g;
      last = edited (after c.text c.one) c.next (held_of (edited c.text c.one (held_of (scanned c.text))));
      covered = edited c.text g (held_of (scanned c.text));
    }

pub turn_means : Turn → TurnOutcome
turn_means c = record { from = c.from; to = c.to; size = c.size; last = scanned c.last; covered = scanned c.last }

abbrev turn : List ℕ → Edit → Edit → (from to size : ℕ) → List ℕ → Turn
turn t e f a b n last = record { text = t; one = e; next = f; from = a; to = b; size = n; last = last }

abbrev pub turns : List Turn
turns =
    -- apart, the second behind the first: what lies between is new too
    turn (bytes "a bc d") (edit 0 1 (bytes "xy")) (edit 6 7 (bytes "z")) 0 6 7 (bytes "xy bc z")
    -- apart, the second in front of the first
    ∷ turn (bytes "a bc d") (edit 5 6 (bytes "xy")) (edit 0 1 (bytes "z")) 0 6 7 (bytes "z bc xy")
    -- the second inside what the first put there
    ∷ turn (bytes "a") (edit 1 1 (bytes "bcd")) (edit 2 3 []) 1 1 2 (bytes "abd")
    -- the second over the end of what the first put there
    ∷ turn (bytes "abcd") (edit 1 2 (bytes "xy")) (edit 2 4 (bytes "1")) 1 3 2 (bytes "ax1d")
    -- the second over all of it, and the last text is refused
    ∷ turn (bytes "abcd") (edit 2 3 (bytes "xy")) (edit 1 5 (bytes "@")) 1 4 1 (bytes "a@")
    -- the second changes a character's last byte
    ∷ turn (bytes "//") (edit 2 2 e_acute) (edit 3 4 (0xAA ∷ [])) 2 2 2 (bytes "//" ++ 0xC3 ∷ 0xAA ∷ [])
    ∷ []

-- ---- several on both sides

-- Ours and theirs, each told in places of the text after those before it; and the text in which both consoles end.
pub record Merge : Type 0 where
  pub text : List ℕ
  pub ours : List Edit
  pub theirs : List Edit
  pub last : List ℕ

-- the text here, where ours were made first, and there
pub record Merged : Type 0 where
  pub here : List ℕ
  pub there : List ℕ

pub merge_told : Merge → Merged
merge_told m = record {
  here = after_all m.text (m.ours ++ across_all m.ours m.theirs);
  there = after_all m.text (m.theirs ++ across_all m.theirs m.ours);
}

pub merge_means : Merge → Merged
merge_means m = record { here = m.last; there = m.last }

abbrev merge : List ℕ → List Edit → List Edit → List ℕ → Merge
merge t ours theirs last = record { text = t; ours = ours; theirs = theirs; last = last }

abbrev pub merges : List Merge
merges =
    -- two of ours around one of theirs
    merge (bytes "a b c") (edit 0 1 (bytes "xx") ∷ edit 5 6 [] ∷ []) (edit 2 3 (bytes "q") ∷ []) (bytes "xx q ")
    -- our second stands in front of their first, but only after our first; their second is told inside their first
    ∷ merge (bytes " a  b") (edit 0 0 (bytes "xxxx") ∷ edit 7 7 (bytes "y") ∷ []) (edit 4 5 (bytes "qqq") ∷ edit 5 6 (bytes "z") ∷ [])
    (bytes "xxxx a y qzq")
    ∷ []

-- ---- the theorem

pub record Right : Type 0 where
  pub either : map either_told eithers ≡ map either_means eithers
  pub turned : map turn_told turns ≡ map turn_means turns
  pub merged : map merge_told merges ≡ map merge_means merges
  -- two put at one place: three rows in one order, Eof's among them, and two in the other
  pub differs : map counted (through [] puts_a puts_1 ∷ through [] puts_1 puts_a ∷ []) ≡ 3 ∷ 2 ∷ []
  -- the old text and the text after either edit are valid, and the text after both is not
  pub breaks :
      map valid (three ∷ after three first_byte ∷ after three second_byte ∷ both three first_byte second_byte ∷ [])
      ≡ true ∷ true ∷ true ∷ false ∷ []

pub right : Right
unfolding before apart shift adjusted cover_from cover_to cover_size covering held_of scanned edited either_told either_means turn_told turn_means merge_told merge_means counted Text.front Text.utf8 Text.met Text.line_in Text.char_at Text.is_cut Text.valid_from Text.valid_bytes Text.valid Text.cut_bytes Text.is_blank Text.newlines Text.line_at Text.column_at Text.place_at Text.text_judged Text.moved Text.over Text.along Kinds.is_made Kinds.reserved Kinds.signs Kinds.same_bytes Kinds.kind_in Kinds.length_in Rows.row_words Rows.row_in Rows.rows_in Rows.words_of Rows.bits_of Rows.value_bits Rows.row_at Rows.eof_row Rows.row_place Rows.every Rows.chained Rows.length_fits Rows.spans_fit Rows.value_fits Rows.place_fits Rows.lines_fit Rows.row_fits Rows.follows Rows.gap_fits Rows.gaps_fit Rows.last_row Rows.ends_behind Rows.is_eof Rows.eof_last Rows.ending_fits Rows.rows_fit Rows.well_formed Rows.spelling Lex.line_comment Lex.before_close Lex.block_comment Lex.is_digit Lex.is_letter Lex.is_word Lex.word Lex.is_hex_digit Lex.digit_value Lex.spelt Lex.number_of Lex.decimal Lex.hex Lex.number Lex.is_escape Lex.string Lex.maybe_two Lex.single Lex.sign Lex.slashed Lex.dashed Lex.beginning Lex.piece Lex.decided_at Lex.item Scan.read_rows Scan.read_ending Scan.read Scan.scan Scan.room_of Scan.told Scan.laid Scan.scan_told Scan.scan_leaves edits.kept edits.end_place edits.last_end edits.restart edits.slash_or_star edits.opens edits.look edits.is_short edits.from edits.some edits.first_place edits.carry edits.carry_row edits.with_comments edits.recounted edits.carry_ending edits.meets edits.window_place edits.seen_rows edits.seen_ending edits.seen edits.new_rows edits.new_ending edits.new_length edits.sensible edits.unjudged edits.window_bytes edits.window_valid edits.window_short edits.edit_told edits.edit_leaves edits.restart_told
right = record { either = refl; turned = refl; merged = refl; differs = refl; breaks = refl }
