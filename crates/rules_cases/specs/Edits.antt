-- Edits: the worked case of LANGUAGE.md 12, and for each easy misreading of "The edit" the smallest case that shows it. One table under one theorem.
use Rattle.std.specs.Prelude.{◌≡◌, refl, Bool, true, false, cond, List, [], ◌∷◌, ◌++◌, map, ℕ, ◌+◌, ◌*◌, length, take, drop, Ok, Err, Some}
use Rattle.rules.specs.Outcomes.{Told, unread, halt}
use Rattle.rules.specs.declared.Outer.TheVariants.{BadByte, WindowShort}
use Rattle.rules.specs.declared.Lexical.TheVariants.{NoRowBegins}
use Rattle.rules.specs.declared.Table.{Table}
use Rattle.rules.specs.Text
use Rattle.rules.specs.Text.{place, start_place, bytes}
use Rattle.rules.specs.Kinds
use Rattle.rules.specs.Rows
use Rattle.rules.specs.Rows.{Row, words_of}
use Rattle.rules.specs.Lex
use Rattle.rules.specs.Scan
use Rattle.rules.specs.Scan.{scan, read_rows, read_ending, room_of, scan_told, scan_leaves}
use Rattle.rules.specs.Edit
use Rattle.rules.specs.Edit.{restart, edit_told, edit_leaves}

-- Bytes a to b of a text become new ones, and the window shows so many bytes from the restart place on: short, or what a scan of the
-- new text tells with as much room, and leaves.
pub record Case : Type 0 where
  pub text : List ℕ
  pub a : ℕ
  pub b : ℕ
  pub added : List ℕ
  pub shown : ℕ
  pub room : ℕ
  pub short : Bool

-- what is told, and the words left in the lent memory
pub record Outcome : Type 0 where
  pub told : Told
  pub words : List ℕ

pub new_text : Case → List ℕ
new_text c = take c.a c.text ++ (c.added ++ drop c.b c.text)

-- the lent memory: room for so many rows, at most ten, every word 7
abbrev sevens : List ℕ
sevens = 7 ∷ 7 ∷ 7 ∷ 7 ∷ 7 ∷ 7 ∷ 7 ∷ 7 ∷ []

abbrev pub memory : Case → List ℕ
memory c = take (c.room * 8) (sevens ++ sevens ++ sevens ++ sevens ++ sevens ++ sevens ++ sevens ++ sevens ++ sevens ++ sevens)

pub told : Case → Outcome
told c =
    let rows : List Row = read_rows (scan c.text) in
    let table : Table = record { count = length rows; length = length c.text; ending = read_ending (scan c.text) } in
    let start : ℕ = (restart rows c.a).offset.0 in
    let window : List ℕ = take c.shown (drop start (new_text c)) in
    record {
      told = edit_told (words_of rows) table c.a c.b (length c.added) start window (room_of (memory c));
      words = edit_leaves (words_of rows) table c.a c.b (length c.added) start window (memory c);
    }

pub means : Case → Outcome
means c = record {
  told = cond c.short (Err (unread WindowShort start_place 0)) (scan_told (new_text c) (room_of (memory c)));
  words = cond c.short (memory c) (scan_leaves (new_text c) (memory c));
}

-- é, € and 😀
abbrev e_acute : List ℕ
e_acute = 0xC3 ∷ 0xA9 ∷ []

abbrev euro : List ℕ
euro = 0xE2 ∷ 0x82 ∷ 0xAC ∷ []

abbrev smile : List ℕ
smile = 0xF0 ∷ 0x9F ∷ 0x98 ∷ 0x80 ∷ []

abbrev pub cases : List Case
cases =
    -- the lister's text, 13 to 14 becomes `12`: seven window bytes suffice
    record { text = bytes "unit u{\n x+=-1;\n}\n"; a = 13; b = 14; added = bytes "12"; shown = 7; room = 10; short = false }
    -- and six are short
    ∷ record { text = bytes "unit u{\n x+=-1;\n}\n"; a = 13; b = 14; added = bytes "12"; shown = 6; room = 10; short = true }
    -- and five are short
    ∷ record { text = bytes "unit u{\n x+=-1;\n}\n"; a = 13; b = 14; added = bytes "12"; shown = 5; room = 10; short = true }
    -- and four are short
    ∷ record { text = bytes "unit u{\n x+=-1;\n}\n"; a = 13; b = 14; added = bytes "12"; shown = 4; room = 10; short = true }
    -- a `/` last in the window is no comment: the refusal behind it moves
    ∷ record { text = bytes "   /\""; a = 0; b = 0; added = []; shown = 4; room = 10; short = false }
    -- no meeting place lies before a + n
    ∷ record { text = bytes "/"; a = 0; b = 1; added = bytes "*"; shown = 1; room = 10; short = false }
    -- none lies at the window's end
    ∷ record { text = bytes "    /"; a = 0; b = 0; added = []; shown = 4; room = 10; short = true }
    -- a lone `<` is not decided at the window's end
    ∷ record { text = bytes "   <a"; a = 0; b = 0; added = []; shown = 4; room = 10; short = true }
    -- nor is `0x`
    ∷ record { text = bytes "  0xg"; a = 0; b = 0; added = []; shown = 4; room = 10; short = true }
    -- nor 15 at the digit that overflows
    ∷ record { text = bytes "99999999999999999999a"; a = 0; b = 0; added = []; shown = 20; room = 10; short = true }
    -- a column moves on the meeting row's old line only
    ∷ record { text = bytes "/\n"; a = 0; b = 0; added = bytes "*"; shown = 3; room = 10; short = false }
    -- the restart column is behind the kept row
    ∷ record { text = bytes "/\""; a = 2; b = 2; added = []; shown = 1; room = 10; short = false }
    -- 7 comes before 4
    ∷ record { text = bytes "    /"; a = 0; b = 0; added = []; shown = 4; room = 0; short = true }
    -- a row that ends at a is not kept: `ab`, `c` behind it
    ∷ record { text = bytes "ab"; a = 2; b = 2; added = bytes "c"; shown = 3; room = 10; short = false }
    -- no old row is met inside a new comment: `a b`, `/*` before `b`
    ∷ record { text = bytes "a b"; a = 2; b = 2; added = bytes "/*"; shown = 4; room = 10; short = false }
    -- four bytes are asked of every edit
    ∷ record { text = bytes "\"\""; a = 0; b = 0; added = []; shown = 1; room = 10; short = true }
    -- three do not suffice
    ∷ record { text = smile; a = 0; b = 0; added = []; shown = 3; room = 10; short = true }
    -- they are counted behind the new bytes
    ∷ record { text = euro; a = 0; b = 0; added = bytes "*/"; shown = 4; room = 10; short = true }
    -- or the text's end is shown
    ∷ record { text = []; a = 0; b = 0; added = []; shown = 0; room = 10; short = false }
    -- a refusal in front of them does not excuse the window
    ∷ record { text = bytes "abcdefgh"; a = 0; b = 0; added = bytes "@"; shown = 1; room = 10; short = true }
    -- the 7 of judging comes before 2: a byte that no character begins with, put before a quote
    ∷ record { text = bytes "\""; a = 0; b = 0; added = 0x80 ∷ []; shown = 1; room = 10; short = true }
    -- the other 7 comes behind it: the first byte of two becomes a quote
    ∷ record { text = e_acute ++ smile; a = 0; b = 1; added = bytes "\""; shown = 5; room = 10; short = false }
    -- the first of three bytes becomes one of four: 7, and with all four bytes 2
    ∷ record { text = 0xE1 ∷ 0x80 ∷ 0x80 ∷ bytes "/"; a = 0; b = 1; added = 0xF1 ∷ []; shown = 3; room = 10; short = true }
    ∷ record { text = 0xE1 ∷ 0x80 ∷ 0x80 ∷ bytes "/"; a = 0; b = 1; added = 0xF1 ∷ []; shown = 4; room = 10; short = false }
    -- a character that the window's end cuts is not 2
    ∷ record { text = bytes "\"" ++ smile; a = 0; b = 0; added = []; shown = 4; room = 10; short = true }
    -- one that the text's end cuts is
    ∷ record { text = []; a = 0; b = 0; added = 0xC3 ∷ []; shown = 1; room = 10; short = false }
    -- 2 stands where the broken character starts
    ∷ record { text = bytes "\""; a = 0; b = 0; added = 0xC3 ∷ []; shown = 2; room = 10; short = false }
    -- 11 is decided by the first byte of a character that the window's end cuts
    ∷ record { text = bytes "\n" ++ smile; a = 0; b = 0; added = []; shown = 4; room = 10; short = false }
    -- the meeting row counts the comments of its new gap, where its old one had none: `a` behind a new comment, and `b` keeps its count
    ∷ record { text = bytes "a b"; a = 0; b = 0; added = bytes "//\n"; shown = 6; room = 10; short = false }
    -- where its old one had the same comment, which is not counted twice
    ∷ record { text = bytes "//\na"; a = 0; b = 0; added = []; shown = 4; room = 10; short = false }
    -- where its old one had a comment that is gone
    ∷ record { text = bytes "//\na"; a = 0; b = 3; added = []; shown = 1; room = 10; short = false }
    -- the rows behind it keep their counts: `*` is met, and Eof counts the comment between
    ∷ record { text = bytes "*//"; a = 0; b = 0; added = []; shown = 3; room = 10; short = false }
    -- Eof's row counts as any other, whatever its old row had
    ∷ record { text = []; a = 0; b = 0; added = bytes "//"; shown = 2; room = 10; short = false }
    ∷ record { text = bytes "//"; a = 0; b = 0; added = []; shown = 2; room = 10; short = false }
    -- and where there was none: an open string becomes a comment
    ∷ record { text = bytes "\""; a = 0; b = 0; added = bytes "//"; shown = 3; room = 10; short = false }
    ∷ []

pub right : map told cases ≡ map means cases
unfolding new_text told means Text.front Text.utf8 Text.met Text.line_in Text.char_at Text.is_cut Text.valid_from Text.valid_bytes Text.valid Text.cut_bytes Text.is_blank Text.newlines Text.line_at Text.column_at Text.place_at Text.text_judged Text.moved Text.over Text.along Kinds.is_made Kinds.reserved Kinds.signs Kinds.same_bytes Kinds.kind_in Kinds.length_in Rows.row_words Rows.row_in Rows.rows_in Rows.words_of Rows.bits_of Rows.value_bits Rows.row_at Rows.eof_row Rows.row_place Rows.every Rows.chained Rows.length_fits Rows.spans_fit Rows.value_fits Rows.place_fits Rows.lines_fit Rows.row_fits Rows.follows Rows.gap_fits Rows.gaps_fit Rows.last_row Rows.ends_behind Rows.is_eof Rows.eof_last Rows.ending_fits Rows.rows_fit Rows.well_formed Rows.spelling Lex.line_comment Lex.before_close Lex.block_comment Lex.is_digit Lex.is_letter Lex.is_word Lex.word Lex.is_hex_digit Lex.digit_value Lex.spelt Lex.number_of Lex.decimal Lex.hex Lex.number Lex.is_escape Lex.string Lex.maybe_two Lex.single Lex.sign Lex.slashed Lex.dashed Lex.beginning Lex.piece Lex.decided_at Lex.item Scan.read_rows Scan.read_ending Scan.read Scan.scan Scan.room_of Scan.told Scan.laid Scan.scan_told Scan.scan_leaves Edit.kept Edit.end_place Edit.last_end Edit.restart Edit.slash_or_star Edit.opens Edit.look Edit.is_short Edit.from Edit.some Edit.first_place Edit.carry Edit.carry_row Edit.with_comments Edit.recounted Edit.carry_ending Edit.meets Edit.window_place Edit.seen_rows Edit.seen_ending Edit.seen Edit.new_rows Edit.new_ending Edit.new_length Edit.sensible Edit.unjudged Edit.window_bytes Edit.window_valid Edit.window_short Edit.edit_told Edit.edit_leaves Edit.restart_told
right = refl

-- ---- windows that are no part of the new text

-- The table is what a scan of a text of blanks and at most one row gives; old bytes a to a become n new ones.
pub record Strange : Type 0 where
  pub text : List ℕ
  pub a : ℕ
  pub n : ℕ
  pub window : List ℕ
  pub told : Told

abbrev pub blanks : List ℕ
blanks = bytes "       "

pub strangely : Strange → Strange
strangely c =
    let rows : List Row = read_rows (scan c.text) in
    let table : Table = record { count = length rows; length = length c.text; ending = read_ending (scan c.text) } in
    record {
      text = c.text;
      a = c.a;
      n = c.n;
      window = c.window;
      told = edit_told (words_of rows) table c.a c.a c.n (restart rows c.a).offset.0 c.window 10;
    }

abbrev pub strange : List Strange
strange =
    -- E0 A0 last is cut, so that 11 stands at its first byte
    record {
      text = blanks;
      a = 0;
      n = 0;
      window = 32 ∷ 32 ∷ 32 ∷ 0xE0 ∷ 0xA0 ∷ [];
      told = Ok (record { count = 0; length = 7; ending = Some (halt NoRowBegins (place 3 1 4)) });
    }
    -- E0 80 last begins no character: 2
    ∷ record { text = blanks; a = 0; n = 0; window = 32 ∷ 32 ∷ 32 ∷ 0xE0 ∷ 0x80 ∷ []; told = Err (unread BadByte (place 3 1 4) 0) }
    -- E0 A0 last in the text is 2
    ∷ record { text = blanks; a = 0; n = 0; window = 32 ∷ 32 ∷ 32 ∷ 32 ∷ 32 ∷ 0xE0 ∷ 0xA0 ∷ []; told = Err (unread BadByte (place 5 1 6) 0) }
    -- a restart place inside a character: 2 there
    ∷ record { text = bytes "a     "; a = 2; n = 0; window = 0xA9 ∷ 32 ∷ 32 ∷ 32 ∷ 32 ∷ []; told = Err (unread BadByte (place 1 1 2) 0) }
    ∷ []

pub strange_right : map strangely strange ≡ strange
unfolding strangely Text.front Text.utf8 Text.met Text.line_in Text.char_at Text.is_cut Text.valid_from Text.valid_bytes Text.valid Text.cut_bytes Text.is_blank Text.newlines Text.line_at Text.column_at Text.place_at Text.text_judged Text.moved Text.over Text.along Kinds.is_made Kinds.reserved Kinds.signs Kinds.same_bytes Kinds.kind_in Kinds.length_in Rows.row_words Rows.row_in Rows.rows_in Rows.words_of Rows.bits_of Rows.value_bits Rows.row_at Rows.eof_row Rows.row_place Rows.every Rows.chained Rows.length_fits Rows.spans_fit Rows.value_fits Rows.place_fits Rows.lines_fit Rows.row_fits Rows.follows Rows.gap_fits Rows.gaps_fit Rows.last_row Rows.ends_behind Rows.is_eof Rows.eof_last Rows.ending_fits Rows.rows_fit Rows.well_formed Rows.spelling Lex.line_comment Lex.before_close Lex.block_comment Lex.is_digit Lex.is_letter Lex.is_word Lex.word Lex.is_hex_digit Lex.digit_value Lex.spelt Lex.number_of Lex.decimal Lex.hex Lex.number Lex.is_escape Lex.string Lex.maybe_two Lex.single Lex.sign Lex.slashed Lex.dashed Lex.beginning Lex.piece Lex.decided_at Lex.item Scan.read_rows Scan.read_ending Scan.read Scan.scan Scan.room_of Scan.told Scan.laid Scan.scan_told Scan.scan_leaves Edit.kept Edit.end_place Edit.last_end Edit.restart Edit.slash_or_star Edit.opens Edit.look Edit.is_short Edit.from Edit.some Edit.first_place Edit.carry Edit.carry_row Edit.with_comments Edit.recounted Edit.carry_ending Edit.meets Edit.window_place Edit.seen_rows Edit.seen_ending Edit.seen Edit.new_rows Edit.new_ending Edit.new_length Edit.sensible Edit.unjudged Edit.window_bytes Edit.window_valid Edit.window_short Edit.edit_told Edit.edit_leaves Edit.restart_told
strange_right = refl
