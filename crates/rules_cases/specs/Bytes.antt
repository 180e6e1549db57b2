-- Which bytes a text may hold: both sides of each edge of RFC 3629's table, and what a scan tells of such texts. Each table under one theorem.
use Rattle.std.specs.Prelude.{◌≡◌, refl, List, [], ◌∷◌, ◌++◌, map, ℕ, Ok, Err, None, Some}
use Rattle.rules.specs.Outcomes.{Told, unread, halt}
use Rattle.rules.specs.declared.Outer.TheVariants.{BadByte}
use Rattle.rules.specs.declared.Lexical.TheVariants.{NoRowBegins}
use Rattle.rules.specs.Text
use Rattle.rules.specs.Text.{bytes, valid_bytes, cut_bytes, place}
use Rattle.rules.specs.Kinds
use Rattle.rules.specs.Rows as rows
use Rattle.rules.specs.Lex
use Rattle.rules.specs.Scan
use Rattle.rules.specs.Scan.{scan_told}

-- bytes, how long their longest valid beginning is, and how long if their end may cut a character
pub record Case : Type 0 where
  pub text : List ℕ
  pub valid : ℕ
  pub cut : ℕ

pub judged : List ℕ → Case
judged t = record { text = t; valid = valid_bytes t; cut = cut_bytes t }

abbrev pub cases : List Case
cases =
    -- nothing
    record { text = []; valid = 0; cut = 0 }
    -- characters of one, two, three and four bytes, the first and the last of each line
    ∷ record { text = 0x00 ∷ []; valid = 1; cut = 1 }
    ∷ record { text = 0x7F ∷ []; valid = 1; cut = 1 }
    ∷ record { text = 0xC2 ∷ 0x80 ∷ []; valid = 2; cut = 2 }
    ∷ record { text = 0xDF ∷ 0xBF ∷ []; valid = 2; cut = 2 }
    ∷ record { text = 0xE0 ∷ 0xA0 ∷ 0x80 ∷ []; valid = 3; cut = 3 }
    ∷ record { text = 0xE0 ∷ 0xBF ∷ 0xBF ∷ []; valid = 3; cut = 3 }
    ∷ record { text = 0xE1 ∷ 0x80 ∷ 0x80 ∷ []; valid = 3; cut = 3 }
    ∷ record { text = 0xEC ∷ 0xBF ∷ 0xBF ∷ []; valid = 3; cut = 3 }
    ∷ record { text = 0xED ∷ 0x80 ∷ 0x80 ∷ []; valid = 3; cut = 3 }
    ∷ record { text = 0xED ∷ 0x9F ∷ 0xBF ∷ []; valid = 3; cut = 3 }
    ∷ record { text = 0xEE ∷ 0x80 ∷ 0x80 ∷ []; valid = 3; cut = 3 }
    ∷ record { text = 0xEF ∷ 0xBF ∷ 0xBF ∷ []; valid = 3; cut = 3 }
    ∷ record { text = 0xF0 ∷ 0x90 ∷ 0x80 ∷ 0x80 ∷ []; valid = 4; cut = 4 }
    ∷ record { text = 0xF0 ∷ 0xBF ∷ 0xBF ∷ 0xBF ∷ []; valid = 4; cut = 4 }
    ∷ record { text = 0xF1 ∷ 0x80 ∷ 0x80 ∷ 0x80 ∷ []; valid = 4; cut = 4 }
    ∷ record { text = 0xF3 ∷ 0xBF ∷ 0xBF ∷ 0xBF ∷ []; valid = 4; cut = 4 }
    ∷ record { text = 0xF4 ∷ 0x80 ∷ 0x80 ∷ 0x80 ∷ []; valid = 4; cut = 4 }
    ∷ record { text = 0xF4 ∷ 0x8F ∷ 0xBF ∷ 0xBF ∷ []; valid = 4; cut = 4 }
    -- bytes that begin no character
    ∷ record { text = 0x80 ∷ []; valid = 0; cut = 0 }
    ∷ record { text = 0xBF ∷ []; valid = 0; cut = 0 }
    ∷ record { text = 0xC0 ∷ 0x80 ∷ []; valid = 0; cut = 0 }
    ∷ record { text = 0xC1 ∷ 0xBF ∷ []; valid = 0; cut = 0 }
    ∷ record { text = 0xF5 ∷ 0x80 ∷ 0x80 ∷ 0x80 ∷ []; valid = 0; cut = 0 }
    ∷ record { text = 0xFF ∷ []; valid = 0; cut = 0 }
    -- overlong forms, surrogates, above U+10FFFF
    ∷ record { text = 0xE0 ∷ 0x80 ∷ 0x80 ∷ []; valid = 0; cut = 0 }
    ∷ record { text = 0xE0 ∷ 0x9F ∷ 0xBF ∷ []; valid = 0; cut = 0 }
    ∷ record { text = 0xED ∷ 0xA0 ∷ 0x80 ∷ []; valid = 0; cut = 0 }
    ∷ record { text = 0xED ∷ 0xBF ∷ 0xBF ∷ []; valid = 0; cut = 0 }
    ∷ record { text = 0xF0 ∷ 0x80 ∷ 0x80 ∷ 0x80 ∷ []; valid = 0; cut = 0 }
    ∷ record { text = 0xF0 ∷ 0x8F ∷ 0xBF ∷ 0xBF ∷ []; valid = 0; cut = 0 }
    ∷ record { text = 0xF4 ∷ 0x90 ∷ 0x80 ∷ 0x80 ∷ []; valid = 0; cut = 0 }
    -- 2 stands where the broken character starts
    ∷ record { text = 0xE1 ∷ 0x80 ∷ 0x61 ∷ []; valid = 0; cut = 0 }
    ∷ record { text = 0xC3 ∷ 0x22 ∷ []; valid = 0; cut = 0 }
    ∷ record { text = 0x40 ∷ 0xFF ∷ []; valid = 1; cut = 1 }
    ∷ record { text = 0xC3 ∷ 0xA9 ∷ 0x80 ∷ []; valid = 2; cut = 2 }
    ∷ record { text = 0x61 ∷ 0xF0 ∷ 0x90 ∷ 0x80 ∷ 0x80 ∷ 0x62 ∷ 0xC3 ∷ 0xC3 ∷ []; valid = 6; cut = 6 }
    -- a character that the end cuts
    ∷ record { text = 0x22 ∷ 0xC3 ∷ []; valid = 1; cut = 2 }
    ∷ record { text = 0xC3 ∷ 0xA9 ∷ 0xC3 ∷ []; valid = 2; cut = 3 }
    ∷ record { text = 0xE0 ∷ []; valid = 0; cut = 1 }
    ∷ record { text = 0xE0 ∷ 0xA0 ∷ []; valid = 0; cut = 2 }
    ∷ record { text = 0xF0 ∷ 0x9F ∷ []; valid = 0; cut = 2 }
    ∷ record { text = 0xF0 ∷ 0x9F ∷ 0x98 ∷ []; valid = 0; cut = 3 }
    -- no character begins so
    ∷ record { text = 0xE0 ∷ 0x80 ∷ []; valid = 0; cut = 0 }
    ∷ record { text = 0xED ∷ 0xA0 ∷ []; valid = 0; cut = 0 }
    ∷ record { text = 0xF0 ∷ 0x8F ∷ []; valid = 0; cut = 0 }
    ∷ record { text = 0xF4 ∷ 0x90 ∷ []; valid = 0; cut = 0 }
    ∷ record { text = 0xE1 ∷ 0xC3 ∷ []; valid = 0; cut = 0 }
    ∷ []

pub right : map (λ (c : Case). judged c.text) cases ≡ cases
unfolding judged Text.utf8 Text.met Text.line_in Text.char_at Text.is_cut Text.valid_from Text.valid_bytes Text.cut_bytes
right = refl

-- ---- what a scan with room for ten rows tells: the whole text is judged before anything is read, and places count bytes

pub record Scanned : Type 0 where
  pub text : List ℕ
  pub told : Told

pub scanned : List ℕ → Scanned
scanned t = record { text = t; told = scan_told t 10 }

abbrev pub tellings : List Scanned
tellings =
    -- FF is 2, é is 11, and `@` before FF is 2
    record { text = 0xFF ∷ []; told = Err (unread BadByte (place 0 1 1) 0) }
    ∷ record { text = 0xC3 ∷ 0xA9 ∷ []; told = Ok (record { count = 0; length = 2; ending = Some (halt NoRowBegins (place 0 1 1)) }) }
    ∷ record { text = bytes "@" ++ (0xFF ∷ []); told = Err (unread BadByte (place 1 1 2) 0) }
    -- a text that ends inside a character
    ∷ record { text = bytes "\"" ++ (0xC3 ∷ []); told = Err (unread BadByte (place 1 1 2) 0) }
    -- behind `/*°*/`, a newline, and é in a string
    ∷ record { text = bytes "/*" ++ (0xC2 ∷ 0xB0 ∷ bytes "*/" ++ (0xFF ∷ [])); told = Err (unread BadByte (place 6 1 7) 0) }
    ∷ record { text = bytes "/*" ++ (0xC2 ∷ 0xB0 ∷ bytes "*/\n" ++ (0xFF ∷ [])); told = Err (unread BadByte (place 7 2 1) 0) }
    ∷ record { text = bytes "\"" ++ (0xC3 ∷ 0xA9 ∷ bytes "\""); told = Ok (record { count = 2; length = 4; ending = None }) }
    ∷ []

pub told_right : map (λ (c : Scanned). scanned c.text) tellings ≡ tellings
unfolding scanned Text.front Text.utf8 Text.met Text.line_in Text.char_at Text.is_cut Text.valid_from Text.valid_bytes Text.valid Text.cut_bytes Text.is_blank Text.newlines Text.line_at Text.column_at Text.place_at Text.text_judged Text.moved Text.over Text.along Kinds.is_made Kinds.reserved Kinds.signs Kinds.same_bytes Kinds.kind_in Kinds.length_in rows.row_words rows.row_in rows.rows_in rows.words_of rows.bits_of rows.value_bits rows.row_at rows.eof_row rows.row_place rows.every rows.chained rows.length_fits rows.spans_fit rows.value_fits rows.place_fits rows.lines_fit rows.row_fits rows.follows rows.gap_fits rows.gaps_fit rows.last_row rows.ends_behind rows.is_eof rows.eof_last rows.ending_fits rows.rows_fit rows.well_formed rows.spelling Lex.line_comment Lex.before_close Lex.block_comment Lex.is_digit Lex.is_letter Lex.is_word Lex.word Lex.is_hex_digit Lex.digit_value Lex.spelt Lex.number_of Lex.decimal Lex.hex Lex.number Lex.is_escape Lex.string Lex.maybe_two Lex.single Lex.sign Lex.slashed Lex.dashed Lex.beginning Lex.piece Lex.decided_at Lex.item Scan.read_rows Scan.read_ending Scan.read Scan.scan Scan.room_of Scan.told Scan.laid Scan.scan_told Scan.scan_leaves
told_right = refl
