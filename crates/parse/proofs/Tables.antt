-- What a well-formed table gives the parser: its spellings lie inside the text, and a table with no refused ending has no more rows
-- than its text has bytes, and one, its last row being Eof.
use mathlib.Core.Path.{◌≡◌, sym, ◌∙◌}
use mathlib.Core.Bool.{true}
use mathlib.Core.List.{List}
use Prim.Native.Nat.{ℕ, ◌-◌, ◌≤◌}
use native.Mathlib.Omega.{arith}
use lib.Dec.{leb}
use lib.ListN.{length}
use borrow.Author.Tests.{leb-true}
use Rattle.std.specs.declared.option.Option.TheVariants.{None}
use Rattle.rules.specs.declared.Table.{Table}
use Rattle.rules.specs.Kinds.{StringLiteral}
use Rattle.rules.specs.Rows.{row_no, length_fits}
use Rattle.rules.specs.Calls.{node_room}
use Rattle.laws.proofs.Rows.{kind_word, start_word, end_word}
use Rattle.parse_nodes.specs.Names.{Spans}
use Rattle.rows.proofs.Inside
use Rattle.rows.proofs.Inside.{Fine, row_sound, few_rows, clean_of, last_eof}
use Rattle.parse.specs.Program.{AsksEnded, AsksWhole}

module _ {ws : List ℕ} {tbl : Table} (f : Fine ws tbl) where
  module _ (t : List ℕ) (same : tbl.length ≡ length t) where
    spans : Spans t ws tbl.count
    unfolding length_fits
    spans = record {
      order = λ i h. rw (← start_word ws i, ← end_word ws i) (row_sound f i h).ordered;
      inside = λ i h. rw (← end_word ws i, ← same) (Inside.within f i h);
      quotes = λ i h e.
          let s = row_sound f i h in
          let k : (row_no ws i).kind ≡ StringLiteral = kind_word ws i ∙ e in
          let l : leb 2 ((row_no ws i).end - (row_no ws i).start) ≡ true = rw k at s.long in
          rw (← start_word ws i, ← end_word ws i) (omega (arith, leb-true 2 ((row_no ws i).end - (row_no ws i).start) l));
    }

    -- what the first pass asks
    pub asks_ended : tbl.ending ≡ None → AsksEnded t ws tbl.count
    asks_ended e = record {
      table = record { lent = f.lent; short = omega (arith, few_rows f, f.short); spans = spans };
      some = (clean_of f e).some;
      closed = λ i h. sym (kind_word ws i) ∙ last_eof f e i h;
    }

    -- what the parser asks, where there is room
    pub asks_whole : tbl.ending ≡ None → (m : List ℕ) → tbl.count ≤ node_room m → AsksWhole t ws tbl.count m
    asks_whole e m r = record { ended = asks_ended e; room = r }
