-- Laws of a string at an index whose byte is its opening quote.
use mathlib.Core.Path.{◌≡◌, ap, ◌∙◌}
use mathlib.Core.Bool.{Bool, true, false, ◌||◌}
use mathlib.Core.List.{List}
use Prim.Native.Nat.{ℕ, ◌+◌, ◌-◌, ◌≤◌, ◌<◌}
use native.Mathlib.Omega.{arith}
use lib.ListN.{length, drop, get_or, length-drop}
use lib.Seq.{drop-drop}
use lib.Dec.{ltb}
use Rattle.rules.specs.Text.{front, not_newline}
use Rattle.rules.specs.Kinds.{StringLiteral}
use Rattle.rules.specs.Lex.{Piece, row, refused, decided_at, string}
use Rattle.rules.specs.declared.Lexical.TheVariants.{OpenString, BadEscape}
use Rattle.laws.proofs.Fronts.{front_on, front_le}
use Rattle.std.proofs.Common.{Ok, Err}
use Rattle.scan_runs.specs.declared.Unclosed.TheVariants.{Open, Escape}
use Rattle.scan_runs.specs.Leaf.{Quoted, quoted_from}
use Rattle.scan_runs.proofs.Quotes.{string_piece, string_quoted, reach_of, seen_of, quoted_in_line, quoted_from_lem, quoted_seen}
use Rattle.scan_reader.specs.Brief.{refusal_code, told, settled}
use Rattle.scan_reader.proofs.Settled.{nothing, settled_known, settled_unknown, settled_inside}

-- the string's bytes behind its opening quote
abbrev pub quoted_at : List ℕ → ℕ → Quoted
quoted_at t a = quoted_from false (a + 1) (drop (a + 1) t)

abbrev pub string_at : List ℕ → ℕ → Piece
string_at t a = string false 1 (drop 1 (drop a t))

module _ (t : List ℕ) (a : ℕ) (i : a < length t) (b : get_or t a 0 ≡ 34) where
  pub string_is : (q : Quoted) → quoted_at t a ≡ q → string_at t a ≡ string_piece a q
  string_is q e =
      string_quoted a false 1 (drop 1 (drop a t)) (λ (_ : false ≡ true). omega arith)
      ∙ ap (λ (x : List ℕ). string_piece a (quoted_from false (a + 1) x)) (drop-drop 1 a t)
      ∙ ap (string_piece a) e

  pub string_from : (q : Quoted) → quoted_at t a ≡ q → a + 1 ≤ reach_of q
  string_from q e = rw (← e) (omega (arith, quoted_from_lem false (a + 1) (drop (a + 1) t)))

  pub string_line : (q : Quoted) → quoted_at t a ≡ q → reach_of q - a ≤ front not_newline (drop a t)
  string_line q e =
      let r : reach_of q ≤ a + 1 + front not_newline (drop (a + 1) t) = rw (← e) (quoted_in_line false (a + 1) (drop (a + 1) t)) in
      let o = front_on not_newline t a i (rw b) in
      omega (arith, o)

  pub string_inside : (q : Quoted) → quoted_at t a ≡ q → reach_of q ≤ length t
  string_inside q e = omega (arith, string_line q e, front_le not_newline (drop a t), length-drop a t)

  module _ (whole : Bool) (e : ℕ) where
    pub string_closed : quoted_at t a ≡ Ok e → settled whole t a (string_at t a)
        ≡ record { size = e + 1 - a; kind = StringLiteral; bits = 0 }
    unfolding string_piece decided_at told reach_of
    string_closed q =
        let f : a + 1 ≤ e + 1 = string_from (Ok e) q in
        let k : e + 1 ≤ length t = string_inside (Ok e) q in
        rw (string_is (Ok e) q) (settled_inside whole t a (row StringLiteral (e + 1 - a) 0 (e - a)) (omega arith))

    open_at : quoted_at t a ≡ Err (Open e) → a + decided_at (refused OpenString (e - a) (e - a)) ≡ e
    unfolding decided_at reach_of
    open_at q = let f : a + 1 ≤ e = string_from (Err (Open e)) q in omega arith

    pub string_unknown : quoted_at t a ≡ Err (Open e) → (whole || ltb e (length t)) ≡ false → settled whole t a (string_at t a) ≡ nothing
    unfolding string_piece
    string_unknown q h = rw (string_is (Err (Open e)) q) (settled_unknown whole t a (refused OpenString (e - a) (e - a)) e (open_at q) h)

    pub string_open : quoted_at t a ≡ Err (Open e) → (whole || ltb e (length t)) ≡ true → settled whole t a (string_at t a)
        ≡ record { size = e - a; kind = refusal_code OpenString; bits = 0 }
    unfolding string_piece told
    string_open q h = rw (string_is (Err (Open e)) q) (settled_known whole t a (refused OpenString (e - a) (e - a)) e (open_at q) h)

    pub string_escape : quoted_at t a ≡ Err (Escape e) → settled whole t a (string_at t a)
        ≡ record { size = e - a; kind = refusal_code BadEscape; bits = 0 }
    unfolding string_piece decided_at told reach_of seen_of
    string_escape q =
        let f : a + 1 ≤ e = string_from (Err (Escape e)) q in
        let k : e + 2 ≤ a + 1 + length (drop (a + 1) t) =
        rw q at (quoted_seen false (a + 1) (drop (a + 1) t) (λ (_ : false ≡ true). omega arith)) in
        rw (string_is (Err (Escape e)) q) (settled_inside whole t a (refused BadEscape (e - a) (e + 1 - a))
        (omega (arith, length-drop (a + 1) t)))
