-- "Two people, one file": edits as whoever makes one tells it, the text after one, when two are apart, where the other
-- one's places are after one, and one edit that covers two in a row.
use Rattle.std.specs.Prelude.{Bool, true, cond, ◌||◌, List, ◌++◌, ◌≡◌, ℕ, ◌+◌, ◌-◌, ◌≤◌, min, max, length, take, drop, leb, ltb}

-- Bytes `from` to `to` of a text (`to` not included) become `bytes`.
pub record Edit : Type 0 where
  pub from : ℕ
  pub to : ℕ
  pub bytes : List ℕ

-- it lies in the text
pub record Lies (e : Edit) (t : List ℕ) : Type 0 where
  pub order : e.from ≤ e.to
  pub inside : e.to ≤ length t

-- the text after it
abbrev pub after : List ℕ → Edit → List ℕ
after t e = take e.from t ++ (e.bytes ++ drop e.to t)

-- how many bytes it takes away, and how many it puts there
abbrev pub gone : Edit → ℕ
gone e = e.to - e.from

abbrev pub put : Edit → ℕ
put e = length e.bytes

-- ---- either order: both are told in places of the same text

-- at least one old byte lies behind e's old stretch and in front of f's
unfoldable pub before : Edit → Edit → Bool
before e f = ltb e.to f.from

unfoldable pub apart : Edit → Edit → Bool
apart e f = before e f || before f e

-- two edits of a text, apart
pub record Pair (t : List ℕ) (e f : Edit) : Type 0 where
  pub one : Lies e t
  pub other : Lies f t
  pub between : apart e f ≡ true

-- where a place behind e's old stretch is after e
unfoldable pub shift : Edit → ℕ → ℕ
shift e k = k + put e - gone e

-- f after e, with its places adjusted: they move where e lies before f
unfoldable pub adjusted : Edit → Edit → Edit
adjusted e f = cond (before e f) (record { from = shift e f.from; to = shift e f.to; bytes = f.bytes }) f

-- e, and then f
abbrev pub both : List ℕ → Edit → Edit → List ℕ
both t e f = after (after t e) (adjusted e f)

-- ---- in a row: f is told in places of the text after e

abbrev pub in_turn : List ℕ → Edit → Edit → List ℕ
in_turn t e f = after (after t e) f

-- one edit that covers both: where it begins and ends, and how many new bytes it has
unfoldable pub cover_from : Edit → Edit → ℕ
cover_from e f = min e.from f.from

unfoldable pub cover_to : Edit → Edit → ℕ
cover_to e f = cond (leb f.to (e.from + put e)) e.to (f.to - put e + gone e)

unfoldable pub cover_size : Edit → Edit → ℕ
cover_size e f = max (e.from + put e) f.to - cover_from e f - gone f + put f

-- its new bytes are those that stand there at last
unfoldable pub covering : List ℕ → Edit → Edit → Edit
covering t e f = record { from = cover_from e f; to = cover_to e f; bytes = take (cover_size e f) (drop (cover_from e f) (in_turn t e f)) }

-- g covers both: it is that edit, or a wider one, with as many old bytes more on either side
pub record Covers (t : List ℕ) (e f g : Edit) : Type 0 where
  pub early : g.from ≤ cover_from e f
  pub late : cover_to e f ≤ g.to
  pub inside : g.to ≤ length t
  pub bytes : g.bytes ≡ take (cover_from e f - g.from + cover_size e f + (g.to - cover_to e f)) (drop g.from (in_turn t e f))
