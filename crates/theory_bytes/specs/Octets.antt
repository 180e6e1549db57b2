-- The grammar of RFC 3629, section 4, as a relation: UTF8-octets is characters, one behind the other, and a character has a byte in each
-- range of a line of the table.
use mathlib.Core.List.{List, [], ◌∷◌, ◌++◌, Memᴰ}
use Rattle.std.specs.Prelude.{ℕ, ◌≤◌, ◌<◌, length}
use Rattle.rules.specs.Text.{Range, utf8}

-- a byte in each range, and no more
pub data Each : List Range → List ℕ → Type 0 where
  end : Each [] []
  next : {r : Range} {rs : List Range} {b : ℕ} {s : List ℕ} → r.lo ≤ b → b ≤ r.hi → Each rs s → Each (r ∷ rs) (b ∷ s)

-- UTF8-char
pub data Char : List ℕ → Type 0 where
  char : {rs : List Range} {c : List ℕ} → Memᴰ rs utf8 → Each rs c → Char c

-- UTF8-octets
pub data Octets : List ℕ → Type 0 where
  none : Octets []
  more : {c s : List ℕ} → Char c → Octets s → Octets (c ++ s)

-- a proper beginning of some character: bytes that are missing make one
pub record Begins (s : List ℕ) : Type 0 where
  pub missing : List ℕ
  pub some : 0 < length missing
  pub whole : Char (s ++ missing)
