-- Edits of a text made by the outer face's calls, one and two in a row: the second is lent the rows and the words that the
-- first left and told.
use Rattle.std.specs.Prelude.{ℕ, ◌*◌, true, List, [], ◌∷◌, ◌≡◌, take, drop, get_or}
use Rattle.rules_pairs.specs.Pairs.{Edit, after, put}
use Rattle.answers.specs.Layout.{is_ending}
use Rattle.spoonharbor.specs.OuterChange.{OuterTable}
use Rattle.theory_outer.specs.Calls.{EditCall, ChangeCall, RestartCall}

-- The edit e of the text t, made by `spoonharbor_edit` with a whole window, which is all of the new text from the offset on
-- that `spoonharbor_restart` told, or by `spoonharbor_change`. The calls were lent rows and their table's words; the edit
-- or the change was lent the words `lent`, told `answer` and left `new`.
pub data Applied (t : List ℕ) (e : Edit) (rows table lent answer new : List ℕ) : Type 0 where
  by_edit : (place : List ℕ) → RestartCall rows table e.from place
      → EditCall rows table e.from e.to (put e) (get_or place 1 0) (drop (get_or place 1 0) (after t e)) lent answer new
      → Applied t e rows table lent answer new
  by_change : ChangeCall rows table e.from e.to (put e) (after t e) lent answer new → Applied t e rows table lent answer new

-- One edit of what is held of a text t: rows and words that a scan of it left and told, and the words are a table's, since
-- their number is 0 or 11 to 17.
pub record Once (t : List ℕ) (e : Edit) (room answer new : List ℕ) : Type 0 where
  pub rows : List ℕ
  pub table : List ℕ
  pub held : OuterTable t rows table
  pub call : Applied t e rows table room answer new

-- The edit e of what is held of a text t, whose answer is a table's; and then the edit f of the text after it, lent the
-- rows and the words that the first left and told. The second was lent the words `room`, told `answer` and left `new`.
pub record Turns (t : List ℕ) (e f : Edit) (room answer new : List ℕ) : Type 0 where
  pub lent : List ℕ
  pub told : List ℕ
  pub rows : List ℕ
  pub first : Once t e lent told rows
  pub table : is_ending (get_or told 0 0) ≡ true
  pub second : Applied (after t e) f rows told room answer new

-- Edits of what is held of a text t, one after the other. Each but the first is lent the rows and the words that the one
-- before left and told, and these are a table's. The last was lent the words `room`, told `answer` and left `new`.
pub data Made : (t : List ℕ) (es : List Edit) (rows table room answer new : List ℕ) → Type 0 where
  last : {t : List ℕ} {e : Edit} {rows table room answer new : List ℕ} → Applied t e rows table room answer new
      → Made t (e ∷ []) rows table room answer new
  more : {t : List ℕ} {e : Edit} {es : List Edit} {rows table lent told left room answer new : List ℕ} → Applied t e rows table lent told left
      → is_ending (get_or told 0 0) ≡ true → Made (after t e) es left told room answer new
      → Made t (e ∷ es) rows table room answer new

-- Two calls that were lent the same words told the same eight words and left the same.
pub record Alike (answer answer' new new' : List ℕ) : Type 0 where
  pub told : answer ≡ answer'
  pub left : new ≡ new'

-- Two calls in memories of their own told the same eight words and left the same rows, all eight words of each.
pub record AlikeRows (answer answer' new new' : List ℕ) : Type 0 where
  pub told : answer ≡ answer'
  pub rows : take (8 * get_or answer 6 0) new ≡ take (8 * get_or answer 6 0) new'
