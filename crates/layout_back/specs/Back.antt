-- Bytes that are written from the last to the first: a room, and the place in it that the next byte stands in front of.
use Rattle.std.specs.Prelude.{◌≡◌, List, [], ◌∷◌, ℕ, zero, suc, ◌-◌, length, set}

-- a byte in front of a place; at place 0 there is none, and past the room nothing is written
unfoldable pub set_back : List ℕ → ℕ → ℕ → List ℕ
set_back room zero b = room
set_back room (suc i) b = set room i b

-- the room once bytes are written that end at a place
unfoldable pub backed : List ℕ → ℕ → List ℕ → List ℕ
backed room at [] = room
backed room at (b ∷ bs) = set_back (backed room at bs) (at - length bs) b

-- What a writer promises: the bytes bs are written so that they end at a place, and r is the place where they begin. A place is never
-- below 0.
pub record Wrote (bs room : List ℕ) (at : ℕ) (room' : List ℕ) (r : ℕ) : Type 0 where
  pub begins : r ≡ at - length bs
  pub room_is : room' ≡ backed room at bs
