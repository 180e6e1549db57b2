-- Laws of bytes that are written from the last to the first.
use mathlib.Core.Path.{◌≡◌, refl, sym, ap, ◌∙◌}
use mathlib.Core.List.{List, [], ◌∷◌, ◌++◌, append_assoc, append-nil}
use Prim.Native.Nat.{ℕ, zero, suc, ◌+◌, ◌-◌, ◌/◌, ◌%◌, ◌≤◌, ◌<◌}
use native.Mathlib.Nat.{add-zero}
use native.Mathlib.Omega.{arith}
use lib.ListN.{length, take, drop, get_or, set, length-append, length-set, take-append-drop}
use lib.Seq.{take-suc, drop-cons, drop-length, length-take-le, set_at, set_out}
use Rattle.rules_decimal.specs.Decimal.{digit, decimal}
use Rattle.layout_back.specs.Back.{set_back, backed, Wrote}
use Rattle.theory_decimal.proofs.Decimals.{decimal_one, decimal_more}

set_long : (room : List ℕ) (at b : ℕ) → length (set_back room at b) ≡ length room
unfolding set_back
set_long room zero b = refl
set_long room (suc i) b = length-set room i b

-- a room stays as long as it was
pub backed_long : (room : List ℕ) (at : ℕ) (bs : List ℕ) → length (backed room at bs) ≡ length room
unfolding backed
backed_long room at [] = refl
backed_long room at (b ∷ bs) = set_long (backed room at bs) (at - length bs) b ∙ backed_long room at bs

-- bytes in front of bytes
pub backed_append : (room : List ℕ) (at : ℕ) (cs bs : List ℕ) → backed room at (cs ++ bs) ≡ backed (backed room at bs) (at - length bs) cs
unfolding backed
backed_append room at [] bs = refl
backed_append room at (c ∷ cs) bs =
    let e : at - length (cs ++ bs) ≡ at - length bs - length cs = omega (arith, length-append cs bs) in
    ap (λ (r : List ℕ). set_back r (at - length (cs ++ bs)) c) (backed_append room at cs bs)
    ∙ ap (λ (i : ℕ). set_back (backed (backed room at bs) (at - length bs) cs) i c) e

-- nothing
pub wrote_none : (room : List ℕ) (at : ℕ) → Wrote [] room at room at
unfolding backed
wrote_none room at = record { begins = omega arith; room_is = refl }

-- bytes, and then those in front of them
pub wrote_then : {bs cs room room' room'' : List ℕ} {at to r : ℕ} → Wrote bs room at room' to → Wrote cs room' to room'' r → Wrote
    (cs ++ bs) room at room'' r
wrote_then {bs} {cs} {room} {room'} {room''} {at} {to} {r} v w =
    record {
      begins = omega (arith, v.begins, w.begins, length-append cs bs);
      room_is = w.room_is ∙ ap (λ (l : List ℕ). backed l to cs) v.room_is ∙ ap (λ (i : ℕ). backed (backed room at bs) i cs)
          v.begins ∙ sym (backed_append room at cs bs);
    }

-- other words for the bytes
pub wrote_as : {bs cs room room' : List ℕ} {at r : ℕ} → bs ≡ cs → Wrote bs room at room' r → Wrote cs room at room' r
wrote_as {bs} {cs} {room} {room'} {at} {r} e w =
    record { begins = w.begins ∙ ap (λ (l : List ℕ). at - length l) e; room_is = w.room_is ∙ ap (backed room at) e }

pub wrote_long : {bs room room' : List ℕ} {at r : ℕ} → Wrote bs room at room' r → length room' ≡ length room
wrote_long {bs} {room} {room'} {at} {r} w = ap length w.room_is ∙ backed_long room at bs

-- ---- a room in which there is place for the bytes

-- bytes that end at a place, behind what stands before them
backed_at : (room : List ℕ) (j : ℕ) (bs : List ℕ) → j + length bs ≤ length room → backed room (j + length bs) bs ≡ take j room ++
    (bs ++ drop (j + length bs) room)
unfolding backed set_back
backed_at room j [] h = rw add-zero (sym (take-append-drop j room))
backed_at room j (b ∷ bs) h =
    let n : ℕ = j + suc (length bs) in
    let e : n ≡ suc j + length bs = omega arith in
    let f : n - length bs ≡ suc j = omega arith in
    let rest : List ℕ = bs ++ drop n room in
    let g : take (suc j) room ≡ take j room ++ (get_or room j 0 ∷ []) = take-suc room j 0 (omega arith) in
    let ih : backed room (suc j + length bs) bs ≡ take (suc j) room ++ (bs ++ drop (suc j + length bs) room) = backed_at room (suc j) bs
    (omega arith) in
    let k : backed room n bs ≡ take (suc j) room ++ rest = rw e ih in
    let m : backed room n bs ≡ take j room ++ (get_or room j 0 ∷ rest) =
    k ∙ ap (λ (l : List ℕ). l ++ rest) g ∙ append_assoc (take j room) (get_or room j 0 ∷ []) rest in
    ap (λ (i : ℕ). set_back (backed room n bs) i b) f
    ∙ ap (λ (l : List ℕ). set l j b) m
    ∙ set_at (take j room) (get_or room j 0) rest b j (length-take-le j room (omega arith))

-- Bytes that fit and end where they are long stand first in the room, and what stood behind them stays.
pub backed_first : (room bs : List ℕ) → length bs ≤ length room → backed room (length bs) bs ≡ bs ++ drop (length bs) room
backed_first room bs h =
    let e : 0 + length bs ≡ length bs = omega arith in
    rw e at (backed_at room 0 bs (omega arith))

-- in no room nothing is written
pub backed_nowhere : (at : ℕ) (bs : List ℕ) → backed [] at bs ≡ []
unfolding backed set_back
backed_nowhere at [] = refl
backed_nowhere at (b ∷ bs) = go (at - length bs) (backed [] at bs) (backed_nowhere at bs)
  where
    go : (i : ℕ) (l : List ℕ) → l ≡ [] → set_back l i b ≡ []
    go zero l e = e
    go (suc i) l e = rw e

-- ---- a byte

pub put_none : (room : List ℕ) (at b : ℕ) → at ≡ 0 → Wrote (b ∷ []) room at room 0
unfolding backed set_back
put_none room at b e = record { begins = omega arith; room_is = sym (rw e) }

pub put_in : (room : List ℕ) (at b : ℕ) → 0 < at → Wrote (b ∷ []) room at (set room (at - 1) b) (at - 1)
unfolding backed set_back
put_in room zero b h = absurd (omega arith)
put_in room (suc i) b h =
    let e : suc i - 1 ≡ i = omega arith in
    let f : suc i - 0 ≡ suc i = omega arith in
    record { begins = refl; room_is = ap (λ (k : ℕ). set room k b) e ∙ sym (ap (λ (k : ℕ). set_back room k b) f) }

pub put_out : (room : List ℕ) (at b : ℕ) → 0 < at → length room < at → Wrote (b ∷ []) room at room (at - 1)
put_out room at b h g =
    let w : Wrote (b ∷ []) room at (set room (at - 1) b) (at - 1) = put_in room at b h in
    record { begins = w.begins; room_is = sym (set_out room (at - 1) b (omega arith)) ∙ w.room_is }

-- ---- loops

-- bytes are written from the end down to index i
pub bytes_on : (text : List ℕ) (i : ℕ) {room room' room'' : List ℕ} {at to r : ℕ} → 0 < i → i ≤ length text
    → Wrote (drop i text) room at room' to → Wrote (get_or text (i - 1) 0 ∷ []) room' to room'' r → Wrote (drop (i - 1) text) room at room'' r
bytes_on text i h g v w =
    let e : suc (i - 1) ≡ i = omega arith in
    let d : drop (i - 1) text ≡ get_or text (i - 1) 0 ∷ drop (suc (i - 1)) text = drop-cons text (i - 1) 0 (omega arith) in
    wrote_as (sym (d ∙ ap (λ (k : ℕ). get_or text (i - 1) 0 ∷ drop k text) e)) (wrote_then v w)

pub bytes_all : (text : List ℕ) (i : ℕ) {room room' : List ℕ} {at to : ℕ} → i ≤ 0 → Wrote (drop i text) room at room' to
    → Wrote text room at room' to
bytes_all text i h v = let e : i ≡ 0 = omega arith in wrote_as (ap (λ (k : ℕ). drop k text) e) v

pub bytes_begin : (text room : List ℕ) (at : ℕ) → Wrote (drop (length text) text) room at room at
bytes_begin text room at = wrote_as (sym (drop-length text)) (wrote_none room at)

-- of a number the digits behind those of `left` are written
pub record Counting (n : ℕ) (room : List ℕ) (at left : ℕ) (room' : List ℕ) (to : ℕ) : Type 0 where
  pub digits : List ℕ
  pub all : decimal n ≡ decimal left ++ digits
  pub wrote : Wrote digits room at room' to

pub counting_none : (n : ℕ) (room : List ℕ) (at : ℕ) → Counting n room at n room at
counting_none n room at = record { digits = []; all = sym (append-nil (decimal n)); wrote = wrote_none room at }

pub counting_on : {n : ℕ} {room : List ℕ} {at left : ℕ} {room' room'' : List ℕ} {to r : ℕ} → 10 ≤ left → Counting n room at left room' to
    → Wrote (digit (left % 10)) room' to room'' r → Counting n room at (left / 10) room'' r
counting_on {left = left} h v w =
    record {
      digits = digit (left % 10) ++ v.digits;
      all = v.all ∙ ap (λ (l : List ℕ). l ++ v.digits) (decimal_more left h) ∙ append_assoc (decimal (left / 10)) (digit (left % 10))
          v.digits;
      wrote = wrote_then v.wrote w;
    }

pub counting_last : {n : ℕ} {room : List ℕ} {at left : ℕ} {room' room'' : List ℕ} {to r : ℕ} → left < 10 → Counting n room at left room' to
    → Wrote (digit left) room' to room'' r → Wrote (decimal n) room at room'' r
counting_last {left = left} h v w =
    wrote_as (sym (v.all ∙ ap (λ (l : List ℕ). l ++ v.digits) (decimal_one left h))) (wrote_then v.wrote w)
