-- Rows laid over lent words, one behind the other.
use mathlib.Core.Path.{◌≡◌, refl, sym, ◌∙◌}
use mathlib.Core.Bool.{Bool, true, false, cond}
use mathlib.Core.List.{List, [], ◌∷◌, ◌++◌, append_assoc, append-nil}
use Prim.Native.Nat.{ℕ, ◌+◌, ◌-◌, ◌*◌, ◌≤◌, ◌<◌}
use native.Mathlib.Omega.{arith}
use lib.ListN.{length, take, drop, length-append}
use lib.Seq.{drop-drop, take_at, drop_at}
use lib.Dec.{ltb}
use borrow.Author.Tests.{ltb-true, ltb-false}
use borrow.Rule.Slice.PartMut.{put_mid}
use Rattle.rules.specs.Rows.{Row, row_words, words_of}
use Rattle.rules.specs.Scan.{room_of, laid}
use Rattle.laws.proofs.Lists.{lent_tail, back_tail}
use Rattle.laws.proofs.Rows.{words_length, words_append, laid_length, laid_all, laid_part, laid_front}
use Rattle.scan_puts.specs.Put.{placed}

-- a row that was written at the front of the tail behind n rows
pub row_back : (n : ℕ) (r : Row) (xs : List ℕ) → n * 8 + 8 ≤ length xs →
    put_mid (n * 8) (length xs - n * 8) xs (row_words r ++ drop 8 (take (length xs - n * 8) (drop (n * 8) xs)))
    ≡ take (n * 8) xs ++ (row_words r ++ drop (n * 8 + 8) xs)
row_back n r xs h = rw (lent_tail xs (n * 8) (omega arith), back_tail xs (n * 8) (omega arith), drop-drop)

-- a row written behind n others
row_behind : (rs : List Row) (r : Row) (old : List ℕ) (n : ℕ) → length rs ≡ n →
    take (n * 8) (words_of rs ++ drop (8 * n) old) ++ (row_words r ++ drop (n * 8 + 8) (words_of rs ++ drop (8 * n) old))
    ≡ words_of (rs ++ (r ∷ [])) ++ drop (8 * (n + 1)) old
unfolding words_of
row_behind rs r old n h =
    let q = drop (8 * n) old in
    let l : length (words_of rs) ≡ n * 8 = omega (arith, words_length rs) in
    let e : 8 * (n + 1) ≡ 8 * n + 8 = omega arith in
    rw (take_at (words_of rs) q (n * 8) l, ← drop-drop 8 (n * 8) (words_of rs ++ q), drop_at (words_of rs) q (n * 8) l, words_append, e, ← drop-drop 8 (8 * n) old, append_assoc, append-nil)

-- one row more is laid
pub laid_more : (rs : List Row) (r : Row) (old : List ℕ) (n : ℕ) → length rs ≡ n → placed n r (laid rs old) ≡ laid (rs ++ (r ∷ [])) old
unfolding placed room_of
laid_more rs r old n h = rw same (pick (ltb n (room_of old)) refl)
  where
    same : room_of (laid rs old) ≡ room_of old
    same = rw (laid_length rs old)

    longer : length (rs ++ (r ∷ [])) ≡ n + 1
    longer = rw (length-append, h)

    pick : (q : Bool) → ltb n (room_of old) ≡ q →
        cond q (take (n * 8) (laid rs old) ++ (row_words r ++ drop (n * 8 + 8) (laid rs old))) (laid rs old) ≡ laid (rs ++ (r ∷ [])) old
    pick true e =
        let l : n < room_of old = ltb-true n (room_of old) e in
        rw (laid_all rs old (omega arith), laid_all (rs ++ (r ∷ [])) old (omega (arith, longer)), longer, h) (row_behind rs r old n h)
    pick false e =
        let l : room_of old ≤ n = ltb-false n (room_of old) e in
        laid_part rs old (omega arith) ∙ sym (laid_front rs (r ∷ []) old (omega arith))
