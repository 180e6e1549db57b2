-- Laws of a form's blocks of rows, said once over the form: the words of so many rows, and the blocks of rows that are left, one block
-- further.
use mathlib.Core.Path.{◌≡◌, refl, sym, ap, ◌∙◌}
use mathlib.Core.List.{List, [], ◌++◌, append_assoc}
use Prim.Native.Nat.{ℕ, zero, suc, ◌+◌, ◌-◌, ◌*◌, ◌≤◌, ◌<◌, min}
use native.Mathlib.Omega.{arith}
use lib.ListN.{length, take, drop}
use lib.Seq.{take_at, drop_at, take-add, take_all, drop-drop, length-take-le}
use Rattle.laws.proofs.Rows.{row_take}
use Rattle.rules.specs.declared.Table.{Table}
use Rattle.rules.specs.Rows.{words_per_row, row_in}
use Rattle.rules_files.specs.Bytes.{bytes_of}
use Rattle.rules_files.specs.Blocks.{content_room, block, per_block, blocks_for, blocks_from, file_of}
use Rattle.rules_files.specs.Files.{encode}
use Rattle.rules_forms.specs.declared.Form.{Form}
use Rattle.rules_forms.specs.declared.Form.TheVariants.{Full, Short}
use Rattle.rules_forms.specs.Short.{short_row, shortened, short_encode}
use Rattle.rules_forms.specs.Forms.{encode_in}
use Rattle.rules_forms.specs.Shapes.{number_of, row_bytes_of, said_in, body_of}
use Rattle.theory_files.proofs.Numbers.{bytes_length, bytes_append}
use Rattle.theory_files.proofs.Many.{here_few, blocks_none, blocks_more}
use Rattle.theory_files.proofs.Files.{drop_take}
use Rattle.theory_forms.proofs.Written.{shortened_length}
use Rattle.file_sizes.proofs.Sizes.{some_bytes, few_bytes}

-- ---- rows but their lines and columns

short_split : (n m : ℕ) (ws : List ℕ) → n ≤ m → shortened m ws ≡ shortened n ws ++ shortened (m - n) (drop (words_per_row * n) ws)
unfolding shortened
short_split zero m ws h = let e : m - 0 ≡ m = omega arith in rw e
short_split (suc n) zero ws h = absurd (omega arith)
short_split (suc n) (suc m) ws h =
    let e : words_per_row * suc n ≡ words_per_row + words_per_row * n = omega arith in
    let f : suc m - suc n ≡ m - n = omega arith in
    rw (e, f, ← drop-drop (words_per_row * n) words_per_row ws, append_assoc)
    (ap (λ (l : List ℕ). short_row (row_in ws) ++ l) (short_split n m (drop words_per_row ws) (omega arith)))

-- only the words of the rows count
short_front : (n : ℕ) (ws : List ℕ) → shortened n (take (words_per_row * n) ws) ≡ shortened n ws
unfolding shortened
short_front zero ws = refl
short_front (suc n) ws =
    let e : words_per_row * suc n ≡ words_per_row + words_per_row * n = omega arith in
    rw (
      e,
      row_take (words_per_row + words_per_row * n) ws (omega arith),
      drop_take words_per_row (words_per_row * n) ws,
      short_front n (drop words_per_row ws),
    )

-- ---- the words of so many rows

body_split : (form : Form) (n m : ℕ) (ws : List ℕ) → n ≤ m
    → body_of form m ws ≡ body_of form n ws ++ body_of form (m - n) (drop (words_per_row * n) ws)
body_split Full n m ws h =
    let e : words_per_row * m ≡ words_per_row * n + words_per_row * (m - n) = omega arith in
    rw e (take-add (words_per_row * n) (words_per_row * (m - n)) ws)
body_split Short n m ws h = short_split n m ws h

body_size : (form : Form) (n : ℕ) (ws : List ℕ) → words_per_row * n ≤ length ws
    → length (bytes_of (body_of form n ws)) ≡ row_bytes_of form * n
body_size Full n ws h = bytes_length (take (words_per_row * n) ws) ∙ omega (arith, length-take-le (words_per_row * n) ws h)
body_size Short n ws h = bytes_length (shortened n ws) ∙ omega (arith, shortened_length n ws)

-- only the words of the rows count
pub body_front : (form : Form) (n : ℕ) (ws tail : List ℕ) → words_per_row * n ≤ length ws
    → body_of form n (take (words_per_row * n) ws ++ tail) ≡ body_of form n ws
body_front Full n ws tail h = take_at (take (words_per_row * n) ws) tail (words_per_row * n) (length-take-le (words_per_row * n) ws h)
body_front Short n ws tail h =
    let m : ℕ = words_per_row * n in
    let t : take m (take m ws ++ tail) ≡ take m ws = take_at (take m ws) tail m (length-take-le m ws h) in
    sym (short_front n (take (words_per_row * n) ws ++ tail)) ∙ ap (shortened n) t ∙ short_front n ws

-- ---- blocks

-- the blocks of so many rows, from block k on
unfoldable pub blocks_of : Form → ℕ → ℕ → List ℕ → List ℕ
blocks_of form k n ws = blocks_from (row_bytes_of form) (blocks_for (row_bytes_of form) n) k n (bytes_of (body_of form n ws))

-- some rows take one block more than those that do not stand in it
pub blocks_less : (form : Form) (left n : ℕ) → 0 < left → n ≡ min (per_block (row_bytes_of form)) left
    → blocks_for (row_bytes_of form) left ≡ suc (blocks_for (row_bytes_of form) (left - n))
blocks_less form left n l here =
    let e : left - per_block (row_bytes_of form) ≡ left - n = omega arith in
    rw (← e) (blocks_more (row_bytes_of form) (some_bytes form) (few_bytes form) left l)

-- one block further
pub blocks_further : (form : Form) (left k n : ℕ) (ws : List ℕ) → 0 < left → n ≡ min (per_block (row_bytes_of form)) left
    → words_per_row * left ≤ length ws
    → blocks_of form k left ws ≡ block k n (bytes_of (body_of form n ws)) ++ blocks_of form (suc k) (left - n) (drop (words_per_row * n) ws)
unfolding blocks_of blocks_from
blocks_further form left k n ws l here h =
    let e : left - per_block (row_bytes_of form) ≡ left - n = omega arith in
    let m = blocks_less form left n l here in
    let x : List ℕ = bytes_of (body_of form n ws) in
    let y : List ℕ = bytes_of (body_of form (left - n) (drop (words_per_row * n) ws)) in
    let s : bytes_of (body_of form left ws) ≡ x ++ y
    = ap bytes_of (body_split form n left ws (omega arith))
    ∙ bytes_append (body_of form n ws) (body_of form (left - n) (drop (words_per_row * n) ws)) in
    let w : length x ≡ row_bytes_of form * n = body_size form n ws (omega arith) in
    rw (m, ← here, e, s, take_at x y (row_bytes_of form * n) w, drop_at x y (row_bytes_of form * n) w)

-- the rows of a block have room in it
pub body_few : (form : Form) (left n : ℕ) (ws : List ℕ) → n ≡ min (per_block (row_bytes_of form)) left → words_per_row * left ≤ length ws
    → length (bytes_of (body_of form n ws)) ≤ content_room
body_few form left n ws here h =
    let b : row_bytes_of form * n ≤ content_room = rw here (here_few (row_bytes_of form) (some_bytes form) (few_bytes form) left) in
    omega (arith, body_size form n ws (omega arith), b)

-- no row is left
pub blocks_zero : (form : Form) → blocks_for (row_bytes_of form) 0 ≡ 0
blocks_zero form = blocks_none (row_bytes_of form) (some_bytes form) (few_bytes form)

pub blocks_end : (form : Form) (k : ℕ) (ws : List ℕ) → blocks_of form k 0 ws ≡ []
unfolding blocks_of blocks_from
blocks_end form k ws = rw (blocks_zero form)

-- ---- the whole file

-- the one file of a form: block 0, and the blocks of all rows
pub encoded : (form : Form) (ws : List ℕ) (t : Table) → length ws ≡ words_per_row * t.count
    → encode_in (number_of form) ws t ≡ block 0 0 (bytes_of (said_in form t)) ++ blocks_of form 1 t.count ws
unfolding encode_in encode short_encode file_of blocks_of
encoded Full ws t l = rw (take_all (words_per_row * t.count) ws (omega arith))
encoded Short ws t l = refl
