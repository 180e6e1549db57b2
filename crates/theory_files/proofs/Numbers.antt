-- Laws of numbers in bytes and of words in bytes: each is the other's inverse.
use mathlib.Core.Path.{◌≡◌, refl, sym, ap, ◌∙◌}
use mathlib.Core.List.{List, [], ◌∷◌, ◌++◌, append_assoc}
use Prim.Native.Nat.{ℕ, zero, suc, ◌+◌, ◌*◌, ◌/◌, ◌%◌, ◌^◌, ◌≤◌, ◌<◌}
use native.Mathlib.Nat.{not-suc-le-zero, le_of_suc-le-suc}
use native.Mathlib.Omega.{arith}
use lib.ListN.{length, take, drop, length-append, length-take, length-drop}
use lib.Seq.{take-add, drop-drop, take_at, drop_at, take-append-le, drop-append-le}
use Rattle.laws.specs.Bounds.{none, some, Bytes, Words}
use Rattle.laws.proofs.Bounds.{below_take, below_drop, below_append}
use Rattle.rules_files.specs.Bytes.{little, number, bytes_of, words_in}

-- ---- a number in bytes

pub little_length : (n x : ℕ) → length (little n x) ≡ n
unfolding little
little_length zero x = refl
little_length (suc n) x = ap suc (little_length n (x / 256))

pub little_bytes : (n x : ℕ) → Bytes (little n x)
unfolding little
little_bytes zero x = none
little_bytes (suc n) x = let h : x % 256 < 256 = omega arith in some h (little_bytes n (x / 256))

-- what is left of a number behind so many bytes
unfoldable over : ℕ → ℕ → ℕ
over zero x = x
over (suc n) x = over n (x / 256)

number_over : (n x : ℕ) → over n x ≡ 0 → number (little n x) ≡ x
unfolding over little number
number_over zero x e = sym e
number_over (suc n) x e = rw (number_over n (x / 256) e) (omega arith)

pub number_two : (x : ℕ) → x < 65536 → number (little 2 x) ≡ x
unfolding over
number_two x h = number_over 2 x (omega arith)

pub number_four : (x : ℕ) → x < 2 ^ 32 → number (little 4 x) ≡ x
unfolding over
number_four x h = number_over 4 x (omega arith)

pub little_number : {s : List ℕ} → Bytes s → little (length s) (number s) ≡ s
unfolding little number
little_number none = refl
little_number (some {x = x} {xs = xs} h b) =
    let e : (x + 256 * number xs) % 256 ≡ x = omega arith in
    let f : (x + 256 * number xs) / 256 ≡ number xs = omega arith in
    rw (e, f, little_number b)

-- bytes that have one number and are as many are the same
pub number_same : {s t : List ℕ} → Bytes s → Bytes t → length s ≡ length t → number s ≡ number t → s ≡ t
number_same {s} {t} b c l e = sym (little_number b) ∙ rw (l, e) (little_number c)

pub number_below : {s : List ℕ} → Bytes s → length s ≤ 2 → number s < 65536
unfolding number
number_below none h = omega arith
number_below (some l none) h = omega arith
number_below (some l (some k none)) h = omega arith
number_below (some l (some k (some j b))) h = absurd (not-suc-le-zero (le_of_suc-le-suc (le_of_suc-le-suc h)))

four_below : {s : List ℕ} → Bytes s → length s ≤ 4 → number s < 2 ^ 32
unfolding number
four_below none h = omega arith
four_below (some a none) h = omega arith
four_below (some a (some b none)) h = omega arith
four_below (some a (some b (some c none))) h = omega arith
four_below (some a (some b (some c (some d none)))) h = omega arith
four_below (some a (some b (some c (some d (some e s))))) h =
    absurd (not-suc-le-zero (le_of_suc-le-suc (le_of_suc-le-suc (le_of_suc-le-suc (le_of_suc-le-suc h)))))

-- ---- words in bytes

pub bytes_length : (ws : List ℕ) → length (bytes_of ws) ≡ 4 * length ws
unfolding bytes_of
bytes_length [] = refl
bytes_length (w ∷ ws) = rw (length-append, little_length, bytes_length ws) (omega arith)

pub bytes_bytes : (ws : List ℕ) → Bytes (bytes_of ws)
unfolding bytes_of
bytes_bytes [] = none
bytes_bytes (w ∷ ws) = below_append (little_bytes 4 w) (bytes_bytes ws)

pub bytes_take : (n : ℕ) (ws : List ℕ) → take (4 * n) (bytes_of ws) ≡ bytes_of (take n ws)
unfolding bytes_of
bytes_take zero ws = refl
bytes_take (suc n) [] = let e : 4 * suc n ≡ suc (4 * n + 3) = omega arith in rw e
bytes_take (suc n) (w ∷ ws) =
    let e : 4 * suc n ≡ 4 + 4 * n = omega arith in
    let t = take_at (little 4 w) (bytes_of ws) 4 (little_length 4 w) in
    let d = drop_at (little 4 w) (bytes_of ws) 4 (little_length 4 w) in
    rw (e, take-add 4 (4 * n) (little 4 w ++ bytes_of ws), t, d, bytes_take n ws)

pub bytes_drop : (n : ℕ) (ws : List ℕ) → drop (4 * n) (bytes_of ws) ≡ bytes_of (drop n ws)
unfolding bytes_of
bytes_drop zero ws = refl
bytes_drop (suc n) [] = let e : 4 * suc n ≡ suc (4 * n + 3) = omega arith in rw e
bytes_drop (suc n) (w ∷ ws) =
    let e : 4 * suc n ≡ 4 + 4 * n = omega arith in
    rw (e, ← drop-drop (4 * n) 4 (little 4 w ++ bytes_of ws), drop_at (little 4 w) (bytes_of ws) 4 (little_length 4 w), bytes_drop n ws)

pub bytes_append : (xs ys : List ℕ) → bytes_of (xs ++ ys) ≡ bytes_of xs ++ bytes_of ys
unfolding bytes_of
bytes_append [] ys = refl
bytes_append (x ∷ xs) ys = rw (bytes_append xs ys, append_assoc)

pub words_length : (n : ℕ) (s : List ℕ) → length (words_in n s) ≡ n
unfolding words_in
words_length zero s = refl
words_length (suc n) s = ap suc (words_length n (drop 4 s))

-- words that are read of bytes fit
pub read_words : (n : ℕ) {s : List ℕ} → Bytes s → Words (words_in n s)
unfolding words_in
read_words zero b = none
read_words (suc n) {s} b = some (four_below (below_take 4 b) (omega (arith, length-take 4 s))) (read_words n (below_drop 4 b))

-- words that were written are read
pub words_bytes : {ws : List ℕ} → Words ws → (t : List ℕ) → words_in (length ws) (bytes_of ws ++ t) ≡ ws
unfolding bytes_of words_in
words_bytes none t = refl
words_bytes (some {x = w} {xs = ws} h b) t =
    let f = take_at (little 4 w) (bytes_of ws ++ t) 4 (little_length 4 w) in
    let d = drop_at (little 4 w) (bytes_of ws ++ t) 4 (little_length 4 w) in
    rw (append_assoc, f, d, number_four w h, words_bytes b t)

-- bytes that are read are those that are written
pub bytes_words : (n : ℕ) {s : List ℕ} → Bytes s → 4 * n ≤ length s → bytes_of (words_in n s) ≡ take (4 * n) s
unfolding bytes_of words_in
bytes_words zero b h = refl
bytes_words (suc n) {s} b h =
    let e : 4 * suc n ≡ 4 + 4 * n = omega arith in
    let l : length (take 4 s) ≡ 4 = length-take 4 s ∙ omega arith in
    let f : little 4 (number (take 4 s)) ≡ take 4 s = rw l at (little_number (below_take 4 b)) in
    rw (e, take-add 4 (4 * n) s, f, bytes_words n (below_drop 4 b) (omega (arith, length-drop 4 s)))

-- the words from word a on
pub words_drop : (a n : ℕ) (s : List ℕ) → drop a (words_in (a + n) s) ≡ words_in n (drop (4 * a) s)
unfolding words_in
words_drop zero n s = let e : 0 + n ≡ n = omega arith in rw e
words_drop (suc a) n s =
    let e : suc a + n ≡ suc (a + n) = omega arith in
    let f : 4 * suc a ≡ 4 + 4 * a = omega arith in
    rw (e, f, ← drop-drop (4 * a) 4 s) (words_drop a n (drop 4 s))

-- the words of bytes in front
pub words_front : (n : ℕ) (s t : List ℕ) → 4 * n ≤ length s → words_in n (s ++ t) ≡ words_in n s
unfolding words_in
words_front zero s t h = refl
words_front (suc n) s t h =
    rw (take-append-le 4 s t (omega arith), drop-append-le 4 s t (omega arith), words_front n (drop 4 s) t (omega (arith, length-drop 4 s)))

pub words_append : (a n : ℕ) (s t : List ℕ) → length s ≡ 4 * a → words_in (a + n) (s ++ t) ≡ words_in a s ++ words_in n t
unfolding words_in
words_append zero n [] t e = let f : 0 + n ≡ n = omega arith in rw f
words_append zero n (x ∷ s) t e = absurd (omega arith)
words_append (suc a) n s t e =
    let f : suc a + n ≡ suc (a + n) = omega arith in
    let r = words_append a n (drop 4 s) t (length-drop 4 s ∙ omega arith) in
    rw (f, take-append-le 4 s t (omega arith), drop-append-le 4 s t (omega arith), r)
