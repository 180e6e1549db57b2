-- Laws of settled pieces: where a piece at an index is known and where not, and what is told of words and comments there.
use mathlib.Core.Path.{◌≡◌, refl, sym, ap, ◌∙◌}
use mathlib.Core.Bool.{Bool, true, false, ◌||◌, or-true}
use mathlib.Core.List.{List}
use Prim.Native.Nat.{ℕ, ◌+◌, ◌-◌, ◌≤◌, ◌<◌}
use native.Mathlib.Omega.{arith}
use lib.ListN.{length, take, drop, get_or, length-drop}
use lib.Seq.{drop-drop, get_or-drop}
use lib.Dec.{ltb}
use borrow.Author.Tests.{lt-ltb, le-ltb}
use Rattle.rules.specs.Text.{front, not_newline}
use Rattle.rules.specs.Kinds.{Identifier, reserved, kind_in}
use Rattle.rules.specs.Lex.{Piece, comment, row, refused, known, decided_at, is_word, word, line_comment, block_comment, before_close}
use Rattle.rules.specs.declared.Lexical.TheVariants.{OpenComment}
use Rattle.scan_words.specs.Words.{packed_of, packable}
use Rattle.scan_runs.specs.declared.Word.{Word}
use Rattle.scan_runs.specs.Leaf.{word_front, packed_front, word_of}
use Rattle.scan_runs.proofs.Bodies.{body_line}
use Rattle.laws.proofs.Fronts.{front_le}
use Rattle.scan_reader.specs.declared.Brief.{Brief}
use Rattle.scan_reader.specs.Brief.{Line, Block, Unknown, refusal_code, told, settled}

-- more bytes must be shown
abbrev pub nothing : Brief
nothing = record { size = 0; kind = Unknown; bits = 0 }

module _ (whole : Bool) (t : List ℕ) (a : ℕ) (p : Piece) where
  module _ (e : ℕ) (d : a + decided_at p ≡ e) where
    pub settled_known : (whole || ltb e (length t)) ≡ true → settled whole t a p ≡ told (drop a t) (known p)
    unfolding settled
    settled_known h = rw (d, h)

    pub settled_unknown : (whole || ltb e (length t)) ≡ false → settled whole t a p ≡ nothing
    unfolding settled told
    settled_unknown h = rw (d, h)

  pub settled_inside : a + decided_at p < length t → settled whole t a p ≡ told (drop a t) (known p)
  settled_inside h = settled_known (a + decided_at p) refl (rw (lt-ltb (a + decided_at p) (length t) h) (or-true whole))

  pub settled_whole : whole ≡ true → settled whole t a p ≡ told (drop a t) (known p)
  unfolding settled
  settled_whole e = rw e

  pub settled_short : whole ≡ false → length t ≤ a + decided_at p → settled whole t a p ≡ nothing
  settled_short e h = settled_unknown (a + decided_at p) refl (rw (e, le-ltb (a + decided_at p) (length t) h))

-- ---- a word w, read at an index

module _ (t : List ℕ) (a : ℕ) (w : Word) (r : w ≡ word_of a (drop a t)) where
  -- the word's bytes
  abbrev pub word_at : List ℕ
  word_at = word_front (drop a t)

  pub word_end : w.end ≡ a + front is_word (drop a t)
  unfolding word_of
  word_end = rw r

  word_packed : w.packed ≡ packed_of 0 (take packable word_at)
  unfolding word_of packed_front
  word_packed = rw r

  -- the bytes from the index to its end are the word's, and what is packed are the first of them
  word_part : take (w.end - a) (drop a t) ≡ word_at
  word_part = let n : w.end - a ≡ front is_word (drop a t) = omega (arith, word_end) in rw n

  pub word_bytes : kind_in reserved Identifier (take (w.end - a) (drop a t)) ≡ kind_in reserved Identifier word_at
  word_bytes = ap (kind_in reserved Identifier) word_part

  pub word_lookup : a ≤ length t →
      ((a ≤ w.end) × (w.end ≤ length t)) × (w.packed ≡ packed_of 0 (take packable (take (w.end - a) (drop a t))))
  word_lookup l = (
    (omega (arith, word_end), omega (arith, word_end, front_le is_word (drop a t), length-drop a t)),
    word_packed ∙ ap (λ (x : List ℕ). packed_of 0 (take packable x)) (sym word_part),
  )

  word_is : word (drop a t) ≡ row (kind_in reserved Identifier word_at) (w.end - a) 0 (w.end - a)
  unfolding word
  word_is = let n : front is_word (drop a t) ≡ w.end - a = omega (arith, word_end) in
      ap (λ (x : ℕ). row (kind_in reserved Identifier word_at) x 0 x) n

  word_at_lem : a + (w.end - a) ≡ w.end
  word_at_lem = omega (arith, word_end)

  module _ (whole : Bool) where
    pub word_unknown : (whole || ltb w.end (length t)) ≡ false → settled whole t a (word (drop a t)) ≡ nothing
    unfolding decided_at
    word_unknown h = rw word_is (settled_unknown whole t a (row _ (w.end - a) 0 (w.end - a)) w.end word_at_lem h)

    pub word_told : (whole || ltb w.end (length t)) ≡ true → settled whole t a (word (drop a t))
        ≡ record { size = w.end - a; kind = kind_in reserved Identifier word_at; bits = 0 }
    unfolding decided_at told
    word_told h = rw word_is (settled_known whole t a (row _ (w.end - a) 0 (w.end - a)) w.end word_at_lem h)

-- ---- comments: the byte behind the slash at the index

pub byte_next : (t : List ℕ) (i : ℕ) → get_or (drop i t) 1 0 ≡ get_or t (i + 1) 0
byte_next t i = get_or-drop i t 1 0

module _ (t : List ℕ) (a n d : ℕ) where
  line_told : get_or t (a + 1) 0 ≡ 47 → told (drop a t) (known (comment n d)) ≡ record { size = n; kind = Line; bits = 0 }
  unfolding told
  line_told b = rw (byte_next t a, b)

  block_told : get_or t (a + 1) 0 ≡ 42 → told (drop a t) (known (comment n d)) ≡ record { size = n; kind = Block; bits = 0 }
  unfolding told
  block_told b = rw (byte_next t a, b)

-- to the end of its line, at the index e
module _ (whole : Bool) (t : List ℕ) (a : ℕ) (b : get_or t (a + 1) 0 ≡ 47) (e : ℕ) (l : e ≡ a + front not_newline (drop a t)) where
  abbrev left : ℕ
  left = front not_newline (drop a t)

  pub line_closed : e < length t → settled whole t a (line_comment (drop a t)) ≡ record { size = e + 1 - a; kind = Line; bits = 0 }
  unfolding line_comment decided_at
  line_closed h =
      let k : left < length (drop a t) = omega (arith, length-drop a t) in
      let n : e + 1 - a ≡ left + 1 = omega arith in
      rw (n, lt-ltb left (length (drop a t)) k)
      (settled_inside whole t a (comment (left + 1) left) (omega arith) ∙ line_told t a (left + 1) left b)

  module _ (h : length t ≤ e) (i : a ≤ length t) where
    -- all that is left is the comment
    line_all : line_comment (drop a t) ≡ comment left left
    unfolding line_comment
    line_all =
        let n : length (drop a t) ≡ left = omega (arith, front_le not_newline (drop a t), length-drop a t) in
        rw n (rw (le-ltb left left (omega arith)))

    pub line_last : whole ≡ true → settled whole t a (line_comment (drop a t)) ≡ record { size = e - a; kind = Line; bits = 0 }
    line_last w =
        let n : e - a ≡ left = omega arith in
        rw (n, line_all) (settled_whole whole t a (comment left left) w ∙ line_told t a left left b)

    pub line_short : whole ≡ false → settled whole t a (line_comment (drop a t)) ≡ nothing
    unfolding decided_at
    line_short w = rw line_all (settled_short whole t a (comment left left) w (omega arith))

-- to its closing bytes, at the index e
module _ (whole : Bool) (t : List ℕ) (a : ℕ) (i : a + 2 ≤ length t) (b : get_or t (a + 1) 0 ≡ 42) (e : ℕ) (l : e ≡ a + 2 + before_close (drop (a + 2) t)) where
  abbrev body : ℕ
  body = before_close (drop 2 (drop a t))

  body_is : e ≡ a + 2 + body
  body_is = l ∙ ap (λ (x : List ℕ). a + 2 + before_close x) (sym (drop-drop 2 a t))

  length_two : length (drop 2 (drop a t)) + 2 + a ≡ length t
  length_two = omega (arith, length-drop 2 (drop a t), length-drop a t)

  pub block_closed : e < length t → settled whole t a (block_comment (drop a t)) ≡ record { size = e + 2 - a; kind = Block; bits = 0 }
  unfolding block_comment decided_at
  block_closed h =
      let u = drop 2 (drop a t) in
      let k : body < length u = omega (arith, body_is, length_two) in
      let two : body + 2 ≤ length u = omega (arith, body_line u k, front_le not_newline (drop body u), length-drop body u) in
      let n : e + 2 - a ≡ body + 4 = omega (arith, body_is) in
      rw (n, lt-ltb body (length u) k)
      (settled_inside whole t a (comment (body + 4) (body + 3)) (omega (arith, length_two)) ∙ block_told t a (body + 4) (body + 3) b)

  module _ (h : length t ≤ e) where
    block_left : block_comment (drop a t) ≡ refused OpenComment 2 (length (drop a t))
    unfolding block_comment
    block_left = rw (le-ltb body (length (drop 2 (drop a t))) (omega (arith, body_is, length_two)))

    pub block_open : whole ≡ true → settled whole t a (block_comment (drop a t))
        ≡ record { size = 2; kind = refusal_code OpenComment; bits = 0 }
    unfolding told
    block_open w = rw block_left (settled_whole whole t a (refused OpenComment 2 (length (drop a t))) w)

    pub block_short : whole ≡ false → settled whole t a (block_comment (drop a t)) ≡ nothing
    unfolding decided_at
    block_short w = rw block_left (settled_short whole t a (refused OpenComment 2 (length (drop a t))) w (omega (arith, length-drop a t)))
