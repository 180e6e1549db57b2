-- What is left where block 0 and the blocks of the rows are mended.
use mathlib.Core.Path.{◌≡◌, sym, ap, ◌∙◌}
use mathlib.Core.List.{List, [], ◌∷◌, ◌++◌, append_assoc, append-nil}
use Prim.Native.Nat.{ℕ, suc, ◌+◌, ◌-◌, ◌*◌, ◌/◌, ◌≤◌, ◌<◌}
use native.Mathlib.Omega.{arith}
use lib.ListN.{length, take, drop, set, get_or, length-append, length-drop}
use lib.Seq.{take_at, drop_at, drop-drop, drop-cons, set_at, length-take-le}
use Rattle.std.specs.declared.result.Result.TheVariants.{Ok}
use Rattle.rules.specs.Text.{text_judged}
use Rattle.rules_forms.specs.declared.Form.{Form}
use Rattle.rules_forms.specs.Shapes.{number_of}
use Rattle.rules_mend.specs.Mend.{fresh_table, fresh_file, surplus, listed}
use Rattle.file_patch.specs.Block.{entry, entry_here}
use Rattle.file_patch.proofs.One.{entry_most}
use Rattle.file_survey.specs.Survey.{blocks_of, rows_differing, rows_of}
use Rattle.file_survey.proofs.Files.{said_block, said_length, fresh_parts, fresh_blocks, listed_parts, tail_entry, no_tail_lem, rows_most}
use Rattle.file_survey.proofs.Surveyed.{rows_small}
use Rattle.file_rewrite.specs.Mending.{Fresh, RowsMended, file_left, list_left}
use Rattle.file_rewrite.proofs.Going.{differing_behind}

-- What is left where block 0 and the blocks of the rows were mended, with `last` entries: the fresh file, and the list
-- but for a tail's entry, for which there is room.
pub record Left (form : Form) (text : List ℕ) (n : ℕ) (memory list : List ℕ) (last : ℕ) (memory₂ list₂ : List ℕ) : Type 0 where
  pub small : last ≤ 65538
  pub file : memory₂ ≡ file_left form text memory
  pub all : n ≤ length (fresh_file (number_of form) text) → list₂ ≡ list_left form text n memory list
  pub fits : length (fresh_file (number_of form) text) < n → last < length list₂
  pub same_size : length (fresh_file (number_of form) text) < n → length list₂ ≡ length list
  pub tail : length (fresh_file (number_of form) text) < n → (m : ℕ) → m ≡ length (fresh_file (number_of form) text) / 512
      → set list₂ last m ≡ list_left form text n memory list

module _ (form : Form) (text : List ℕ) (n : ℕ) (memory list : List ℕ) (room : length (fresh_file (number_of form) text) ≤ length memory)
    (inside : n ≤ length memory) (listing : length (listed (fresh_file (number_of form) text) (take n memory)) ≤ length list)
    (b : List ℕ) (made : b ≡ said_block form (fresh_table text)) where
  zero_entry : entry_here n 0 b memory ≡ entry 0 (said_block form (fresh_table text)) (take n memory)
  zero_entry = rw made

  all_entries : listed (fresh_file (number_of form) text) (take n memory)
      ≡ entry_here n 0 b memory
      ++ (rows_differing form 1 (rows_of text) (take n memory) ++ surplus (fresh_file (number_of form) text) (take n memory))
  all_entries = rw zero_entry (listed_parts form text (take n memory))

  all_length : length (listed (fresh_file (number_of form) text) (take n memory))
      ≡ length (entry_here n 0 b memory)
      + (length (rows_differing form 1 (rows_of text) (take n memory)) + length (surplus (fresh_file (number_of form) text) (take n memory)))
  all_length =
      let d = rows_differing form 1 (rows_of text) (take n memory) in
      let s = surplus (fresh_file (number_of form) text) (take n memory) in
      ap length all_entries ∙ length-append (entry_here n 0 b memory) (d ++ s) ∙ omega (arith, length-append d s)

  said_size : length b ≡ 512
  said_size = ap length made ∙ said_length form (fresh_table text)

  -- there is room for block 0 and its entry
  pub first_fits : ((length b ≡ 512) × (512 * 0 + 512 ≤ length memory))
      × ((n ≤ length memory) × (0 + length (entry_here n 0 b memory) ≤ length list))
  first_fits = ((said_size, omega (arith, fresh_blocks form text)), (inside, omega (arith, all_length)))

  module _ (first : ℕ) (memory₁ list₁ : List ℕ)
      (e : (first ≡ 0 + length (entry_here n 0 b memory))
      × ((memory₁ ≡ take (512 * 0) memory ++ (b ++ drop (512 * 0 + 512) memory))
      × (list₁ ≡ take 0 list ++ (entry_here n 0 b memory ++ drop first list)))) where
    first_is : length (entry_here n 0 b memory) ≡ first
    first_is = omega (arith, e.0)

    memory_is : memory₁ ≡ b ++ drop 512 memory
    memory_is = e.1.0

    list_is : list₁ ≡ entry_here n 0 b memory ++ drop first list
    list_is = e.1.1

    memory_front : take 512 memory₁ ≡ b
    memory_front = rw memory_is (take_at b (drop 512 memory) 512 said_size)

    memory_behind : drop 512 memory₁ ≡ drop 512 memory
    memory_behind = rw memory_is (drop_at b (drop 512 memory) 512 said_size)

    list_front : take first list₁ ≡ entry_here n 0 b memory
    list_front = rw list_is (take_at (entry_here n 0 b memory) (drop first list) first first_is)

    list_behind : drop first list₁ ≡ drop first list
    list_behind = rw list_is (drop_at (entry_here n 0 b memory) (drop first list) first first_is)

    memory_size : length memory₁ ≡ length memory
    memory_size =
        ap length memory_is ∙ length-append b (drop 512 memory) ∙ omega (arith, said_size, length-drop 512 memory, fresh_blocks form text)

    list_size : length list₁ ≡ length list
    list_size =
        ap length list_is ∙ length-append (entry_here n 0 b memory) (drop first list)
        ∙ omega (arith, first_is, length-drop first list, all_length)

    alike : rows_differing form 1 (rows_of text) (take n memory₁) ≡ rows_differing form 1 (rows_of text) (take n memory)
    alike = differing_behind form 1 (rows_of text) n memory₁ memory memory_behind

    -- and for the blocks of the rows and theirs
    pub rows_fit : text_judged text ≡ Ok tt → Fresh form text n memory₁ first list₁
    rows_fit fine = record {
      fine = fine;
      inside = omega (arith, memory_size);
      room = omega (arith, memory_size);
      list_room = omega (arith, ap length alike, list_size, first_is, all_length);
    }

    module _ (last : ℕ) (memory₂ list₂ : List ℕ) (r : RowsMended form text n first last memory₁ memory₂ list₁ list₂) where
      further : (a c : ℕ) (x y : List ℕ) → drop a x ≡ drop a y → a ≤ c → drop c x ≡ drop c y
      further a c x y q h =
          let z : a + (c - a) ≡ c = omega arith in
          (rw z at (sym (drop-drop (c - a) a x) ∙ ap (drop (c - a)) q ∙ drop-drop (c - a) a y))

      -- memory is the fresh file, and then what was there
      file_done : memory₂ ≡ file_left form text memory
      file_done =
          let size = length (fresh_file (number_of form) text) in
          let l : 512 ≤ size = omega (arith, fresh_blocks form text) in
          let d : drop size memory₁ ≡ drop size memory = further 512 size memory₁ memory memory_behind l in
          r.file_is ∙ rw (memory_front, d, made)
          (sym (append_assoc (said_block form (fresh_table text)) (blocks_of form 1 (rows_of text)) (drop size memory))
          ∙ ap (λ (x : List ℕ). x ++ drop size memory) (sym (fresh_parts form text)))

      front : List ℕ
      front = entry_here n 0 b memory ++ rows_differing form 1 (rows_of text) (take n memory)

      last_is : last ≡ first + length (rows_differing form 1 (rows_of text) (take n memory))
      last_is = rw (← alike) r.last_is

      front_size : length front ≡ last
      unfolding front
      front_size =
          length-append (entry_here n 0 b memory) (rows_differing form 1 (rows_of text) (take n memory)) ∙ omega (arith, first_is, last_is)

      list_two : list₂ ≡ front ++ drop last list
      unfolding front
      list_two =
          let d : drop last list₁ ≡ drop last list = further first last list₁ list list_behind (omega (arith, last_is)) in
          r.list_is ∙ rw (list_front, alike, d)
          (sym (append_assoc (entry_here n 0 b memory) (rows_differing form 1 (rows_of text) (take n memory)) (drop last list)))

      -- it has few entries so far
      last_small : text_judged text ≡ Ok tt → last ≤ 65538
      last_small fine =
          omega (
            arith,
            last_is,
            first_is,
            rows_most form 1 (rows_of text) (take n memory),
            rows_small text fine,
            entry_most b (take n memory) 0,
          )

      file_size : length (take n memory) ≡ n
      file_size = length-take-le n memory inside

      all_front : listed (fresh_file (number_of form) text) (take n memory)
          ≡ front ++ surplus (fresh_file (number_of form) text) (take n memory)
      unfolding front
      all_front =
          let d = rows_differing form 1 (rows_of text) (take n memory) in
          let s = surplus (fresh_file (number_of form) text) (take n memory) in
          all_entries ∙ sym (append_assoc (entry_here n 0 b memory) d s)

      -- no tail: the list is done
      list_done : n ≤ length (fresh_file (number_of form) text) → list₂ ≡ list_left form text n memory list
      list_done h =
          let s = no_tail_lem form text (take n memory) (omega (arith, file_size)) in
          let q : listed (fresh_file (number_of form) text) (take n memory) ≡ front = all_front ∙ rw s (append-nil front) in
          rw (q, front_size) list_two

      module _ (h : length (fresh_file (number_of form) text) < n) where
        tail : surplus (fresh_file (number_of form) text) (take n memory) ≡ (length (fresh_file (number_of form) text) / 512) ∷ []
        tail = tail_entry form text (take n memory) (omega (arith, file_size))

        in_list : last < length list
        in_list = omega (arith, all_length, ap length tail, last_is, first_is)

        list_two_size : length list₂ ≡ length list
        list_two_size =
            ap length list_two ∙ length-append front (drop last list) ∙ omega (arith, front_size, length-drop last list, in_list)

        -- there is room for the tail's entry
        last_fits : last < length list₂
        last_fits = omega (arith, list_two_size, in_list)

        -- and with it the list is done
        list_tail : (m : ℕ) → m ≡ length (fresh_file (number_of form) text) / 512 → set list₂ last m ≡ list_left form text n memory list
        list_tail m q =
            let found = listed (fresh_file (number_of form) text) (take n memory) in
            let all : found ≡ front ++ (m ∷ []) = all_front ∙ rw (tail, q) in
            let size : length found ≡ suc last = ap length all ∙ length-append front (m ∷ []) ∙ omega (arith, front_size) in
            let w : set list₂ last m ≡ front ++ (m ∷ drop (suc last) list) =
            ap (λ (l : List ℕ). set l last m) list_two ∙ ap (λ (l : List ℕ). set (front ++ l) last m) (drop-cons list last 0 in_list)
            ∙ set_at front (get_or list last 0) (drop (suc last) list) m last front_size in
            w ∙ sym (rw (size, all) (append_assoc front (m ∷ []) (drop (suc last) list)))

      -- all of it
      pub rows_left : text_judged text ≡ Ok tt → Left form text n memory list last memory₂ list₂
      rows_left fine = record {
        small = last_small fine;
        file = file_done;
        all = list_done;
        fits = last_fits;
        same_size = list_two_size;
        tail = list_tail;
      }
