-- A mended file reads back as the fresh scan's table, mending again lists and changes nothing, and what need not change stays.
use mathlib.Core.Path.{◌≡◌, refl, sym, ap, ◌∙◌}
use mathlib.Core.Bool.{Bool, true, false, cond, not, ◌||◌}
use mathlib.Core.List.{List, [], ◌++◌}
use Prim.Native.Nat.{ℕ, ◌+◌, ◌-◌, ◌*◌, ◌/◌, ◌≤◌, ◌<◌}
use native.Mathlib.Nat.{le_trans}
use native.Mathlib.Omega.{arith}
use lib.ListN.{length, take, drop, take-append-drop, length-append, length-take, length-drop}
use lib.Seq.{take_at, drop_at, take_all, drop-drop, take-append-le, drop-append-le, drop-append-add}
use lib.Dec.{ltb}
use borrow.Author.Tests.{ltb-false, ltb-true, le-ltb, not-false}
use Rattle.laws.proofs.Tests.{neither}
use Rattle.laws.proofs.Rows.{scan_told_lem, scan_leaves_lem, told_all, laid_all}
use Rattle.laws.proofs.Lists.{empty, part_front}
use Rattle.rules.specs.declared.Cursor.{Cursor}
use Rattle.rules.specs.Outcomes.{Judged}
use Rattle.std.specs.declared.result.Result.TheVariants.{Ok, Err}
use Rattle.rules.specs.declared.Outer.TheVariants.{NoRowRoom}
use Rattle.rules.specs.Text.{start_place, text_judged}
use Rattle.rules.specs.Rows.{words_per_row}
use Rattle.rules.specs.Scan.{read_rows, read_ending, scan, room_of, scan_told, scan_leaves}
use Rattle.rules_files.specs.declared.Fault.{Fault}
use Rattle.rules_files.specs.declared.Fault.TheVariants.{Outer, TooManyRows, OtherForm}
use Rattle.rules_files.specs.Blocks.{block_bytes}
use Rattle.rules_files.specs.Files.{most_rows, form_number, form_said, load_told, load_leaves, encode}
use Rattle.rules_forms.specs.Forms.{is_form, beside_judged, beside_told, beside_leaves, encode_in}
use Rattle.rules_mend.specs.Mend.{fresh_table, fresh_words, fresh_file, listed, too_small, fresh_told, mend_told, mend_leaves, list_leaves}
use Rattle.theory_files.proofs.Files.{stored_read, stored_words}
use Rattle.theory_mend.specs.Mended.{IsMended, left, ReadsBack, IsRight, NothingAgain, Untouched, RestStays, block_at, Member, ListTells, HasRoom}
use Rattle.theory_mend.proofs.Listed.{listed_exactly, cut_listed, listed_ascending, listed_none, none_right, unlisted, listed_most}
use Rattle.theory_mend.proofs.Fresh.{Holds, fresh_whole, fresh_well, fresh_words_lem, fresh_size, fresh_agrees, fresh_says, fresh_holds}
use Rattle.std.specs.Prelude.{Ok, Result, Err}
use Rattle.rules_mend.specs.declared.Mended.{Mended}
use Rattle.rules_mend.specs.declared.NotMended.{NotMended}

-- ---- what is known of a mending that was told

-- What holds where a mending is told, and nothing else must.
pub record MendOf (text : List ℕ) (form : ℕ) (memory : List ℕ) (n : ℕ) (list : List ℕ) (size count : ℕ) : Type 0 where
  pub known : is_form form ≡ true
  pub fine : text_judged text ≡ Ok tt
  pub few : (fresh_table text).count ≤ most_rows
  pub room : length (fresh_file form text) ≤ length memory
  pub held : n ≤ length memory
  pub listing : length (listed (fresh_file form text) (take n memory)) ≤ length list
  pub size_is : length (fresh_file form text) ≡ size
  pub count_is : length (listed (fresh_file form text) (take n memory)) ≡ count

-- a test that refuses has failed
past : (b : Bool) (why : Fault) (p : Cursor) (y : Result Mended NotMended) (size count : ℕ) → cond b (Err (record { why = why; at = p })) y ≡ Ok (record { bytes = size; listed = count })
    → (b ≡ false) × (y ≡ Ok (record { bytes = size; listed = count }))
past true why p y size count e = absurd (let z : ◌≡◌ {A = ℕ} 0 1 = cc in omega arith)
past false why p y size count e = (refl, e)

same_size : (a b c d : ℕ)
    → ◌≡◌ {A = Result Mended NotMended} (Ok (record { bytes = a; listed = b })) (Ok (record { bytes = c; listed = d })) → a ≡ c
same_size a b c d e =
    let m : ◌≡◌ {A = Mended} (record { bytes = a; listed = b }) (record { bytes = c; listed = d }) = cc in
    ap (λ (x : Mended). x.bytes) m

same_count : (a b c d : ℕ)
    → ◌≡◌ {A = Result Mended NotMended} (Ok (record { bytes = a; listed = b })) (Ok (record { bytes = c; listed = d })) → b ≡ d
same_count a b c d e =
    let m : ◌≡◌ {A = Mended} (record { bytes = a; listed = b }) (record { bytes = c; listed = d }) = cc in
    ap (λ (x : Mended). x.listed) m

-- It holds of each that was told.
pub mend_of : (text : List ℕ) (form : ℕ) (memory : List ℕ) (n : ℕ) (list : List ℕ) (size count : ℕ)
    → IsMended text form memory n list size count → MendOf text form memory n list size count
unfolding mend_told fresh_told too_small
mend_of text form memory n list size count m =
    go (text_judged text) refl (past (not (is_form form)) OtherForm start_place _ size count m.told)
  where
    go : (v : Judged) → text_judged text ≡ v
        → (not (is_form form) ≡ false)
        × (elim v as (λ _. Result Mended NotMended) [
          | Ok _ ↦ fresh_told (fresh_file form text) (fresh_table text).count memory n list
          | Err e ↦ Err (record { why = Outer e.why; at = e.at })
        ] ≡ Ok (record { bytes = size; listed = count }))
        → MendOf text form memory n list size count
    go (Err e) f a = absurd (let z : ◌≡◌ {A = ℕ} 0 1 = cc in omega arith)
    go (Ok _) f a =
        let fresh = fresh_file form text in
        let found = listed (fresh_file form text) (take n memory) in
        let rows = (fresh_table text).count in
        let done : Result Mended NotMended = Ok (record { bytes = length fresh; listed = length found }) in
        let last = cond (too_small fresh memory n list) (Err (record { why = Outer NoRowRoom; at = start_place })) done in
        let b = past (ltb most_rows rows) TooManyRows start_place last size count a.1 in
        let c = past (too_small fresh memory n list) (Outer NoRowRoom) start_place done size count b.1 in
        let d = neither (ltb (length memory) (length fresh)) (ltb (length memory) n || ltb (length list) (length found)) c.0 in
        let g = neither (ltb (length memory) n) (ltb (length list) (length found)) d.1 in
        record {
          known = not-false (is_form form) a.0;
          fine = f;
          few = ltb-false most_rows rows b.0;
          room = ltb-false (length memory) (length fresh) d.0;
          held = ltb-false (length memory) n g.0;
          listing = ltb-false (length list) (length found) g.1;
          size_is = same_size _ _ _ _ c.1;
          count_is = same_count _ _ _ _ c.1;
        }

-- Where it holds, the mending is told.
pub told_of : (text : List ℕ) (form : ℕ) (memory : List ℕ) (n : ℕ) (list : List ℕ) (size count : ℕ)
    → MendOf text form memory n list size count → mend_told text form memory n list ≡ Ok (record { bytes = size; listed = count })
unfolding mend_told fresh_told too_small
told_of text form memory n list size count m =
    let fresh = fresh_file form text in
    let found = listed (fresh_file form text) (take n memory) in
    let a = le-ltb most_rows (fresh_table text).count m.few in
    let b = le-ltb (length memory) (length fresh) m.room in
    let c = le-ltb (length memory) n m.held in
    let d = le-ltb (length list) (length found) m.listing in
    rw (mend_told, m.known, m.fine, a, b, c, d, m.size_is, m.count_is)

-- ---- what is left

module _ (text : List ℕ) (form : ℕ) (memory : List ℕ) (n : ℕ) (list : List ℕ) (size count : ℕ)
    (e : mend_told text form memory n list ≡ Ok (record { bytes = size; listed = count })) where
  file_left : mend_leaves text form memory n list ≡ fresh_file form text ++ drop size memory
  unfolding mend_leaves
  file_left = rw (mend_leaves, e)

  entries_left : list_leaves text form memory n list ≡ listed (fresh_file form text) (take n memory) ++ drop count list
  unfolding list_leaves
  entries_left = rw (list_leaves, e)

-- ---- a right file

module _ (text : List ℕ) (form : ℕ) (memory : List ℕ) (n : ℕ) (r : IsRight text form memory n) where
  none_listed : listed (fresh_file form text) (take n memory) ≡ []
  none_listed = rw r.file (listed_none (fresh_file form text))

  right_size : length (fresh_file form text) ≡ n
  right_size = ap length (sym r.file) ∙ length-take n memory ∙ omega (arith, r.held)

  right_told : (list : List ℕ) → mend_told text form memory n list ≡ Ok (record { bytes = n; listed = 0 })
  right_told list =
      let z : length (listed (fresh_file form text) (take n memory)) ≡ 0 = ap length none_listed in
      told_of text form memory n list n 0 (record {
        known = r.known;
        fine = r.fine;
        few = r.few;
        room = omega (arith, right_size, r.held);
        held = r.held;
        listing = omega (arith, z);
        size_is = right_size;
        count_is = z;
      })

  -- A right file comes back unchanged with an empty list.
  pub right_stays : NothingAgain text form memory n
  right_stays = record {
    told = right_told;
    file = λ list. file_left text form memory n list n 0 (right_told list) ∙ rw (← r.file) (take-append-drop n memory);
    list = λ list. entries_left text form memory n list n 0 (right_told list) ∙ rw none_listed;
  }

-- Only a right file does: where nothing is listed, the file was right.
pub only_right : (text : List ℕ) (form : ℕ) (memory : List ℕ) (n : ℕ) (list : List ℕ) (size : ℕ)
    → IsMended text form memory n list size 0 → IsRight text form memory n
only_right text form memory n list size m =
    let o = mend_of text form memory n list size 0 m in
    let fresh = fresh_file form text in
    record {
      known = o.known;
      fine = o.fine;
      few = o.few;
      held = o.held;
      file = none_right fresh (take n memory) (fresh_whole form text) (empty (listed fresh (take n memory)) o.count_is);
    }

-- A refused call leaves lent memory and the lent list as they were.
pub mend_untouched : (text : List ℕ) (form : ℕ) (memory : List ℕ) (n : ℕ) (list : List ℕ) (why : Fault) (p : Cursor)
    → mend_told text form memory n list ≡ Err (record { why = why; at = p }) → Untouched text form memory n list
unfolding mend_leaves list_leaves
mend_untouched text form memory n list why p e = record { file = rw (mend_leaves, e); entries = rw (list_leaves, e) }

module _ (text : List ℕ) (form : ℕ) (memory : List ℕ) (n : ℕ) (list : List ℕ) (size count : ℕ)
    (m : IsMended text form memory n list size count) where
  is_mended : MendOf text form memory n list size count
  is_mended = mend_of text form memory n list size count m

  leaves_is : mend_leaves text form memory n list ≡ fresh_file form text ++ drop size memory
  leaves_is = file_left text form memory n list size count m.told

  entries_are : list_leaves text form memory n list ≡ listed (fresh_file form text) (take n memory) ++ drop count list
  entries_are = entries_left text form memory n list size count m.told

  -- The file that is left is the one that a fresh scan stores.
  pub left_is : left text form memory n list size ≡ fresh_file form text
  left_is = rw leaves_is (take_at (fresh_file form text) (drop size memory) size is_mended.size_is)

  -- ---- it reads back

  holds : Holds text (fresh_file form text)
  holds = fresh_holds text is_mended.fine is_mended.few form

  scans : (room : ℕ) → (fresh_table text).count ≤ room → scan_told text room ≡ Ok (fresh_table text)
  unfolding fresh_table
  scans room h = scan_told_lem text is_mended.fine room ∙ told_all (length text) room (read_rows (scan text)) (read_ending (scan text)) h

  scan_lays : (ws : List ℕ) → (fresh_table text).count ≤ room_of ws
      → scan_leaves text ws ≡ fresh_words text ++ drop (words_per_row * (fresh_table text).count) ws
  unfolding fresh_table fresh_words
  scan_lays ws h = scan_leaves_lem text is_mended.fine ws ∙ laid_all (read_rows (scan text)) ws h

  tells_beside : (room : ℕ) → (fresh_table text).count ≤ room → beside_told text (fresh_file form text) room ≡ Ok (fresh_table text)
  unfolding beside_told beside_judged
  tells_beside room h =
      let t = holds.table in
      let l : t.count ≤ room = omega (arith, holds.count) in
      rw (holds.judged_is, le-ltb room t.count l, holds.beside, holds.rows, fresh_agrees text is_mended.fine)

  rows_left : (ws : List ℕ) → (fresh_table text).count ≤ room_of ws → beside_leaves text (fresh_file form text) ws ≡ scan_leaves text ws
  unfolding beside_leaves
  rows_left ws h = rw (beside_leaves, tells_beside (room_of ws) h, holds.rows) (sym (scan_lays ws h))

  -- the reading of form 1, without the text
  long_is : form ≡ form_number → fresh_file form text ≡ encode (fresh_words text) (fresh_table text)
  unfolding fresh_file encode_in
  long_is e = rw e

  tells_alone : form ≡ form_number → (room : ℕ) → (fresh_table text).count ≤ room
      → load_told (fresh_file form text) room ≡ Ok (fresh_table text)
  tells_alone e room h =
      let f = is_mended.fine in
      rw (long_is e) (stored_read (fresh_words text) (fresh_table text) (fresh_well text f) is_mended.few (fresh_words_lem text f) room h)

  rows_alone : form ≡ form_number → (ws : List ℕ) → (fresh_table text).count ≤ room_of ws
      → load_leaves (fresh_file form text) ws ≡ scan_leaves text ws
  rows_alone e ws h =
      let f = is_mended.fine in
      let c : ℕ = words_per_row * (fresh_table text).count in
      let w : take c (fresh_words text) ≡ fresh_words text = take_all c (fresh_words text) (omega (arith, fresh_size text f)) in
      let s = stored_words (fresh_words text) (fresh_table text) (fresh_well text f) is_mended.few (fresh_words_lem text f) ws h in
      rw (long_is e) (s ∙ rw w (sym (scan_lays ws h)))

  -- it says the form asked for
  says : form_said (fresh_file form text) ≡ form
  says = fresh_says text is_mended.fine is_mended.few form is_mended.known

  -- The mended file reads back as the fresh scan's table.
  pub mended_reads : ReadsBack text form (left text form memory n list size)
  mended_reads = record {
    said = rw left_is says;
    scanned = scans;
    beside = λ room h. rw left_is (tells_beside room h);
    rows_beside = λ ws h. rw left_is (rows_left ws h);
    alone = λ e room h. rw left_is (tells_alone e room h);
    rows_alone = λ e ws h. rw left_is (rows_alone e ws h);
  }

  -- ---- mending again

  -- Mending again lists nothing and changes nothing.
  pub mended_again : NothingAgain text form (mend_leaves text form memory n list) size
  mended_again =
      right_stays text form (mend_leaves text form memory n list) size (record {
        known = is_mended.known;
        fine = is_mended.fine;
        few = is_mended.few;
        held = rw leaves_is (omega (arith, length-append (fresh_file form text) (drop size memory), is_mended.size_is));
        file = left_is;
      })

  -- ---- what stays

  now : List ℕ
  now = fresh_file form text ++ drop size memory

  drop_now : drop size now ≡ drop size memory
  unfolding now
  drop_now = drop_at (fresh_file form text) (drop size memory) size is_mended.size_is

  -- block k of the fresh file is all there, and is what is left
  inside : (k : ℕ) → k < length (fresh_file form text) / block_bytes → block_bytes * k + block_bytes ≤ length (fresh_file form text)
  inside k h = omega (arith, fresh_whole form text)

  fresh_block : (k : ℕ) → k < length (fresh_file form text) / block_bytes → block_at k now ≡ block_at k (fresh_file form text)
  unfolding now
  fresh_block k h =
      let fresh = fresh_file form text in
      let i = inside k h in
      rw (drop-append-le (block_bytes * k) fresh (drop size memory) (omega arith))
      (take-append-le block_bytes (drop (block_bytes * k) fresh) (drop size memory) (omega (arith, length-drop (block_bytes * k) fresh)))

  block_length : (k : ℕ) → k < length (fresh_file form text) / block_bytes → length (block_at k (fresh_file form text)) ≡ block_bytes
  block_length k h =
      let s : List ℕ = drop (block_bytes * k) (fresh_file form text) in
      length-take block_bytes s ∙ omega (arith, length-drop (block_bytes * k) (fresh_file form text), inside k h)

  -- where it was in the file, so was all of it
  old_block : (k : ℕ) → k < length (fresh_file form text) / block_bytes → block_at k (fresh_file form text) ≡ block_at k (take n memory)
      → block_at k (take n memory) ≡ block_at k memory
  old_block k h e =
      let b : ℕ = block_bytes * k in
      let l : length (block_at k (take n memory)) ≡ block_bytes = ap length (sym e) ∙ block_length k h in
      let f : b + block_bytes ≤ n =
      omega (arith, length-take block_bytes (drop b (take n memory)), length-drop b (take n memory), length-take n memory) in
      part_front block_bytes b n memory f

  right_block : (k : ℕ) → k < length (fresh_file form text) / block_bytes → (Member k (listed (fresh_file form text) (take n memory)) → ⊥)
      → block_at k now ≡ block_at k memory
  right_block k h out =
      let e = unlisted (fresh_file form text) (take n memory) k h out in
      fresh_block k h ∙ e ∙ old_block k h e

  behind_block : (k : ℕ) → length (fresh_file form text) / block_bytes ≤ k → block_at k now ≡ block_at k memory
  unfolding now
  behind_block k h =
      let fresh = fresh_file form text in
      let d : ℕ = block_bytes * k - size in
      let e : block_bytes * k ≡ length fresh + d = omega (arith, fresh_whole form text, is_mended.size_is) in
      let f : size + d ≡ block_bytes * k = omega (arith, is_mended.size_is) in
      ap (λ (x : ℕ). take block_bytes (drop x (fresh ++ drop size memory))) e
      ∙ ap (take block_bytes) (drop-append-add fresh (drop size memory) d ∙ drop-drop d size memory)
      ∙ ap (λ (x : ℕ). take block_bytes (drop x memory)) f

  each_block : (k : ℕ) → (Member k (listed (fresh_file form text) (take n memory)) → ⊥) → block_at k now ≡ block_at k memory
  each_block k out = go (ltb k (length (fresh_file form text) / block_bytes)) refl
    where
      go : (b : Bool) → ltb k (length (fresh_file form text) / block_bytes) ≡ b → block_at k now ≡ block_at k memory
      go true e = right_block k (ltb-true k _ e) out
      go false e = behind_block k (ltb-false k _ e)

  found : List ℕ
  found = listed (fresh_file form text) (take n memory)

  -- What is not listed stays, block for block, and so does all behind the file and behind the list.
  pub rest_stays : RestStays text form memory n list size count
  unfolding now found
  rest_stays = record {
    entries_behind = rw entries_are (drop_at found (drop count list) count is_mended.count_is);
    behind = rw leaves_is drop_now;
    right = λ k out. rw leaves_is (each_block k out);
  }

  -- The list holds exactly the blocks that differed, were cut or missing, and the first of a surplus tail, in ascending order.
  pub mended_lists : ListTells text form memory n list count
  unfolding found
  mended_lists = record {
    whole = fresh_whole form text;
    entries = rw entries_are (take_at found (drop count list) count is_mended.count_is);
    exactly = listed_exactly (fresh_file form text) (take n memory);
    cut = λ k h l. cut_listed (fresh_file form text) (take n memory) k h (omega (arith, length-take n memory));
    ascending = listed_ascending (fresh_file form text) (take n memory);
  }

-- ---- how many are listed

-- No more blocks are listed than the file has now, and one for a tail.
pub mended_few : (text : List ℕ) (form : ℕ) (memory : List ℕ) (n : ℕ) (list : List ℕ) (size count : ℕ)
    → IsMended text form memory n list size count → count ≤ size / block_bytes + 1
mended_few text form memory n list size count m =
    let d = mend_of text form memory n list size count m in
    rw (← d.size_is, ← d.count_is) (listed_most (fresh_file form text) (take n memory))

-- So with room for that many a mending is never refused with 4.
pub room_enough : (text : List ℕ) (form : ℕ) (memory : List ℕ) (n : ℕ) (list : List ℕ) → is_form form ≡ true
    → text_judged text ≡ Ok tt → (fresh_table text).count ≤ most_rows → HasRoom text form memory n list
    → IsMended text form memory n list (length (fresh_file form text)) (length (listed (fresh_file form text) (take n memory)))
room_enough text form memory n list known fine few r =
    record {
      told = told_of text form memory n list _ _ (record {
        known = known;
        fine = fine;
        few = few;
        room = r.file;
        held = r.held;
        listing = le_trans (listed_most (fresh_file form text) (take n memory)) r.entries;
        size_is = refl;
        count_is = refl;
      });
    }
