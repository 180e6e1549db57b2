-- Mended files, of the call as it is made: what is listed, what stays, mended again, the file that a store writes, and
-- a refused call.
use Prim.Native.Nat.{ℕ, ◌/◌, ◌≤◌, ◌<◌}
use native.Mathlib.Omega.{arith}
use mathlib.Core.Bool.{Bool, true, false}
use mathlib.Core.List.{List}
use mathlib.Core.Logic.{◌⊎◌, inl, inr, ◌↔◌}
use mathlib.Core.Path.{◌≡◌, refl, ap, sym, ◌∙◌}
use lib.Dec.{ltb}
use lib.ListN.{length, take, drop, get_or}
use borrow.Author.Tests.{ltb-true, ltb-false}
use Rattle.rules.specs.Scan.{room_of}
use Rattle.rules_files.specs.Blocks.{block_bytes}
use Rattle.rules_files.specs.Files.{form_number, encode, load_told, load_leaves}
use Rattle.laws.specs.Bounds.{Bytes, Words}
use Rattle.theory_files.proofs.Files.{read_left}
use Rattle.rules_mend.specs.Mend.{fresh_table, fresh_file, listed, mend_told, mend_leaves, list_leaves}
use Rattle.theory_mend.specs.Mended.{IsMended, left, NothingAgain, Untouched, RestStays, ListTells, Member, Differs, BeginsTail, block_at}
use Rattle.theory_mend.proofs.Mended.{mended_reads, mended_again, mended_lists, rest_stays, mend_untouched}
use Rattle.answers.specs.Layout.{words, nowhere, is_ending}
use Rattle.file_answers.specs.Layout.{mended_words}
use Rattle.spoonharbor.specs.OuterFiles.{file_of}
use Rattle.spoonharbor.specs.OuterForms.{OuterMended}
use Rattle.spoonharbor.proofs.OuterForms as outer
use Rattle.theory_outer.specs.Calls.{ScanCall, StoreCall, MendCall}
use Rattle.theory_outer.specs.Said.{Lists, Stays, entries}
use Rattle.theory_outer.proofs.Calls.{scan_says, mend_says}
use Rattle.theory_outer.proofs.Lent.{scan_lends, lent_is, lent_room}
use Rattle.theory_outer.proofs.Files.{its_file}
use Rattle.std.specs.Prelude.{Ok, Result, Err}
use Rattle.rules_mend.specs.declared.Mended.{Mended}
use Rattle.rules_mend.specs.declared.NotMended.{NotMended}

module _ {text : List ℕ} {form : ℕ} {memory : List ℕ} {n : ℕ} {list answer m blocks : List ℕ}
    (s : MendCall text form memory n list answer m blocks)
    (z : get_or answer 0 0 ≡ 0) where
  abbrev size : ℕ
  size = get_or answer 7 0

  abbrev count : ℕ
  count = get_or answer 6 0

  was_mended : IsMended text form memory n list size count
  was_mended =
      outer.is_mended text form memory n list answer m blocks
      (record { told = (mend_says s).0; left = (mend_says s).1.0; listed = (mend_says s).1.1; mended = z })

  tells : ListTells text form memory n list count
  tells = mended_lists text form memory n list size count was_mended

  its_entries : take count blocks ≡ listed (fresh_file form text) (take n memory)
  its_entries = ap (take count) (mend_says s).1.1 ∙ tells.entries

  -- The list has exactly the blocks that differ from what a scan of the text stores, are cut or missing, or begin a
  -- surplus tail, in order.
  pub mend_lists : Lists text form memory n list answer m blocks
  mend_lists = record { exactly = λ k. (to k, of k); ascending = rw its_entries tells.ascending }
    where
      to : (k : ℕ) → Member k (take count blocks)
          → Differs (fresh_file form text) (take n memory) k ⊎ BeginsTail (fresh_file form text) (take n memory) k
      to k q = by (ltb k (length (fresh_file form text) / block_bytes)) refl
        where
          by : (b : Bool) → ltb k (length (fresh_file form text) / block_bytes) ≡ b
              → Differs (fresh_file form text) (take n memory) k ⊎ BeginsTail (fresh_file form text) (take n memory) k
          by true e = let h = ltb-true k _ e in inl (h, tells.exactly.only k (rw its_entries at q) h)
          by false e = inr (tells.exactly.last k (rw its_entries at q) (ltb-false k _ e))

      of : (k : ℕ) → Differs (fresh_file form text) (take n memory) k ⊎ BeginsTail (fresh_file form text) (take n memory) k
          → Member k (take count blocks)
      of k (inl d) = rw its_entries (tells.exactly.differs k d)
      of k (inr b) = rw its_entries (tells.exactly.tail k b)

  -- What is not listed stays, block for block, and so does all behind the file and behind the list.
  pub mend_stays : Stays text form memory n list answer m blocks
  mend_stays =
      let r = rest_stays text form memory n list size count was_mended in
      record {
        right = λ k out. ap (block_at k) (mend_says s).1.0 ∙ r.right k (λ q. out (rw its_entries q));
        behind = ap (drop size) (mend_says s).1.0 ∙ r.behind;
        entries_behind = ap (drop count) (mend_says s).1.1 ∙ r.entries_behind;
      }

  -- Mended again, the file is what it was, and nothing is listed.
  pub mend_again : {list' answer' m' blocks' : List ℕ} → MendCall text form m size list' answer' m' blocks'
      → (answer' ≡ words 0 nowhere 0 0 0 size) × (m' ≡ m) × (blocks' ≡ list')
  mend_again {list'} t =
      let r : NothingAgain text form m size = rw (mend_says s).1.0 (mended_again text form memory n list size count was_mended) in
      ((mend_says t).0 ∙ ap mended_words (r.told list'), (mend_says t).1.0 ∙ r.file list', (mend_says t).1.1 ∙ r.list list')

-- Mended in form 1, a file is what a store writes of the rows that a scan of the text left, and of the words that it
-- told. The file that was left is bytes.
pub mend_stores : {text memory : List ℕ} {n : ℕ} {list answer m blocks : List ℕ} → MendCall text form_number memory n list answer m blocks
    → get_or answer 0 0 ≡ 0 → Bytes (file_of answer m)
    → {lent told rows : List ℕ} → ScanCall text lent told rows → is_ending (get_or told 0 0) ≡ true → Words rows
    → {bytes said file : List ℕ} → StoreCall rows told bytes said file → get_or said 0 0 ≡ 0
    → file_of answer m ≡ file_of said file
unfolding fresh_table
mend_stores {text} {memory} {n} {list} {answer} {m} s z bytes {lent} {told} {rows} p h fit k y =
    let r = mended_reads text form_number memory n list (get_or answer 7 0) (get_or answer 6 0) (was_mended s z) in
    let l = lent_room (scan_lends p) h in
    let file : List ℕ = file_of answer m in
    let is : left text form_number memory n list (get_or answer 7 0) ≡ file = ap (take (get_or answer 7 0)) (sym (mend_says s).1.0) in
    let e : load_told file (room_of lent) ≡ Ok (fresh_table text) = rw is at (r.alone refl (room_of lent) l) in
    let w : load_leaves file lent ≡ rows = rw is at (r.rows_alone refl lent l) ∙ sym (scan_says p).1 in
    sym (read_left file bytes (room_of lent) (fresh_table text) e lent refl)
    ∙ ap (λ (ws : List ℕ). encode ws (fresh_table text)) w
    ∙ ap (encode rows) (sym (lent_is (scan_lends p) h))
    ∙ sym (its_file k y fit)

-- A mending that is refused leaves every lent byte and word.
pub mend_refused : {text : List ℕ} {form : ℕ} {memory : List ℕ} {n : ℕ} {list answer m blocks : List ℕ}
    → MendCall text form memory n list answer m blocks → (get_or answer 0 0 ≡ 0 → ⊥) → (m ≡ memory) × (blocks ≡ list)
mend_refused {text} {form} {memory} {n} {list} {answer} {m} {blocks} s ne = by (mend_told text form memory n list) refl
  where
    by : (x : Result Mended NotMended) → mend_told text form memory n list ≡ x → (m ≡ memory) × (blocks ≡ list)
    by (Ok done) e = absurd (ne (ap (λ (ws : List ℕ). get_or ws 0 0) ((mend_says s).0 ∙ ap mended_words e)))
    by (Err refused) e =
        let u = mend_untouched text form memory n list refused.why refused.at e in ((mend_says s).1.0 ∙ u.file, (mend_says s).1.1 ∙ u.entries)
