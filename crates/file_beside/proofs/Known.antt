-- What is known of a file that holds a table, in the form by which it is judged.
use mathlib.Core.Path.{◌≡◌, refl}
use mathlib.Core.Bool.{Bool, true, false, cond}
use mathlib.Core.List.{List}
use Prim.Native.Nat.{ℕ, ◌≤◌}
use native.Mathlib.Omega.{arith}
use lib.ListN.{length}
use Rattle.rules.specs.declared.Table.{Table}
use Rattle.rules.specs.Rows.{well_formed}
use Rattle.rules_files.specs.Blocks.{block_bytes}
use Rattle.rules_files.specs.Files.{count_said, load_told}
use Rattle.rules_forms.specs.declared.Form.{Form}
use Rattle.rules_forms.specs.declared.Form.TheVariants.{Full, Short}
use Rattle.rules_forms.specs.Short.{short_judged}
use Rattle.rules_forms.specs.Forms.{is_short, judged}
use Rattle.rules_forms.specs.Shapes.{form_of, row_words_of}
use Rattle.theory_files.proofs.Said.{reads_of}
use Rattle.theory_forms.proofs.Short.{reads_short}
use Rattle.file_load.specs.Judged.{Framed}
use Rattle.std.specs.Prelude.{Ok}

-- the file is whole, and its table is well formed
pub record Known (form : Form) (file : List ℕ) (t : Table) : Type 0 where
  pub long : block_bytes ≤ length file
  pub frame : Framed form t.count file
  pub well : well_formed (row_words_of form file) t ≡ true

known_full : (file : List ℕ) (t : Table) → load_told file (count_said file) ≡ Ok t → Known Full file t
known_full file t q =
    let r = reads_of file (count_said file) t q in
    record { long = r.frame.long; frame = record { count_is = r.count; whole = rw r.count r.frame.whole }; well = r.well }

known_short : (file : List ℕ) (t : Table) → short_judged file ≡ Ok t → Known Short file t
known_short file t q =
    let r = reads_short file t q in
    record { long = r.long; frame = record { count_is = r.count; whole = rw r.count r.whole }; well = r.well }

pub known : (file : List ℕ) (t : Table) → judged file ≡ Ok t → Known (form_of file) file t
unfolding judged
known file t held = go (is_short file) held
  where
    go : (b : Bool) → cond b (short_judged file) (load_told file (count_said file)) ≡ Ok t → Known (cond b Short Full) file t
    go true q = known_short file t q
    go false q = known_full file t q

-- a file's form says which of the two it is
pub is_short_lem : (file : List ℕ) → form_of file ≡ Short → is_short file ≡ true
is_short_lem file e = go (is_short file) e
  where
    go : (b : Bool) → cond b Short Full ≡ Short → b ≡ true
    go true e = refl
    go false e = absurd (let z : ◌≡◌ {A = ℕ} 0 1 = cc in omega arith)

pub is_full : (file : List ℕ) → form_of file ≡ Full → is_short file ≡ false
is_full file e = go (is_short file) e
  where
    go : (b : Bool) → cond b Short Full ≡ Full → b ≡ false
    go true e = absurd (let z : ◌≡◌ {A = ℕ} 0 1 = cc in omega arith)
    go false e = refl
