-- A reader that knows form 1 alone answers 44 for every file of form 2.
use mathlib.Core.Path.{◌≡◌, refl, ◌∙◌}
use mathlib.Core.Bool.{true}
use mathlib.Core.List.{List, [], ◌∷◌}
use Prim.Native.Nat.{ℕ, zero, suc, ◌+◌, ◌-◌}
use native.Mathlib.Omega.{arith}
use lib.ListN.{take, drop}
use lib.Seq.{drop-drop}
use lib.Dec.{eqb}
use Rattle.laws.proofs.Tests.{both_true}
use Rattle.rules_files.specs.Blocks.{block_bytes, at_content, content_room, zeros, sound}
use Rattle.rules_files.specs.Files.{said_bytes}
use Rattle.rules_forms.specs.Short.{short_said_bytes}
use Rattle.theory_files.proofs.One.{sound_holds, holds_sound}
use Rattle.theory_files.proofs.Said.{told_said, told_other}
use Rattle.theory_files.proofs.Files.{drop_take}
use Rattle.theory_forms.specs.Forms.{RefusedByName, SaysShort}

-- of bytes that are all 0, those from byte a on are
zeros_drop : (a : ℕ) (s : List ℕ) → zeros s ≡ true → zeros (drop a s) ≡ true
unfolding zeros
zeros_drop zero s e = e
zeros_drop (suc a) [] e = refl
zeros_drop (suc a) (b ∷ s) e = zeros_drop a s (both_true (eqb b 0) (zeros s) e).1

-- what is filler where form 2 is judged is filler where form 1 is
longer_sound : (b : List ℕ) → sound 0 0 short_said_bytes b ≡ true → sound 0 0 said_bytes b ≡ true
longer_sound b e =
    let gap = said_bytes - short_said_bytes in
    let more = content_room - said_bytes in
    let behind : List ℕ = drop (at_content + short_said_bytes) b in
    let s = sound_holds 0 0 short_said_bytes b e in
    let z : zeros (drop gap (take (gap + more) behind)) ≡ true = zeros_drop gap (take (gap + more) behind) s.filler in
    let f : zeros (take more (drop (at_content + said_bytes) b)) ≡ true =
    rw (drop_take gap more behind, drop-drop gap (at_content + short_said_bytes) b) at z in
    holds_sound 0 0 said_bytes b (record { number_is = s.number_is; rows_are = s.rows_are; filler = f; check_is = s.check_is })

-- a file that says 2 is 44 for a reading of form 1, in every room
pub refused_by_name : (file : List ℕ) → SaysShort file → RefusedByName file
refused_by_name file s = record {
  told = λ room.
      told_said file room s.long (longer_sound (take block_bytes file) s.first)
      ∙ told_other file room (λ q. omega (arith, q, s.form));
}
