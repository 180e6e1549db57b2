-- Laws of bytes that are written one behind the other.
use Rattle.std.proofs.Common.{◌≡◌, ℕ, ◌+◌, ◌<◌, ◌≤◌, List, [], ◌∷◌, ◌++◌, length, take, drop, set, sym, refl, ap, ◌∙◌, append_assoc, append-nil, add-one, arith, length-append, length-drop, drop_of_length-le, length-take, length-take-le, take_all, drop-cons}
use lib.Seq.{take-nil, take-append-le, set_at}
use Rattle.lister_parts.specs.Adds.{over, Shows, Adds, IsPrefixLen}

pub adds_none : (out : List ℕ) (at : ℕ) → Adds [] out at out at
adds_none out at = record { more = λ old done s. rw append-nil s }

-- one run of bytes, and then another
pub adds_then : {bs cs out out₁ out₂ : List ℕ} {at at₁ at₂ : ℕ} → Adds bs out at out₁ at₁ → Adds cs out₁ at₁ out₂ at₂ → Adds (bs ++ cs) out at out₂ at₂
adds_then {bs} {cs} x y = record { more = λ old done s. rw (← append_assoc done bs cs) (y.more old (done ++ bs) (x.more old done s)) }

pub adds_same : {bs cs out out₁ : List ℕ} {at at₁ : ℕ} → bs ≡ cs → Adds bs out at out₁ at₁ → Adds cs out at out₁ at₁
adds_same e x = rw (← e) x

-- ---- bytes that fit, and bytes that fill all there is

over_fits : (bs old : List ℕ) → length bs ≤ length old → over bs old ≡ bs ++ drop (length bs) old
unfolding over
over_fits bs old h = rw take_all

over_fills : (bs old : List ℕ) → length old ≤ length bs → over bs old ≡ take (length old) bs
unfolding over
over_fills bs old h = rw (drop_of_length-le old {i = length bs} h, append-nil)

over_length : (bs old : List ℕ) → length (over bs old) ≡ length old
unfolding over
over_length bs old = simp (length-append, length-take, length-drop) (omega arith)

module _ (b : ℕ) where
  -- bytes that leave room, and a byte behind them
  over_byte : (bs old : List ℕ) → length bs < length old → set (over bs old) (length bs) b ≡ over (bs ++ (b ∷ [])) old
  over_byte bs old h =
      let g : length (bs ++ (b ∷ [])) ≤ length old = simp length-append (omega arith) in
      rw (over_fits bs old (omega arith), drop-cons old (length bs) 0 h, set_at bs _ _ b (length bs) refl, over_fits (bs ++ (b ∷ [])) old g, length-append, add-one, append_assoc)

  -- bytes that fill all there is, and a byte behind them
  over_past : (bs old : List ℕ) → length old ≤ length bs → over bs old ≡ over (bs ++ (b ∷ [])) old
  over_past bs old h =
      let g : length old ≤ length (bs ++ (b ∷ [])) = simp length-append (omega arith) in
      over_fills bs old h ∙ sym (over_fills (bs ++ (b ∷ [])) old g ∙ take-append-le (length old) bs (b ∷ []) h)

  module _ (out : List ℕ) (at : ℕ) where
    pub adds_byte : at < length out → Adds (b ∷ []) out at (set out at b) (at + 1)
    adds_byte h = record { more = more }
      where
        more : (old done : List ℕ) → Shows old done out at → Shows old (done ++ (b ∷ [])) (set out at b) (at + 1)
        more old done s =
            let n : length out ≡ length old = ap length s.laid ∙ over_length done old in
            let e : at ≡ length done = omega (arith, s.ends) in
            let f : length done < length old = omega (arith, e) in
            record { laid = rw (s.laid, e) (over_byte done old f); ends = simp length-append (omega arith) }

    pub adds_full : length out ≤ at → Adds (b ∷ []) out at out at
    adds_full h = record { more = more }
      where
        more : (old done : List ℕ) → Shows old done out at → Shows old (done ++ (b ∷ [])) out at
        more old done s =
            let n : length out ≡ length old = ap length s.laid ∙ over_length done old in
            let f : length old ≤ length done = omega (arith, s.ends) in
            record { laid = s.laid ∙ over_past done old f; ends = simp length-append (omega (arith, s.ends)) }

-- ---- from the start on

shows_none : (old : List ℕ) → Shows old [] old 0
unfolding over
shows_none old = record { laid = rw take-nil; ends = omega arith }

-- what was written where there is room for all of it
pub adds_all : {bs old out : List ℕ} {at : ℕ} → Adds bs old 0 out at → length bs ≤ length old → IsPrefixLen at out × ((at ≡ length bs) × (out ≡ bs ++ drop at old))
adds_all {bs} {old} {out} {at} x h =
    let s = x.more old [] (shows_none old) in
    let e : at ≡ length bs = omega (arith, s.ends) in
    let n : length out ≡ length old = ap length s.laid ∙ over_length bs old in
    let in_out : at ≤ length out = omega arith in
    ((in_out, sym (length-take-le at out in_out)), (e, rw e (s.laid ∙ over_fits bs old h)))
