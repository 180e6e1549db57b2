-- Two bytes first, and then one.
use Rattle.std.proofs.Common.{◌≡◌, sym, ap, ◌∙◌, [], ◌∷◌, ℕ, get_or}
use Rattle.rules.specs.Kinds.{Eof, signs, kind_in}
use Rattle.scan_reader.specs.Brief.{refusal_code}
use Rattle.scan_reader.proofs.Signs.{sign_unknown, sign_two, sign_lone, sign_one}
use Rattle.scan_reader.proofs.pieces.sign.Goals as goal

-- the kind of the byte b and one that was read
two : (b : ℕ) {x y : ℕ} → x ≡ y → kind_in signs Eof (b ∷ x ∷ []) ≡ kind_in signs Eof (b ∷ y ∷ [])
two b e = ap (λ (z : ℕ). kind_in signs Eof (b ∷ z ∷ [])) e

pub returns-then-not-shown : goal.returns-then-not-shown
returns-then-not-shown c =
    c.told.ensures ∙ sym (sign_unknown c.args.text.now c.args.at c.requires.1 c.args.whole (sym c.shown.ensures ∙ c.if-not-shown.true))

pub returns-in-Some : goal.returns-in-Some
returns-in-Some c =
    let k = c.in-Some.ensures.0 ∙ two (get_or c.args.text.now c.args.at 0) c.peek.ensures in
    c.told-in-Some.ensures
    ∙ ap (λ (x : ℕ). record { size = 2; kind = x; bits = 0 }) k
    ∙ sym (sign_two c.args.text.now c.args.at c.requires.1 c.args.whole (sym c.shown.ensures ∙ c.if-not-shown.false)
    (λ e. c.in-Some.ensures.1 (k ∙ e)))

pub returns-then-b : goal.returns-then-b
unfolding refusal_code
returns-then-b c =
    c.told-then-b.ensures
    ∙ sym (sign_lone c.args.text.now c.args.at c.requires.1 c.args.whole (sym c.shown.ensures ∙ c.if-not-shown.false)
    (sym (two (get_or c.args.text.now c.args.at 0) c.peek.ensures) ∙ c.in_default.ensures)
    c.if-b.true)

pub returns : goal.returns
returns c =
    c.told-2.ensures
    ∙ ap (λ (x : ℕ). record { size = 1; kind = x; bits = 0 }) c.one_sign.ensures
    ∙ sym (sign_one c.args.text.now c.args.at c.requires.1 c.args.whole (sym c.shown.ensures ∙ c.if-not-shown.false)
    (sym (two (get_or c.args.text.now c.args.at 0) c.peek.ensures) ∙ c.in_default.ensures)
    (c.type_inv.text c.args.at).fits
    c.if-b.false)
