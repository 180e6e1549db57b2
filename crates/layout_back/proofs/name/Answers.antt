-- A blank, and the row's part of the text in front of it.
use Rattle.std.proofs.Common.{◌≡◌, ℕ, ◌-◌, List, take, drop, sym, ap, ◌∙◌, rules}
use Rattle.layout_back.proofs.Back.{wrote_as, wrote_then}
use Rattle.layout_back.proofs.name.Goals as goal

-- the part of a text between two numbers
spelled_part : (t : List ℕ) {i j a e : ℕ} {w : List ℕ} → i ≡ a → j ≡ e → w ≡ take (e - a) (drop a t) → take (j - i) (drop i t) ≡ w
spelled_part t {i} {j} {a} {e} p q r = ap (λ (n : ℕ). take (j - n) (drop n t)) p ∙ ap (λ (n : ℕ). take (n - a) (drop a t)) q ∙ sym r

pub returns-in-Some : goal.returns-in-Some
returns-in-Some c = λ w s.
    let t = c.args.source.now.text.now in
    let part : c.in-Some.spelling.now ≡ take (c.word-end.result - c.word-start.result) (drop c.word-start.result t) = search rules in
    let whole = part ∙ spelled_part t c.word-start.ensures c.word-end.ensures s.is in
    wrote_then c.put-to.ensures (wrote_as whole c.bytes.ensures)
