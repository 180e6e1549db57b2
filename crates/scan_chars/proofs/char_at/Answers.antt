-- A character stands where all of the line of its first byte is met.
use Rattle.std.proofs.Common.{◌≡◌, refl, List, get_or, sym, ◌∙◌, Bool, true, false, nat_eq, MatchOption, ℕ, ◌<◌, length, drop}
use borrow.Author.Tests.{eqb-true, eqb-false}
use Rattle.std.specs.Bool.{then_some}
use Rattle.rules.specs.Text.{char_at, met, line_of}
use Rattle.scan_chars.proofs.Lines.{char_yes, char_no, char_none}
use Rattle.scan_chars.proofs.char_at.Goals as goal

-- what is told where n bytes are a whole line
told : (t : List ℕ) (i n : ℕ) → i < length t → n ≡ length (line_of (get_or t i 0)) → 0 < n → (q : Bool) → nat_eq (met (line_of (get_or t i 0)) (drop i t)) n ≡ q
    → MatchOption (then_some q n) (char_at (drop i t) ≡ 0) (λ k. (k ≡ char_at (drop i t)) × (0 < k))
told t i n h e l true f = (e ∙ char_yes t i h (eqb-true _ n f ∙ e), l)
told t i n h e l false f = sym (char_no t i h (λ g. eqb-false _ n f (g ∙ sym e)))

pub returns-in_err-n : goal.returns-in_err-n
returns-in_err-n c = rw c.from_residual.ensures (char_none c.args.text.now c.args.i c.requires c.in_err-n.ensures)

pub returns : goal.returns
returns c =
    rw (c.then_some.ensures, c.met_at.ensures)
    (told c.args.text.now c.args.i c.in_ok-n.n c.requires c.in_ok-n.ensures.0 c.in_ok-n.ensures.1 _ refl)
