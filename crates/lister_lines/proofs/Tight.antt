-- The contract of `listing` asks nothing, and determines its result and every byte of what is lent for the listing.
use mathlib.Core.Path.{◌≡◌, refl, sym, ap, ◌∙◌}
use mathlib.Core.List.{◌++◌}
use Prim.Native.Nat.{ℕ}
use lib.ListN.{drop}
use Rattle.laws.specs.Tight.{Tight}
use Rattle.laws.proofs.Tight.{alike, ◌▸◌}
use Rattle.lister_lines.specs.Lines.{listed}
use Rattle.lister_lines.proofs.listing

pub listing_tight : Tight listing.Kinds.ps listing.Kinds.r listing.Reads.Asked listing.Reads.Learnt
listing_tight κs a = (
  tt,
  λ r₁ r₂ m₁ m₂ p q.
      let e : r₁ ≡ r₂ = alike p.1.0 q.1.0 in
      (e, refl ▸ (p.1.1 ∙ ap (λ (n : ℕ). listed a.0.now ++ drop n a.1.0.now) e ∙ sym q.1.1) ▸ refl),
)
