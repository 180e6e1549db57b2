-- `one_sign` meets its contract: at each key by computing, and what is left is the last of the five.
use mathlib.Core.Path.{◌≡◌, refl}
use mathlib.Core.Bool.{Bool, true, false, ◌||◌}
use Prim.Native.Nat.{ℕ}
use lib.Dec.{eqb}
use borrow.Author.Tests.{eqb-true, ne_eqb}
use Rattle.rules.specs.Kinds.{signs, same_bytes, kind_in}
use Rattle.rules.specs.Lex.{is_lone, maybe_two}
use Rattle.scan_words.proofs.one_sign.Statement.{statement}
use Rattle.scan_words.proofs.one_sign.Tie as tie

left : (p q : Bool) → (p || q) ≡ true → q ≡ false → p ≡ true
left true q h e = refl
left false q h e = rw e at h

last : (b : ℕ) → maybe_two b ≡ true → is_lone b ≡ false → (b ≡ 43 → ⊥) → (b ≡ 45 → ⊥) → (b ≡ 42 → ⊥) → (b ≡ 47 → ⊥) → b ≡ 37
unfolding maybe_two
last b h l p q r s = eqb-true b 37 (left (eqb b 37) (is_lone b) (rw (ne_eqb b 43 p, ne_eqb b 45 q, ne_eqb b 42 r, ne_eqb b 47 s) at h) l)

returns : tie.Need-returns-in-43
unfolding kind_in signs same_bytes
returns c = rw c.in-43.is

returns_2 : tie.Need-returns-in-45
unfolding kind_in signs same_bytes
returns_2 c = rw c.in-45.is

returns_3 : tie.Need-returns-in-42
unfolding kind_in signs same_bytes
returns_3 c = rw c.in-42.is

returns_4 : tie.Need-returns-in-47
unfolding kind_in signs same_bytes
returns_4 c = rw c.in-47.is

returns_5 : tie.Need-returns-in_default
unfolding kind_in signs same_bytes
returns_5 c =
    let r = c.in_default.in_default-own.rest in
    rw (last c.before.args.b c.before.requires.0 c.before.requires.1 r.0.0.0.1 r.0.0.1 r.0.1 r.1)

pub one_sign_spec : {M : Type 1} → statement M
one_sign_spec = tie.close (tie.spec returns returns_2 returns_3 returns_4 returns_5)
