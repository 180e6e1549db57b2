-- Behind a first byte the table has one second byte, and behind any other none.
use Rattle.std.proofs.Common.{◌≡◌, ◌≢◌, refl, sym, [], ◌∷◌, true, false, cond, eqb, Bool, ◌&&◌, Some, None, MatchOption, ℕ, arith}
use mathlib.Core.Bool.{and-false}
use borrow.Author.Tests.{ne_eqb, eqb-false}
use Rattle.rules.specs.Kinds.{Eof, signs, same_bytes, kind_in}
use Rattle.scan_words.proofs.Lookups.{all_fail, no_entry}
use Rattle.scan_words.proofs.two_sign.Goals as goal

second : (p : Bool) (k d : ℕ) → elim (p && true) [ true ↦ k | false ↦ d ] ≡ cond p k d
second true k d = refl
second false k d = refl

told : (q : Bool) (k : ℕ) → eqb k Eof ≡ false → {m : ℕ} → m ≡ cond q k Eof → MatchOption (cond q (Some k) None) (m ≡ Eof) (λ n. (n ≡ m) × (n ≢ Eof))
told true k h e = (sym e, eqb-false k Eof h)
told false k h e = e

-- at any other byte every entry fails
none : (b x : ℕ) → b ≢ 60 → b ≢ 62 → b ≢ 37 → b ≢ 47 → b ≢ 42 → b ≢ 45 → b ≢ 43 → kind_in signs Eof (b ∷ x ∷ []) ≡ Eof
unfolding all_fail signs same_bytes
none b x h0 h1 h2 h3 h4 h5 h6 = no_entry signs Eof (b ∷ x ∷ [])
    (simp (
      and-false,
      ne_eqb 60 b (λ e. h0 (sym e)),
      ne_eqb 62 b (λ e. h1 (sym e)),
      ne_eqb 37 b (λ e. h2 (sym e)),
      ne_eqb 47 b (λ e. h3 (sym e)),
      ne_eqb 42 b (λ e. h4 (sym e)),
      ne_eqb 45 b (λ e. h5 (sym e)),
      ne_eqb 43 b (λ e. h6 (sym e)),
    ))

pub returns-in-43 : goal.returns-in-43
unfolding kind_in signs same_bytes
returns-in-43 c = rw (c.followed.ensures, c.in-43.is) (told (eqb 61 c.args.x) 36 refl (second (eqb 61 c.args.x) 36 Eof))

pub returns-in-45 : goal.returns-in-45
unfolding kind_in signs same_bytes
returns-in-45 c = rw (c.followed-in-45.ensures, c.in-45.is) (told (eqb 61 c.args.x) 37 refl (second (eqb 61 c.args.x) 37 Eof))

pub returns-in-42 : goal.returns-in-42
unfolding kind_in signs same_bytes
returns-in-42 c = rw (c.followed-in-42.ensures, c.in-42.is) (told (eqb 61 c.args.x) 38 refl (second (eqb 61 c.args.x) 38 Eof))

pub returns-in-47 : goal.returns-in-47
unfolding kind_in signs same_bytes
returns-in-47 c = rw (c.followed-in-47.ensures, c.in-47.is) (told (eqb 61 c.args.x) 39 refl (second (eqb 61 c.args.x) 39 Eof))

pub returns-in-37 : goal.returns-in-37
unfolding kind_in signs same_bytes
returns-in-37 c = rw (c.followed-in-37.ensures, c.in-37.is) (told (eqb 61 c.args.x) 40 refl (second (eqb 61 c.args.x) 40 Eof))

pub returns-in-62 : goal.returns-in-62
unfolding kind_in signs same_bytes
returns-in-62 c = rw (c.followed-in-62.ensures, c.in-62.is) (told (eqb 62 c.args.x) 46 refl (second (eqb 62 c.args.x) 46 Eof))

pub returns-in-60 : goal.returns-in-60
unfolding kind_in signs same_bytes
returns-in-60 c = rw (c.followed-in-60.ensures, c.in-60.is) (told (eqb 60 c.args.x) 47 refl (second (eqb 60 c.args.x) 47 Eof))

pub returns-in_default : goal.returns-in_default
returns-in_default c =
    none c.args.b c.args.x (λ e. omega arith) (λ e. omega arith) (λ e. omega arith) (λ e. omega arith) (λ e. omega arith) (λ e. omega arith)
    (λ e. omega arith)
