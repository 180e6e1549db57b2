-- Refusals that are the same are so in each part.
use mathlib.Core.Path.{◌≡◌, ap}
use Prim.Native.Nat.{ℕ}
use Rattle.std.specs.declared.result.Result.{Result}
use Rattle.std.specs.declared.option.Option.TheVariants.{Some}
use Rattle.std.specs.declared.result.Result.TheVariants.{Err}
use Rattle.rules.specs.declared.Cursor.{Cursor}
use Rattle.rules.specs.declared.Halt.{Halt}
use Rattle.rules.specs.declared.Lexical.{Lexical}
use Rattle.rules.specs.declared.Outer.{Outer}
use Rattle.rules.specs.declared.Reason.{Reason}
use Rattle.rules.specs.declared.Table.{Table}
use Rattle.rules.specs.declared.Unread.{Unread}
use Rattle.rules.specs.declared.Unparsed.{Unparsed}
use Rattle.rules.specs.Outcomes.{Told, unread, Parsed, unparsed, Ending, halt}

pub unread_same : {w v : Outer} {p q : Cursor} {n m : ℕ} → ◌≡◌ {A = Told} (Err (unread w p n)) (Err (unread v q m))
    → (w ≡ v) × (p ≡ q) × (n ≡ m)
unread_same {w} {v} {p} {q} {n} {m} e =
    let k : unread w p n ≡ unread v q m = cc in
    (ap (λ (u : Unread). u.why) k, ap (λ (u : Unread). u.at) k, ap (λ (u : Unread). u.rows) k)

pub unparsed_same : {w v : Reason} {p q : Cursor} {n m : ℕ} → ◌≡◌ {A = Parsed} (Err (unparsed w p n)) (Err (unparsed v q m))
    → (w ≡ v) × (p ≡ q) × (n ≡ m)
unparsed_same {w} {v} {p} {q} {n} {m} e =
    let k : unparsed w p n ≡ unparsed v q m = cc in
    (ap (λ (u : Unparsed). u.why) k, ap (λ (u : Unparsed). u.at) k, ap (λ (u : Unparsed). u.found) k)

pub unparsed_alike : {w v : Reason} {p q : Cursor} {n m : ℕ} → w ≡ v → p ≡ q → n ≡ m
    → ◌≡◌ {A = Parsed} (Err (unparsed w p n)) (Err (unparsed v q m))
unparsed_alike e f g = cc

pub halt_same : {w v : Lexical} {p q : Cursor} → ◌≡◌ {A = Ending} (Some (halt w p)) (Some (halt v q)) → (w ≡ v) × (p ≡ q)
halt_same {w} {v} {p} {q} e =
    let k : halt w p ≡ halt v q = cc in
    (ap (λ (u : Halt). u.why) k, ap (λ (u : Halt). u.at) k)
