-- By what the bytes behind the opening quote come to.
use Rattle.std.proofs.Common.{◌≡◌, sym, ap, ◌∙◌, Ok, Err, ◌+◌, ◌≤◌, length, arith}
use Rattle.scan_runs.specs.declared.Unclosed.{Unclosed}
use Rattle.scan_runs.specs.declared.Unclosed.TheVariants.{Open, Escape}
use Rattle.scan_runs.specs.Leaf.{Quoted}
use Rattle.scan_runs.proofs.Quotes.{reach_of}
use Rattle.scan_reader.specs.Brief.{refusal_code}
use Rattle.scan_reader.proofs.Strings.{string_from, string_inside, string_closed, string_unknown, string_open, string_escape}
use Rattle.scan_reader.proofs.pieces.string.Goals as goal

failed : {r q : Quoted} {u v : Unclosed} → r ≡ q → r ≡ Err u → u ≡ v → q ≡ Err v
failed a b e = sym a ∙ b ∙ ap (λ (x : Unclosed). Err x) e

pub overflow_add-e : goal.overflow_add-e
unfolding reach_of
overflow_add-e c =
    let l : c.in-Ok.e + 1 ≤ length c.args.text.now
    = string_inside c.args.text.now c.args.at c.requires.0 c.requires.1 (Ok c.in-Ok.e) (sym c.read_quoted.ensures ∙ c.in-Ok.is) in
    omega arith

pub overflow_sub-e : goal.overflow_sub-e
unfolding reach_of
overflow_sub-e c =
    let f : c.args.at + 1 ≤ c.in-Ok.e + 1
    = string_from c.args.text.now c.args.at c.requires.0 c.requires.1 (Ok c.in-Ok.e) (sym c.read_quoted.ensures ∙ c.in-Ok.is) in
    omega arith

pub overflow_sub-e-in-Err-Open : goal.overflow_sub-e-in-Err-Open
unfolding reach_of
overflow_sub-e-in-Err-Open c =
    let f : c.args.at + 1 ≤ c.in-Err-Open.e
    = string_from c.args.text.now c.args.at c.requires.0 c.requires.1 (Err (Open c.in-Err-Open.e))
    (failed c.read_quoted.ensures c.in-Err-Open.is c.in-Err-Open.field-0-is) in
    omega arith

pub overflow_sub-e-in-Err-Escape : goal.overflow_sub-e-in-Err-Escape
unfolding reach_of
overflow_sub-e-in-Err-Escape c =
    let f : c.args.at + 1 ≤ c.in-Err-Escape.e
    = string_from c.args.text.now c.args.at c.requires.0 c.requires.1 (Err (Escape c.in-Err-Escape.e))
    (failed c.read_quoted.ensures c.in-Err-Escape.is c.in-Err-Escape.field-0-is) in
    omega arith

pub returns-in-Ok : goal.returns-in-Ok
returns-in-Ok c =
    c.told.ensures
    ∙ sym (string_closed c.args.text.now c.args.at c.requires.0 c.requires.1 c.args.whole c.in-Ok.e (sym c.read_quoted.ensures ∙ c.in-Ok.is))

pub returns-in-Err-Open : goal.returns-in-Err-Open
unfolding refusal_code
returns-in-Err-Open c =
    c.told-in-Err-Open.ensures
    ∙ sym (string_open c.args.text.now c.args.at c.requires.0 c.requires.1 c.args.whole c.in-Err-Open.e
    (failed c.read_quoted.ensures c.in-Err-Open.is c.in-Err-Open.field-0-is)
    (sym c.shown.ensures ∙ c.if-shown.true))

pub returns-in-Err-Open-2 : goal.returns-in-Err-Open-2
returns-in-Err-Open-2 c =
    c.told-in-Err-Open-2.ensures
    ∙ sym (string_unknown c.args.text.now c.args.at c.requires.0 c.requires.1 c.args.whole c.in-Err-Open.e
    (failed c.read_quoted.ensures c.in-Err-Open.is c.in-Err-Open.field-0-is)
    (sym c.shown.ensures ∙ c.if-shown.false))

pub returns-in-Err-Escape : goal.returns-in-Err-Escape
unfolding refusal_code
returns-in-Err-Escape c =
    c.told-in-Err-Escape.ensures
    ∙ sym (string_escape c.args.text.now c.args.at c.requires.0 c.requires.1 c.args.whole c.in-Err-Escape.e
    (failed c.read_quoted.ensures c.in-Err-Escape.is c.in-Err-Escape.field-0-is))
