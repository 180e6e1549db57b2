-- `front::reason` meets its contract: each code is one reason's.
use Rattle.rules.specs.declared.Lexical.TheVariants.{NoRowBegins, LoneSign, NoHexDigit, OpenComment, OpenString, BadEscape}
use Rattle.scan_reader.specs.Brief.{refusal_code}
use Rattle.scan_reader.proofs.Reasons.{code_is, code_rest}
use Rattle.scan_reader.proofs.front.reason.Statement.{statement}
use Rattle.scan_reader.proofs.front.reason.Tie as tie

returns : tie.Need-returns-in-69
unfolding refusal_code
returns c = code_is c.before.args.kind NoRowBegins c.in-69.is

returns_2 : tie.Need-returns-in-70
unfolding refusal_code
returns_2 c = code_is c.before.args.kind LoneSign c.in-70.is

returns_3 : tie.Need-returns-in-71
unfolding refusal_code
returns_3 c = code_is c.before.args.kind NoHexDigit c.in-71.is

returns_4 : tie.Need-returns-in-72
unfolding refusal_code
returns_4 c = code_is c.before.args.kind OpenComment c.in-72.is

returns_5 : tie.Need-returns-in-73
unfolding refusal_code
returns_5 c = code_is c.before.args.kind OpenString c.in-73.is

returns_6 : tie.Need-returns-in-74
unfolding refusal_code
returns_6 c = code_is c.before.args.kind BadEscape c.in-74.is

returns_7 : tie.Need-returns-in_default
returns_7 c = let r = c.in_default.in_default-own.rest in
    code_rest c.before.args.kind r.0.0.0.0.0.1 r.0.0.0.0.1 r.0.0.0.1 r.0.0.1 r.0.1 r.1

pub reason_spec : {M : Type 1} → statement M
reason_spec =
    tie.close (tie.spec returns returns_2 returns_3 returns_4 returns_5 returns_6 returns_7)
