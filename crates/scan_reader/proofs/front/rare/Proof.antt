-- `front::rare` meets its contract: by the class of the byte, the piece that it begins.
use mathlib.Core.Path.{◌≡◌, refl, sym, ◌∙◌}
use Prim.Native.Nat.{ℕ, ◌<◌}
use lib.ListN.{get_or}
use Rattle.scan_words.specs.Class as class
use Rattle.scan_words.specs.Class.{class_of}
use Rattle.scan_words.proofs.Marks.{class_slash, class_dash, class_quote}
use Rattle.scan_reader.specs.Brief.{refusal_code}
use Rattle.scan_reader.proofs.Items.{chosen, class_none, told_class, told_blank, told_none}
use borrow.Author.Rules.{rules}
use Rattle.scan_reader.proofs.front.rare.Statement.{statement}
use Rattle.scan_reader.proofs.front.rare.Tie as tie

-- the byte is one
byte : (c : tie.After-shared_slice_known-1) → get_or c.before.args.text.now c.before.args.at 0 < 256
byte c = (c.shared_slice_known-1.given c.before.args.at).fits

-- its class
class_is : (c : tie.After-shared_slice_known-1) (k : ℕ) → c.before.args.class ≡ k → class_of (get_or c.before.args.text.now c.before.args.at 0) ≡ k
class_is c k e = sym c.before.requires.1.0 ∙ e

told_requires : tie.Need-told-requires
told_requires c κs = search rules

slash_requires : tie.Need-slash-requires
slash_requires c κs = (c.before.before.requires.0, class_slash _ (byte c.before) (class_is c.before 4 c.in-4.is))

dash_requires : tie.Need-dash-requires
dash_requires c κs = (c.before.before.requires.0, class_dash _ (byte c.before) (class_is c.before 5 c.in-5.is))

string_requires : tie.Need-string-requires
string_requires c κs = (c.before.before.requires.0, class_quote _ (byte c.before) (class_is c.before 6 c.in-6.is))

told_requires_2 : tie.Need-told-requires-in_default
told_requires_2 c κs = search rules

returns : tie.Need-returns-in-3
returns c =
    let k = c.before.before in
    let s = k.before in
    c.told.ensures ∙ sym (told_blank s.args.whole s.args.text.now s.args.at s.requires.0 (class_is k class.Blank c.before.in-3.is))

returns_2 : tie.Need-returns-in-4
unfolding chosen
returns_2 c =
    let k = c.before.before in
    let s = k.before in
    c.slash.ensures ∙ told_class s.args.whole s.args.text.now s.args.at s.requires.0 class.Slash (class_is k class.Slash c.before.in-4.is)

returns_3 : tie.Need-returns-in-5
unfolding chosen
returns_3 c =
    let k = c.before.before in
    let s = k.before in
    c.dash.ensures ∙ told_class s.args.whole s.args.text.now s.args.at s.requires.0 class.Dash (class_is k class.Dash c.before.in-5.is)

returns_4 : tie.Need-returns-in-6
unfolding chosen
returns_4 c =
    let k = c.before.before in
    let s = k.before in
    c.string.ensures ∙ told_class s.args.whole s.args.text.now s.args.at s.requires.0 class.Quote (class_is k class.Quote c.before.in-6.is)

returns_5 : tie.Need-returns-in_default
unfolding refusal_code
returns_5 c =
    let k = c.before.before in
    let s = k.before in
    let r = c.before.in_default.in_default-own.rest in
    let n = class_none (get_or s.args.text.now s.args.at 0) (byte k) s.args.class (class_is k s.args.class refl) s.requires.1.1 r.0.0.0.1 r.0.0.1 r.0.1 r.1 in
    c.told-in_default.ensures ∙ sym (told_none s.args.whole s.args.text.now s.args.at s.requires.0 (byte k) n)

pub rare_spec : {M : Type 1} → statement M
rare_spec =
    tie.close
    (tie.spec
    told_requires
    slash_requires
    dash_requires
    string_requires
    told_requires_2
    returns
    returns_2
    returns_3
    returns_4
    returns_5)
