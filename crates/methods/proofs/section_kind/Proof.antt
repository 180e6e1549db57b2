-- `section_kind` meets its contract: from the last section to the first, each gives the kind by itself and those behind it.
use mathlib.Core.Path.{refl}
use Rattle.rules.specs.Sets.{sections, fits, kind_of_section, from_section}
use Rattle.methods.proofs.Spellings.{section_at, kind_by}
use borrow.Author.Rules.{rules}
use Rattle.methods.proofs.section_kind.Statement.{statement}
use Rattle.methods.proofs.section_kind.Tie as tie

begun_requires : tie.Need-begun-lsm-requires
begun_requires c κs = search rules

begun_requires_2 : tie.Need-begun-fexit-requires
begun_requires_2 c κs = search rules

begun_requires_3 : tie.Need-begun-fentry-requires
begun_requires_3 c κs = search rules

begun_requires_4 : tie.Need-begun-raw-requires
begun_requires_4 c κs = search rules

begun_requires_5 : tie.Need-begun-tracepoint-requires
begun_requires_5 c κs = search rules

begun_requires_6 : tie.Need-begun-kretprobe-requires
begun_requires_6 c κs = search rules

begun_requires_7 : tie.Need-begun-kprobe-requires
begun_requires_7 c κs = search rules

begun_requires_8 : tie.Need-begun-cgroup-requires
begun_requires_8 c κs = search rules

begun_requires_9 : tie.Need-begun-socket-requires
begun_requires_9 c κs = search rules

begun_requires_10 : tie.Need-begun-tc-requires
begun_requires_10 c κs = search rules

spelt_requires : tie.Need-spelt-classifier-requires
spelt_requires c κs = search rules

spelt_requires_2 : tie.Need-spelt-tc_whole-requires
spelt_requires_2 c κs = search rules

spelt_requires_3 : tie.Need-spelt-requires
spelt_requires_3 c κs = search rules

returns : tie.Need-returns
unfolding section_at sections fits kind_of_section from_section
returns c =
    let whole = c.before.before in
    let classifier = whole.before.before in
    let tc = classifier.before.before in
    let socket = tc.before.before in
    let cgroup = socket.before.before in
    let kprobe = cgroup.before.before in
    let kretprobe = kprobe.before.before in
    let tracepoint = kretprobe.before.before in
    let raw = tracepoint.before.before in
    let fentry = raw.before.before in
    let fexit = fentry.before.before in
    let lsm = fexit.before.before in
    let w = lsm.before.before.before.args.text.now in
    kind_by 0 w c.spelt.ensures
    (kind_by 1 w whole.spelt-tc_whole.ensures
    (kind_by 2 w classifier.spelt-classifier.ensures
    (kind_by 3 w tc.begun-tc.ensures
    (kind_by 4 w socket.begun-socket.ensures
    (kind_by 5 w cgroup.begun-cgroup.ensures
    (kind_by 6 w kprobe.begun-kprobe.ensures
    (kind_by 7 w kretprobe.begun-kretprobe.ensures
    (kind_by 8 w tracepoint.begun-tracepoint.ensures
    (kind_by 9 w raw.begun-raw.ensures
    (kind_by 10 w fentry.begun-fentry.ensures
    (kind_by 11 w fexit.begun-fexit.ensures
    (kind_by 12 w lsm.begun-lsm.ensures refl))))))))))))

pub section_kind_spec : {M : Type 1} → statement M
section_kind_spec =
    tie.close
    (tie.spec
    begun_requires
    begun_requires_2
    begun_requires_3
    begun_requires_4
    begun_requires_5
    begun_requires_6
    begun_requires_7
    begun_requires_8
    begun_requires_9
    begun_requires_10
    spelt_requires
    spelt_requires_2
    spelt_requires_3
    returns)
