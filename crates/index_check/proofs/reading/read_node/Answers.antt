use Rattle.std.proofs.Common.{◌≡◌, ◌∙◌, length, arith, rules}
use Rattle.index_check.proofs.StandingNodes.{none_past, none_read}
use Rattle.index_check.proofs.Contents.{read_bytes, written_back}
use Rattle.index_check.proofs.Fronts.{none_longer}
use Rattle.index_check.proofs.reading.read_node.Goals as goal

pub returns-then-branch-leb_cnt-clause-none : goal.returns-then-branch-leb_cnt-clause-none
returns-then-branch-leb_cnt-clause-none g c said =
    let past = c.if-branch-leb_cnt.true in
    let count = c.leb_cnt.ensures in
    none_past (g.V.Volume.state c.args.volume.now).holds c.args.branch.now said (g.met.V.Volume.none c.args.volume.now c.args.branch.now.lnum (omega (arith, past, count)))

pub returns-clause-none : goal.returns-clause-none
returns-clause-none g c =
    let contents = (g.V.Volume.state c.args.volume.now).holds in
    let branch = c.args.branch.now in
    let long : length c.deref_mut.result.now ≡ branch.len = search rules in
    let back : c.deref.result.now ≡ c.read.new.out = c.deref.ensures.value ∙ written_back _ _ _ (search rules) in
    none_read c.in_ok-read-2.read contents branch c.deref.result.now (back ∙ c.in_ok-read.ensures.read ∙ read_bytes (contents branch.lnum) branch.offs (length c.deref_mut.result.now) branch.len long) c.in_ok-read-2.ensures.none

pub returns-then-branch-gt-MOST_BYTES-clause-none : goal.returns-then-branch-gt-MOST_BYTES-clause-none
returns-then-branch-gt-MOST_BYTES-clause-none g c said = none_longer (g.V.Volume.state c.args.volume.now).holds c.args.branch.now said (let long = c.if-branch-gt-MOST_BYTES.true in omega (arith, long))
