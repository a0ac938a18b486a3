use Rattle.std.proofs.Common.{◌<◌, ◌∙◌, ap, sym, subst, arith, length}
use Rattle.index_media.specs.PlacedRow.{PlacedRow, branches_of, plain}
use Rattle.media_sys.specs.Index.{Index}
use Rattle.node_cache.specs.RowsOn.{row_moved, first_node, below}
use Rattle.node_table.specs.Counting.{AreCountsOf}
use Rattle.node_table.proofs.Changed.{reads_both, reads_failed, reads_wanting}
use Rattle.node_table.proofs.VolumeCounts.{over_counts, beside_counts, leaves_counts, no_counts}
use Rattle.node_table.proofs.volume_counting.+walking.Goals as goal

pub count_below-read_node-requires-clause-node : goal.count_below-read_node-requires-clause-node
count_below-read_node-requires-clause-node g t c =
    let own = c.requires.row in
    let p = below (g.V.Volume.state c.args.volume.now) c.args.fanout c.args.level c.args.branch.now own.0 own.1 in
    (record { level = c.args.level; branches = branches_of own.0 }, p.said)

pub count_below-count_among-requires : goal.count_below-count_among-requires
count_below-count_among-requires g t c κs within =
    let a = g.V.Volume.state c.args.volume.now in
    let b = g.V.Volume.state c.read_node.new.volume in
    let f = c.args.fanout in
    let own = c.requires.row in
    let p = below a f c.args.level c.args.branch.now own.0 own.1 in
    let read = c.in_ok-node.ensures in
    let said = read.said (record { level = c.args.level; branches = branches_of own.0 }) p.said in
    let branches = sym (ap (λ (i : Index). i.branches) said) ∙ sym c.as_slice-branches.ensures.value in
    let few = read.few in
    let long = ap length c.as_slice-branches.ensures.value in
    (omega (arith, few, long, c.decreases), (within, (own.0, branches, row_moved a b f c.args.level own.0 read.reads.keeps read.reads.shape p.on)))

pub count_below-returns-clause-counted : goal.count_below-returns-clause-counted
count_below-returns-clause-counted g t c row on =
    let a = g.V.Volume.state c.args.volume.now in
    let b = g.V.Volume.state c.read_node.new.volume in
    let f = c.args.fanout in
    let p = below a f c.args.level c.args.branch.now row on in
    let read = c.in_ok-node.ensures in
    let said = read.said (record { level = c.args.level; branches = branches_of row }) p.said in
    let same = sym (ap (λ (i : Index). i.branches) said) in
    let counted = c.in_ok-below.ensures.counted row (same ∙ sym c.as_slice-branches.ensures.value) (row_moved a b f c.args.level row read.reads.keeps read.reads.shape p.on) in
    over_counts f (length c.as_slice-branches.result.now) c.args.branch.now row c.counts_alone.result c.in_ok-below.below c.in_ok-counts.counts (ap length c.as_slice-branches.ensures.value ∙ sym (ap length same)) counted c.counts_alone.ensures.nodes c.counts_alone.ensures.weight
    c.in_ok-counts.ensures.nodes c.in_ok-counts.ensures.weight

pub count_among-returns-then-levels-eq0-clause-counted : goal.count_among-returns-then-levels-eq0-clause-counted
count_among-returns-then-levels-eq0-clause-counted g t c row e on = leaves_counts (g.V.Volume.state c.args.volume.now).holds c.args.fanout c.args.levels row c.if-levels-eq0.true on.stored

pub count_among-returns-in-None-clause-counted : goal.count_among-returns-in-None-clause-counted
count_among-returns-in-None-clause-counted g t c row e on = no_counts c.args.fanout row (ap length e ∙ c.in-None.ensures.cases)

pub count_among-count_below-requires : goal.count_among-count_below-requires
count_among-count_below-requires g t c κs within =
    let a = g.V.Volume.state c.args.volume.now in
    let own = c.requires.row in
    let some : 0 < c.args.levels = omega (arith, c.if-levels-eq0.false) in
    let p = first_node a c.args.fanout c.args.levels own.0 c.in-Some.branch.now c.in-Some.rest.now some (own.1 ∙ c.in-Some.ensures.cases.0) own.2 in
    (omega (arith, some, c.decreases), (within, (p.children, p.alone)))

pub count_among-count_among-requires : goal.count_among-count_among-requires
count_among-count_among-requires g t c κs within =
    let a = g.V.Volume.state c.args.volume.now in
    let b = g.V.Volume.state c.count_below.new.volume in
    let is = c.in-Some.ensures.cases.0 in
    let own = c.requires.row in
    let f = c.args.fanout in
    let some : 0 < c.args.levels = omega (arith, c.if-levels-eq0.false) in
    let p = first_node a f c.args.levels own.0 c.in-Some.branch.now c.in-Some.rest.now some (own.1 ∙ is) own.2 in
    let made = c.in_ok-first-in-Some.ensures in
    let long = ap length is in
    (omega (arith, long, c.decreases), (within, (p.others, p.branches, row_moved a b f c.args.levels p.others made.reads.keeps made.reads.shape p.on)))

pub count_among-returns-in_ok-counts-in-Some-clause-counted : goal.count_among-returns-in_ok-counts-in-Some-clause-counted
count_among-returns-in_ok-counts-in-Some-clause-counted g t c row e on =
    let a = g.V.Volume.state c.args.volume.now in
    let b = g.V.Volume.state c.count_below.new.volume in
    let f = c.args.fanout in
    let branch = c.in-Some.branch.now in
    let some : 0 < c.args.levels = omega (arith, c.if-levels-eq0.false) in
    let p = first_node a f c.args.levels row branch c.in-Some.rest.now some (e ∙ c.in-Some.ensures.cases.0) on in
    let made = c.in_ok-first-in-Some.ensures in
    let here = made.counted p.children p.alone in
    let there = c.in_ok-others-in-Some.ensures.counted p.others p.branches (row_moved a b f c.args.levels p.others made.reads.keeps made.reads.shape p.on) in
    let P : PlacedRow → Type 0 = λ r. AreCountsOf f (plain r) c.in_ok-counts-in-Some.counts in
    subst P (sym p.is) (beside_counts f branch p.children p.others c.in_ok-first-in-Some.first c.in_ok-others-in-Some.others c.in_ok-counts-in-Some.counts here there c.in_ok-counts-in-Some.ensures.nodes c.in_ok-counts-in-Some.ensures.weight)

pub count_below-returns-in_err-below-clause-reads : goal.count_below-returns-in_err-below-clause-reads
count_below-returns-in_err-below-clause-reads g t c =
    let a = g.V.Volume.state c.args.volume.now in
    let b = g.V.Volume.state c.read_node.new.volume in
    let d = g.V.Volume.state c.count_among.new.volume in
    reads_failed a b d c.in_ok-node.node c.in_err-below.field-0.0 c.from_residual-in_err-below.result c.from_residual-in_err-below.ensures.1 c.in_ok-node.ensures.reads c.in_err-below.ensures.reads

pub count_below-returns-in_err-counts-clause-reads : goal.count_below-returns-in_err-counts-clause-reads
count_below-returns-in_err-counts-clause-reads g t c =
    let a = g.V.Volume.state c.args.volume.now in
    let b = g.V.Volume.state c.read_node.new.volume in
    let d = g.V.Volume.state c.count_among.new.volume in
    reads_wanting a d c.in_ok-below.below c.from_residual-in_err-counts.result c.from_residual-in_err-counts.ensures.1 (reads_both a b d c.in_ok-node.node c.in_ok-below.below c.in_ok-below.below c.in_ok-node.ensures.reads c.in_ok-below.ensures.reads)

pub count_below-returns-clause-reads : goal.count_below-returns-clause-reads
count_below-returns-clause-reads g t c =
    let a = g.V.Volume.state c.args.volume.now in
    let b = g.V.Volume.state c.read_node.new.volume in
    let d = g.V.Volume.state c.count_among.new.volume in
    reads_both a b d c.in_ok-node.node c.in_ok-below.below c.in_ok-counts.counts c.in_ok-node.ensures.reads c.in_ok-below.ensures.reads

pub count_among-returns-in_err-others-in-Some-clause-reads : goal.count_among-returns-in_err-others-in-Some-clause-reads
count_among-returns-in_err-others-in-Some-clause-reads g t c =
    let a = g.V.Volume.state c.args.volume.now in
    let b = g.V.Volume.state c.count_below.new.volume in
    let d = g.V.Volume.state c.count_among.new.volume in
    reads_failed a b d c.in_ok-first-in-Some.first c.in_err-others-in-Some.field-0.0 c.from_residual-in_err-others-in-Some.result c.from_residual-in_err-others-in-Some.ensures.1 c.in_ok-first-in-Some.ensures.reads c.in_err-others-in-Some.ensures.reads

pub count_among-returns-in_err-counts-in-Some-clause-reads : goal.count_among-returns-in_err-counts-in-Some-clause-reads
count_among-returns-in_err-counts-in-Some-clause-reads g t c =
    let a = g.V.Volume.state c.args.volume.now in
    let b = g.V.Volume.state c.count_below.new.volume in
    let d = g.V.Volume.state c.count_among.new.volume in
    reads_wanting a d c.in_ok-others-in-Some.others c.from_residual-in_err-counts-in-Some.result c.from_residual-in_err-counts-in-Some.ensures.1 (reads_both a b d c.in_ok-first-in-Some.first c.in_ok-others-in-Some.others c.in_ok-others-in-Some.others c.in_ok-first-in-Some.ensures.reads c.in_ok-others-in-Some.ensures.reads)

pub count_among-returns-in_ok-counts-in-Some-clause-reads : goal.count_among-returns-in_ok-counts-in-Some-clause-reads
count_among-returns-in_ok-counts-in-Some-clause-reads g t c =
    let a = g.V.Volume.state c.args.volume.now in
    let b = g.V.Volume.state c.count_below.new.volume in
    let d = g.V.Volume.state c.count_among.new.volume in
    reads_both a b d c.in_ok-first-in-Some.first c.in_ok-others-in-Some.others c.in_ok-counts-in-Some.counts c.in_ok-first-in-Some.ensures.reads c.in_ok-others-in-Some.ensures.reads
