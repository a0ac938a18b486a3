use Rattle.std.proofs.Common.{ℕ, ap, arith}
use Rattle.plain_backing.specs.FullIndex.{full_index_weight}
use Rattle.plain_backing.proofs.FullIndexes.{ceil_less, weight_few, weight_level, weight_lowest, weight_root}
use Rattle.plain_backing.proofs.full_index.full_index_weight.Goals as goal

pub overflow_add-weight : goal.overflow_add-weight
overflow_add-weight c =
    let f = c.args.geo.now.fanout in
    let wide = c.args.geo.now.in_range.fanout.0 in
    let level = weight_level f c.rising.siblings wide (omega arith) in
    let few = weight_few f c.args.leaves wide in
    let so = c.rising.invariant.0 in
    let low = c.requires.few in
    omega (arith, level, few, so, low)

pub overflow_add-weight-in-rising : goal.overflow_add-weight-in-rising
overflow_add-weight-in-rising c =
    let f = c.args.geo.now.fanout in
    let wide = c.args.geo.now.in_range.fanout.0 in
    let level = weight_level f c.rising.siblings wide (omega arith) in
    let few = weight_few f c.args.leaves wide in
    let so = c.rising.invariant.0 in
    let low = c.requires.few in
    omega (arith, level, few, so, low)

pub rising-preserved : goal.rising-preserved
rising-preserved c =
    let f = c.args.geo.now.fanout in
    let wide = c.args.geo.now.in_range.fanout.0 in
    let level = weight_level f c.rising.siblings wide (omega arith) in
    let same = ap (λ (k : ℕ). full_index_weight f k) c.div_ceil-siblings.ensures in
    let less = ceil_less f c.rising.siblings wide (omega arith) in
    let so = c.rising.invariant.0 in
    let le = c.rising.invariant.1 in (omega (arith, level, same, so), omega (arith, less, le))

pub overflow_add-result : goal.overflow_add-result
overflow_add-result c =
    let few = weight_few c.args.geo.now.fanout c.args.leaves c.args.geo.now.in_range.fanout.0 in
    let so = c.rising.invariant.0 in
    let low = c.requires.few in
    omega (arith, few, so, low)

pub overflow_add-result-2 : goal.overflow_add-result-2
overflow_add-result-2 c =
    let root = weight_root c.args.geo.now.fanout c.rising.siblings (omega arith) in
    let few = weight_few c.args.geo.now.fanout c.args.leaves c.args.geo.now.in_range.fanout.0 in
    let so = c.rising.invariant.0 in
    let low = c.requires.few in
    omega (arith, root, few, so, low)

pub returns-clause-weight : goal.returns-clause-weight
returns-clause-weight c =
    let root = weight_root c.args.geo.now.fanout c.rising.siblings (omega arith) in
    let so = c.rising.invariant.0 in
    omega (arith, root, so)

pub returns-clause-lowest : goal.returns-clause-lowest
returns-clause-lowest c = weight_lowest c.args.geo.now.fanout c.args.leaves _ c.args.geo.now.in_range.fanout.0 (returns-clause-weight c)
