use Rattle.std.proofs.Common.{ℕ, ◌≡◌, arith, sym, subst, ◌+◌}
use Rattle.ubifs_base.specs.Properties.{level_nodes, pnode_count, tree_height}
use Rattle.lpt_area.specs.Laid.{IsLevelLaid, AreLevelsLaid, places}
use Rattle.ubifs_base.specs.RawOf.{raw_of}
use Rattle.lpt_area.proofs.Counts.{row_len-pnodes, root_alone, level_nodes-some, main-some}
use Rattle.lpt_area.proofs.LevelSteps.{levels_next, levels_none, level_fits, nnode_len-some, pnode_len-some, tree_height-some}
use Rattle.lpt_area.proofs.levels.lay_levels.Goals as goal

pub loop-below-init : goal.loop-below-init
loop-below-init c =
    let geo = raw_of c.args.geo.now in
    let len = c.requires.len in
    let some = pnode_len-some geo in
    (levels_none geo c.args.lnum c.args.out.now _ _ _ c.requires.offs c.requires.len c.requires.count, omega (arith, len, some), λ h. absurd (omega (arith, h)))

pub lay_nnodes-level-requires-clause-room : goal.lay_nnodes-level-requires-clause-room
lay_nnodes-level-requires-clause-room c =
    let geo = raw_of c.args.geo.now in
    let before = c.loop-below.invariant.0 in
    let fits = level_fits geo c.loop-below.level.offs c.loop-below.level.len c.loop-below.level.count c.loop-below._below c.args.geo.now.in_range (omega (arith, c.loop-below-test.true, c.tree_height-below-end.ensures.number)) before.count before.end in
    omega (arith, fits)

pub loop-below-preserved : goal.loop-below-preserved
loop-below-preserved c =
    let geo = raw_of c.args.geo.now in
    let before = c.loop-below.invariant.0 in
    let level = c.loop-below.level in
    let next = c.lay_nnodes-level in
    let len = next.ensures.len in
    let some = nnode_len-some geo in
    let P : ℕ → Type 0 = λ n. IsLevelLaid geo c.args.lnum (places c.args.lnum level.offs level.len level.count) c.loop-below.out next.new.out next.result.offs n next.result.count in
    let Q : ℕ → Type 0 = λ n. AreLevelsLaid geo c.args.lnum c.args.out.now next.new.out next.result.offs n next.result.count (c.loop-below._below + 1) in (
      subst Q (sym len) (levels_next geo c.args.lnum c.args.out.now c.loop-below.out next.new.out level.offs level.len level.count c.loop-below._below next.result.offs next.result.count (row_len-pnodes geo c.args.geo.now.in_range)
          next.ensures.offs next.ensures.count (subst P len next.ensures.laid) before),
      omega (arith, len, some),
      λ h. len,
    )

pub returns-clause-count : goal.returns-clause-count
returns-clause-count c =
    let geo = raw_of c.args.geo.now in
    let h = c.args.geo.now.in_range in
    let before = c.loop-below.invariant.0 in
    let count = before.count in
    let P : ℕ → Type 0 = λ n. c.loop-below.level.count ≡ level_nodes (pnode_count geo) n in
    let top : c.loop-below._below ≡ tree_height (pnode_count geo) = omega (arith, c.loop-below-test.false, c.loop-below.auto._below-end, c.tree_height-below-end.ensures.number) in
    let is = subst P top count in
    let most = root_alone geo h in
    let main = main-some geo h in
    let fewer = row_len-pnodes geo h in
    let some = level_nodes-some (pnode_count geo) (tree_height (pnode_count geo)) (omega (arith, main, fewer)) in
    omega (arith, is, most, some)

pub returns-clause-len : goal.returns-clause-len
returns-clause-len c =
    let geo = raw_of c.args.geo.now in
    let some = tree_height-some (pnode_count geo) in
    c.loop-below.invariant.2 (omega (arith, c.loop-below-test.false, c.loop-below.auto._below-end, c.tree_height-below-end.ensures.number, some))
