use Rattle.std.proofs.Common.{arith}
use Rattle.buffered_files.specs.Present.{present}
use Rattle.vfs_ops.proofs.Gone.{goes_first, sum_same}
use Rattle.vfs_ops.proofs.needs.need_of.Goals as goal

pub group_need-requires : goal.group_need-requires
group_need-requires g c =
    let tree = (present (g.B.Backing.state c.args.backing.now).tree c.args.kept.now).tree in
    let goes = goes_first tree c.requires.gone.0 c.in_ok-gone.gone c.args.group.now c.requires.gone.1 c.in_ok-gone.ensures.found in
    let same = sum_same tree c.in_ok-gone.gone c.args.group.now goes in
    let limit = c.requires.limit in
    omega (arith, same, limit)

pub returns-clause-need : goal.returns-clause-need
returns-clause-need g c =
    let tree = (present (g.B.Backing.state c.args.backing.now).tree c.args.kept.now).tree in
    c.group_need.ensures tree (goes_first tree c.requires.gone.0 c.in_ok-gone.gone c.args.group.now c.requires.gone.1 c.in_ok-gone.ensures.found)
