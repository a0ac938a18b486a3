use Rattle.std.proofs.Common.{arith}
use Rattle.plain_backing.proofs.Covers.{few_leaves}
use Rattle.plain_backing.proofs.tree.Tree.leaves.Goals as goal

pub returns-clause-all : goal.returns-clause-all
returns-clause-all c =
    let few = few_leaves c.args.self.now in
    let bytes = c.bytes-bytes.ensures.bytes in
    let small = c.bytes-bytes.ensures.few in
    let inodes = c.count_cells-inodes.ensures.inodes in
    let blocks = c.count_cells-inodes.ensures.blocks in
    let entries = c.count_cells-inodes.ensures.entries in
    omega (arith, few, bytes, small, inodes, blocks, entries)
