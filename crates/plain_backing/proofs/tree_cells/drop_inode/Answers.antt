use Rattle.std.proofs.Common.{arith, refl}
use Rattle.std.proofs.lemmas.Cmp.{nat_cmp_total}
use Rattle.fs_model.specs.Cover.{inode_bytes}
use Rattle.plain_backing.proofs.Counted.{inode_dropped, drop_counts, orphans_less}
use Rattle.plain_backing.proofs.tree_cells.drop_inode.Goals as goal

pub overflow_sub-cells : goal.overflow_sub-cells
overflow_sub-cells c =
    let put = c.put-old.ensures in
    let counts = drop_counts nat_cmp_total inode_bytes c.args.cells.now.inodes.entries c.put-old.new.map.entries c.args.ino c.put-old.result put.ordered put.cells put.old in
    omega (arith, counts, c.freed_inode.ensures, c.requires.counted.0)

pub clear_blocks-requires : goal.clear_blocks-requires
clear_blocks-requires c = omega (arith, c.requires.counted.0)

pub overflow_sub-cells-2 : goal.overflow_sub-cells-2
overflow_sub-cells-2 c =
    let put = c.put-old.ensures in
    let told = c.clear_blocks.ensures in
    let both = (inode_dropped c.args.cells.now c.put-old.new.map c.clear_blocks.new.map c.args.ino c.put-old.result c.freed_inode.result c.clear_blocks.result _ _ put.ordered put.cells put.old c.freed_inode.ensures told.cut told.keys told.freed refl c.requires.counted refl).0 in
    omega (arith, both)

pub overflow_sub-cells-3 : goal.overflow_sub-cells-3
overflow_sub-cells-3 c =
    let put = c.put-old.ensures in
    let less = orphans_less c.args.cells.now.inodes.entries c.put-old.new.map.entries c.args.ino c.put-old.result c.freed_orphans.result c.args.cells.now.orphans put.ordered put.cells put.old c.freed_orphans.ensures c.requires.counted.1 in
    omega (arith, less)

pub returns : goal.returns
returns c =
    let put = c.put-old.ensures in
    let told = c.clear_blocks.ensures in
    (inode_dropped c.args.cells.now c.put-old.new.map c.clear_blocks.new.map c.args.ino c.put-old.result c.freed_inode.result c.clear_blocks.result c.freed_orphans.result c.max-cells.result put.ordered put.cells put.old c.freed_inode.ensures told.cut told.keys told.freed c.freed_orphans.ensures c.requires.counted c.max-cells.ensures).1
