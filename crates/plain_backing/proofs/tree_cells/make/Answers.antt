use Rattle.plain_backing.proofs.Counted.{cut_made}
use Rattle.plain_backing.proofs.tree_cells.make.Goals as goal

pub returns-in-CutBlocks : goal.returns-in-CutBlocks
returns-in-CutBlocks c = cut_made c.args.cells.now c.cut_blocks.new.cells c.in-CutBlocks.ino c.in-CutBlocks.old_size c.in-CutBlocks.new_size c.args.change c.in-CutBlocks.is (c.cut_blocks.ensures c.in-CutBlocks.old_size)
