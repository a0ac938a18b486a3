use Rattle.std.proofs.Common.{arith}
use Rattle.plain_backing.proofs.Counted.{blocks_cut}
use Rattle.plain_backing.proofs.tree_cells.cut_blocks.Goals as goal

pub clear_blocks-requires : goal.clear_blocks-requires
clear_blocks-requires c = omega (arith, c.requires.counted.0)

pub returns : goal.returns
returns c = λ old_size.
    let told = c.clear_blocks.ensures in
    (blocks_cut c.args.cells.now c.clear_blocks.new.map c.args.ino old_size c.args.size c.clear_blocks.result c.max-cells.result told.cut told.keys told.freed c.requires.counted c.max-cells.ensures).1
