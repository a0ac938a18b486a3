use Rattle.std.proofs.Common.{arith}
use Rattle.fs_model.proofs.Pieces.{pushed}
use Rattle.fs_model.proofs.blocks.push_piece.Goals as goal

pub returns : goal.returns
returns c = pushed c.resize.result c.args.out.now.items c.part_of-part.result.now c.extend_from_slice.new.self.items c.resize.new.self.items c.args.block.now c.args.from c.args.count c.len-len.result
    c.part_of-part.ensures.part c.part_of-part.ensures.len c.in_ok-extend_from_slice.ensures.items (omega arith) (rw (← c.len-len.ensures) at c.resize.ensures.items)
