use Rattle.std.proofs.Common.{ap, ◌∙◌, arith, refl}
use Rattle.fs_model.specs.Files.{bytes_from}
use Rattle.fs_model.proofs.Pieces.{read_more}
use Rattle.fs_model.proofs.blocks.read_pages.Goals as goal

pub loop-from-init : goal.loop-from-init
loop-from-init c = let none = c.in_ok-out.ensures.items in rw none (record { read = refl; at = omega arith; within = omega arith })

pub loop-from-preserved : goal.loop-from-preserved
loop-from-preserved c = read_more _ _ _ _ _ _ _ _ c.stored-block.result.now c.stored-block.ensures c.loop-from.invariant (omega arith) (omega arith) c.in_ok-push_piece.ensures

pub returns : goal.returns
returns c = let so = c.loop-from.invariant in so.read ∙ ap (bytes_from c.args.map.now.entries c.args.ino c.args.offs) (omega (arith, so.within))
