use Rattle.std.proofs.Common.{◌≡◌, length, min, refl, sym, subst, ◌∙◌, arith}
use Rattle.fs_model.specs.Files.{Tree, block_at}
use Rattle.buffered_files.proofs.Ends.{found_end, no_end}
use Rattle.buffered_files.specs.CallLaws.{Goes-then}
use Rattle.buffered_files.proofs.Reading.{Reads-tree}
use Rattle.buffered_files.proofs.reads.end_past.Goals as goal

pub returns-in_ok-stored-in-Some-clause-end : goal.returns-in_ok-stored-in-Some-clause-end
returns-in_ok-stored-in-Some-clause-end g c =
    let old = g.B.Backing.state c.args.backing.now in
    let blocks = old.tree.blocks in
    let P : Tree → Type 0 = λ tree. c.in_ok-stored-in-Some.stored ≡ min (length (block_at tree.blocks c.args.ino c.in-Some.block)) 4096 in
    let stored = subst P (Reads-tree old (g.B.Backing.state c.last_block.new.self) c.last_block.ensures.reads) c.in_ok-stored-in-Some.ensures.found.0 in
    let end = found_end blocks c.args.ino c.in-Some.block c.in_ok-stored-in-Some.stored c.requires.blocks_ascend c.requires.block_nodes (sym c.in_ok-block.ensures.found ∙ c.in-Some.is) stored in
    rw end c.max.ensures

pub returns-in_ok-stored-in-Some-clause-goes : goal.returns-in_ok-stored-in-Some-clause-goes
returns-in_ok-stored-in-Some-clause-goes g c =
    Goes-then 0 0 (g.B.Backing.state c.args.backing.now) (g.B.Backing.state c.last_block.new.self) (g.B.Backing.state c.read_block.new.self) c.last_block.ensures.goes c.read_block.ensures.goes

pub returns-in_err-stored-in-Some-clause-goes : goal.returns-in_err-stored-in-Some-clause-goes
returns-in_err-stored-in-Some-clause-goes g c =
    Goes-then 0 0 (g.B.Backing.state c.args.backing.now) (g.B.Backing.state c.last_block.new.self) (g.B.Backing.state c.read_block.new.self) c.last_block.ensures.goes c.read_block.ensures.goes

pub returns-then-start-size-clause-end : goal.returns-then-start-size-clause-end
returns-then-start-size-clause-end g c =
    let blocks = (g.B.Backing.state c.args.backing.now).tree.blocks in
    let stored = min (length (block_at blocks c.args.ino c.in-Some.block)) 4096 in
    let end = found_end blocks c.args.ino c.in-Some.block stored c.requires.blocks_ascend c.requires.block_nodes (sym c.in_ok-block.ensures.found ∙ c.in-Some.is) refl in
    let far = c.if-start-size.true in
    omega (arith, end, far)

pub returns-in-None-clause-end : goal.returns-in-None-clause-end
returns-in-None-clause-end g c =
    let blocks = (g.B.Backing.state c.args.backing.now).tree.blocks in
    let end = no_end blocks c.args.ino c.requires.blocks_ascend c.requires.block_nodes (sym c.in_ok-block.ensures.found ∙ c.in-None.is) in
    omega (arith, end)
