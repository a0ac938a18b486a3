use Rattle.std.proofs.Common.{arith}
use Rattle.buffered_files.specs.CallLaws.{Goes-then}
use Rattle.buffered_files.proofs.Reading.{read_more}
use Rattle.buffered_files.proofs.reads.bytes.Goals as goal

pub loop-alloc-preserved : goal.loop-alloc-preserved
loop-alloc-preserved g c =
    read_more (g.B.Backing.outlook c.args.backing.now) (g.B.Backing.outlook c.loop-alloc.backing) (g.B.Backing.outlook c.push_bytes.new.backing)
    (g.B.Backing.state c.args.backing.now) (g.B.Backing.state c.loop-alloc.backing) (g.B.Backing.state c.push_bytes.new.backing) c.args.kept.now c.loop-alloc.kept c.push_bytes.new.kept c.args.ino c.args.offs c.args.n c.loop-alloc.place c.min-count.result c.loop-alloc.out.items c.push_bytes.new.out.items
    c.loop-alloc.invariant (omega arith) c.in_ok-push_bytes.ensures.bytes c.push_bytes.ensures.kept c.push_bytes.ensures.same c.push_bytes.ensures.reads c.push_bytes.ensures.goes c.push_bytes.ensures.sure

pub returns-in_err-push_bytes-clause-goes : goal.returns-in_err-push_bytes-clause-goes
returns-in_err-push_bytes-clause-goes g c =
    Goes-then 0 0 (g.B.Backing.state c.args.backing.now) (g.B.Backing.state c.loop-alloc.backing) (g.B.Backing.state c.push_bytes.new.backing) c.loop-alloc.invariant.goes c.push_bytes.ensures.goes
