use Rattle.buffered_files.specs.CutLaws.{Puts-none}
use Rattle.buffered_files.proofs.Cutting.{seen_granted}
use Rattle.buffered_files.proofs.admission.admit.Goals as goal

pub returns-in-Ok-clause-cut : goal.returns-in-Ok-clause-cut
returns-in-Ok-clause-cut g c =
    let old = g.B.Backing.state c.args.backing.now in
    seen_granted old old (g.B.Backing.state c.admit.new.self) c.args.kept.now c.args.need.now (Puts-none _ old.journal) c.in-Ok.ensures.ok
