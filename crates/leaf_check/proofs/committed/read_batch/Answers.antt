use Rattle.std.proofs.Common.{List, subst}
use Rattle.std.specs.List.{AllZip}
use Rattle.leaf_check.specs.Committed.{IsAnswerTo}
use Rattle.leaf_check.specs.declared.leaf_bytes.LeafBytes.{LeafBytes}
use Rattle.leaf_check.proofs.CommittedLeaves.{answered}
use Rattle.leaf_check.proofs.committed.read_batch.Goals as goal

pub returns-clause-read : goal.returns-clause-read
returns-clause-read g c =
    let P : List LeafBytes → Type 0 = λ reads. AllZip IsAnswerTo reads c.in_ok-answers.answers.items in
    answered (g.V.Volume.state c.args.volume.now).holds c.args.leaves.now c.in_ok-reads.reads.items c.in_ok-answers.answers.items c.in_ok-reads.ensures.read (subst P c.deref.ensures.value c.in_ok-answers.ensures)
