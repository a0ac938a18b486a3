use Rattle.leaf_recovery.proofs.Whole.{whole}
use Rattle.leaf_recovery.proofs.recovery.recover.Goals as goal

pub returns : goal.returns
returns c = λ parts is.
    let e = c.in_ok-made.ensures in
    whole parts c.args.committed.now c.args.references.now c.args.nodes.now c.args.copies.now c.args.listed.now is c.in_ok-made.made e.kept e.missing e.empty e.repeated
