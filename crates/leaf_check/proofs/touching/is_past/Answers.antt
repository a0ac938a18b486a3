use Rattle.std.proofs.Common.{[]}
use Rattle.leaf_check.proofs.touching.is_past.Goals as goal

pub returns : goal.returns
returns c = λ h. (c.in-Some.first.now, ([], c.in-Some._others.now, c.in-Some.ensures.cases.0), c.stands_before.ensures.0 h)
