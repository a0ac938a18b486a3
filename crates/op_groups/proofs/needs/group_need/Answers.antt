use Rattle.std.proofs.Common.{refl}
use Rattle.op_groups.proofs.Asked.{asked_bytes}
use Rattle.op_groups.proofs.needs.group_need.Goals as goal

pub returns : goal.returns
returns c = λ tree h. let e = asked_bytes tree c.args.gone c.args.group.now h in
    rw c.all_bytes.ensures (rw c.as_slice-changes.ensures (rw e refl))
