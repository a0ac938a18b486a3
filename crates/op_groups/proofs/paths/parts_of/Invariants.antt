use Rattle.std.proofs.Common.{◌≡◌, map}
use Rattle.op_groups.proofs.paths.parts_of.Given as goal

abbrev pub invariant-loop-name : goal.invariant-loop-name
invariant-loop-name l = l.parts.items ≡ map (λ x. x.now) l.yielded
