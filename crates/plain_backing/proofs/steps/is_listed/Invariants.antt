use Rattle.std.proofs.Common.{◌≡◌, drop}
use Rattle.std.specs.Prelude.{◌==◌}
use Rattle.std.specs.List.{list_any}
use Rattle.plain_backing.proofs.steps.is_listed.Given as goal

abbrev pub invariant-loop-number : goal.invariant-loop-number
invariant-loop-number l = list_any (λ n. n == l.ino) (drop l.number-index l.listed) ≡ list_any (λ n. n == l.ino) l.listed
