use Rattle.std.proofs.Common.{◌==◌, ◌-◌, length, arith, rules}
use Rattle.std.proofs.lemmas.List.Folds.{list_any_at}
use Rattle.tree_check.proofs.reach.is_last.Goals as goal

pub returns-in-Some : goal.returns-in-Some
returns-in-Some c = λ yes. list_any_at (λ n. n == c.args.number) c.args.numbers.now (length c.args.numbers.now - 1) c.in-Some.last.now (search (rules, arith)) (search rules)
