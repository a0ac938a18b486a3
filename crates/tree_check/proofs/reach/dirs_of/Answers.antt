use Rattle.std.proofs.Common.{◌==◌}
use Rattle.std.proofs.lemmas.List.Sorted.{IsNonDecreasingBy-from_sort, list_any-IsPermutation}
use Rattle.tree_check.proofs.DirsReached.{dirs_are_among}
use Rattle.tree_check.proofs.reach.dirs_of.Goals as goal

pub returns-clause-ordered : goal.returns-clause-ordered
returns-clause-ordered c = IsNonDecreasingBy-from_sort (λ n. n) c.sort_unstable.new.self.items c.sort_unstable.ensures.sorted

pub returns-clause-among : goal.returns-clause-among
returns-clause-among c =
    dirs_are_among c.args.links.now c.adding.left.now c.adding.dirs.items c.sort_unstable.new.self.items c.in_default.ensures.cases c.adding.invariant (λ q. list_any-IsPermutation (λ n. n == q) c.adding.dirs.items c.sort_unstable.new.self.items c.sort_unstable.ensures.permutation)
