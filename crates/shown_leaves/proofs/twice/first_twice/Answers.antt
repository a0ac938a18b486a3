use Rattle.std.proofs.Common.{List, None, subst}
use Rattle.index_tree.specs.declared.leaf.Leaf.{Leaf}
use Rattle.image_check.specs.WrongValues.{IsFirstOf}
use Rattle.shown_leaves.specs.Spots.{IsTwiceIn}
use Rattle.shown_leaves.proofs.SameLeaves.{none_twice}
use Rattle.shown_leaves.proofs.twice.first_twice.Goals as goal

pub returns-then-are_apart : goal.returns-then-are_apart
returns-then-are_apart c = record { first = λ parts is. let P : List Leaf → Type 0 = λ ts. IsFirstOf (IsTwiceIn ts) None in subst P is (none_twice c.args.leaves.now (c.are_apart.ensures c.if-are_apart.true)) }

pub returns : goal.returns
returns c = record { first = λ parts is. let P : List Leaf → Type 0 = λ ts. IsFirstOf (IsTwiceIn ts) c.in_ok-first.first in subst P is c.in_ok-first.ensures }
