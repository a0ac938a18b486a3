use Rattle.std.proofs.Common.{◌∷◌, ap, ◌∙◌}
use Rattle.index_tree.specs.declared.leaf.Leaf.{Leaf}
use Rattle.leaf_check.proofs.known.is_first.Goals as goal

pub returns : goal.returns
returns c = λ same. (c.in-Some._rest.now, c.in-Some.ensures.cases.0 ∙ ap (λ (x : Leaf). x ∷ c.in-Some._rest.now) (c.is_same.ensures.0 same))
