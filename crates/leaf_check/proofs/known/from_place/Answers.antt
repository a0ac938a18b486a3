use Rattle.std.proofs.Common.{List, [], ◌∷◌, ◌++◌, refl, ap, sym, ◌∙◌, append_assoc}
use Rattle.index_tree.specs.declared.leaf.Leaf.{Leaf}
use Rattle.leaf_check.proofs.known.from_place.Goals as goal

pub passing-init : goal.passing-init
passing-init c = ([], refl)

pub passing-preserved : goal.passing-preserved
passing-preserved c =
    let i = c.passing.invariant in
    let first = c.in-Some.first.now in
    let rest = c.in-Some.rest.now in
    (i.0 ++ first ∷ [], i.1 ∙ ap (λ (xs : List Leaf). i.0 ++ xs) c.in-Some.ensures.cases.0 ∙ sym (append_assoc i.0 (first ∷ []) rest))
