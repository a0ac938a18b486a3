use Rattle.std.proofs.Common.{List, ◌++◌, ◌∷◌, [], sym, subst, ap, ◌∙◌, append_assoc, append-nil}
use Rattle.index_tree.specs.declared.leaf.Leaf.{Leaf}
use Rattle.leaf_check.proofs.CommittedLeaves.{no_more}
use Rattle.leaf_check.proofs.Firsts.{IsLeastOf, least_first, least_more}
use Rattle.leaf_check.proofs.first.least_place.Goals as goal

pub looking-init : goal.looking-init
looking-init c = (c.in_ok-first.first.now ∷ [], sym c.in_ok-first.ensures.cases.0, least_first c.in_ok-first.first.now)

pub looking-preserved : goal.looking-preserved
looking-preserved c =
    let i = c.looking.invariant in
    let leaf = c.in-Some.leaf.now in
    let rest = c.in-Some.rest.now in (
      i.0 ++ leaf ∷ [],
      append_assoc i.0 (leaf ∷ []) rest ∙ ap (λ (xs : List Leaf). i.0 ++ xs) (sym c.in-Some.ensures.cases.0) ∙ i.1,
      least_more c.looking.least leaf c.lesser-least.result i.0 c.lesser-least.ensures i.2,
    )

pub returns-clause-one : goal.returns-clause-one
returns-clause-one c =
    let i = c.looking.invariant in
    let P : List Leaf → Type 0 = λ xs. IsLeastOf c.looking.least xs in
    (subst P (sym (append-nil i.0) ∙ ap (λ (xs : List Leaf). i.0 ++ xs) (sym (no_more c.looking.left.now c.in_default.ensures.cases)) ∙ i.1) i.2).one

pub returns-clause-least : goal.returns-clause-least
returns-clause-least c =
    let i = c.looking.invariant in
    let P : List Leaf → Type 0 = λ xs. IsLeastOf c.looking.least xs in
    (subst P (sym (append-nil i.0) ∙ ap (λ (xs : List Leaf). i.0 ++ xs) (sym (no_more c.looking.left.now c.in_default.ensures.cases)) ∙ i.1) i.2).none
