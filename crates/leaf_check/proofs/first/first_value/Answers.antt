use Rattle.std.proofs.Common.{List, ◌++◌, ◌∷◌, [], refl, sym, subst, ap, ◌∙◌, append_assoc, append-nil}
use Rattle.index_tree.specs.declared.leaf.Leaf.{Leaf}
use Rattle.image_check.specs.WrongValues.{IsFirstOf}
use Rattle.leaf_check.specs.Standings.{IsStandingWrong}
use Rattle.leaf_check.proofs.CommittedLeaves.{no_more}
use Rattle.leaf_check.proofs.Firsts.{none_first}
use Rattle.leaf_check.proofs.first.first_value.Goals as goal

pub looking-init : goal.looking-init
looking-init c = ([], refl, none_first c.args.standing.now c.args.here.now)

pub looking-preserved : goal.looking-preserved
looking-preserved c =
    let i = c.looking.invariant in
    let leaf = c.in-Some.leaf.now in
    let rest = c.in-Some.rest.now in (
      i.0 ++ leaf ∷ [],
      append_assoc i.0 (leaf ∷ []) rest ∙ ap (λ (xs : List Leaf). i.0 ++ xs) (sym c.in-Some.ensures.cases.0) ∙ i.1,
      c.with_leaf-first.ensures i.0 i.2,
    )

pub returns : goal.returns
returns c =
    let i = c.looking.invariant in
    let P : List Leaf → Type 0 = λ xs. IsFirstOf (IsStandingWrong c.args.standing.now c.args.here.now xs) c.looking.first in
    subst P (sym (append-nil i.0) ∙ ap (λ (xs : List Leaf). i.0 ++ xs) (sym (no_more c.looking.left.now c.in_default.ensures.cases)) ∙ i.1) i.2
