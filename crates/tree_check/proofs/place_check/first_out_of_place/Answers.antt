use Rattle.std.proofs.Common.{[], Option, sym, subst, ap, ◌∙◌}
use Rattle.leaf_map.specs.Shown.{tree_of}
use Rattle.image_check.specs.WrongValues.{IsFirstOf}
use Rattle.image_check.specs.declared.wrong_value.WrongValue.{WrongValue}
use Rattle.tree_check.specs.Facts.{facts_in}
use Rattle.tree_check.specs.LinkFindings.{soonest_of}
use Rattle.tree_check.specs.Places.{IsOutOfPlaceAt, wrongs_behind}
use Rattle.tree_check.proofs.PlaceFirst.{place_first}
use Rattle.tree_check.proofs.place_check.first_out_of_place.Goals as goal

pub returns : goal.returns
returns c = λ kept highest h.
    let facts = facts_in c.in_ok-facts.facts in
    let P : Option WrongValue → Type 0 = λ found. IsFirstOf (IsOutOfPlaceAt kept (tree_of kept highest) c.args.root) found in
    let is = c.in_ok-first.ensures ∙ ap (λ (o : Option WrongValue). soonest_of o (wrongs_behind facts [] c.args.leaves.now)) c.missing_root-missing.ensures in
    subst P (sym is) (place_first c.args.leaves.now facts c.args.root c.in_ok-facts.ensures kept highest h)
