use Rattle.std.proofs.Common.{sym, subst, ◌∙◌, Option}
use Rattle.std.specs.Prelude.{All, IfNone}
use Rattle.leaf_map.specs.Shown.{tree_of}
use Rattle.sound_image.specs.Tree.{ShowsItsNode}
use Rattle.sound_image.specs.Wrong.{Wrong}
use Rattle.image_check.specs.FirstLaws.{first_of_both}
use Rattle.image_check.specs.WrongValues.{IsFirstOf}
use Rattle.image_check.specs.declared.wrong_value.WrongValue.{WrongValue}
use Rattle.shown_leaves.specs.Sources.{AreSourced, IsUnlikeIn}
use Rattle.tree_check.specs.Places.{IsOutOfPlaceAt}
use Rattle.tree_check.specs.Told.{AreShownBy}
use Rattle.image_tree.specs.Trees.{AreWellPlaced, IsWrongPlaced}
use Rattle.image_tree.proofs.Members.{none_wrong, right_both}
use Rattle.image_tree.proofs.tree.wrong_kept.Goals as goal

pub returns-clause-first : goal.returns-clause-first
returns-clause-first g c xs highest s =
    let old = g.V.Volume.state c.args.volume.now in
    let tree = tree_of xs highest in
    let there = subst (AreSourced old.holds xs) (sym (c.as_slice.ensures.value ∙ c.in_ok-leaves.ensures)) s in
    let shows = subst (AreShownBy xs) (sym c.as_slice-2.ensures.value) (c.in_ok-shown.ensures.shown xs there) in
    subst (IsFirstOf (IsWrongPlaced old.holds xs tree c.args.root)) (sym c.sooner.ensures)
    (first_of_both (IsUnlikeIn old.holds xs) (IsOutOfPlaceAt xs tree c.args.root) c.in_ok-shown.shown.unlike c.in_ok-misplaced.misplaced (c.in_ok-shown.ensures.unlike xs there) (c.in_ok-misplaced.ensures xs highest shows))

pub returns-clause-right : goal.returns-clause-right
returns-clause-right g c xs highest s =
    let old = g.V.Volume.state c.args.volume.now in
    let tree = tree_of xs highest in
    let there = subst (AreSourced old.holds xs) (sym (c.as_slice.ensures.value ∙ c.in_ok-leaves.ensures)) s in
    let shows = subst (AreShownBy xs) (sym c.as_slice-2.ensures.value) (c.in_ok-shown.ensures.shown xs there) in
    subst (λ (o : Option WrongValue). IfNone o (AreWellPlaced old.holds xs tree)) (sym c.sooner.ensures)
    (right_both c.in_ok-shown.shown.unlike c.in_ok-misplaced.misplaced (All (ShowsItsNode old.holds) xs) ((at : Wrong) → IsOutOfPlaceAt xs tree c.args.root at → ⊥) (AreWellPlaced old.holds xs tree)
    (λ all none. record { shown = all; in_place = c.nothing_misplaced_means_in_place.ensures xs highest c.args.root none })
    (c.in_ok-shown.ensures.all xs there) (none_wrong (IsOutOfPlaceAt xs tree c.args.root) c.in_ok-misplaced.misplaced (c.in_ok-misplaced.ensures xs highest shows)))
