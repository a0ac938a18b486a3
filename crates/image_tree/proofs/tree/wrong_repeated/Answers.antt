use Rattle.std.proofs.Common.{sym, subst, ◌∙◌}
use Rattle.image_check.specs.WrongValues.{IsFirstOf}
use Rattle.shown_leaves.specs.Sources.{AreSourced}
use Rattle.tree_check.specs.Told.{AreShownBy}
use Rattle.image_tree.specs.Trees.{IsNamedIn}
use Rattle.image_tree.proofs.NamedLeaves.{named_first}
use Rattle.image_tree.proofs.tree.wrong_repeated.Goals as goal

pub returns-clause-first : goal.returns-clause-first
returns-clause-first g c kept s =
    let old = g.V.Volume.state c.args.volume.now in
    let there = subst (AreSourced old.holds kept) (sym (c.as_slice.ensures.value ∙ c.in_ok-leaves.ensures)) s in
    let shows = subst (AreShownBy kept) (sym c.as_slice-2.ensures.value) (c.in_ok-shown.ensures.shown kept there) in
    subst (IsFirstOf (IsNamedIn kept)) (sym c.first_named.ensures) (named_first kept c.as_slice-2.result.now shows)
