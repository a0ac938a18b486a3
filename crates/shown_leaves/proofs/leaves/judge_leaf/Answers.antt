use Rattle.std.proofs.Common.{Some, true, ◌∙◌, ap, refl, sym, subst}
use Rattle.std.specs.Prelude.{IfNone}
use Rattle.sound_image.specs.Tree.{ShowsItsNode}
use Rattle.image_check.specs.WrongValues.{IsFirstOf}
use Rattle.tree_check.specs.Told.{IsShownBy}
use Rattle.tree_check.specs.declared.shown_leaf.Shown.{Shown}
use Rattle.shown_leaves.specs.Sources.{IsKnownBlock, IsUnlike}
use Rattle.shown_leaves.specs.declared.leaves.JudgedLeaf.{JudgedLeaf}
use Rattle.shown_leaves.proofs.JudgedLeaves.{block_shown, in_place, judged_is, known_here}
use Rattle.shown_leaves.proofs.leaves.judge_leaf.Goals as goal

pub returns-in-Some-clause-judged : goal.returns-in-Some-clause-judged
returns-in-Some-clause-judged g c x sourced =
    let old = g.V.Volume.state c.args.volume.now in
    let leaf = c.args.leaf.now in
    let known = known_here leaf c.in-Some.known (sym c.known_in_place.ensures ∙ c.in-Some.is) in
    let shows = block_shown x.node c.in-Some.known (subst (IsKnownBlock x.node) known.1 sourced.known) ∙ ap (λ (s : Shown). Some s) (sym c.known_shown.ensures) in
    let j = judged_is old.holds x leaf c.known_shown.result true sourced.is shows ((λ yes. in_place old.holds x leaf known.0 sourced), (λ stands. refl)) in
    let P : JudgedLeaf → Type 0 = λ r. IsShownBy x r.leaf × IsFirstOf (IsUnlike old.holds x) r.unlike × IfNone r.unlike (ShowsItsNode old.holds x) in
    subst P (sym c.judged.ensures) (j.shows, j.first, j.right)
