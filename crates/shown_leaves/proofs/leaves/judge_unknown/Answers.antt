use Rattle.std.proofs.Common.{Some, true, ◌∙◌, ap, refl, sym, subst}
use Rattle.std.specs.Prelude.{IfNone}
use Rattle.leaf_map.specs.Kept.{shown}
use Rattle.media_leaf.specs.LeafNode.{LeafNode}
use Rattle.sound_image.specs.Tree.{ShowsItsNode}
use Rattle.image_check.specs.WrongValues.{IsFirstOf}
use Rattle.tree_check.specs.Told.{IsShownBy, shown_told}
use Rattle.shown_leaves.specs.Sources.{HasSource, IsUnlike}
use Rattle.shown_leaves.specs.declared.leaves.JudgedLeaf.{JudgedLeaf}
use Rattle.shown_leaves.proofs.JudgedLeaves.{in_place, judged_is, source_here}
use Rattle.shown_leaves.proofs.leaves.judge_unknown.Goals as goal

pub returns-clause-judged : goal.returns-clause-judged
returns-clause-judged g c x sourced =
    let old = g.V.Volume.state c.args.volume.now in
    let leaf = c.args.leaf.now in
    let here = source_here leaf c.in-Some.source (sym c.source_in_place.ensures ∙ c.in-Some.is) in
    let from : HasSource old.holds x (Some c.in-Some.source) = subst (HasSource old.holds x) here.1 sourced.source in
    let shows = ap (λ (n : LeafNode). shown_told (shown n)) (sym from.3) ∙ c.in_ok-shown.ensures.shown from.0 from.1 from.2 in
    let j = judged_is old.holds x leaf c.in_ok-shown.shown true sourced.is shows ((λ yes. in_place old.holds x leaf here.0 sourced), (λ stands. refl)) in
    let P : JudgedLeaf → Type 0 = λ r. IsShownBy x r.leaf × IsFirstOf (IsUnlike old.holds x) r.unlike × IfNone r.unlike (ShowsItsNode old.holds x) in
    subst P (sym c.judged.ensures) (j.shows, j.first, j.right)
