use Rattle.std.proofs.Common.{◌≡◌, ◌∙◌, ap, sym, subst}
use Rattle.std.specs.Prelude.{IfNone}
use Rattle.std.specs.Option.{option_map}
use Rattle.sound_image.specs.Tree.{ShowsItsNode}
use Rattle.media_leaf.specs.LeafNode.{LeafNode}
use Rattle.leaf_map.specs.Kept.{shown}
use Rattle.image_check.specs.WrongValues.{IsFirstOf}
use Rattle.tree_check.specs.Told.{IsShownBy, shown_told}
use Rattle.shown_leaves.specs.Sources.{IsUnlike}
use Rattle.shown_leaves.specs.Stored.{leaf_node}
use Rattle.shown_leaves.specs.declared.leaves.JudgedLeaf.{JudgedLeaf}
use Rattle.shown_leaves.proofs.JudgedLeaves.{judged_is, some_same, sourced_moved, stands_moved}
use Rattle.shown_leaves.proofs.leaves.judge_read.Goals as goal

pub returns-in_default-clause-judged : goal.returns-in_default-clause-judged
returns-in_default-clause-judged g c x sourced = let e = sym (ap (option_map leaf_node) c.in_default.is) ∙ c.in_ok-node.ensures.node x sourced in absurd cc

pub returns-clause-judged : goal.returns-clause-judged
returns-clause-judged g c x sourced =
    let old = g.V.Volume.state c.args.volume.now in
    let now = g.V.Volume.state c.source_node.new.volume in
    let kept = c.source_node.ensures.keeps.holds in
    let named : leaf_node c.in-Some.node ≡ x.node = some_same (leaf_node c.in-Some.node) x.node (sym (ap (option_map leaf_node) c.in-Some.is) ∙ c.in_ok-node.ensures.node x sourced) in
    let tests = c.in_ok-stands.ensures.stands x (sourced_moved old.holds now.holds kept x c.args.leaf.now sourced) named in
    let j = judged_is old.holds x c.args.leaf.now c.shown_of.result c.in_ok-stands.stands sourced.is (ap (λ (n : LeafNode). shown_told (shown n)) (sym named) ∙ c.shown_of.ensures) (
      (λ yes. stands_moved now.holds old.holds (λ k. sym (kept k)) x.leaf x.node (tests.0 yes)),
      (λ stands. tests.1 (stands_moved old.holds now.holds kept x.leaf x.node stands)),
    ) in
    let P : JudgedLeaf → Type 0 = λ r. IsShownBy x r.leaf × IsFirstOf (IsUnlike old.holds x) r.unlike × IfNone r.unlike (ShowsItsNode old.holds x) in
    subst P (sym c.judged-2.ensures) (j.shows, j.first, j.right)
