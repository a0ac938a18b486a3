use Rattle.std.proofs.Common.{ℕ, List, Option, ◌∙◌, ap, sym, subst}
use Rattle.std.proofs.Math.Path.{fun_ext}
use Rattle.std.specs.Prelude.{IfNone}
use Rattle.leaf_map.specs.Lost.{empty_names}
use Rattle.leaf_map.specs.Recovered.{leaves_found, recovered_of, tree_found}
use Rattle.leaf_recovery.specs.Repeated.{repeated_leaves}
use Rattle.sound_image.specs.Breaches.{IsWrongInTree}
use Rattle.sound_image.specs.Image.{parts_of}
use Rattle.sound_image.specs.Tree.{HasTree}
use Rattle.image_check.specs.WrongValues.{IsFirstOf, sooner_of}
use Rattle.image_check.specs.declared.wrong_value.WrongValue.{WrongValue}
use Rattle.image_tree.specs.Trees.{AreWellPlaced, IsWrongPlaced}
use Rattle.image_tree.proofs.NamedLeaves.{empty_named}
use Rattle.image_tree.proofs.Sourcing.{kept_sourced, nodes_there, repeated_sourced}
use Rattle.image_tree.proofs.StandingNodes.{StandingLaws}
use Rattle.image_tree.proofs.WholeTree.{tree_first, tree_right}
use Rattle.image_tree.proofs.tree.find_wrong.Goals as goal

pub returns-clause-shown : goal.returns-clause-shown
returns-clause-shown g c image s r =
    let old = g.V.Volume.state c.args.volume.now in
    let laws : StandingLaws = record { nodes = c.what_was_read_stands.ensures.nodes; copies = c.what_was_read_stands.ensures.copies; grammar = c.what_was_read_stands.ensures.grammar } in
    let read = c.args.read.now in
    let same = fun_ext c.in_ok-repeated.ensures.keeps.0.holds ∙ fun_ext c.in_ok-nodes.ensures.keeps.0.holds in
    let two = g.V.Volume.state c.wrong_repeated.new.volume in
    c.in_ok-kept.ensures.shown (recovered_of (parts_of image)).kept (kept_sourced laws old.holds c.args.leaves.now c.args.references.now c.args.journal.now image read s r two.holds c.as_slice-3.result.now same c.as_slice-3.ensures.value)

pub returns-clause-first : goal.returns-clause-first
returns-clause-first g c image s r =
    let old = g.V.Volume.state c.args.volume.now in
    let laws : StandingLaws = record { nodes = c.what_was_read_stands.ensures.nodes; copies = c.what_was_read_stands.ensures.copies; grammar = c.what_was_read_stands.ensures.grammar } in
    let one = g.V.Volume.state c.wrong_node.new.volume in
    let two = g.V.Volume.state c.wrong_repeated.new.volume in
    let read = c.args.read.now in
    let master = c.args.master.now in
    let parts = parts_of image in
    let kept = (recovered_of parts).kept in
    let same_one = fun_ext c.in_ok-nodes.ensures.keeps.0.holds in
    let same_two = fun_ext c.in_ok-repeated.ensures.keeps.0.holds ∙ same_one in
    let told = nodes_there laws old.holds c.args.leaves.now c.args.references.now c.args.journal.now image read s r c.as_slice.result.now c.as_slice.ensures.value in
    let here_again = repeated_sourced laws old.holds c.args.leaves.now c.args.references.now c.args.journal.now image read s r one.holds c.as_slice-2.result.now same_one c.as_slice-2.ensures.value in
    let here_kept = kept_sourced laws old.holds c.args.leaves.now c.args.references.now c.args.journal.now image read s r two.holds c.as_slice-3.result.now same_two c.as_slice-3.ensures.value in
    let empties = empty_named c.as_slice-4.result.now (empty_names parts) c.first_empty-empty.result (c.as_slice-4.ensures.value ∙ r.recovered.empty) c.first_empty-empty.ensures in
    let P : (ℕ → List ℕ) → Type 0 = λ holds. IsFirstOf (IsWrongPlaced holds kept (tree_found parts) (master.root_lnum, master.root_offs)) c.in_ok-kept.kept.wrong in
    let placed = subst P same_two (c.in_ok-kept.ensures.first kept (recovered_of parts).highest here_kept) in
    let n = c.in_ok-nodes.nodes in
    let k = c.in_ok-kept.kept.wrong in
    subst (IsFirstOf (IsWrongInTree old.holds master parts))
    (sym (c.sooner-2.ensures ∙ ap (λ (o : Option WrongValue). sooner_of o k) c.sooner.ensures ∙ ap (λ (o : Option WrongValue). sooner_of (sooner_of n o) k) c.sooner-others.ensures))
    (tree_first old.holds master parts n c.in_ok-repeated.repeated c.first_empty-empty.result k (c.in_ok-nodes.ensures.first parts told) (c.in_ok-repeated.ensures.first (repeated_leaves (leaves_found parts)) here_again) empties placed)

pub returns-clause-right : goal.returns-clause-right
returns-clause-right g c image s r =
    let old = g.V.Volume.state c.args.volume.now in
    let laws : StandingLaws = record { nodes = c.what_was_read_stands.ensures.nodes; copies = c.what_was_read_stands.ensures.copies; grammar = c.what_was_read_stands.ensures.grammar } in
    let one = g.V.Volume.state c.wrong_node.new.volume in
    let two = g.V.Volume.state c.wrong_repeated.new.volume in
    let read = c.args.read.now in
    let master = c.args.master.now in
    let parts = parts_of image in
    let kept = (recovered_of parts).kept in
    let same_one = fun_ext c.in_ok-nodes.ensures.keeps.0.holds in
    let same_two = fun_ext c.in_ok-repeated.ensures.keeps.0.holds ∙ same_one in
    let told = nodes_there laws old.holds c.args.leaves.now c.args.references.now c.args.journal.now image read s r c.as_slice.result.now c.as_slice.ensures.value in
    let here_again = repeated_sourced laws old.holds c.args.leaves.now c.args.references.now c.args.journal.now image read s r one.holds c.as_slice-2.result.now same_one c.as_slice-2.ensures.value in
    let here_kept = kept_sourced laws old.holds c.args.leaves.now c.args.references.now c.args.journal.now image read s r two.holds c.as_slice-3.result.now same_two c.as_slice-3.ensures.value in
    let empties = empty_named c.as_slice-4.result.now (empty_names parts) c.first_empty-empty.result (c.as_slice-4.ensures.value ∙ r.recovered.empty) c.first_empty-empty.ensures in
    let P : (ℕ → List ℕ) → Type 0 = λ holds. IfNone c.in_ok-kept.kept.wrong (AreWellPlaced holds kept (tree_found parts)) in
    let placed = subst P same_two (c.in_ok-kept.ensures.right kept (recovered_of parts).highest here_kept) in
    let n = c.in_ok-nodes.nodes in
    let k = c.in_ok-kept.kept.wrong in
    subst (λ (o : Option WrongValue). IfNone o (HasTree old.holds parts))
    (sym (c.sooner-2.ensures ∙ ap (λ (o : Option WrongValue). sooner_of o k) c.sooner.ensures ∙ ap (λ (o : Option WrongValue). sooner_of (sooner_of n o) k) c.sooner-others.ensures))
    (tree_right old.holds master parts n c.in_ok-repeated.repeated c.first_empty-empty.result k (c.in_ok-nodes.ensures.right parts told) (c.in_ok-repeated.ensures.first (repeated_leaves (leaves_found parts)) here_again) empties placed)
