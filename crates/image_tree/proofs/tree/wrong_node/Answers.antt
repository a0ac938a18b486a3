use Rattle.std.proofs.Common.{◌⊎◌, List, Option, ◌∙◌, ap, sym, subst}
use Rattle.std.specs.Prelude.{IfNone}
use Rattle.journal_scan.specs.declared.journal_node.JournalNode.{JournalNode}
use Rattle.sound_image.specs.Breaches.{IsCommittedTwice, IsWrongNode}
use Rattle.sound_image.specs.Wrong.{Wrong}
use Rattle.image_check.specs.WrongValues.{IsFirstOf, sooner_of}
use Rattle.image_check.specs.declared.wrong_value.WrongValue.{WrongValue}
use Rattle.shown_leaves.specs.Copies.{ArePartsTold}
use Rattle.image_tree.specs.Trees.{HasPartNodes}
use Rattle.image_tree.proofs.NodeParts.{nodes_first, nodes_right}
use Rattle.image_tree.proofs.tree.wrong_node.Goals as goal

pub returns-clause-first : goal.returns-clause-first
returns-clause-first g c parts h =
    let old = g.V.Volume.state c.args.volume.now in
    let u = c.first_unchanging-unchanging.result in
    let t = c.in_ok-twice.twice in
    let P : Wrong → Type 0 = λ at. IsWrongNode parts at ⊎ IsCommittedTwice parts at in
    let T : List JournalNode → Type 0 = λ js. ArePartsTold old.holds parts c.args.references.now c.args.committed.now js in
    let there = subst T (sym c.as_slice-2.ensures.value) h.parts_told in
    subst (IsFirstOf P) (sym (c.sooner-2.ensures ∙ ap (λ (o : Option WrongValue). sooner_of o t) c.sooner.ensures))
    (nodes_first parts u c.in_ok-copies.copies t (c.wrong_nodes_are_of_two_kinds.ensures.of parts) (c.wrong_nodes_are_of_two_kinds.ensures.to parts)
    (c.first_unchanging-unchanging.ensures.first parts.nodes h.leaf_nodes (c.as_slice.ensures.value ∙ h.nodes_told)) (c.in_ok-copies.ensures.first parts there) (c.in_ok-twice.ensures.first parts h.leaves_are))

pub returns-clause-right : goal.returns-clause-right
returns-clause-right g c parts h =
    let old = g.V.Volume.state c.args.volume.now in
    let u = c.first_unchanging-unchanging.result in
    let t = c.in_ok-twice.twice in
    let T : List JournalNode → Type 0 = λ js. ArePartsTold old.holds parts c.args.references.now c.args.committed.now js in
    let there = subst T (sym c.as_slice-2.ensures.value) h.parts_told in
    subst (λ (o : Option WrongValue). IfNone o (HasPartNodes parts)) (sym (c.sooner-2.ensures ∙ ap (λ (o : Option WrongValue). sooner_of o t) c.sooner.ensures))
    (nodes_right parts u c.in_ok-copies.copies t
    (c.first_unchanging-unchanging.ensures.first parts.nodes h.leaf_nodes (c.as_slice.ensures.value ∙ h.nodes_told)) (c.in_ok-copies.ensures.copies parts there) (c.in_ok-twice.ensures.first parts h.leaves_are))
