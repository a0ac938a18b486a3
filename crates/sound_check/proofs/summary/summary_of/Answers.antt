use Rattle.std.proofs.Common.{◌≡◌, ◌∙◌, List, length, map, ap}
use Rattle.std.proofs.lemmas.Result.{IfOk-at_ok}
use Rattle.fs_model.specs.declared.space.Space.{Space}
use Rattle.leaf_recovery.specs.declared.recovered_leaf.RecoveredLeaf.{RecoveredLeaf}
use Rattle.sound_image.specs.Summary.{space_of_image}
use Rattle.sound_check.proofs.Told.{told_space, told_whole}
use Rattle.sound_check.proofs.summary.summary_of.Goals as goal

pub returns : goal.returns
returns c = λ contents image sound h.
    let read = c.args.read.now in
    let leaves = c.as_slice-4.ensures.value ∙ c.in_ok-leaves.ensures ∙ ap (λ (rs : List RecoveredLeaf). map (λ x. x.leaf) rs) c.as_slice.ensures.value in
    let nodes = c.as_slice-nodes.ensures.value in
    let told = told_space contents read image sound h c.as_slice-2.result.now c.as_slice-3.result.now c.as_slice-4.result.now (length c.as_slice-nodes.result.now) c.as_slice-2.ensures.value c.as_slice-3.ensures.value leaves (ap length nodes) in
    let space = IfOk-at_ok (λ (s : Space). s ≡ space_of_image image) c.in_ok-space.was (c.space_of.ensures.space image told) in
    told_whole (record { clean = read.buds.clean; space = c.in_ok-space.space }) image h.clean space
