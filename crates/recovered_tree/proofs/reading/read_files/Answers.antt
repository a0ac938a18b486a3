use Rattle.std.proofs.Common.{◌∙◌, List, map, ap}
use Rattle.std.proofs.lemmas.List.Elements.{recursion_from_All}
use Rattle.leaf_map.specs.Recovered.{recovered_of}
use Rattle.leaf_recovery.specs.declared.recovered_leaf.RecoveredLeaf.{RecoveredLeaf}
use Rattle.sound_image.specs.Image.{parts_of}
use Rattle.sound_image.specs.Tree.{ShowsItsNode}
use Rattle.recovered_tree.proofs.KeyNumbers.{highest_is}
use Rattle.recovered_tree.proofs.SetsSoFar.{places_same}
use Rattle.recovered_tree.proofs.TreeMade.{files_are}
use Rattle.recovered_tree.proofs.reading.read_files.Goals as goal

pub returns-clause-files : goal.returns-clause-files
returns-clause-files g c image sound h proper =
    let contents = (g.V.Volume.state c.args.volume.now).holds in
    let parts = parts_of image in
    let kept = (recovered_of parts).kept in
    let read = c.args.read.now in
    let leaves = c.as_slice-2.ensures.value ∙ c.in_ok-leaves.ensures ∙ ap (λ (rs : List RecoveredLeaf). map (λ r. r.leaf) rs) c.as_slice.ensures.value ∙ places_same parts kept read.tree.recovered.kept.items h.tree.recovered.kept in
    let stand = recursion_from_All (ShowsItsNode contents) kept sound.tree.shown in
    let sets = c.in_ok-sets.ensures.sets kept leaves stand in
    let high = c.highest_of.ensures ∙ highest_is contents read image sound h in
    files_are kept (recovered_of parts).highest c.highest_of.result c.in_ok-sets.sets.inodes.items c.in_ok-sets.sets.others.items c.in_ok-tree.tree proper high sets.inodes sets.others c.in_ok-tree.ensures
