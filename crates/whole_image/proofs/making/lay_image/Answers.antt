use Rattle.ubifs_base.specs.RawOf.{raw_of}
use Rattle.ubi_volume.specs.MemVolume.{state_of}
use Rattle.whole_image.proofs.Whole.{is_made}
use Rattle.whole_image.proofs.making.lay_image.Goals as goal

pub returns-clause-made : goal.returns-clause-made
returns-clause-made c =
    let held = c.in_ok-filling.ensures.laid in
    is_made (record { sound = c.a_laid_image_is_sound.ensures.sound; tree = c.a_laid_image_is_sound.ensures.tree; leaves = c.a_laid_image_is_sound.ensures.leaves; shown = c.live_nodes_are_laid_as_their_tree.ensures.tree })
    (raw_of c.args.geometry.now) c.args.uuid.now c.args.tree.now c.requires.proper c.in_ok-filling.filling.main (state_of c.fill_main.new.volume) held
    (state_of c.finish_image.new.volume).holds c.in_ok-filling.filling.sqnum (c.in_ok-finish_image.ensures.made held.placed held.nodes held.indexed)
