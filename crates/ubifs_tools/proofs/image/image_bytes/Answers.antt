use Rattle.std.proofs.Common.{◌∙◌, subst}
use Rattle.ubifs_base.specs.RawOf.{raw_of}
use Rattle.ubi_volume.specs.MemVolume.{state_of}
use Rattle.whole_image.specs.Made.{IsImageRefused}
use Rattle.whole_image.specs.declared.make_fault.MakeFault.{MakeFault}
use Rattle.ubifs_tools.proofs.Imaging.{lebs_of, whole_is_left}
use Rattle.ubifs_tools.proofs.image.image_bytes.Goals as goal

pub returns-in-Ok : goal.returns-in-Ok
returns-in-Ok c =
    let geo = raw_of c.args.geometry.now in
    let size = c.in-Ok.ensures.shape.leb_size ∙ c.in_ok-volume.ensures.leb_size in
    let count = c.in-Ok.ensures.shape.leb_cnt ∙ c.in_ok-volume.ensures.leb_cnt in
    whole_is_left (λ image. image.items) geo c.args.tree.now (state_of c.make_image.new.volume).holds (state_of c.make_image.new.volume).leb_cnt c.args.geometry.now.leb_cnt c.save_image.result
    c.save_image.ensures count c.in-Ok.ensures.made (lebs_of c.make_image.new.volume geo size count)

pub unreachable-requires : goal.unreachable-requires
unreachable-requires c =
    let geo = raw_of c.args.geometry.now in
    let fault = c.in-Err-Crowded in
    let P : MakeFault → Type 0 = λ f. IsImageRefused geo c.args.tree.now f in
    c.a_covered_tree_has_room.ensures.crowded geo c.args.tree.now fault.field-0-0 fault.field-0-1 c.args.geometry.now.in_range c.requires.proper c.requires.covered (subst P fault.field-0-is fault.ensures.refused)
