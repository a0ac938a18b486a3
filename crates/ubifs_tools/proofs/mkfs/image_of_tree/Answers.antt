use Rattle.std.proofs.Common.{ap, arith, subst, ◌∙◌}
use Rattle.ubifs_base.specs.RawOf.{raw_of}
use Rattle.ubi_volume.specs.MemVolume.{state_of}
use Rattle.ubi_volume.specs.Volume.{image_of}
use Rattle.whole_image.specs.Made.{IsImageRefused}
use Rattle.whole_image.specs.declared.make_fault.MakeFault.{MakeFault}
use Rattle.ubifs_tools.proofs.Imaging.{lebs_of}
use Rattle.ubifs_tools.proofs.mkfs.image_of_tree.Goals as goal

pub unreachable-requires : goal.unreachable-requires
unreachable-requires c =
    let geo = raw_of c.args.geometry.now in
    let fault = c.in-Err-Full in
    let P : MakeFault → Type 0 = λ f. IsImageRefused geo c.args.tree.now f in
    let why = subst P fault.field-0-is fault.ensures.refused in
    let fits = c.an_admitted_tree_fits.ensures.full geo c.args.tree.now c.requires.admitted in
    let need = why.0 in
    let room = why.1 in
    let more = why.2 in
    omega (arith, fits, need, room, more)

pub unreachable-requires-in-Err-Crowded : goal.unreachable-requires-in-Err-Crowded
unreachable-requires-in-Err-Crowded c =
    let geo = raw_of c.args.geometry.now in
    let fault = c.in-Err-Crowded in
    let P : MakeFault → Type 0 = λ f. IsImageRefused geo c.args.tree.now f in
    c.an_admitted_tree_fits.ensures.crowded geo c.args.tree.now fault.field-0-0 fault.field-0-1 c.args.geometry.now.in_range c.requires.proper c.requires.admitted (subst P fault.field-0-is fault.ensures.refused)

pub returns-in_ok-text-in-Ok : goal.returns-in_ok-text-in-Ok
returns-in_ok-text-in-Ok c =
    let volume = c.make_image.new.volume in
    let size = c.in-Ok.ensures.shape.leb_size ∙ c.in_ok-volume.ensures.leb_size in
    let count = c.in-Ok.ensures.shape.leb_cnt ∙ c.in_ok-volume.ensures.leb_cnt in (
      c.requires.admitted,
      record {
        holds = (state_of volume).holds;
        made = c.in-Ok.ensures.made;
        lebs = lebs_of volume (raw_of c.args.geometry.now) size count;
        image_is = ap (λ n. image_of (state_of volume).holds n) count;
        told_is = c.in_ok-text-in-Ok.ensures;
      },
    )
