use Rattle.std.proofs.Common.{ap, subst, ◌∙◌}
use Rattle.ubifs_base.specs.RawOf.{raw_of}
use Rattle.ubifs_base.specs.declared.raw_geometry.RawGeometry.{RawGeometry}
use Rattle.ubifs_base.specs.GeometryFaults.{IsFirstOut, tested_fields}
use Rattle.ubi_volume.specs.MemVolume.{state_of}
use Rattle.ubi_volume.specs.Volume.{image_of}
use Rattle.ubifs_tools.specs.Pieces.{volume_image}
use Rattle.ubifs_tools.proofs.Imaging.{lebs_of}
use Rattle.ubifs_tools.proofs.Making.{packed_has, told_packed}
use Rattle.ubifs_tools.proofs.mkfs.packed_image.Goals as goal

pub returns-in-Err : goal.returns-in-Err
returns-in-Err c =
    let P : RawGeometry → Type 0 = λ g. IsFirstOut g tested_fields c.in-Err.fault in
    (c.in-Err.fault, subst P c.in_ok-raw.ensures c.in-Err.ensures.first, c.in_ok-line-in-Err.ensures)

pub make_packed-requires-clause-small : goal.make_packed-requires-clause-small
make_packed-requires-clause-small c = ap (λ (g : RawGeometry). g.big) (c.in-Ok.ensures.fields ∙ c.in_ok-raw.ensures) ∙ c.requires.small

pub make_packed-requires-clause-lebs : goal.make_packed-requires-clause-lebs
make_packed-requires-clause-lebs c =
    packed_has (raw_of c.args.geometry.now) (raw_of c.in-Ok.geometry) c.args.tree.now (c.in-Ok.ensures.fields ∙ c.in_ok-raw.ensures)

pub returns-in_ok-text-in-Ok-make_packed : goal.returns-in_ok-text-in-Ok-make_packed
returns-in_ok-text-in-Ok-make_packed c =
    told_packed (raw_of c.args.geometry.now) (raw_of c.in-Ok.geometry) c.args.tree.now c.in_ok-text-in-Ok-make_packed.text.items (volume_image c.make_packed.new.volume) (c.in-Ok.ensures.fields ∙ c.in_ok-raw.ensures) (record {
      holds = (state_of c.make_packed.new.volume).holds;
      made = c.in-Ok-make_packed.ensures.made;
      lebs = lebs_of c.make_packed.new.volume (raw_of c.in-Ok.geometry) (c.in-Ok-make_packed.ensures.shape.leb_size ∙ c.in_ok-volume.ensures.leb_size) (c.in-Ok-make_packed.ensures.shape.leb_cnt ∙ c.in_ok-volume.ensures.leb_cnt);
      image_is = ap (λ n. image_of (state_of c.make_packed.new.volume).holds n) (c.in-Ok-make_packed.ensures.shape.leb_cnt ∙ c.in_ok-volume.ensures.leb_cnt);
      told_is = c.in_ok-text-in-Ok-make_packed.ensures;
    })
