use Rattle.std.proofs.Common.{arith, subst, ◌∙◌, inl}
use Rattle.ubifs_base.specs.declared.raw_geometry.RawGeometry.{RawGeometry}
use Rattle.ubifs_base.specs.GeometryFaults.{IsFirstOut, tested_fields}
use Rattle.ubifs_base.specs.RawOf.{raw_of}
use Rattle.ubifs_tools.proofs.Making.{all_made, all_packed}
use Rattle.ubifs_tools.proofs.mkfs.make_volume.Goals as goal

pub returns-in-Err : goal.returns-in-Err
returns-in-Err c = λ files text is. record {
  volume = c.args.made.now.volume;
  tree = c.args.made.now.tree;
  is = is;
  why = inl (c.in-Err.fault, let P : RawGeometry → Type 0 = λ g. IsFirstOut g tested_fields c.in-Err.fault in subst P c.plain-raw.ensures c.in-Err.ensures.first, c.in_ok-line-in-Err.ensures);
}

pub returns-then-volume : goal.returns-then-volume
returns-then-volume c = λ files text is. all_packed c.packed_image.result files text c.args.made.now.volume c.args.made.now.tree (raw_of c.in-Ok.geometry) c.packed_image.ensures
    is c.requires.proper c.in-Ok.geometry.in_range (c.in-Ok.ensures.fields ∙ c.plain-raw.ensures) c.if-volume.true

pub returns : goal.returns
returns c = λ files text is. all_made c.admitted_image.result files text c.args.made.now.volume c.args.made.now.tree (raw_of c.in-Ok.geometry) c.admitted_image.ensures
    is c.requires.proper c.in-Ok.geometry.in_range (c.in-Ok.ensures.fields ∙ c.plain-raw.ensures) c.if-volume.false (omega arith)
