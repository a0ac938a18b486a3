use Rattle.std.proofs.Common.{refl, sym, subst, ◌∙◌, inl, inr, arith}
use Rattle.ubifs_base.specs.GeometryFaults.{IsFirstOut, tested_fields}
use Rattle.ubifs_base.specs.declared.raw_geometry.RawGeometry.{RawGeometry}
use Rattle.image_dump.proofs.Faulty.{no_super, begins_of}
use Rattle.image_dump.proofs.opening.geometry_in.Goals as goal

pub returns-in_default-clause-fault : goal.returns-in_default-clause-fault
returns-in_default-clause-fault c =
    let few = c.if-image-lt4096.false in
    (omega (arith, few), inl (no_super c.args.image.now c.split_at.result.0.now c.split_at.ensures.front c.in_default.ensures.none, refl))

pub returns-in-Err-clause-fault : goal.returns-in-Err-clause-fault
returns-in-Err-clause-fault c =
    let few = c.if-image-lt4096.false in
    let begins = begins_of c.args.image.now c.split_at.result.0.now c.in-Some.node (omega (arith, few)) c.split_at.ensures.front c.in-Some.ensures.some in
    let P : RawGeometry → Type 0 = λ g. IsFirstOut g tested_fields c.in-Err.fault in
    (omega (arith, few), inr (c.in-Some.node, begins, sym c.feature.ensures ∙ c.in_default-feature.is, (c.in-Err.fault, subst P c.raw.ensures c.in-Err.ensures.first, c.super_field.ensures)))
