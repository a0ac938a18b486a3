use Rattle.std.proofs.Common.{refl, sym, subst, ◌∙◌, inl, inr, arith}
use Rattle.ubifs_base.specs.GeometryFaults.{IsFirstOut, tested_fields}
use Rattle.ubifs_base.specs.declared.raw_geometry.RawGeometry.{RawGeometry}
use Rattle.image_check.proofs.Supers.{no_super, begins_of}
use Rattle.image_check.proofs.superblock.geometry_in.Goals as goal

pub returns-then-leb-lt4096-clause-broken : goal.returns-then-leb-lt4096-clause-broken
returns-then-leb-lt4096-clause-broken c =
    let few = c.if-leb-lt4096.true in
    inl (λ node begins. let room = begins.room in absurd (omega (arith, few, room)), refl)

pub returns-in_default-clause-broken : goal.returns-in_default-clause-broken
returns-in_default-clause-broken c = inl (no_super c.args.leb.now c.split_at.result.0.now c.split_at.ensures.front c.in_default.ensures.none, refl)

pub returns-in-Err-clause-broken : goal.returns-in-Err-clause-broken
returns-in-Err-clause-broken c =
    let few = c.if-leb-lt4096.false in
    let begins = begins_of c.args.leb.now c.split_at.result.0.now c.in-Some.node (omega (arith, few)) c.split_at.ensures.front c.in-Some.ensures.some in
    let P : RawGeometry → Type 0 = λ g. IsFirstOut g tested_fields c.in-Err.fault in
    inr (c.in-Some.node, begins, sym c.feature.ensures ∙ c.in_default-feature.is, (c.in-Err.fault, subst P c.raw.ensures c.in-Err.ensures.first, c.super_field.ensures))
