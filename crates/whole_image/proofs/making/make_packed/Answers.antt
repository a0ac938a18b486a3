use Rattle.std.proofs.Common.{subst}
use Rattle.ubifs_base.specs.RawOf.{raw_of}
use Rattle.whole_image.specs.Made.{IsOutOfLebs}
use Rattle.whole_image.specs.declared.make_fault.MakeFault.{MakeFault}
use Rattle.whole_image.proofs.Refusals.{packed_has_lebs}
use Rattle.whole_image.proofs.making.make_packed.Goals as goal

pub unreachable-requires : goal.unreachable-requires
unreachable-requires c =
    let geo = raw_of c.args.geometry.now in
    let fault = c.in-Err-Crowded in
    let P : MakeFault → Type 0 = λ f. IsOutOfLebs geo c.args.tree.now f in
    packed_has_lebs geo c.args.tree.now fault.field-0-0 fault.field-0-1 c.requires.lebs (subst P fault.field-0-is fault.ensures.refused)
