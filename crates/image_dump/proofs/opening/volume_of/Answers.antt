use Rattle.std.proofs.Common.{subst, sym}
use Rattle.ubifs_base.specs.RawOf.{raw_of}
use Rattle.image_dump.specs.declared.fault.ImageFault.{ImageFault}
use Rattle.image_dump.specs.Opening.{IsFaulty}
use Rattle.image_dump.proofs.Faulty.{misfit}
use Rattle.image_dump.proofs.opening.volume_of.Goals as goal

pub returns-in-Err-clause-fault : goal.returns-in-Err-clause-fault
returns-in-Err-clause-fault c =
    let P : ImageFault → Type 0 = λ f. IsFaulty c.args.image.now f in
    subst P (sym c.fault_told.ensures) (misfit c.args.image.now (raw_of c.args.geometry.now) c.in-Err.fault c.requires c.in-Err.ensures.fault)
