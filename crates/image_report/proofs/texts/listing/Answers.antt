use Rattle.std.specs.Prelude.{Err}
use Rattle.std.proofs.Common.{List, ℕ, ◌++◌, ap, ◌∙◌, inl, inr, subst}
use Rattle.ubifs_base.specs.RawOf.{raw_of}
use Rattle.ubi_volume.specs.Faults.{IsNotVolume}
use Rattle.ubi_volume.specs.declared.fault.AreaFault.{AreaFault}
use Rattle.image_volume.specs.ImageVolumeLaws.{never_spent}
use Rattle.image_report.proofs.Contents.{listed_of}
use Rattle.image_report.proofs.texts.listing.Goals as goal

pub unreachable-requires : goal.unreachable-requires
unreachable-requires c =
    let P : AreaFault → Type 0 = λ fault. IsNotVolume {T = Unit {0}} (Err fault) in
    elim (c.in-Err-Volume.ensures.sure c.requires.loaded.found.sure) [
      | inl gone ↦ never_spent c.args.opened.volume c.dump.new.volume c.requires.loaded.found.sure c.in-Err-Volume.ensures.shape c.in-Err-Volume.ensures.keeps gone
      | inr is ↦ subst P c.in-Err-Volume.field-0-is is.1.1
    ]

pub returns-in-Ok : goal.returns-in-Ok
returns-in-Ok c =
    let listed = c.in-Ok.ensures.listed in
    listed_of c.args.bytes.now (raw_of c.args.opened.geometry) c.args.opened.volume c.dump.new.out.items listed.0 c.requires.loaded listed.1
    (listed.2 ∙ ap (λ (t : List ℕ). t ++ listed.0) c.new-text.ensures.items)
