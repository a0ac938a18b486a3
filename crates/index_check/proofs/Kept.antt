-- A volume that is only read.
use Rattle.std.proofs.Common.{ℕ, ◌≤◌, ◌∙◌, Ok, Err, inl, inr, arith}
use Rattle.ubifs_base.specs.Faults.{IsCause-before}
use Rattle.ubi_volume.specs.Volume.{VolumeState}
use Rattle.ubi_volume.specs.VolumeLaws.{Keeps-then, SameShape-then}
use Rattle.ubi_volume.specs.Faults.{HasAreaCause, IsNotVolume}
use Rattle.ubi_volume.specs.declared.fault.AreaFault.{AreaFault}
use Rattle.ubi_volume.specs.declared.fault.AreaFault.TheVariants as area
use Rattle.image_check.specs.KeptLaws.{IsKept}
use Rattle.index_check.specs.IndexWalk.{OnlyReads}

-- a call more that answered
pub kept_on : {T : Type 0} (old now new : VolumeState) (x : T) → IsKept old now → OnlyReads now new (Ok x) → IsKept old new
kept_on old now new x kept reads =
    let before = kept.count in
    let after = reads.cause in
    record {
      keeps = Keeps-then old now new kept.keeps reads.keeps;
      shape = SameShape-then old now new kept.shape reads.shape;
      count = omega (arith, before, after);
      sure = λ s. elim (kept.sure s) [
        | inl gone ↦ inl (reads.keeps.spent gone)
        | inr still ↦ elim (reads.sure still.0) [ inl gone ↦ inl gone | inr fine ↦ inr (fine.0, fine.1.0 ∙ still.1) ]
      ];
    }

-- an answer of its own
pub reads_ok : {T : Type 0} (old now : VolumeState) (x : T) → IsKept old now → OnlyReads old now (Ok x)
reads_ok old now x kept = record {
  keeps = kept.keeps;
  shape = kept.shape;
  cause = kept.count;
  sure = λ s. elim (kept.sure s) [ inl gone ↦ inl gone | inr still ↦ inr (still.0, (still.1, tt)) ];
}

fault_cause : (T U : Type 0) (a b c : ℕ) (fault : AreaFault) → a ≤ b → HasAreaCause {T = T} b c (Err fault) → HasAreaCause {T = U} a c (Err fault)
fault_cause T U a b c area.Memory le h = omega (arith, le, h)
fault_cause T U a b c (area.Volume count) le h = IsCause-before a b c count le h

fault_sure : (T U : Type 0) (fault : AreaFault) → IsNotVolume {T = T} (Err fault) → IsNotVolume {T = U} (Err fault)
fault_sure T U area.Memory h = tt
fault_sure T U (area.Volume count) h = absurd h

-- a call more that failed
pub fault_on : (T U : Type 0) (old now new : VolumeState) (fault : AreaFault) → IsKept old now → OnlyReads {T = T} now new (Err fault) → OnlyReads {T = U} old new (Err fault)
fault_on T U old now new fault kept reads = record {
  keeps = Keeps-then old now new kept.keeps reads.keeps;
  shape = SameShape-then old now new kept.shape reads.shape;
  cause = fault_cause T U old.faults now.faults new.faults fault kept.count reads.cause;
  sure = λ s. elim (kept.sure s) [
    | inl gone ↦ inl (reads.keeps.spent gone)
    | inr still ↦ elim (reads.sure still.0) [ inl gone ↦ inl gone | inr fine ↦ inr (fine.0, (fine.1.0 ∙ still.1, fault_sure T U fault fine.1.1)) ]
  ];
}
