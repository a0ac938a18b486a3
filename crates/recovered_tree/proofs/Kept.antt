-- A volume that is only read.
use Rattle.std.proofs.Common.{◌≡◌, ℕ, Result, Ok, Err, inl, inr, sym, subst}
use Rattle.std.specs.Result.{IsErrAnd}
use Rattle.ubifs_base.specs.Faults.{IsCause-before}
use Rattle.ubi_volume.specs.Faults.{HasAreaCause, StaysSureArea}
use Rattle.ubi_volume.specs.Volume.{VolumeState, Keeps, SameShape}
use Rattle.ubi_volume.specs.VolumeLaws.{Keeps-then, SameShape-then}
use Rattle.ubi_volume.specs.declared.fault.AreaFault.TheVariants as area
use Rattle.image_check.specs.KeptLaws.{IsKept, sure_of_area, kept_next}
use Rattle.image_check.specs.declared.fault.CheckFault.{CheckFault}
use Rattle.image_check.specs.declared.fault.CheckFault.TheVariants.{Memory, Volume}
use Rattle.sound_check.specs.Calls.{ReadsOnly}

-- ---- a check, and a call behind it
pub kept_check : {T : Type 0} (old now : VolumeState) (x : T) → ReadsOnly old now (Ok x) → IsKept old now
kept_check old now x h = record {
  keeps = h.keeps;
  shape = h.shape;
  count = h.cause;
  sure = λ sure. elim (h.sure sure) [ inl gone ↦ inl gone | inr fine ↦ inr (fine.0, fine.1.0) ];
}

-- what succeeded
pub reads_ok : {S T : Type 0} (a b c : VolumeState) (y : S) (x : T) → IsKept a b → Keeps b c × SameShape b c → HasAreaCause {T = S} b.faults c.faults (Ok y) → StaysSureArea {T = S} b c (Ok y) → ReadsOnly a c (Ok x)
reads_ok {S} a b c y x kept keeps cause stays =
    let all = kept_next a b c kept keeps.0 keeps.1 cause (sure_of_area {T = S} b c (Ok y) stays) in
    record { keeps = all.keeps; shape = all.shape; cause = all.count; sure = λ sure. elim (all.sure sure) [ inl gone ↦ inl gone | inr fine ↦ inr (fine.0, (fine.1, tt)) ] }

-- want of memory
pub reads_memory : (S : Type 0) {T : Type 0} (a b c : VolumeState) → IsKept a b → Keeps b c × SameShape b c → HasAreaCause {T = S} b.faults c.faults (Err area.Memory) → StaysSureArea {T = S} b c (Err area.Memory) → ReadsOnly {T = T} a c (Err Memory)
reads_memory S a b c kept keeps cause stays =
    let all = kept_next a b c kept keeps.0 keeps.1 cause (sure_of_area {T = S} b c (Err area.Memory) stays) in
    record { keeps = all.keeps; shape = all.shape; cause = all.count; sure = λ sure. elim (all.sure sure) [ inl gone ↦ inl gone | inr fine ↦ inr (fine.0, (fine.1, tt)) ] }

-- a fault of the volume
pub reads_volume : (S : Type 0) {T : Type 0} (a b c : VolumeState) (count : ℕ) → IsKept a b → Keeps b c × SameShape b c → HasAreaCause {T = S} b.faults c.faults (Err (area.Volume count)) → StaysSureArea {T = S} b c (Err (area.Volume count)) → ReadsOnly {T = T} a c (Err (Volume count))
reads_volume S a b c count kept keeps cause stays = record {
  keeps = Keeps-then a b c kept.keeps keeps.0;
  shape = SameShape-then a b c kept.shape keeps.1;
  cause = IsCause-before a.faults b.faults c.faults count kept.count cause;
  sure = λ sure. elim (kept.sure sure) [
    | inl gone ↦ inl (keeps.0.spent gone)
    | inr still ↦ elim (stays still.0) [ inl gone ↦ inl gone | inr fine ↦ absurd fine.1.1 ]
  ];
}

-- ---- the exit of a question mark, which hands the fault on
pub exit_reads : (S : Type 0) {T : Type 0} (old now : VolumeState) (fault : CheckFault) (r : Result T CheckFault) → IsErrAnd r (λ y. y ≡ fault) → ReadsOnly {T = S} old now (Err fault) → ReadsOnly old now r
exit_reads S old now fault (Ok x) e h = absurd e
exit_reads S {T} old now fault (Err y) e h =
    let P : CheckFault → Type 0 = λ f. ReadsOnly {T = T} old now (Err f) in
    subst P (sym e) (record { keeps = h.keeps; shape = h.shape; cause = h.cause; sure = h.sure })

-- ---- contents
-- contents that are alike LEB by LEB are the same
pub kept_holds : (old now : VolumeState) → Keeps old now → now.holds ≡ old.holds
kept_holds old now keeps = λ i k. keeps.holds k i
