-- A volume that is read by one call after another.
use Rattle.std.proofs.Common.{◌≡◌, ◌≤◌, ◌∙◌, ℕ, Result, Ok, Err, inl, inr, sym, subst, arith}
use Rattle.std.specs.Prelude.{IfErr}
use Rattle.std.specs.Result.{IsErrAnd}
use Rattle.ubifs_base.specs.Faults.{IsCause-before}
use Rattle.ubi_volume.specs.Volume.{VolumeState, Keeps, SameShape}
use Rattle.ubi_volume.specs.VolumeLaws.{Keeps-then, SameShape-then}
use Rattle.image_check.specs.KeptLaws.{IsKept}
use Rattle.image_check.specs.Told.{HasCheckCause, IsNoVolumeFault, StaysSureCheck}
use Rattle.image_check.specs.declared.fault.CheckFault.{CheckFault}
use Rattle.image_check.specs.declared.fault.CheckFault.TheVariants.{Memory, Volume, Unsound}
use Rattle.sound_check.specs.Calls.{ReadsOnly}

-- contents that are alike LEB by LEB are the same
pub same_holds : (old now : VolumeState) → Keeps old now → now.holds ≡ old.holds
same_holds old now keeps = λ i k. keeps.holds k i

-- one call that succeeded
pub kept_one : {T : Type 0} (old now : VolumeState) (x : T) → Keeps old now × SameShape old now → old.faults ≤ now.faults → StaysSureCheck old now (Ok x) → IsKept old now
kept_one old now x keeps count stays = record {
  keeps = keeps.0;
  shape = keeps.1;
  count = count;
  sure = λ sure. elim (stays sure) [ inl gone ↦ inl gone | inr fine ↦ inr (fine.0, fine.1.0) ];
}

pub kept_stage : {T : Type 0} (old now : VolumeState) (x : T) → ReadsOnly old now (Ok x) → IsKept old now
kept_stage old now x h = kept_one old now x (h.keeps, h.shape) h.cause h.sure

-- and another
pub kept_then : (a b c : VolumeState) → IsKept a b → IsKept b c → IsKept a c
kept_then a b c first second =
    let low = first.count in
    let high = second.count in
    record {
      keeps = Keeps-then a b c first.keeps second.keeps;
      shape = SameShape-then a b c first.shape second.shape;
      count = omega (arith, low, high);
      sure = λ sure. elim (first.sure sure) [
        | inl gone ↦ inl (second.keeps.spent gone)
        | inr still ↦ elim (second.sure still.0) [ inl gone ↦ inl gone | inr fine ↦ inr (fine.0, fine.1 ∙ still.1) ]
      ];
    }

-- what is told is what succeeded
pub reads_ok : {T : Type 0} (old now : VolumeState) (x : T) → IsKept old now → ReadsOnly old now (Ok x)
reads_ok old now x kept = record {
  keeps = kept.keeps;
  shape = kept.shape;
  cause = kept.count;
  sure = λ sure. elim (kept.sure sure) [ inl gone ↦ inl gone | inr fine ↦ inr (fine.0, (fine.1, tt)) ];
}

-- or a fault that says nothing of the volume
pub reads_err : (T : Type 0) (old now : VolumeState) (fault : CheckFault) → IsNoVolumeFault {T = T} (Err fault) → IsKept old now → ReadsOnly {T = T} old now (Err fault)
reads_err T old now fault none kept = record {
  keeps = kept.keeps;
  shape = kept.shape;
  cause = by fault none;
  sure = λ sure. elim (kept.sure sure) [ inl gone ↦ inl gone | inr fine ↦ inr (fine.0, (fine.1, none)) ];
}
  where
    by : (f : CheckFault) → IsNoVolumeFault {T = T} (Err f) → HasCheckCause {T = T} old.faults now.faults (Err f)
    by Memory h = kept.count
    by (Unsound breach) h = kept.count
    by (Volume count) h = absurd h

cause_later : (S T : Type 0) (a b c : ℕ) (fault : CheckFault) → a ≤ b → HasCheckCause {T = S} b c (Err fault) → HasCheckCause {T = T} a c (Err fault)
cause_later S T a b c Memory low h = omega (arith, low, h)
cause_later S T a b c (Unsound breach) low h = omega (arith, low, h)
cause_later S T a b c (Volume count) low h = IsCause-before a b c count low h

-- a call that failed, behind those that succeeded
pub failed_then : (S T : Type 0) (a b c : VolumeState) (fault : CheckFault) → IsKept a b → Keeps b c × SameShape b c → HasCheckCause {T = S} b.faults c.faults (Err fault) → StaysSureCheck {T = S} b c (Err fault) → ReadsOnly {T = T} a c (Err fault)
failed_then S T a b c fault kept keeps cause stays = record {
  keeps = Keeps-then a b c kept.keeps keeps.0;
  shape = SameShape-then a b c kept.shape keeps.1;
  cause = cause_later S T a.faults b.faults c.faults fault kept.count cause;
  sure = λ sure. elim (kept.sure sure) [
    | inl gone ↦ inl (keeps.0.spent gone)
    | inr still ↦ elim (stays still.0) [ inl gone ↦ inl gone | inr fine ↦ inr (fine.0, (fine.1.0 ∙ still.1, fine.1.1)) ]
  ];
}

-- a first call that failed
pub failed_first : (S T : Type 0) (old now : VolumeState) (fault : CheckFault) → Keeps old now × SameShape old now → HasCheckCause {T = S} old.faults now.faults (Err fault) → StaysSureCheck {T = S} old now (Err fault) → ReadsOnly {T = T} old now (Err fault)
failed_first S T old now fault keeps cause stays = record { keeps = keeps.0; shape = keeps.1; cause = cause; sure = stays }

pub failed_stage : (S T : Type 0) (old now : VolumeState) (fault : CheckFault) → ReadsOnly {T = S} old now (Err fault) → ReadsOnly {T = T} old now (Err fault)
failed_stage S T old now fault h = record { keeps = h.keeps; shape = h.shape; cause = h.cause; sure = h.sure }

-- ---- the exit of a question mark, which hands the fault on
pub exit_reads : {T : Type 0} (old now : VolumeState) (fault : CheckFault) (r : Result T CheckFault) → IsErrAnd r (λ y. y ≡ fault) → ReadsOnly {T = T} old now (Err fault) → ReadsOnly old now r
exit_reads old now fault (Ok x) e h = absurd e
exit_reads {T = T} old now fault (Err y) e h = let P : CheckFault → Type 0 = λ f. ReadsOnly {T = T} old now (Err f) in subst P (sym e) h

pub exit_broken : {T : Type 0} (P : CheckFault → Type 0) (fault : CheckFault) (r : Result T CheckFault) → IsErrAnd r (λ y. y ≡ fault) → P fault → IfErr r P
exit_broken P fault (Ok x) e h = tt
exit_broken P fault (Err y) e h = subst P (sym e) h
