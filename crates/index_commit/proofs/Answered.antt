-- What a commit answers, over one call after another.
use Rattle.std.proofs.Common.{◌≤◌, ◌∙◌, ℕ, Result, Ok, Err, inl, inr, refl, arith}
use Rattle.ubifs_base.specs.Faults.{IsCause-before}
use Rattle.ubi_volume.specs.Volume.{VolumeState}
use Rattle.ubi_volume.specs.VolumeLaws.{SameShape-then}
use Rattle.index_commit.specs.Answers.{HasIndexCause, IsIndexAnswered}
use Rattle.index_commit.specs.declared.index_fault.IndexFault.{IndexFault}
use Rattle.index_commit.specs.declared.index_fault.IndexFault.TheVariants.{Memory, Full, EqualKeys, Volume}

-- no call at all
pub answered_none : {T : Type 0} (a : VolumeState) (x : T) → IsIndexAnswered a a (Ok x)
answered_none a x = record { shape = record { leb_size = refl; min_io = refl; leb_cnt = refl }; cause = omega arith; sure = λ s. inr (s, (refl, tt)) }

cause_then : {T : Type 0} (a b c : ℕ) (r : Result T IndexFault) → a ≤ b → HasIndexCause b c r → HasIndexCause a c r
cause_then a b c (Ok x) le cause = omega (arith, le, cause)
cause_then a b c (Err Memory) le cause = omega (arith, le, cause)
cause_then a b c (Err (Full need given)) le cause = omega (arith, le, cause)
cause_then a b c (Err EqualKeys) le cause = omega (arith, le, cause)
cause_then a b c (Err (Volume count)) le cause = IsCause-before a b c count le cause

-- a call that succeeded, and one more
pub answered_then : {S T : Type 0} (a b c : VolumeState) (x : S) (r : Result T IndexFault) → IsIndexAnswered a b (Ok x) → (b.spent → c.spent) → IsIndexAnswered b c r → IsIndexAnswered a c r
answered_then a b c x r one spent two = record {
  shape = SameShape-then a b c one.shape two.shape;
  cause = cause_then a.faults b.faults c.faults r one.cause two.cause;
  sure = λ s. elim (one.sure s) [
    | inl gone ↦ inl (spent gone)
    | inr still ↦ elim (two.sure still.0) [ inl gone ↦ inl gone | inr fine ↦ inr (fine.0, (fine.1.0 ∙ still.1.0, fine.1.1)) ]
  ];
}
