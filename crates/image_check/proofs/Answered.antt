-- What is told of an answer is told of what a check answers.
use Rattle.std.proofs.Common.{◌≡◌, ℕ, Result, Ok, Err, IfOk, sym, subst, inl, inr}
use Rattle.std.specs.Prelude.{IfErr}
use Rattle.ubi_volume.specs.Faults.{HasAreaCause, StaysSureArea}
use Rattle.ubi_volume.specs.Volume.{VolumeState}
use Rattle.ubi_volume.specs.declared.fault.AreaFault.{AreaFault}
use Rattle.ubi_volume.specs.declared.fault.AreaFault.TheVariants as area
use Rattle.sound_image.specs.declared.breach.Breach.{Breach}
use Rattle.image_check.specs.Told.{HasCheckCause, StaysSureCheck, TellsBreach, told_answer}
use Rattle.image_check.specs.declared.fault.CheckFault.{CheckFault}

met_of : {T : Type 0} (P : T → Type 0) (a : Result (Result T Breach) AreaFault) → IfOk a (λ found. IfOk found P) → IfOk (told_answer a) P
met_of P (Ok (Ok x)) h = h
met_of P (Ok (Err breach)) h = tt
met_of P (Err fault) h = tt

broken_of : {T : Type 0} (Q : Breach → Type 0) (a : Result (Result T Breach) AreaFault) → IfOk a (λ found. IfErr found Q) → IfErr (told_answer a) (TellsBreach Q)
broken_of Q (Ok (Ok x)) h = tt
broken_of Q (Ok (Err breach)) h = h
broken_of Q (Err area.Memory) h = tt
broken_of Q (Err (area.Volume count)) h = tt

cause_of : {T : Type 0} (before now : ℕ) (a : Result (Result T Breach) AreaFault) → HasAreaCause before now a → HasCheckCause before now (told_answer a)
cause_of before now (Ok (Ok x)) h = h
cause_of before now (Ok (Err breach)) h = h
cause_of before now (Err area.Memory) h = h
cause_of before now (Err (area.Volume count)) h = h

sure_of_answer : {T : Type 0} (old new : VolumeState) (a : Result (Result T Breach) AreaFault) → StaysSureArea old new a → StaysSureCheck old new (told_answer a)
sure_of_answer old new (Ok (Ok x)) h sure = elim (h sure) [ inl gone ↦ inl gone | inr fine ↦ inr (fine.0, (fine.1.0, tt)) ]
sure_of_answer old new (Ok (Err breach)) h sure = elim (h sure) [ inl gone ↦ inl gone | inr fine ↦ inr (fine.0, (fine.1.0, tt)) ]
sure_of_answer old new (Err area.Memory) h sure = elim (h sure) [ inl gone ↦ inl gone | inr fine ↦ inr (fine.0, (fine.1.0, tt)) ]
sure_of_answer old new (Err (area.Volume count)) h sure = elim (h sure) [ inl gone ↦ inl gone | inr fine ↦ inr (fine.0, (fine.1.0, fine.1.1)) ]

-- the same along what a call answers
pub told_met : {T : Type 0} (P : T → Type 0) (a : Result (Result T Breach) AreaFault) (r : Result T CheckFault) → r ≡ told_answer a → IfOk a (λ found. IfOk found P) → IfOk r P
told_met {T = T} P a r e h = let Q : Result T CheckFault → Type 0 = λ x. IfOk x P in subst Q (sym e) (met_of P a h)

pub told_broken : {T : Type 0} (Is : Breach → Type 0) (a : Result (Result T Breach) AreaFault) (r : Result T CheckFault) → r ≡ told_answer a → IfOk a (λ found. IfErr found Is) → IfErr r (TellsBreach Is)
told_broken {T = T} Is a r e h = let Q : Result T CheckFault → Type 0 = λ x. IfErr x (TellsBreach Is) in subst Q (sym e) (broken_of Is a h)

pub told_cause : {T : Type 0} (before now : ℕ) (a : Result (Result T Breach) AreaFault) (r : Result T CheckFault) → r ≡ told_answer a → HasAreaCause before now a → HasCheckCause before now r
told_cause {T = T} before now a r e h = let Q : Result T CheckFault → Type 0 = λ x. HasCheckCause before now x in subst Q (sym e) (cause_of before now a h)

pub told_sure : {T : Type 0} (old new : VolumeState) (a : Result (Result T Breach) AreaFault) (r : Result T CheckFault) → r ≡ told_answer a → StaysSureArea old new a → StaysSureCheck old new r
told_sure {T = T} old new a r e h = let Q : Result T CheckFault → Type 0 = λ x. StaysSureCheck old new x in subst Q (sym e) (sure_of_answer old new a h)

-- what holds of all that is told so
pub met_then : {T : Type 0} (P Q : T → Type 0) (r : Result T CheckFault) → ((x : T) → P x → Q x) → IfOk r P → IfOk r Q
met_then P Q (Ok x) f h = f x h
met_then P Q (Err fault) f h = tt
