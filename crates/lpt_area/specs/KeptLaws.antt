-- A volume that is only read.
use Rattle.std.proofs.Common.{◌≡◌, ◌⊎◌, ◌≤◌, ◌∙◌, inl, inr, arith, refl}
use Rattle.std.specs.Prelude.{Result}
use Rattle.ubi_volume.specs.Volume.{VolumeState, Keeps, SameShape}
use Rattle.ubi_volume.specs.VolumeLaws.{Keeps-then, SameShape-then, Keeps-none}
use Rattle.ubi_volume.specs.Faults.{StaysSure, StaysSureArea}
use Rattle.ubi_volume.specs.declared.fault.AreaFault.{AreaFault}
use Rattle.ubi_volume.specs.declared.fault.VolFault.{VolFault}

-- a volume as it was, but for its count of faults
pub record IsKept (old now : VolumeState) : Type 0 where
  pub keeps : Keeps old now
  pub shape : SameShape old now
  pub count : old.faults ≤ now.faults
  pub sure : old.sure → now.spent ⊎ (now.sure × (now.faults ≡ old.faults))

pub kept_start : (a : VolumeState) → IsKept a a
kept_start a = record { keeps = Keeps-none a; shape = record { leb_size = refl; min_io = refl; leb_cnt = refl }; count = omega arith; sure = λ s. inr (s, refl) }

pub stays_sure : (old now new : VolumeState) → (old.sure → now.spent ⊎ (now.sure × (now.faults ≡ old.faults))) → (now.spent → new.spent) → (now.sure → new.spent ⊎ (new.sure × (new.faults ≡ now.faults)))
    → old.sure → new.spent ⊎ (new.sure × (new.faults ≡ old.faults))
stays_sure old now new before spent step sure = elim (before sure) [
  | inl gone ↦ inl (spent gone)
  | inr still ↦ elim (step still.0) [ inl gone ↦ inl gone | inr fine ↦ inr (fine.0, fine.1 ∙ still.1) ]
]

pub sure_of_area : {T : Type 0} (old new : VolumeState) (r : Result T AreaFault) → StaysSureArea old new r → old.sure → new.spent ⊎ (new.sure × (new.faults ≡ old.faults))
sure_of_area old new r stays sure = elim (stays sure) [ inl gone ↦ inl gone | inr fine ↦ inr (fine.0, fine.1.0) ]

pub sure_of_one : {T : Type 0} (old new : VolumeState) (r : Result T VolFault) → StaysSure old new r → old.sure → new.spent ⊎ (new.sure × (new.faults ≡ old.faults))
sure_of_one old new r stays sure = elim (stays sure) [ inl gone ↦ inl gone | inr fine ↦ inr (fine.0, fine.1.0) ]

-- one call more that keeps all
pub kept_next : (old now new : VolumeState) → IsKept old now → Keeps now new → SameShape now new → now.faults ≤ new.faults → (now.sure → new.spent ⊎ (new.sure × (new.faults ≡ now.faults))) → IsKept old new
kept_next old now new kept keeps shape count sure =
    let before = kept.count in
    record {
      keeps = Keeps-then old now new kept.keeps keeps;
      shape = SameShape-then old now new kept.shape shape;
      count = omega (arith, before, count);
      sure = stays_sure old now new kept.sure keeps.spent sure;
    }
