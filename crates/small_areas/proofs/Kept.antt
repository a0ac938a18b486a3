-- Calls that keep all, one after another.
use Rattle.std.proofs.Common.{◌≡◌, ◌⊎◌, inl, inr, ◌≤◌, Result, Ok, Err, refl, ◌∙◌, arith}
use Rattle.std.specs.Prelude.{OnOk}
use Rattle.ubi_volume.specs.Faults.{StaysSureArea}
use Rattle.ubi_volume.specs.Volume.{VolumeState, Keeps, SameShape}
use Rattle.ubi_volume.specs.declared.fault.AreaFault.{AreaFault}
use Rattle.ubi_volume.specs.VolumeLaws.{Keeps-none, Keeps-then, SameShape-then}

-- what calls that succeeded kept
pub record KeepsOn (old now : VolumeState) : Type 0 where
  pub keeps : Keeps old now
  pub shape : SameShape old now
  pub count : old.faults ≤ now.faults
  pub sure : old.sure → now.spent ⊎ (now.sure × (now.faults ≡ old.faults))

pub keeps_on_none : (a : VolumeState) → KeepsOn a a
keeps_on_none a = record { keeps = Keeps-none a; shape = record { leb_size = refl; min_io = refl; leb_cnt = refl }; count = omega arith; sure = λ s. inr (s, refl) }

pub on_ok : {T E : Type 0} (r : Result T E) (A B : Type 0) → (A → B) → OnOk r A → OnOk r B
on_ok (Ok x) A B f h = f h
on_ok (Err e) A B f h = h

pub keeps_on_then : (a b c : VolumeState) (X : Type 0) → KeepsOn a b → Keeps b c → SameShape b c → b.faults ≤ c.faults → (b.sure → c.spent ⊎ (c.sure × ((c.faults ≡ b.faults) × X))) → KeepsOn a c
keeps_on_then a b c X h keeps shape count sure =
    let first = h.count in
    record {
      keeps = Keeps-then a b c h.keeps keeps;
      shape = SameShape-then a b c h.shape shape;
      count = omega (arith, first, count);
      sure = λ s. elim (h.sure s) [
        | inl spent ↦ inl (keeps.spent spent)
        | inr still ↦ elim (sure still.0) [ inl spent ↦ inl spent | inr same ↦ inr (same.0, same.1.0 ∙ still.1) ]
      ];
    }

-- a call that answers what a call in it did
pub area_sure : {T : Type 0} (a b c : VolumeState) (r : Result T AreaFault) → KeepsOn a b → Keeps b c → StaysSureArea b c r → StaysSureArea a c r
area_sure a b c r h keeps stays s = elim (h.sure s) [
  | inl spent ↦ inl (keeps.spent spent)
  | inr still ↦ elim (stays still.0) [ inl spent ↦ inl spent | inr same ↦ inr (same.0, (same.1.0 ∙ still.1, same.1.1)) ]
]
