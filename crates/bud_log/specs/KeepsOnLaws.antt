-- Calls that keep all, one after another.
use Rattle.std.proofs.Common.{◌≡◌, ◌⊎◌, inl, inr, ◌≤◌, Result, Ok, Err, ◌∙◌, arith}
use Rattle.std.specs.Prelude.{OnOk}
use Rattle.ubi_volume.specs.Volume.{VolumeState, Keeps, SameShape}
use Rattle.ubi_volume.specs.VolumeLaws.{Keeps-then, SameShape-then}

-- what calls that succeeded kept
pub record KeepsOn (old now : VolumeState) : Type 0 where
  pub keeps : Keeps old now
  pub shape : SameShape old now
  pub count : old.faults ≤ now.faults
  pub sure : old.sure → now.spent ⊎ (now.sure × (now.faults ≡ old.faults))

pub on_ok : {T E : Type 0} (r : Result T E) (A B : Type 0) → (A → B) → OnOk r A → OnOk r B
on_ok (Ok x) A B f h = f h
on_ok (Err e) A B f h = h

pub keeps_on_then : (a b c : VolumeState) (X : Type 0) → KeepsOn a b → Keeps b c → SameShape b c → b.faults ≤ c.faults → (b.sure → c.spent ⊎ (c.sure × ((c.faults ≡ b.faults) × X))) → KeepsOn a c
keeps_on_then a b c X h keeps shape count sure =
    let first = h.count in
    record {
      keeps = Keeps-then a b c h.keeps keeps;
      shape = SameShape-then a b c h.shape shape;
      count = omega (arith, first, count);
      sure = λ s. elim (h.sure s) [
        | inl spent ↦ inl (keeps.spent spent)
        | inr still ↦ elim (sure still.0) [ inl spent ↦ inl spent | inr same ↦ inr (same.0, same.1.0 ∙ still.1) ]
      ];
    }
