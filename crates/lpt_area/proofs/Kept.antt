-- A volume that is only read.
use Rattle.std.proofs.Common.{◌≡◌, ◌≤◌, ℕ, ◌∙◌, inl, inr, arith}
use Rattle.std.specs.Prelude.{Result, Ok, Err, IsErrAnd}
use Rattle.ubi_volume.specs.Volume.{VolumeState, Keeps, SameShape}
use Rattle.ubi_volume.specs.Faults.{HasAreaCause, StaysSureArea, IsNotVolume}
use Rattle.ubi_volume.specs.declared.fault.AreaFault.TheVariants.{Memory, Volume}
use Rattle.ubi_volume.specs.declared.fault.AreaFault.{AreaFault}
use Rattle.ubifs_base.specs.declared.raw_geometry.RawGeometry.{RawGeometry}
use Rattle.ubi_volume.specs.Geometry.{IsGeometryOf}
use Rattle.lpt_area.specs.KeptLaws.{IsKept}

-- the geometry is still that of the volume
pub still_geometry : (geo : RawGeometry) (old now : VolumeState) → IsGeometryOf geo old → SameShape old now → IsGeometryOf geo now
still_geometry geo old now h same =
    let size = same.leb_size in
    let unit = same.min_io in
    let count = same.leb_cnt in
    let size_of = h.leb_size in
    let unit_of = h.min_io in
    let count_of = h.leb_cnt in
    record { leb_size = omega (arith, size, size_of); min_io = omega (arith, unit, unit_of); leb_cnt = omega (arith, count, count_of) }

-- a call that answers what a call in it did
pub area_sure : {T : Type 0} (old now new : VolumeState) (r : Result T AreaFault) → IsKept old now → Keeps now new → StaysSureArea now new r → StaysSureArea old new r
area_sure old now new r kept keeps stays sure = elim (kept.sure sure) [
  | inl gone ↦ inl (keeps.spent gone)
  | inr still ↦ elim (stays still.0) [ inl gone ↦ inl gone | inr fine ↦ inr (fine.0, (fine.1.0 ∙ still.1, fine.1.1)) ]
]

-- want of memory is no fault of the volume
pub not_volume : {T : Type 0} (r : Result T AreaFault) → IsErrAnd r (λ e. e ≡ Memory) → IsNotVolume r
not_volume (Ok x) h = tt
not_volume (Err Memory) h = tt
not_volume (Err (Volume count)) h = absurd (cc h)

pub memory_cause : {T : Type 0} (old now : ℕ) (r : Result T AreaFault) → IsErrAnd r (λ e. e ≡ Memory) → old ≤ now → HasAreaCause old now r
memory_cause old now (Ok x) h le = le
memory_cause old now (Err Memory) h le = le
memory_cause old now (Err (Volume count)) h le = absurd (cc h)
