-- The log and the masters are laid one after another.
use Rattle.std.proofs.Common.{◌≡◌, ℕ, ◌≤◌, true, List, inl, inr, ap, sym, ◌∙◌, subst, arith}
use Rattle.std.specs.Prelude.{Result, Ok, Err, OnOk, drop}
use Rattle.ubifs_base.specs.declared.raw_geometry.RawGeometry.{RawGeometry}
use Rattle.ubi_volume.specs.Frame.{IsSameLeb}
use Rattle.ubi_volume.specs.FrameLaws.{IsSameLeb-then, IsSameLeb-works, Only-same}
use Rattle.ubi_volume.specs.Volume.{VolumeState, WorksOn}
use Rattle.ubi_volume.specs.declared.fault.AreaFault.{AreaFault}
use Rattle.leb_scan.specs.Text.{is_blank}
use Rattle.lpt_area.specs.declared.lpt_at.LptAt.{LptAt}
use Rattle.media_sys.specs.SystemNode.{commit_start, written}
use Rattle.small_areas.specs.Copies.{IsMasterLeb}
use Rattle.small_areas.specs.Masters.{IsLatest}
use Rattle.small_areas.specs.declared.placed_master.PlacedMaster.{PlacedMaster}
use Rattle.sound_image.specs.Laid.{BeginsAlone}
use Rattle.volume_format.specs.Alone.{HoldsAlone}
use Rattle.volume_format.specs.Format.{AreAreasLaid, new_master}

-- what stands alone in a LEB does so still where the LEB is as it was
pub alone_still : (geo : RawGeometry) (old new : VolumeState) (lnum : ℕ) (bytes : List ℕ) → IsSameLeb old new lnum → HoldsAlone geo old lnum bytes → HoldsAlone geo new lnum bytes
alone_still geo old new lnum bytes same alone =
    let P : List ℕ → Type 0 = λ leb. BeginsAlone leb bytes in
    let B : List ℕ → Type 0 = λ leb. is_blank leb ≡ true in
    record {
      begins = subst P (sym same.holds) alone.begins;
      units = same.written ∙ alone.units;
      behind = subst B (ap (λ (n : ℕ). drop n (old.holds lnum)) (sym same.written) ∙ ap (drop (new.written lnum)) (sym same.holds)) alone.behind;
      settled = Only-same old new lnum alone.settled same;
    }

no_master_at : (lnum : ℕ) → 3 ≤ lnum → IsMasterLeb lnum → ⊥
no_master_at lnum low (inl one) = omega (arith, low, one)
no_master_at lnum low (inr two) = omega (arith, low, two)

pub areas_laid : (geo : RawGeometry) (a b c : VolumeState) (at : LptAt) (r : Result (Unit {0}) AreaFault) {P : List ℕ → Type 0}
    → HoldsAlone geo b 3 (written 3 0 (commit_start (record { cmt_no = 0 }))) → WorksOn a b 3 P
    → OnOk r ((latest : PlacedMaster) × IsLatest (c.holds 1) (c.holds 2) latest × (latest.master ≡ new_master geo at)) → ((lnum : ℕ) → (IsMasterLeb lnum → ⊥) → IsSameLeb b c lnum) → OnOk r (AreAreasLaid geo a c at)
areas_laid geo a b c at (Err fault) log first masters second = tt
areas_laid geo a b c at (Ok done) {P} log first masters second = record {
  log = alone_still geo b c 3 (written 3 0 (commit_start (record { cmt_no = 0 }))) (second 3 (no_master_at 3 (omega arith))) log;
  latest = masters.0;
  is_latest = masters.1;
  is_new = masters.2;
  others = λ lnum other none. IsSameLeb-then a b c lnum (IsSameLeb-works a b 3 lnum P other first) (second lnum none);
}
