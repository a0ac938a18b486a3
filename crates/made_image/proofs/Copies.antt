-- Copies of a master that were written to blank LEBs stand there alone.
use Rattle.std.proofs.Common.{◌≡◌, ℕ, zero, suc, ◌+◌, ◌-◌, ◌≤◌, true, List, [], ◌++◌, length, replicate, inl, inr, refl, ap, sym, ◌∙◌, subst, arith}
use Rattle.std.specs.Prelude.{◌≢◌, Result, Ok, Err, OnOk}
use Rattle.std.proofs.lemmas.Bool.{ltb-true}
use Rattle.std.proofs.lemmas.List.{drop-replicate}
use Rattle.ubifs_base.specs.NodeLaws.{IsBytes}
use Rattle.ubifs_base.specs.declared.raw_geometry.RawGeometry.{RawGeometry}
use Rattle.ubi_volume.specs.Frame.{IsSameLeb}
use Rattle.ubi_volume.specs.FrameLaws.{IsSameLeb-works}
use Rattle.ubi_volume.specs.Volume.{VolumeState, WorksOn, filled, put}
use Rattle.ubi_volume.specs.declared.fault.AreaFault.{AreaFault}
use Rattle.leb_scan.specs.Text.{IsText, is_blank}
use Rattle.leb_scan.specs.TextLaws.{blank_replicate}
use Rattle.leb_scan.specs.declared.tail.Tail.TheVariants.{Clean}
use Rattle.media_sys.specs.SystemNode.{commit_start, written}
use Rattle.media_sys.specs.declared.master.Master.{Master}
use Rattle.small_areas.specs.Copies.{AreCopied, IsCopied, IsMasterLeb, master_copy, room_of}
use Rattle.small_areas.specs.MasterLaws.{OneText}
use Rattle.sound_image.specs.Laid.{BeginsAlone}
use Rattle.volume_format.specs.Alone.{HoldsAlone}
use Rattle.made_image.specs.Around.{AreLogAndMasters, IsUnwrittenLeb}

blank_bytes : (n : ℕ) → IsBytes (replicate n 255)
blank_bytes zero i = ltb-true 0 256 refl
blank_bytes (suc n) zero = ltb-true 255 256 refl
blank_bytes (suc n) (suc i) = blank_bytes n i

put_blank : (size : ℕ) (copy : List ℕ) → put 0 copy (filled size []) ≡ filled size copy
put_blank size copy =
    let e : size - 0 - (0 + length copy) ≡ size - length copy = omega arith in
    ap (λ (rest : List ℕ). copy ++ rest) (drop-replicate (0 + length copy) (size - 0) 255 ∙ ap (λ (n : ℕ). replicate n 255) e)

pub copied_alone : OneText → (old new : VolumeState) (lnum room : ℕ) (copy : List ℕ) → old.holds lnum ≡ filled old.leb_size [] → IsCopied old new lnum room copy → new.holds lnum ≡ filled old.leb_size copy
copied_alone one old new lnum room copy blank (inr (none, changed)) = changed.holds
copied_alone one old new lnum room copy blank (inl (place, is_place, done)) =
    let B : List ℕ → Type 0 = λ leb. is_blank leb ≡ true in
    let Y : List ℕ → Type 0 = IsBytes in
    let text : IsText (old.holds lnum) 0 [] 0 Clean = record { stand = refl; ends = subst B (sym blank) (blank_replicate (old.leb_size - 0)) } in
    let bytes : IsBytes (old.holds lnum) = subst Y (sym blank) (blank_bytes (old.leb_size - 0)) in
    let e : place ≡ 0 = (one (old.holds lnum) 0 place 0 is_place.items [] Clean Clean bytes is_place.is_text text).1 in
    done.holds ∙ ap (λ (n : ℕ). put n copy (old.holds lnum)) e ∙ ap (λ (leb : List ℕ). put 0 copy leb) blank ∙ put_blank old.leb_size copy

no_master_at : (lnum : ℕ) → 3 ≤ lnum → IsMasterLeb lnum → ⊥
no_master_at lnum low (inl one) = omega (arith, low, one)
no_master_at lnum low (inr two) = omega (arith, low, two)

pub areas_laid : OneText → (geo : RawGeometry) (a b c : VolumeState) (sqnum : ℕ) (master : Master) (r : Result (Unit {0}) AreaFault) {P : List ℕ → Type 0} → geo.leb_size ≡ a.leb_size → b.leb_size ≡ a.leb_size
    → ((lnum : ℕ) → IsMasterLeb lnum → IsUnwrittenLeb a lnum) → HoldsAlone geo b 3 (written (sqnum + 1) 0 (commit_start (record { cmt_no = 0 }))) → WorksOn a b 3 P
    → OnOk r (AreCopied b c (room_of geo.min_io) (sqnum + 1) master) → ((lnum : ℕ) → (IsMasterLeb lnum → ⊥) → IsSameLeb b c lnum) → OnOk r (AreLogAndMasters geo sqnum master c.holds)
areas_laid one geo a b c sqnum master (Err fault) size same blank log first copied others = tt
areas_laid one geo a b c sqnum master (Ok done) {P} size same blank log first copied others =
    let still : (lnum : ℕ) → lnum ≢ 3 → IsMasterLeb lnum → b.holds lnum ≡ filled b.leb_size [] =
    λ lnum other is. (IsSameLeb-works a b 3 lnum P other first).holds ∙ (blank lnum is).blank ∙ ap (λ (n : ℕ). filled n []) (sym same) in
    let A : List ℕ → Type 0 = λ leb. BeginsAlone leb (written (sqnum + 1) 0 (commit_start (record { cmt_no = 0 }))) in
    let two : sqnum + 1 + 1 ≡ sqnum + 2 = omega arith in
    let three : sqnum + 1 + 2 ≡ sqnum + 3 = omega arith in
    let sized : b.leb_size ≡ geo.leb_size = same ∙ sym size in
    let room : ℕ = room_of geo.min_io in
    record {
      log = subst A (sym (others 3 (no_master_at 3 (omega arith))).holds) log.begins;
      first = copied_alone one b c 1 room (master_copy room (sqnum + 1 + 1) master) (still 1 (λ e. omega (arith, e)) (inl refl)) copied.first
          ∙ ap (λ (n : ℕ). filled n (master_copy room (sqnum + 1 + 1) master)) sized ∙ ap (λ (n : ℕ). filled geo.leb_size (master_copy room n master)) two;
      second = copied_alone one b c 2 room (master_copy room (sqnum + 1 + 2) master) (still 2 (λ e. omega (arith, e)) (inr refl)) copied.second
          ∙ ap (λ (n : ℕ). filled n (master_copy room (sqnum + 1 + 2) master)) sized ∙ ap (λ (n : ℕ). filled geo.leb_size (master_copy room n master)) three;
      latest = copied.latest;
      is_latest = copied.is_latest;
      is_fresh = copied.is_fresh;
    }
