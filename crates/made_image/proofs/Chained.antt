-- What is laid in three calls around main LEBs is an image of them.
use Rattle.std.proofs.Common.{◌≡◌, ℕ, ◌+◌, ◌-◌, ◌^◌, ◌<◌, ◌≤◌, true, false, List, [], inl, inr, refl, ap, sym, ◌∙◌, subst, length, arith}
use Rattle.std.specs.Prelude.{◌≢◌, ◌⊎◌, Result, Ok, Err, OnOk}
use Rattle.std.proofs.lemmas.Bool.{lt-ltb}
use Rattle.ubifs_base.specs.Areas.{lpt_first, main_first}
use Rattle.ubifs_base.specs.Geometry.{IsGeometry}
use Rattle.ubifs_base.specs.NodeLaws.{IsBytes}
use Rattle.ubifs_base.specs.declared.raw_geometry.RawGeometry.{RawGeometry}
use Rattle.ubi_volume.specs.Frame.{IsSameLeb}
use Rattle.ubi_volume.specs.FrameLaws.{IsSameLeb-then, IsSameLeb-works}
use Rattle.ubi_volume.specs.Volume.{VolumeState, WorksOn, filled}
use Rattle.ubi_volume.specs.declared.fault.AreaFault.{AreaFault}
use Rattle.leb_scan.specs.Text.{is_blank}
use Rattle.leb_scan.specs.TextLaws.{blank_replicate}
use Rattle.media_sys.specs.SystemNode.{commit_start, written}
use Rattle.media_sys.specs.declared.master.Master.{Master}
use Rattle.media_sys.specs.declared.super_node.Super.{Super}
use Rattle.small_areas.specs.Copies.{IsMasterLeb, master_copy, room_of}
use Rattle.small_areas.specs.Masters.{IsLatest}
use Rattle.lpt_area.specs.Written.{IsTreeLeb, next_lpt}
use Rattle.index_media.specs.PlacedRow.{PlacedRow}
use Rattle.leaf_map.specs.Kept.{Placed}
use Rattle.sound_image.specs.Laid.{BeginsAlone}
use Rattle.sound_image.specs.OrphanLists.{HasOrphanNodes}
use Rattle.sound_image.specs.Superblock.{BeginsWithSuper}
use Rattle.volume_format.specs.Alone.{HoldsAlone}
use Rattle.volume_format.specs.Format.{new_super}
use Rattle.made_image.specs.Around.{AreLogAndMasters, AreMainFilled, HasTreeLaid, HoldsIndexed, IsUnwrittenLeb, IsMadeAround, made_master, props_over}
use Rattle.made_image.specs.declared.filled_main.FilledMain.{FilledMain}
use Rattle.made_image.proofs.Kept.{StaysInItsLebs, indexed_still}
use Rattle.made_image.proofs.Made.{PropertiesMet, PropsLaws, is_laid}

areas_still : (geo : RawGeometry) (sqnum : ℕ) (old new : Master) (c d : ℕ → List ℕ) → old ≡ new → ((lnum : ℕ) → 0 < lnum → d lnum ≡ c lnum) → AreLogAndMasters geo sqnum old c → AreLogAndMasters geo sqnum new d
areas_still geo sqnum old new c d e same h =
    let A : List ℕ → Type 0 = λ leb. BeginsAlone leb (written (sqnum + 1) 0 (commit_start (record { cmt_no = 0 }))) in
    let L : List ℕ → Type 0 = λ one. IsLatest one (c 2) h.latest in
    let M : List ℕ → Type 0 = λ two. IsLatest (d 1) two h.latest in
    let room : ℕ = room_of geo.min_io in
    record {
      log = subst A (sym (same 3 (omega arith))) h.log;
      first = same 1 (omega arith) ∙ h.first ∙ ap (λ (m : Master). filled geo.leb_size (master_copy room (sqnum + 2) m)) e;
      second = same 2 (omega arith) ∙ h.second ∙ ap (λ (m : Master). filled geo.leb_size (master_copy room (sqnum + 3) m)) e;
      latest = h.latest;
      is_latest = subst M (sym (same 2 (omega arith))) (subst L (sym (same 1 (omega arith))) h.is_latest);
      is_fresh = h.is_fresh ∙ e;
    }

no_master : (lnum : ℕ) → 2 < lnum → IsMasterLeb lnum → ⊥
no_master lnum low (inl one) = omega (arith, low, one)
no_master lnum low (inr two) = omega (arith, low, two)

-- the first tree of properties is written to the first LEB of its area
pub first_lpt : (geo : RawGeometry) → next_lpt geo 0 ≡ lpt_first geo
first_lpt geo = rw (lt-ltb 0 (lpt_first geo) (omega arith)) refl

-- ---- which LEBs stay
pub masters_blank : (geo : RawGeometry) → IsGeometry geo → (a b : VolumeState) → b.leb_size ≡ a.leb_size → ((lnum : ℕ) → lnum ≢ lpt_first geo → IsSameLeb a b lnum)
    → ((lnum : ℕ) → lnum < main_first geo → a.holds lnum ≡ filled a.leb_size []) → ((lnum : ℕ) → IsMasterLeb lnum → a.written lnum ≡ 0) → (lnum : ℕ) → IsMasterLeb lnum → IsUnwrittenLeb b lnum
masters_blank geo g a b size others blank open_there lnum is =
    let low : lnum < 3 = elim is [ inl one ↦ omega (arith, one) | inr two ↦ omega (arith, two) ] in
    let same = others lnum (λ e. omega (arith, e, low)) in
    record { blank = same.holds ∙ blank lnum (omega (arith, low)) ∙ ap (λ (n : ℕ). filled n []) (sym size); open_there = same.written ∙ open_there lnum is }

pub main_so_far : (geo : RawGeometry) → IsGeometry geo → (a b c : VolumeState) → ((lnum : ℕ) → lnum ≢ lpt_first geo → IsSameLeb a b lnum)
    → ((lnum : ℕ) → lnum ≢ 3 → (IsMasterLeb lnum → ⊥) → IsSameLeb b c lnum) → (lnum : ℕ) → main_first geo ≤ lnum → IsSameLeb a c lnum
main_so_far geo g a b c first second lnum low =
    let logs = g.log_lebs.0 in
    let lpt = g.lpt_lebs.0 in
    IsSameLeb-then a b c lnum (first lnum (λ e. omega (arith, e, low, lpt))) (second lnum (λ e. omega (arith, e, low, logs)) (no_master lnum (omega (arith, low, logs))))

module _ (geo : RawGeometry) (g : IsGeometry geo) (s0 s1 s2 s3 : VolumeState) (first : (lnum : ℕ) → lnum ≢ lpt_first geo → IsSameLeb s0 s1 lnum)
    (second : (lnum : ℕ) → lnum ≢ 3 → (IsMasterLeb lnum → ⊥) → IsSameLeb s1 s2 lnum) {P : List ℕ → Type 0} (works : WorksOn s2 s3 0 P) where
  pub stays : (lnum : ℕ) → 3 < lnum → IsSameLeb s1 s3 lnum
  stays lnum low = IsSameLeb-then s1 s2 s3 lnum (second lnum (λ e. omega (arith, low, e)) (no_master lnum (omega (arith, low)))) (IsSameLeb-works s2 s3 0 lnum P (λ e. omega (arith, low, e)) works)

  pub all_stays : (lnum : ℕ) → 3 < lnum → lnum ≢ lpt_first geo → IsSameLeb s0 s3 lnum
  all_stays lnum low other = IsSameLeb-then s0 s1 s3 lnum (first lnum other) (stays lnum low)

  pub main_stays : (lnum : ℕ) → main_first geo ≤ lnum → IsSameLeb s0 s3 lnum
  main_stays lnum low =
      let logs = g.log_lebs.0 in
      let lpt = g.lpt_lebs.0 in
      all_stays lnum (omega (arith, low, logs)) (λ e. omega (arith, e, low, lpt))

  pub kept : (lnum : ℕ) → 0 < lnum → s3.holds lnum ≡ s2.holds lnum
  kept lnum low = (IsSameLeb-works s2 s3 0 lnum P (λ e. omega (arith, low, e)) works).holds

  module _ (small : geo.big ≡ false) (main : FilledMain) (filled_main : AreMainFilled geo main) (sqnum : ℕ) (few : sqnum < 2 ^ 63) (uuid : List ℕ) (blank_there : (lnum : ℕ) → lnum < main_first geo → s0.holds lnum ≡ filled s0.leb_size [])
      (master : Master) (treed : HasTreeLaid geo main s1.holds master) (areas : AreLogAndMasters geo sqnum master s2.holds)
      (bytes : (lnum : ℕ) → IsBytes (s3.holds lnum)) (full : (lnum : ℕ) → lnum < geo.leb_cnt → length (s3.holds lnum) ≡ geo.leb_size)
      (none_written : (leb : List ℕ) → is_blank leb ≡ true → HasOrphanNodes leb) (meets : PropertiesMet) (laws : PropsLaws) (still : StaysInItsLebs) where
    blank : (lnum : ℕ) → 3 < lnum → lnum < main_first geo → lnum ≢ lpt_first geo → is_blank (s3.holds lnum) ≡ true
    blank lnum low high other =
        let B : List ℕ → Type 0 = λ leb. is_blank leb ≡ true in
        let is : s3.holds lnum ≡ filled s0.leb_size [] = (all_stays lnum low other).holds ∙ blank_there lnum high in
        subst B (sym is) (blank_replicate (s0.leb_size - 0))

    pub finished : (all : List ℕ) (node : Super) (r : Result (Unit {0}) AreaFault) → node ≡ new_super geo uuid → OnOk r (HoldsAlone geo s3 0 all × BeginsWithSuper (s3.holds 0) node)
        → OnOk r ((placed : PlacedRow) (nodes : List Placed) → HoldsIndexed geo s0.holds main placed nodes → IsMadeAround s3.holds geo uuid sqnum main placed nodes)
    finished all node (Err fault) is done = tt
    finished all node (Ok x) is done = λ placed nodes h.
        let logs = g.log_lebs.0 in
        let S : Super → Type 0 = λ node. BeginsWithSuper (s3.holds 0) node in
        let T : List ℕ → Type 0 = λ leb. IsTreeLeb geo (lpt_first geo) (props_over geo main) leb treed.at in
        let super : BeginsWithSuper (s3.holds 0) (new_super geo uuid) = subst S is done.1 in
        let now = areas_still geo sqnum master (made_master geo main treed.at) s2.holds s3.holds treed.is kept areas in
        let tree : IsTreeLeb geo (lpt_first geo) (props_over geo main) (s3.holds (lpt_first geo)) treed.at = subst T (sym (stays (lpt_first geo) (omega (arith, logs))).holds) treed.tree in
        let indexed = indexed_still geo s0.holds s3.holds (λ lnum low. (main_stays lnum low).holds) main placed nodes still h in
        record {
          superblock = super;
          at = treed.at;
          props = tree;
          areas = now;
          laid = is_laid geo g small main filled_main s3.holds bytes full placed nodes indexed treed.at uuid sqnum few super now tree blank none_written meets laws;
        }

-- a call behind another stays sure
pub sure_then : {X Y : Type 0} (a b c : VolumeState) → (a.sure → b.spent ⊎ (b.sure × ((b.faults ≡ a.faults) × X))) → (b.spent → c.spent) → (b.sure → c.spent ⊎ (c.sure × ((c.faults ≡ b.faults) × Y)))
    → a.sure → c.spent ⊎ (c.sure × ((c.faults ≡ a.faults) × Y))
sure_then {X} {Y} a b c first spent second sure = by (first sure)
  where
    then : c.spent ⊎ (c.sure × ((c.faults ≡ b.faults) × Y)) → b.faults ≡ a.faults → c.spent ⊎ (c.sure × ((c.faults ≡ a.faults) × Y))
    then (inl done) e = inl done
    then (inr (still, (same, y))) e = inr (still, (same ∙ e, y))

    by : b.spent ⊎ (b.sure × ((b.faults ≡ a.faults) × X)) → c.spent ⊎ (c.sure × ((c.faults ≡ a.faults) × Y))
    by (inl done) = inl (spent done)
    by (inr (still, (same, x))) = then (second still) same
