-- What is laid in three calls is a new file system.
use Rattle.std.proofs.Common.{◌≡◌, ℕ, ◌+◌, ◌-◌, ◌<◌, ◌≤◌, true, false, List, [], inl, inr, refl, ap, sym, ◌∙◌, subst, arith}
use Rattle.std.specs.Prelude.{◌≢◌, ◌⊎◌, Result, Ok, Err, OnOk, drop}
use Rattle.std.proofs.lemmas.Bool.{lt-ltb}
use Rattle.ubifs_base.specs.Areas.{lpt_first, main_first, main_lebs}
use Rattle.ubifs_base.specs.Geometry.{IsGeometry}
use Rattle.ubifs_base.specs.NodeLaws.{IsBytes}
use Rattle.ubifs_base.specs.declared.raw_geometry.RawGeometry.{RawGeometry}
use Rattle.ubi_volume.specs.Frame.{IsSameLeb}
use Rattle.ubi_volume.specs.FrameLaws.{IsSameLeb-then, IsSameLeb-works}
use Rattle.ubi_volume.specs.Volume.{VolumeState, WorksOn, filled}
use Rattle.ubi_volume.specs.declared.fault.AreaFault.{AreaFault}
use Rattle.leb_scan.specs.Text.{is_blank}
use Rattle.leb_scan.specs.TextLaws.{blank_replicate}
use Rattle.lpt_area.specs.Written.{IsTreeLeb, in_units, next_lpt}
use Rattle.lpt_area.specs.declared.lpt_at.LptAt.{LptAt}
use Rattle.media_leaf.specs.LeafNode.{inode, written as leaf_bytes}
use Rattle.media_sys.specs.SystemNode.{commit_start, index as index_said, written as system_bytes}
use Rattle.media_sys.specs.declared.super_node.Super.{Super}
use Rattle.small_areas.specs.Copies.{IsMasterLeb}
use Rattle.small_areas.specs.Masters.{IsLatest}
use Rattle.sound_image.specs.Laid.{BeginsAlone}
use Rattle.sound_image.specs.OrphanLists.{HasOrphanNodes}
use Rattle.sound_image.specs.Superblock.{BeginsWithSuper}
use Rattle.volume_format.specs.Alone.{HoldsAlone}
use Rattle.volume_format.specs.Format.{AreAreasLaid, IsMainLaid, IsNewVolume, IsUnwritten, new_props, new_super, root_index, root_node}
use Rattle.volume_format.proofs.Areas.{alone_still}
use Rattle.volume_format.proofs.Made.{Laid, PropertiesMet, is_new_system}

-- the first tree of properties is written to the first LEB of its area
first_lpt : (geo : RawGeometry) → next_lpt geo 0 ≡ lpt_first geo
first_lpt geo = rw (lt-ltb 0 (lpt_first geo) (omega arith)) refl

no_master : (lnum : ℕ) → 2 < lnum → IsMasterLeb lnum → ⊥
no_master lnum low (inl one) = omega (arith, low, one)
no_master lnum low (inr two) = omega (arith, low, two)

module _ (geo : RawGeometry) (g : IsGeometry geo) (small : geo.big ≡ false) (three : 3 ≤ main_lebs geo) (now : ℕ) (uuid : List ℕ) (at : LptAt)
    (s0 s1 s2 s3 : VolumeState) (leb_cnt : geo.leb_cnt ≤ s0.leb_cnt) (unwritten : IsUnwritten s0) (main : IsMainLaid geo now s0 s1 at) (areas : AreAreasLaid geo s1 s2 at)
    {P : List ℕ → Type 0} (works : WorksOn s2 s3 0 P) (bytes : (lnum : ℕ) → IsBytes (s3.holds lnum)) (meets : PropertiesMet) (none_written : (leb : List ℕ) → is_blank leb ≡ true → HasOrphanNodes leb) (laid : Laid) where
  -- what was laid first stands at the end
  stays : (lnum : ℕ) → 3 < lnum → IsSameLeb s1 s3 lnum
  stays lnum low = IsSameLeb-then s1 s2 s3 lnum (areas.others lnum (λ e. omega (arith, low, e)) (no_master lnum (omega (arith, low)))) (IsSameLeb-works s2 s3 0 lnum P (λ e. omega (arith, low, e)) works)

  kept : (lnum : ℕ) → 0 < lnum → IsSameLeb s2 s3 lnum
  kept lnum low = IsSameLeb-works s2 s3 0 lnum P (λ e. omega (arith, low, e)) works

  blank : (lnum : ℕ) → 3 < lnum → lnum < main_first geo → lnum ≢ lpt_first geo → is_blank (s3.holds lnum) ≡ true
  blank lnum low high other =
      let same = main.others lnum (λ e. omega (arith, e, high)) (λ e. omega (arith, e, high)) (λ e. other (e ∙ first_lpt geo)) in
      let B : List ℕ → Type 0 = λ leb. is_blank leb ≡ true in
      let is : s3.holds lnum ≡ filled s0.leb_size [] = (stays lnum low).holds ∙ same.holds ∙ unwritten.blank lnum (omega (arith, high, three, leb_cnt)) in
      subst B (sym is) (blank_replicate (s0.leb_size - 0))

  empty_there : (lnum : ℕ) → main_first geo + 2 ≤ lnum → lnum < geo.leb_cnt → is_blank (s3.holds lnum) ≡ true
  empty_there lnum low high =
      let logs = g.log_lebs.0 in
      let same = main.others lnum (λ e. omega (arith, e, low)) (λ e. omega (arith, e, low)) (λ e. let is = e ∙ first_lpt geo in omega (arith, is, low)) in
      let B : List ℕ → Type 0 = λ leb. is_blank leb ≡ true in
      let is : s3.holds lnum ≡ filled s0.leb_size [] = (stays lnum (omega (arith, low, logs))).holds ∙ same.holds ∙ unwritten.blank lnum (omega (arith, high, leb_cnt)) in
      subst B (sym is) (blank_replicate (s0.leb_size - 0))

  log_first : 3 < lpt_first geo
  log_first = let logs = g.log_lebs.0 in omega (arith, logs)

  main_low : 3 < main_first geo
  main_low = let logs = g.log_lebs.0 in omega (arith, logs)

  pub formatted : (all : List ℕ) (node : Super) (r : Result (Unit {0}) AreaFault) → node ≡ new_super geo uuid → OnOk r (HoldsAlone geo s3 0 all × BeginsWithSuper (s3.holds 0) node) → OnOk r (IsNewVolume s3.holds geo uuid now)
  formatted all node (Err fault) is done = tt
  formatted all node (Ok x) is done =
      let S : Super → Type 0 = λ node. BeginsWithSuper (s3.holds 0) node in
      let A : List ℕ → Type 0 = λ leb. BeginsAlone leb (system_bytes 3 0 (commit_start (record { cmt_no = 0 }))) in
      let T : List ℕ → Type 0 = λ leb. IsTreeLeb geo (lpt_first geo) (new_props geo) leb at in
      let N : ℕ → Type 0 = λ n. IsTreeLeb geo n (new_props geo) (s1.holds n) at in
      let L : List ℕ → Type 0 = λ one. IsLatest one (s2.holds 2) areas.latest in
      let M : List ℕ → Type 0 = λ two. IsLatest (s3.holds 1) two areas.latest in
      let root = alone_still geo s1 s3 (main_first geo) (leaf_bytes 1 0 (inode (root_node now))) (stays (main_first geo) main_low) main.root in
      let index = alone_still geo s1 s3 (main_first geo + 1) (system_bytes 2 0 (index_said (root_index geo))) (stays (main_first geo + 1) (omega (arith, main_low))) main.index in
      let B : ℕ → Type 0 = λ n. is_blank (drop n (s3.holds (main_first geo))) ≡ true in
      is_new_system geo g small three now uuid (λ n. n) s3.holds bytes areas.latest at
      (subst S is done.1)
      (subst M (sym (kept 2 (omega arith)).holds) (subst L (sym (kept 1 (omega arith)).holds) areas.is_latest)) areas.is_new
      (subst A (sym (kept 3 (omega arith)).holds) areas.log.begins)
      (subst T (sym (stays (lpt_first geo) log_first).holds) (subst N (first_lpt geo) main.tree.leb))
      root.begins (subst B (root.units ∙ ap (λ (n : ℕ). in_units geo.min_io n) main.root_units.long) root.behind) main.root_is main.root_units.long
      index.begins main.index_is main.index_units.long
      main.root_units.fits main.index_units.fits main.root_units.more main.index_units.more
      blank empty_there none_written meets laid

-- a call behind another stays sure
pub sure_then : {X Y : Type 0} (a b c : VolumeState) → (a.sure → b.spent ⊎ (b.sure × ((b.faults ≡ a.faults) × X))) → (b.spent → c.spent) → (b.sure → c.spent ⊎ (c.sure × ((c.faults ≡ b.faults) × Y)))
    → a.sure → c.spent ⊎ (c.sure × ((c.faults ≡ a.faults) × Y))
sure_then {X} {Y} a b c first spent second sure = by (first sure)
  where
    then : c.spent ⊎ (c.sure × ((c.faults ≡ b.faults) × Y)) → b.faults ≡ a.faults → c.spent ⊎ (c.sure × ((c.faults ≡ a.faults) × Y))
    then (inl done) e = inl done
    then (inr (still, (same, y))) e = inr (still, (same ∙ e, y))

    by : b.spent ⊎ (b.sure × ((b.faults ≡ a.faults) × X)) → c.spent ⊎ (c.sure × ((c.faults ≡ a.faults) × Y))
    by (inl done) = inl (spent done)
    by (inr (still, (same, x))) = then (second still) same
