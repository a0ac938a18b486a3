-- Damaged images, each like the least one but for one thing.
use Rattle.std.proofs.Common.{◌≡◌, ℕ, ◌+◌, ◌-◌, ◌^◌, ◌≤◌, nat_lt, Bool, true, false, List, [], ◌∷◌, Some, None, slice_get, refl, ap, sym, ◌∙◌, subst, inl, inr, arith}
use Rattle.std.specs.Prelude.{◌≢◌, ◌==◌, ◌&&◌, cond}
use Rattle.std.specs.Int.Count.{count_leading_zeros, ones}
use Rattle.std.proofs.Math.Nat.{le_refl}
use Rattle.std.proofs.lemmas.Bool.{and_left, and_right, cases_eq, le-ltb, leb-true, ltb-false, ltb-true, ne_eqb, or_from}
use Rattle.std.proofs.lemmas.List.Elements.{All-nil}
use Rattle.ubifs_base.specs.declared.node_type.NodeType.TheVariants as types
use Rattle.ubifs_base.specs.declared.raw_geometry.GeomField.TheVariants as geometry
use Rattle.ubifs_base.specs.Properties.{fls}
use Rattle.media_sys.specs.declared.master.Master.{Master}
use Rattle.small_areas.specs.Orphans.{AreOrphans}
use Rattle.small_areas.specs.declared.misplaced.Misplaced.{Misplaced}
use Rattle.small_areas.specs.declared.placed_master.PlacedMaster.{PlacedMaster}
use Rattle.bud_log.specs.Buds.{buds_of}
use Rattle.bud_log.specs.Log.{references_of}
use Rattle.bud_log.specs.LogText.{BeginsCommit, LogText, begins_with, start_of}
use Rattle.bud_log.specs.References.{one_commit}
use Rattle.media_lpt.specs.declared.lprop.Lprop.{Lprop}
use Rattle.media_sys.specs.declared.feature.Feature.TheVariants.{KeyHash}
use Rattle.media_sys.specs.declared.super_field.SuperField.TheVariants as superblock
use Rattle.leb_scan.specs.Text.{is_blank}
use Rattle.leb_scan.specs.declared.found.Found.{Found}
use Rattle.leb_scan.specs.declared.tail.Tail.TheVariants.{Clean}
use Rattle.small_areas.specs.Addresses.{addresses_of, first_past}
use Rattle.small_areas.specs.MasterLaws.{OneNode, OneText, one_latest}
use Rattle.small_areas.specs.Masters.{HasNoMaster, IsLatest}
use Rattle.bud_log.specs.OneTextLaws.{one_log_text}
use Rattle.sound_image.specs.Breaches.{IsFirstBreach}
use Rattle.sound_image.specs.Image.{Image}
use Rattle.sound_image.specs.Buds.{HasBuds}
use Rattle.sound_image.specs.Index.{HasIndex}
use Rattle.sound_image.specs.Leaves.{HasLeaves}
use Rattle.sound_image.specs.Log.{HasLog}
use Rattle.sound_image.specs.Masters.{HasMasters}
use Rattle.sound_image.specs.Properties.{HasProperties, is_marked_index, is_unmarked, prop_of}
use Rattle.sound_image.specs.Rules.{MeetsBefore}
use Rattle.sound_image.specs.Space.{committed_bytes}
use Rattle.sound_image.specs.Superblock.{BeginsWithSuper, HasSuperblock}
use Rattle.sound_image.specs.Worked.{BeginsLeast, IsLeastWith, dirtier_props, least_geometry, least_image, least_index, least_master, least_props, least_super, misplaced_latest}
use Rattle.sound_image.specs.Wrong.{Misfit, Wrong, comes_before, differs, feature_number, is_lesser, is_told_before, needs}
use Rattle.sound_image.specs.declared.breach.Breach.TheVariants.{Super as InSuper, Feature as NeedsOne, NoMaster, Damaged}
use Rattle.sound_image.specs.declared.rule.Rule.TheVariants as rules
use Rattle.sound_image.proofs.FreshLog.{has_fresh_log}
use Rattle.sound_image.proofs.LeastImage.{has_index, has_leaves, in_range, least_placed, least_text, least_with, no_orphans}

-- ---- the superblock
-- min_io_size is 100, which is no power of 2
pub super_row : (contents : ℕ → List ℕ) → BeginsWithSuper (contents 0) (record least_super { min_io_size = 100 }) → IsFirstBreach contents (InSuper superblock.MinIo)
unfolding ones
super_row contents h = inr (record least_super { min_io_size = 100 }, h, refl, (record { field = geometry.MinIo; value = 100 }, inl (λ k. let e = k.0 in absurd cc, refl), refl))

-- another hash of names
pub feature_row : (contents : ℕ → List ℕ) → BeginsWithSuper (contents 0) (record least_super { key_hash = 1 }) → IsFirstBreach contents (NeedsOne KeyHash 0 0)
feature_row contents h = inl (record least_super { key_hash = 1 }, h, refl, refl)

pub least_super_has : (contents : ℕ → List ℕ) → BeginsWithSuper (contents 0) least_super → HasSuperblock contents least_geometry
least_super_has contents h = record { node = least_super; begins = h; known = refl; geometry = refl; in_range = in_range }

-- ---- masters
blank_none : (leb : List ℕ) → is_blank leb ≡ true → HasNoMaster leb
blank_none leb blank = record { items = []; end = 0; tail = Clean; is_text = record { stand = refl; ends = blank }; none = All-nil (λ (node : Found). node.kind ≢ types.Master) }

pub no_master_row : (contents : ℕ → List ℕ) → BeginsWithSuper (contents 0) least_super → is_blank (contents 1) ≡ true → is_blank (contents 2) ≡ true → IsFirstBreach contents NoMaster
no_master_row contents h one two = (least_geometry, least_super_has contents h, blank_none (contents 1) one, blank_none (contents 2) two)

-- ---- what comes before nothing
pub not_lesser_of : (a b c d : ℕ) → c ≤ a → (a ≡ c → d ≤ b) → is_lesser (a, b) (c, d) ≡ false
not_lesser_of a b c d high later =
    or_from (nat_lt a c) ((a == c) && nat_lt b d) (le-ltb a c high) (elim (cases_eq a c) [
      | inl same ↦ and_right (a == c) (nat_lt b d) (le-ltb b d (later same))
      | inr other ↦ and_left (a == c) (nat_lt b d) (ne_eqb a c other)
    ])

pub told_once : (a : Misfit) → is_told_before a a ≡ false
told_once (needs what) = le-ltb (feature_number what) (feature_number what) (le_refl (feature_number what))
told_once (differs wanted found) = not_lesser_of wanted found wanted found (le_refl wanted) (λ e. le_refl found)

-- what stands behind a place, or is wrong there in the same way, doesn't come before it
pub not_before : (other at : Wrong) → at.lnum ≤ other.lnum → (other.lnum ≡ at.lnum → at.offs ≤ other.offs) → (other.lnum ≡ at.lnum → other.offs ≡ at.offs → other.misfit ≡ at.misfit) → comes_before other at ≡ false
not_before other at high later same =
    or_from (is_lesser (other.lnum, other.offs) (at.lnum, at.offs)) ((other.lnum == at.lnum) && ((other.offs == at.offs) && is_told_before other.misfit at.misfit)) (not_lesser_of other.lnum other.offs at.lnum at.offs high later) (elim (cases_eq other.lnum at.lnum) [
      | inl here ↦ and_right (other.lnum == at.lnum) ((other.offs == at.offs) && is_told_before other.misfit at.misfit) (elim (cases_eq other.offs at.offs) [
        | inl there ↦ and_right (other.offs == at.offs) (is_told_before other.misfit at.misfit) (ap (λ (m : Misfit). is_told_before m at.misfit) (same here there) ∙ told_once at.misfit)
        | inr elsewhere ↦ and_left (other.offs == at.offs) (is_told_before other.misfit at.misfit) (ne_eqb other.offs at.offs elsewhere)
      ])
      | inr elsewhere ↦ and_left (other.lnum == at.lnum) ((other.offs == at.offs) && is_told_before other.misfit at.misfit) (ne_eqb other.lnum at.lnum elsewhere)
    ])

-- ---- the rules before one
-- the first four
pub record MeetsFirst (contents : ℕ → List ℕ) (image : Image) : Type 0 where
  pub superblock : HasSuperblock contents image.geo
  pub masters : HasMasters contents image.geo image.latest
  pub properties : HasProperties contents image.geo image.latest.master image.props
  pub index : HasIndex contents image.geo image.latest.master image.props image.placed

pub before_masters : (contents : ℕ → List ℕ) (image : Image) → HasSuperblock contents image.geo → MeetsBefore contents image rules.Masters
before_masters contents image h rules.Superblock n = h
before_masters contents image h rules.Masters n = absurd (omega (arith, n))
before_masters contents image h rules.Properties n = absurd (omega (arith, n))
before_masters contents image h rules.Index n = absurd (omega (arith, n))
before_masters contents image h rules.Log n = absurd (omega (arith, n))
before_masters contents image h rules.Buds n = absurd (omega (arith, n))
before_masters contents image h rules.Leaves n = absurd (omega (arith, n))
before_masters contents image h rules.Sums n = absurd (omega (arith, n))
before_masters contents image h rules.Ends n = absurd (omega (arith, n))
before_masters contents image h rules.Orphans n = absurd (omega (arith, n))
before_masters contents image h rules.Tree n = absurd (omega (arith, n))
before_masters contents image h rules.Links n = absurd (omega (arith, n))

pub before_properties : (contents : ℕ → List ℕ) (image : Image) → HasSuperblock contents image.geo → HasMasters contents image.geo image.latest → MeetsBefore contents image rules.Properties
before_properties contents image h masters rules.Superblock n = h
before_properties contents image h masters rules.Masters n = masters
before_properties contents image h masters rules.Properties n = absurd (omega (arith, n))
before_properties contents image h masters rules.Index n = absurd (omega (arith, n))
before_properties contents image h masters rules.Log n = absurd (omega (arith, n))
before_properties contents image h masters rules.Buds n = absurd (omega (arith, n))
before_properties contents image h masters rules.Leaves n = absurd (omega (arith, n))
before_properties contents image h masters rules.Sums n = absurd (omega (arith, n))
before_properties contents image h masters rules.Ends n = absurd (omega (arith, n))
before_properties contents image h masters rules.Orphans n = absurd (omega (arith, n))
before_properties contents image h masters rules.Tree n = absurd (omega (arith, n))
before_properties contents image h masters rules.Links n = absurd (omega (arith, n))

pub before_index : (contents : ℕ → List ℕ) (image : Image) → HasSuperblock contents image.geo → HasMasters contents image.geo image.latest → HasProperties contents image.geo image.latest.master image.props → MeetsBefore contents image rules.Index
before_index contents image h masters properties rules.Superblock n = h
before_index contents image h masters properties rules.Masters n = masters
before_index contents image h masters properties rules.Properties n = properties
before_index contents image h masters properties rules.Index n = absurd (omega (arith, n))
before_index contents image h masters properties rules.Log n = absurd (omega (arith, n))
before_index contents image h masters properties rules.Buds n = absurd (omega (arith, n))
before_index contents image h masters properties rules.Leaves n = absurd (omega (arith, n))
before_index contents image h masters properties rules.Sums n = absurd (omega (arith, n))
before_index contents image h masters properties rules.Ends n = absurd (omega (arith, n))
before_index contents image h masters properties rules.Orphans n = absurd (omega (arith, n))
before_index contents image h masters properties rules.Tree n = absurd (omega (arith, n))
before_index contents image h masters properties rules.Links n = absurd (omega (arith, n))

pub before_log : (contents : ℕ → List ℕ) (image : Image) → MeetsFirst contents image → MeetsBefore contents image rules.Log
before_log contents image h rules.Superblock n = h.superblock
before_log contents image h rules.Masters n = h.masters
before_log contents image h rules.Properties n = h.properties
before_log contents image h rules.Index n = h.index
before_log contents image h rules.Log n = absurd (omega (arith, n))
before_log contents image h rules.Buds n = absurd (omega (arith, n))
before_log contents image h rules.Leaves n = absurd (omega (arith, n))
before_log contents image h rules.Sums n = absurd (omega (arith, n))
before_log contents image h rules.Ends n = absurd (omega (arith, n))
before_log contents image h rules.Orphans n = absurd (omega (arith, n))
before_log contents image h rules.Tree n = absurd (omega (arith, n))
before_log contents image h rules.Links n = absurd (omega (arith, n))

pub before_leaves : (contents : ℕ → List ℕ) (image : Image) → MeetsFirst contents image → HasLog contents image.geo image.latest.master image.log → HasBuds contents (buds_of (references_of image.log)) image.buds → MeetsBefore contents image rules.Leaves
before_leaves contents image h log buds rules.Superblock n = h.superblock
before_leaves contents image h log buds rules.Masters n = h.masters
before_leaves contents image h log buds rules.Properties n = h.properties
before_leaves contents image h log buds rules.Index n = h.index
before_leaves contents image h log buds rules.Log n = log
before_leaves contents image h log buds rules.Buds n = buds
before_leaves contents image h log buds rules.Leaves n = absurd (omega (arith, n))
before_leaves contents image h log buds rules.Sums n = absurd (omega (arith, n))
before_leaves contents image h log buds rules.Ends n = absurd (omega (arith, n))
before_leaves contents image h log buds rules.Orphans n = absurd (omega (arith, n))
before_leaves contents image h log buds rules.Tree n = absurd (omega (arith, n))
before_leaves contents image h log buds rules.Links n = absurd (omega (arith, n))

pub before_sums : (contents : ℕ → List ℕ) (image : Image) → MeetsFirst contents image → HasLog contents image.geo image.latest.master image.log → HasBuds contents (buds_of (references_of image.log)) image.buds → HasLeaves contents image → MeetsBefore contents image rules.Sums
before_sums contents image h log buds leaves rules.Superblock n = h.superblock
before_sums contents image h log buds leaves rules.Masters n = h.masters
before_sums contents image h log buds leaves rules.Properties n = h.properties
before_sums contents image h log buds leaves rules.Index n = h.index
before_sums contents image h log buds leaves rules.Log n = log
before_sums contents image h log buds leaves rules.Buds n = buds
before_sums contents image h log buds leaves rules.Leaves n = leaves
before_sums contents image h log buds leaves rules.Sums n = absurd (omega (arith, n))
before_sums contents image h log buds leaves rules.Ends n = absurd (omega (arith, n))
before_sums contents image h log buds leaves rules.Orphans n = absurd (omega (arith, n))
before_sums contents image h log buds leaves rules.Tree n = absurd (omega (arith, n))
before_sums contents image h log buds leaves rules.Links n = absurd (omega (arith, n))

-- ---- the root stands in no LEB of the volume
latest_high : (one two : List ℕ) (latest : PlacedMaster) → IsLatest one two latest → 1 ≤ latest.lnum
latest_high one two latest (inl h) = let e = h.0 in omega (arith, e)
latest_high one two latest (inr h) = let e = h.0 in omega (arith, e)

misplaced_is : (a b : Misplaced) → Some a ≡ Some b → a ≡ b
misplaced_is a b h = cc

misplaced_values : (a b : Misplaced) → Some a ≡ Some b → differs a.wanted a.found ≡ differs b.wanted b.found
misplaced_values a b h = ap (λ (m : Misplaced). differs m.wanted m.found) (misplaced_is a b h)

pub misplaced_row : OneNode → OneText → (contents : ℕ → List ℕ) → BeginsLeast contents least_super misplaced_latest → IsFirstBreach contents (Damaged rules.Masters 1 0 12 13)
unfolding fls count_leading_zeros
misplaced_row one text contents h =
    let at : Wrong = record { lnum = 1; offs = 0; misfit = differs 12 13 } in (
      least_image [],
      before_masters contents (least_image []) (least_super_has contents h.super),
      record {
        wrong = record { latest = misplaced_latest; is_latest = h.masters; wanted = 12; found = 13; past = refl; is = refl };
        least = λ other wrong.
            let high = latest_high (contents 1) (contents 2) wrong.latest wrong.is_latest in
            let lnum : 1 ≤ other.lnum = subst (λ (w : Wrong). 1 ≤ w.lnum) (sym wrong.is) high in
            let same = one_latest one text (contents 1) (contents 2) wrong.latest misplaced_latest (h.bytes 1) (h.bytes 2) wrong.is_latest h.masters in
            let there : Misplaced = record { wanted = wrong.wanted; found = wrong.found } in
            let root : Misplaced = record { wanted = 12; found = 13 } in
            let past : Some there ≡ Some root = sym wrong.past ∙ ap (λ (m : Master). first_past (addresses_of least_geometry m)) same in
            let misfit : other.misfit ≡ differs 12 13 = ap (λ (w : Wrong). w.misfit) wrong.is ∙ misplaced_values there root past in
            not_before other at lnum (λ e. omega arith) (λ e f. misfit);
      },
    )

-- ---- the log begins with another commit
begins_least : (contents : ℕ → List ℕ) (props : List Lprop) (cmt_no : ℕ) (log : List LogText) → is_marked_index least_geometry props 11 ≡ true → IsLeastWith contents props cmt_no → MeetsFirst contents (least_with props log)
begins_least contents props cmt_no log marked h = record {
  superblock = least_super_has contents h.begins.super;
  masters = record { is_latest = h.begins.masters; in_areas = least_placed };
  properties = h.properties;
  index = has_index contents props marked h.index;
}

some_same : (a b : ℕ) → Some a ≡ Some b → a ≡ b
some_same a b h = cc

pub commit_row : OneNode → OneText → (contents : ℕ → List ℕ) → IsLeastWith contents least_props 7 → IsFirstBreach contents (Damaged rules.Log 3 0 0 7)
commit_row one text contents h =
    let at : Wrong = record { lnum = 3; offs = 0; misfit = differs 0 7 } in
    let log = has_fresh_log contents least_geometry (record least_master { cmt_no = 7 }) 1 (leb-true 3 4 refl) (ltb-true 1 (2 ^ 64) refl) (ltb-true 7 (2 ^ 64) refl) h.log in (
      least_with least_props [],
      before_log contents (least_with least_props []) (begins_least contents least_props 7 [] refl h),
      inl (record {
        wrong = record { text = log.first; is_text = log.chain.is_first; lnum = refl; offs = refl; wrong = inr (7, log.commit, λ e. absurd cc, refl) };
        least = λ other wrong.
            let same = one_log_text one text (contents 3) 3 wrong.text log.first (h.begins.bytes 3) wrong.is_text log.chain.is_first in
            let lnum = wrong.lnum in
            let misfit : other.misfit ≡ differs 0 7 = elim wrong.wrong [
              | inl (none, values) ↦ let e : None ≡ Some log.start = sym none ∙ ap (λ (t : LogText). start_of (begins_with t.nodes)) same ∙ log.chain.starts in absurd cc
              | inr (cmt_no, begins, ne, values) ↦
                  let P : LogText → Type 0 = λ t. BeginsCommit (contents 3) (begins_with t.nodes) (Some cmt_no) in
                  values ∙ ap (differs 0) (some_same cmt_no 7 (one_commit one (contents 3) (h.begins.bytes 3) (begins_with log.first.nodes) (Some cmt_no) (Some 7) (subst P same begins) log.commit))
            ] in
            not_before other at (omega (arith, lnum)) (λ e. omega arith) (λ e f. misfit);
      }),
    )

-- ---- a byte of LEB 10 is told as dirty that is not
pub prop_low : (props : List Lprop) (lnum : ℕ) (prop : Lprop) → prop_of least_geometry props lnum ≡ Some prop → 10 ≤ lnum
prop_low props lnum prop has = by (nat_lt lnum 10) refl has
  where
    by : (below : Bool) → nat_lt lnum 10 ≡ below → cond below None (slice_get props (lnum - 10)) ≡ Some prop → 10 ≤ lnum
    by true e k = absurd cc
    by false e k = ltb-false lnum 10 e

pub prop_same : (a b : Lprop) → Some a ≡ Some b → a ≡ b
prop_same a b e = cc

least_leaves : (contents : ℕ → List ℕ) (props : List Lprop) (h : IsLeastWith contents props 0) → AreOrphans contents 9 1 [] → is_unmarked least_geometry props 10 ≡ true → HasLeaves contents (least_with props (least_text h.log.start.gap ∷ []))
least_leaves contents props h orphans unmarked = has_leaves contents props (least_text h.log.start.gap ∷ []) (h.begins.bytes 10) h.leaf orphans unmarked refl

pub up_to_leaves : (contents : ℕ → List ℕ) (props : List Lprop) (h : IsLeastWith contents props 0) → AreOrphans contents 9 1 [] → is_marked_index least_geometry props 11 ≡ true → is_unmarked least_geometry props 10 ≡ true
    → MeetsBefore contents (least_with props (least_text h.log.start.gap ∷ [])) rules.Sums
up_to_leaves contents props h orphans marked unmarked =
    let image : Image = least_with props (least_text h.log.start.gap ∷ []) in
    before_sums contents image (begins_least contents props 0 (least_text h.log.start.gap ∷ []) marked h)
    (has_fresh_log contents least_geometry least_master 1 (leb-true 3 4 refl) (ltb-true 1 (2 ^ 64) refl) (ltb-true 0 (2 ^ 64) refl) h.log)
    (record { of_buds = refl; sound = tt }) (least_leaves contents props h orphans unmarked)

pub sum_row : (contents : ℕ → List ℕ) → IsLeastWith contents dirtier_props 0 → is_blank (contents 9) ≡ true → IsFirstBreach contents (Damaged rules.Sums 10 0 16384 16392)
sum_row contents h blank =
    let at : Wrong = record { lnum = 10; offs = 0; misfit = differs 16384 16392 } in
    let first : Lprop = record { free = 16208; dirty = 24; index = false } in (
      least_with dirtier_props (least_text h.log.start.gap ∷ []),
      up_to_leaves contents dirtier_props h (no_orphans contents blank) refl refl,
      record {
        wrong = record { prop = first; has = refl; start = refl; other = λ e. let bytes : 16392 ≡ 16384 = e in omega (arith, bytes); values = refl };
        least = λ other wrong.
            let low = prop_low dirtier_props other.lnum wrong.prop wrong.has in
            let values : other.lnum ≡ 10 → other.misfit ≡ differs 16384 16392 = λ here.
            let P : ℕ → Type 0 = λ k. prop_of least_geometry dirtier_props k ≡ Some wrong.prop in
            let prop = prop_same first wrong.prop (subst P here wrong.has) in
            wrong.values ∙ ap (λ (k : ℕ). differs 16384 (wrong.prop.free + wrong.prop.dirty + committed_bytes least_index k)) here ∙ ap (λ (p : Lprop). differs 16384 (p.free + p.dirty + committed_bytes least_index 10)) (sym prop) in
            not_before other at low (λ e. omega arith) (λ e f. values e);
      },
    )
