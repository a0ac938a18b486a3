-- The least image is sound.
use Rattle.std.proofs.Common.{◌≡◌, ℕ, zero, suc, ◌+◌, ◌-◌, ◌*◌, ◌^◌, ◌<◌, ◌≤◌, nat_lt, Bool, true, false, List, [], ◌∷◌, Some, None, slice_get, drop, refl, ap, sym, ◌∙◌, subst, inl, inr, arith}
use Rattle.std.specs.Prelude.{◌≢◌, ◌⊎◌, All, IsSome, cond, map}
use Rattle.std.specs.List.{IsDistinct}
use Rattle.std.specs.Int.Count.{count_leading_zeros, ones}
use Rattle.std.proofs.Math.Nat.{le_refl}
use Rattle.std.proofs.lemmas.Bool.{leb-true, ltb-false, ltb-true}
use Rattle.std.proofs.lemmas.List.Elements.{All-nil, All-cons}
use Rattle.ubifs_base.specs.Geometry.{IsGeometry}
use Rattle.ubifs_base.specs.NodeLaws.{IsBytes}
use Rattle.ubifs_base.specs.Properties.{fls, height_from, tree_height, tree_len}
use Rattle.ubifs_base.specs.R5.{r5_of}
use Rattle.ubifs_base.specs.declared.key.Key.TheVariants.{Ino}
use Rattle.media_lpt.specs.declared.lprop.Lprop.{Lprop}
use Rattle.index_tree.specs.Distinct.{AreDistinct}
use Rattle.index_tree.specs.Order.{key_rank}
use Rattle.index_tree.specs.Removal.{same_leaf}
use Rattle.index_tree.specs.declared.leaf.Leaf.{Leaf}
use Rattle.index_media.specs.PlacedRow.{branch_to, ended, leaf_at, are_disjoint}
use Rattle.index_media.specs.Stored.{AreStored, IsIndexNodeAt}
use Rattle.media_sys.specs.SystemNode.{commit_start, written}
use Rattle.small_areas.specs.Orphans.{AreOrphans}
use Rattle.small_areas.specs.Addresses.{addresses_of, first_past}
use Rattle.leb_scan.specs.Text.{is_blank}
use Rattle.leb_scan.specs.TextLaws.{blank_later}
use Rattle.leb_scan.specs.declared.tail.Tail.TheVariants.{Clean}
use Rattle.media_sys.specs.declared.ref_node.RefNode.{RefNode}
use Rattle.bud_log.specs.Log.{references_of}
use Rattle.bud_log.specs.LogText.{LogText}
use Rattle.group_nodes.specs.Nodes.{change_of}
use Rattle.leaf_map.specs.Kept.{Placed}
use Rattle.leaf_map.specs.SpaceFound.{space_found}
use Rattle.leaf_map.specs.Lost.{missing_leaves}
use Rattle.leaf_map.specs.Recovered.{tree_found}
use Rattle.sound_image.specs.Image.{Image, named_by_ref_node, parts_of}
use Rattle.sound_image.specs.Index.{HasIndex}
use Rattle.sound_image.specs.Leaves.{HasItsNode, HasLeaves, IsPlacedIn, IsSoundLeaf, leaves_recovered}
use Rattle.sound_image.specs.OrphanLists.{HasOrphanNodes}
use Rattle.sound_image.specs.Properties.{is_marked_index, is_unmarked, prop_of}
use Rattle.sound_image.specs.Space.{committed_bytes}
use Rattle.sound_image.specs.Sound.{SoundImage}
use Rattle.sound_image.specs.Summary.{is_clean, main_area_of, space_of_image}
use Rattle.sound_image.specs.Tree.{HasLinks, HasTree, IsCopy, ShowsItsNode}
use Rattle.sound_image.specs.Worked.{IsLeastVolume, least_branch, least_geometry, least_image, least_index, least_master, least_props, least_super, root_kept, sample_root_leaf, sample_root_placed}
use Rattle.sound_image.proofs.AloneTexts.{blank_orphans}
use Rattle.sound_image.proofs.FreshLog.{has_fresh_log, start_text}
use Rattle.sound_image.proofs.KnownNodes.{plain_known}

least_tree_len : tree_len least_geometry ≡ 36
unfolding fls count_leading_zeros tree_height height_from
least_tree_len = refl

pub in_range : IsGeometry least_geometry
unfolding ones
in_range = record {
  min_io = (refl, leb-true 8 8 refl, leb-true 8 16384 refl);
  leb_size = (leb-true 15360 16384 refl, leb-true 16384 2097152 refl, refl, ltb-true 5296 16384 refl);
  log_lebs = (leb-true 3 4 refl, leb-true 4 1024 refl);
  lpt_lebs = (leb-true 2 2 refl, leb-true 2 1024 refl);
  orph_lebs = (leb-true 1 1 refl, leb-true 1 1024 refl);
  leb_cnt = (ltb-true 10 12 refl, leb-true 12 12 refl);
  max_leb_cnt = leb-true (12 * 16384) (2 ^ 30) refl;
  one_leb = let P : ℕ → Type 0 = λ len. len ≤ 16384 in subst P (sym least_tree_len) (leb-true 36 16384 refl);
  fanout = (leb-true 3 8 refl, leb-true 8 256 refl);
}

pub least_placed : first_past (addresses_of least_geometry least_master) ≡ None
unfolding fls count_leading_zeros
least_placed = refl

-- ---- the index
least_stored : (contents : ℕ → List ℕ) → IsIndexNodeAt contents least_branch (record { level = 0; branches = branch_to sample_root_leaf ∷ [] }) → AreStored contents 1 least_index
unfolding AreStored
least_stored contents h = (ltb-true 0 1 refl, h, (refl, tt), tt)

pub has_index : (contents : ℕ → List ℕ) (props : List Lprop) → is_marked_index least_geometry props 11 ≡ true → IsIndexNodeAt contents least_branch (record { level = 0; branches = branch_to sample_root_leaf ∷ [] })
    → HasIndex contents least_geometry least_master props least_index
unfolding key_rank
has_index contents props marked h = record {
  key = sample_root_leaf.key;
  index = record {
    children = leaf_at sample_root_leaf ended;
    whole = refl;
    levels = 1;
    stored = least_stored contents h;
    fits = refl;
    bounded = (leb-true 0 (key_rank (Ino 1)) refl, tt, (le_refl (key_rank (Ino 1)), tt, tt), tt);
  };
  first = refl;
  marked = All-cons (λ (lnum : ℕ). is_marked_index least_geometry props lnum ≡ true) 11 [] marked (All-nil (λ (lnum : ℕ). is_marked_index least_geometry props lnum ≡ true));
}

-- ---- what is recovered

least_recovered : leaves_recovered (parts_of (least_image [])) ≡ sample_root_leaf ∷ []
unfolding key_rank same_leaf r5_of
least_recovered = refl

nothing_missing : missing_leaves (parts_of (least_image [])) ≡ []
unfolding key_rank same_leaf r5_of
nothing_missing = refl

-- nothing is written in the orphan area
pub no_orphans : (contents : ℕ → List ℕ) → is_blank (contents 9) ≡ true → AreOrphans contents 9 1 []
no_orphans contents blank = ([], [], refl, record { items = []; end = 0; tail = Clean; is_text = record { stand = refl; ends = blank }; listed = refl }, refl)

-- with other properties it says the same otherwise
abbrev pub least_with : List Lprop → List LogText → Image
least_with props log = record (least_image log) { props = props }

root_node : (contents : ℕ → List ℕ) → IsBytes (contents 10) → IsPlacedIn contents sample_root_placed → HasItsNode contents sample_root_leaf
root_node contents fits leaf = record {
  node = sample_root_placed;
  placed = record { lnum = refl; offs = refl; len = refl };
  stands = leaf;
  key = refl;
  known = plain_known contents sample_root_placed fits leaf (refl, refl);
}

pub has_leaves : (contents : ℕ → List ℕ) (props : List Lprop) (log : List LogText) → IsBytes (contents 10) → IsPlacedIn contents sample_root_placed → AreOrphans contents 9 1 [] → is_unmarked least_geometry props 10 ≡ true
    → parts_of (least_image log) ≡ parts_of (least_image []) → HasLeaves contents (least_with props log)
has_leaves contents props log fits leaf orphans unmarked same =
    let P : Leaf → Type 0 = λ leaf. IsSoundLeaf contents least_geometry props leaf in
    let leaves : leaves_recovered (parts_of (least_image log)) ≡ sample_root_leaf ∷ [] = ap leaves_recovered same ∙ least_recovered in
    let Q : List Leaf → Type 0 = λ xs. All P xs in
    let D : List Leaf → Type 0 = λ xs. are_disjoint (map branch_to xs) ≡ true in
    record {
      committed = (refl, (record { lnum = refl; offs = refl; len = refl }, leaf), tt);
      listed = orphans;
      sound = subst Q (sym leaves) (All-cons P sample_root_leaf [] (root_node contents fits leaf, unmarked) (All-nil P));
      replaced = ap missing_leaves same ∙ nothing_missing;
      apart = subst D (sym leaves) refl;
    }

-- ---- the tree
pub one_is_distinct : (leaf : Leaf) → AreDistinct (leaf ∷ [])
unfolding IsDistinct
one_is_distinct leaf = (tt, tt)

has_tree : (contents : ℕ → List ℕ) → IsLeastVolume contents → HasTree contents (parts_of (least_image []))
unfolding key_rank same_leaf r5_of
has_tree contents h = record {
  changes = All-nil (λ (x : Placed). IsSome (change_of x.node));
  copies = All-nil (IsCopy (parts_of (least_image [])));
  distinct = one_is_distinct sample_root_leaf;
  named = refl;
  found = refl;
  shown = All-cons (ShowsItsNode contents) root_kept [] (record { sqnum = 2; group = 0; is = h.leaf.is; shown = refl }) (All-nil (ShowsItsNode contents));
  apart = refl;
  root = refl;
  entries = refl;
  dirs = refl;
}

has_links : HasLinks (tree_found (parts_of (least_image [])))
unfolding key_rank same_leaf r5_of
has_links = refl

-- ---- the sums of both main LEBs
prop_same : (a b : Lprop) → Some a ≡ Some b → a ≡ b
prop_same a b e = cc

-- the properties of a LEB are those of LEB 10 or of LEB 11
abbrev IsOneOfBoth : ℕ → Lprop → Type 0
IsOneOfBoth lnum prop = ((lnum ≡ 10) × (record { free = 16208; dirty = 16; index = false } ≡ prop)) ⊎ ((lnum ≡ 11) × (record { free = 16336; dirty = 0; index = true } ≡ prop))

both_at : (i lnum : ℕ) (prop : Lprop) → 10 ≤ lnum → lnum - 10 ≡ i → slice_get least_props i ≡ Some prop → IsOneOfBoth lnum prop
both_at zero lnum prop low e has = inl (omega (arith, low, e), prop_same _ prop has)
both_at (suc zero) lnum prop low e has = inr (omega (arith, low, e), prop_same _ prop has)
both_at (suc (suc i)) lnum prop low e has = absurd cc

both_by : (lnum : ℕ) (prop : Lprop) (below : Bool) → nat_lt lnum 10 ≡ below → cond below None (slice_get least_props (lnum - 10)) ≡ Some prop → IsOneOfBoth lnum prop
both_by lnum prop true e has = absurd cc
both_by lnum prop false e has = both_at (lnum - 10) lnum prop (ltb-false lnum 10 e) refl has

one_of_both : (lnum : ℕ) (prop : Lprop) → prop_of least_geometry least_props lnum ≡ Some prop → IsOneOfBoth lnum prop
one_of_both lnum prop has = both_by lnum prop (nat_lt lnum 10) refl has

pub has_sums : (lnum : ℕ) (prop : Lprop) → prop_of least_geometry least_props lnum ≡ Some prop → prop.free + prop.dirty + committed_bytes least_index lnum ≡ 16384
has_sums lnum prop has = elim (one_of_both lnum prop has) [
  | inl (here, is) ↦
      let P : ℕ → Type 0 = λ k. prop.free + prop.dirty + committed_bytes least_index k ≡ 16384 in
      let Q : Lprop → Type 0 = λ p. p.free + p.dirty + committed_bytes least_index 10 ≡ 16384 in
      subst P (sym here) (subst Q is refl)
  | inr (here, is) ↦
      let P : ℕ → Type 0 = λ k. prop.free + prop.dirty + committed_bytes least_index k ≡ 16384 in
      let Q : Lprop → Type 0 = λ p. p.free + p.dirty + committed_bytes least_index 11 ≡ 16384 in
      subst P (sym here) (subst Q is refl)
]

pub has_ends : (contents : ℕ → List ℕ) → is_blank (drop 160 (contents 10)) ≡ true → (lnum : ℕ) (prop : Lprop) → prop_of least_geometry least_props lnum ≡ Some prop → lnum ≢ 11 → is_blank (drop (16384 - prop.free) (contents lnum)) ≡ true
has_ends contents h lnum prop has other = elim (one_of_both lnum prop has) [
  | inl (here, is) ↦
      let P : ℕ → Type 0 = λ k. is_blank (drop (16384 - prop.free) (contents k)) ≡ true in
      let Q : Lprop → Type 0 = λ p. is_blank (drop (16384 - p.free) (contents 10)) ≡ true in
      subst P (sym here) (subst Q is (blank_later (contents 10) 160 176 h (omega arith)))
  | inr (here, is) ↦ absurd (other here)
]

pub orphans_at : (contents : ℕ → List ℕ) → is_blank (contents 9) ≡ true → (lnum : ℕ) → 9 ≤ lnum → lnum < 10 → HasOrphanNodes (contents lnum)
orphans_at contents blank lnum low high =
    let here : lnum ≡ 9 = omega (arith, low, high) in
    let P : ℕ → Type 0 = λ k. HasOrphanNodes (contents k) in
    subst P (sym here) (blank_orphans (contents 9) blank)

-- the text of its log, with a gap so long
abbrev pub least_text : ℕ → LogText
least_text gap = start_text 3 (written 1 0 (commit_start (record { cmt_no = 0 }))) 1 0 gap

pub least_is_sound : (contents : ℕ → List ℕ) → IsLeastVolume contents → (log : List LogText) × SoundImage contents (least_image log)
least_is_sound contents h =
    let text : LogText = least_text h.log.start.gap in (
      text ∷ [],
      record {
        superblock = record { node = least_super; begins = h.super; known = refl; geometry = refl; in_range = in_range };
        masters = record { is_latest = h.masters; in_areas = least_placed };
        properties = h.properties;
        index = has_index contents least_props refl h.index;
        log = has_fresh_log contents least_geometry least_master 1 (leb-true 3 4 refl) (ltb-true 1 (2 ^ 64) refl) (ltb-true 0 (2 ^ 64) refl) h.log;
        buds = record { of_buds = refl; sound = tt };
        leaves = has_leaves contents least_props (text ∷ []) (h.bytes 10) h.leaf (no_orphans contents h.orphans) refl refl;
        sums = has_sums;
        ends = λ no_bud lnum prop has some not_all other. has_ends contents h.behind lnum prop has other;
        orphans = orphans_at contents h.orphans;
        tree = has_tree contents h;
        links = has_links;
      },
    )

-- ---- what is told of it
least_space : space_of_image (least_image []) ≡ record { used = 160; held = 0; credits = 0; empty = 0; index = 1; weight = 1; main = 2 }
unfolding key_rank same_leaf r5_of
least_space = refl

pub least_is_told : (log : List LogText) → references_of log ≡ [] → (is_clean (least_image log) ≡ true) × (space_of_image (least_image log) ≡ record { used = 160; held = 0; credits = 0; empty = 0; index = 1; weight = 1; main = 2 })
least_is_told log none =
    let same : parts_of (least_image log) ≡ parts_of (least_image []) = ap (λ (nodes : List RefNode). record (parts_of (least_image [])) { named = map named_by_ref_node nodes }) none in
    (refl, ap (space_found (main_area_of (least_image []))) same ∙ least_space)
