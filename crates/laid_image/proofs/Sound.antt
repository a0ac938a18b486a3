-- Laid images are sound.
use Rattle.std.proofs.Common.{◌≡◌, ℕ, ◌<◌, ◌≤◌, true, List, [], ◌∷◌, Some, refl, ap, sym, ◌∙◌, subst, append-nil}
use Rattle.std.specs.Prelude.{◌++◌, ◌^◌, All, IsSome, length, map}
use Rattle.std.specs.List.{AllByRecursion, list_all}
use Rattle.std.proofs.lemmas.List.Elements.{All-nil, All-cons}
use Rattle.ubifs_base.specs.NodeLaws.{IsBytes}
use Rattle.ubifs_base.specs.declared.raw_geometry.RawGeometry.{RawGeometry}
use Rattle.media_lpt.specs.declared.lprop.Lprop.{Lprop}
use Rattle.media_sys.specs.declared.master.Master.{Master}
use Rattle.media_sys.specs.declared.ref_node.RefNode.{RefNode}
use Rattle.small_areas.specs.declared.placed_master.PlacedMaster.{PlacedMaster}
use Rattle.index_tree.specs.Distinct.{AreDistinct}
use Rattle.index_tree.specs.declared.leaf.Leaf.{Leaf}
use Rattle.index_media.specs.PlacedRow.{PlacedRow, are_disjoint, branch_to}
use Rattle.bud_log.specs.Buds.{buds_of}
use Rattle.bud_log.specs.Log.{references_of}
use Rattle.bud_log.specs.LogText.{LogText}
use Rattle.group_nodes.specs.Nodes.{change_of, leaf_key}
use Rattle.media_leaf.specs.LeafNode.{LeafNode, inode, block, entry, truncation}
use Rattle.leaf_map.specs.Allowed.{AreOriginals}
use Rattle.leaf_map.specs.Kept.{Kept, Placed, kept_at, node_key, shown, shown_by}
use Rattle.leaf_map.specs.LeafMap.{are_apart}
use Rattle.leaf_map.specs.Lost.{missing_leaves}
use Rattle.leaf_map.specs.Parts.{Committed, Parts, is_shown}
use Rattle.leaf_map.specs.Recovered.{highest_key, leaves_found, recovered_of, tree_found}
use Rattle.leaf_map.specs.Shown.{tree_of}
use Rattle.fs_model.specs.Files.{Tree}
use Rattle.fs_model.specs.Proper.{has_kind}
use Rattle.fs_model.specs.declared.inode.Kind.TheVariants.{Dir}
use Rattle.sound_image.specs.Buds.{HasBuds}
use Rattle.sound_image.specs.Frames.{IsKnownAt}
use Rattle.sound_image.specs.Image.{named_by_ref_node, parts_of}
use Rattle.sound_image.specs.Laid.{IsFreshLog, IsPlainLeaf}
use Rattle.sound_image.specs.Leaves.{AreCommitted, HasLeaves, IsPlacedIn, IsSoundLeaf, leaves_recovered}
use Rattle.sound_image.specs.Log.{HasLog}
use Rattle.sound_image.specs.Sound.{SoundImage}
use Rattle.sound_image.specs.Tree.{HasLinks, HasTree, IsCopy, ShowsItsNode, is_in_place, is_named_well}
use Rattle.laid_image.specs.Laid.{IsLaidImage, IsLaidNode, laid_image, leaf_of_placed, tree_of_nodes}
use Rattle.laid_image.proofs.Unmoved.{found_as_laid, kept_as_laid, none_empty, none_missing, parts_read, read}

-- what other crates' laws give
abbrev Originals : Type 0
Originals = (parts : Parts) (kept : List Kept) → AreOriginals parts.named kept parts.committed → leaves_found parts ≡ kept

abbrev FreshLogs : Type 0
FreshLogs = (contents : ℕ → List ℕ) (geo : RawGeometry) (master : Master) (sqnum : ℕ) → 3 ≤ geo.log_lebs → sqnum < 2 ^ 64 → master.cmt_no < 2 ^ 64
    → IsFreshLog contents geo master.log_lnum sqnum master.cmt_no → (texts : List LogText) × (length texts ≡ 1) × (references_of texts ≡ []) × HasLog contents geo master texts

abbrev PlainKnown : Type 0
PlainKnown = (contents : ℕ → List ℕ) (x : Placed) → IsBytes (contents x.lnum) → IsPlacedIn contents x → IsPlainLeaf x.node → IsKnownAt (contents x.lnum) x.offs

-- ---- the nodes, by parts
shows_all : (contents : ℕ → List ℕ) (geo : RawGeometry) (props : List Lprop) (nodes : List Placed) → AllByRecursion (IsLaidNode contents geo props) nodes
    → AllByRecursion (λ x. is_shown (shown x.node) ≡ true) nodes
shows_all contents geo props [] h = tt
shows_all contents geo props (x ∷ nodes) h = (h.0.shows, shows_all contents geo props nodes h.1)

committed_stand : (contents : ℕ → List ℕ) (geo : RawGeometry) (props : List Lprop) (nodes : List Placed) → AllByRecursion (IsLaidNode contents geo props) nodes
    → AreCommitted contents (map leaf_of_placed nodes) (map read nodes)
committed_stand contents geo props [] h = tt
committed_stand contents geo props (x ∷ nodes) h = (refl, (record { lnum = refl; offs = refl; len = refl }, h.0.stands), committed_stand contents geo props nodes h.1)

shown_there : (contents : ℕ → List ℕ) (geo : RawGeometry) (props : List Lprop) (nodes : List Placed) → AllByRecursion (IsLaidNode contents geo props) nodes
    → All (ShowsItsNode contents) (map kept_at nodes)
shown_there contents geo props [] h = All-nil (ShowsItsNode contents)
shown_there contents geo props (x ∷ nodes) h =
    All-cons (ShowsItsNode contents) (kept_at x) (map kept_at nodes) (record { sqnum = x.sqnum; group = x.group; is = h.0.stands.is; shown = h.0.shows }) (shown_there contents geo props nodes h.1)

-- a node that shows something has its key
keyed : (node : LeafNode) → is_shown (shown node) ≡ true → leaf_key node ≡ Some (node_key node)
keyed (inode node) s = refl
keyed (block node) s = refl
keyed (entry node) s = refl
keyed (truncation node) s = absurd cc

module _ (known : PlainKnown) (contents : ℕ → List ℕ) (bytes : (lnum : ℕ) → IsBytes (contents lnum)) (geo : RawGeometry) (props : List Lprop) where
  abbrev Sound : Leaf → Type 0
  Sound leaf = IsSoundLeaf contents geo props leaf

  sound_leaves : (nodes : List Placed) → AllByRecursion (IsLaidNode contents geo props) nodes → All Sound (map leaf_of_placed nodes)
  sound_leaves [] h = All-nil Sound
  sound_leaves (x ∷ nodes) h =
      All-cons Sound (leaf_of_placed x) (map leaf_of_placed nodes) (
        record {
          node = x;
          placed = record { lnum = refl; offs = refl; len = refl };
          stands = h.0.stands;
          key = keyed x.node h.0.shows;
          known = known contents x (bytes x.lnum) h.0.stands h.0.plain;
        },
        h.0.unmarked,
      ) (sound_leaves nodes h.1)

-- ---- the image
-- the parts of an image whose log names no bud
pub plain_parts : (geo : RawGeometry) (latest : PlacedMaster) (props : List Lprop) (placed : PlacedRow) (log : List LogText) (nodes : List Placed) → references_of log ≡ []
    → parts_of (laid_image geo latest props placed log nodes) ≡ parts_read latest.master.highest_inum nodes
plain_parts geo latest props placed log nodes none = ap (λ (refs : List RefNode). record (parts_read latest.master.highest_inum nodes) { named = map named_by_ref_node refs }) none

same_leaves : (nodes : List Placed) → map (λ x. x.leaf) (map kept_at nodes) ≡ map leaf_of_placed nodes
same_leaves [] = refl
same_leaves (x ∷ nodes) = ap (λ more. leaf_of_placed x ∷ more) (same_leaves nodes)

same_keys : (nodes : List Placed) → map (λ (x : Committed). x.leaf.key) (map read nodes) ≡ map (λ x. (leaf_of_placed x).key) nodes
same_keys [] = refl
same_keys (x ∷ nodes) = ap (λ more. (leaf_of_placed x).key ∷ more) (same_keys nodes)

same_committed : (nodes : List Placed) → map (λ (x : Committed). x.leaf) (map read nodes) ≡ map leaf_of_placed nodes
same_committed [] = refl
same_committed (x ∷ nodes) = ap (λ more. leaf_of_placed x ∷ more) (same_committed nodes)

module _ (originals : Originals) (contents : ℕ → List ℕ) (geo : RawGeometry) (latest : PlacedMaster) (props : List Lprop) (placed : PlacedRow) (nodes : List Placed)
    (h : IsLaidImage contents geo latest props placed nodes) where
  abbrev parts : Parts
  parts = parts_read latest.master.highest_inum nodes

  shows : AllByRecursion (λ x. is_shown (shown x.node) ≡ true) nodes
  shows = shows_all contents geo props nodes h.stand

  pub kept_are : (recovered_of parts).kept ≡ map kept_at nodes
  kept_are = kept_as_laid originals latest.master.highest_inum nodes shows

  pub tree_is : tree_found parts ≡ tree_of_nodes latest.master nodes
  tree_is = ap (λ kept. tree_of kept (highest_key latest.master.highest_inum (map (λ (x : Committed). x.leaf.key) (map read nodes)))) kept_are
      ∙ ap (λ keys. tree_of (map kept_at nodes) (highest_key latest.master.highest_inum keys)) (same_keys nodes)

  leaves_are : leaves_recovered parts ≡ map leaf_of_placed nodes
  leaves_are = ap (λ (empty : List Leaf). map (λ x. x.leaf) (recovered_of parts).kept ++ empty) (none_empty latest.master.highest_inum nodes shows)
      ∙ append-nil (map (λ x. x.leaf) (recovered_of parts).kept) ∙ ap (λ (kept : List Kept). map (λ x. x.leaf) kept) kept_are ∙ same_leaves nodes

  has_tree : HasTree contents parts
  has_tree = record {
    changes = All-nil (λ (x : Placed). IsSome (change_of x.node));
    copies = All-nil (IsCopy parts);
    distinct = subst AreDistinct (sym (same_committed nodes)) h.distinct;
    named = none_empty latest.master.highest_inum nodes shows;
    found = let P : List Kept → Type 0 = λ kept. are_apart kept ≡ true in subst P (sym (found_as_laid originals latest.master.highest_inum nodes shows)) h.tree.apart;
    shown = subst (λ kept. All (ShowsItsNode contents) kept) (sym kept_are) (shown_there contents geo props nodes h.stand);
    apart = let P : List Kept → Type 0 = λ kept. are_apart kept ≡ true in subst P (sym kept_are) h.tree.apart;
    root = let P : Tree → Type 0 = λ tree. has_kind tree 1 Dir ≡ true in subst P (sym tree_is) h.tree.root;
    entries = let P : List Kept → Type 0 = λ kept. list_all (λ x. is_named_well (tree_found parts) (shown_by x)) kept ≡ true in
        let Q : Tree → Type 0 = λ tree. list_all (λ x. is_named_well tree (shown_by x)) (map kept_at nodes) ≡ true in
        subst P (sym kept_are) (subst Q (sym tree_is) h.tree.entries);
    dirs = let P : Tree → Type 0 = λ tree. list_all (is_in_place tree) tree.inodes ≡ true in subst P (sym tree_is) h.tree.dirs;
  }

  module _ (known : PlainKnown) (fresh : FreshLogs) where
    has_leaves : (log : List LogText) → parts_of (laid_image geo latest props placed log nodes) ≡ parts → HasLeaves contents (laid_image geo latest props placed log nodes)
    has_leaves log same =
        let P : Parts → Type 0 = λ parts. All (IsSoundLeaf contents geo props) (leaves_recovered parts) in
        let D : Parts → Type 0 = λ parts. are_disjoint (map branch_to (leaves_recovered parts)) ≡ true in
        let A : List Leaf → Type 0 = λ leaves. AreCommitted contents leaves (map read nodes) in
        record {
          committed = subst A (sym h.leaves) (committed_stand contents geo props nodes h.stand);
          listed = h.listed;
          sound = subst P (sym same) (subst (λ leaves. All (IsSoundLeaf contents geo props) leaves) (sym leaves_are) (sound_leaves known contents h.bytes geo props nodes h.stand));
          replaced = ap missing_leaves same ∙ none_missing latest.master.highest_inum nodes shows;
          apart = subst D (sym same) (let E : List Leaf → Type 0 = λ leaves. are_disjoint (map branch_to leaves) ≡ true in subst E (sym leaves_are) h.disjoint);
        }

    pub laid_is_sound : (log : List LogText) × (references_of log ≡ []) × SoundImage contents (laid_image geo latest props placed log nodes)
    laid_is_sound = by (fresh contents geo latest.master h.sqnum h.superblock.in_range.log_lebs.0 h.number h.commit h.log)
      where
        by : (texts : List LogText) × (length texts ≡ 1) × (references_of texts ≡ []) × HasLog contents geo latest.master texts
            → (log : List LogText) × (references_of log ≡ []) × SoundImage contents (laid_image geo latest props placed log nodes)
        by (texts, one, none, log) =
            let same = plain_parts geo latest props placed texts nodes none in (
              texts,
              none,
              record {
                superblock = h.superblock;
                masters = h.masters;
                properties = h.properties;
                index = h.index;
                log = log;
                buds = let P : List RefNode → Type 0 = λ refs. HasBuds contents (buds_of refs) [] in subst P (sym none) (record { of_buds = refl; sound = tt });
                leaves = has_leaves texts same;
                sums = h.sums;
                ends = λ no_bud. h.ends;
                orphans = h.orphans;
                tree = subst (HasTree contents) (sym same) has_tree;
                links = let P : Tree → Type 0 = λ tree. HasLinks tree in subst P (sym (ap tree_found same ∙ tree_is)) h.tree.links;
              },
            )
