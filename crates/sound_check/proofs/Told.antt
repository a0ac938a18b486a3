-- What is told of an image that was read.
use Rattle.std.proofs.Common.{◌≡◌, ◌∙◌, ◌+◌, ℕ, Bool, true, false, cond, List, [], ◌∷◌, length, map, refl, ap, subst, arith}
use Rattle.std.specs.Prelude.{fold, nat_lt}
use Rattle.ubifs_base.specs.RawOf.{raw_of}
use Rattle.ubifs_base.specs.declared.raw_geometry.RawGeometry.{RawGeometry}
use Rattle.media_sys.specs.declared.branch.Branch.{Branch}
use Rattle.media_sys.specs.declared.ref_node.RefNode.{RefNode}
use Rattle.small_areas.specs.declared.placed_master.PlacedMaster.{PlacedMaster}
use Rattle.bud_log.specs.Log.{references_of}
use Rattle.index_tree.specs.declared.leaf.Leaf.{Leaf}
use Rattle.index_media.specs.Stored.{IsStoredIndex}
use Rattle.journal_scan.specs.Content.{told}
use Rattle.journal_scan.specs.Journal.{BudRead, copies_in, journal_nodes_in}
use Rattle.journal_scan.specs.declared.journal_node.JournalNode.{JournalNode}
use Rattle.leaf_map.specs.Kept.{Kept, Placed}
use Rattle.leaf_map.specs.Parts.{Parts}
use Rattle.leaf_map.specs.Recovered.{nodes_in_order, placed_node, recovered_of}
use Rattle.leaf_map.specs.SpaceFound.{space_found}
use Rattle.leaf_recovery.specs.Told.{AreLeavesTold}
use Rattle.leaf_recovery.specs.declared.recovered_leaf.RecoveredLeaf.{RecoveredLeaf}
use Rattle.sound_image.specs.Image.{Image, named_by_ref_node, parts_of}
use Rattle.sound_image.specs.Index.{root_branch}
use Rattle.sound_image.specs.Sound.{SoundImage}
use Rattle.sound_image.specs.Summary.{is_clean, main_area_of, space_of_image}
use Rattle.image_space.specs.Told.{IsToldOf}
use Rattle.sound_check.specs.Reads.{IsReadImage, told_of}
use Rattle.sound_check.specs.declared.image_read.ImageRead.{ImageRead}
use Rattle.sound_check.specs.declared.sound.Sound.{Sound}

-- ---- the count of nodes that were applied
placed_length : (nodes : List Placed) (new : Placed) → length (placed_node nodes new) ≡ length nodes + 1
placed_length [] new = refl
placed_length (x ∷ nodes) new = by (nat_lt new.sqnum x.sqnum) (placed_length nodes new)
  where
    by : (b : Bool) → length (placed_node nodes new) ≡ length nodes + 1 → length (cond b (new ∷ x ∷ nodes) (x ∷ placed_node nodes new)) ≡ length (x ∷ nodes) + 1
    by true more = omega arith
    by false more = omega (arith, more)

order_length : (acc nodes : List Placed) → length (fold placed_node acc nodes) ≡ length acc + length nodes
order_length acc [] = omega arith
order_length acc (x ∷ nodes) = let a = order_length (placed_node acc x) nodes in let b = placed_length acc x in omega (arith, a, b)

told_length : (xs : List Placed) → length (map told xs) ≡ length xs
told_length [] = refl
told_length (x ∷ xs) = let a = told_length xs in omega (arith, a)

nodes_counted : (nodes : List Placed) (applied : List JournalNode) → applied ≡ map told (nodes_in_order nodes) → length applied ≡ length nodes
nodes_counted nodes applied e =
    let a = ap length e in
    let b = told_length (nodes_in_order nodes) in
    let d = order_length [] nodes in
    omega (arith, a, b, d)

-- ---- the recovered leaves
places_same : (parts : Parts) (kept : List Kept) (rs : List RecoveredLeaf) → AreLeavesTold parts kept rs → map (λ x. x.leaf) rs ≡ map (λ x. x.leaf) kept
places_same parts [] [] h = refl
places_same parts [] (r ∷ rs) h = absurd h
places_same parts (x ∷ kept) [] h = absurd h
places_same parts (x ∷ kept) (r ∷ rs) h = ap (λ (l : Leaf). l ∷ map (λ y. y.leaf) rs) h.0.leaf ∙ ap (λ (ls : List Leaf). x.leaf ∷ ls) (places_same parts kept rs h.1)

-- ---- what the space is told of
pub told_space : (contents : ℕ → List ℕ) (read : ImageRead) (image : Image) → SoundImage contents image → IsReadImage contents read image
    → (nodes : List Branch) (references : List RefNode) (leaves : List Leaf) (applied : ℕ) → nodes ≡ read.index.nodes.items → references ≡ read.log.references.items → leaves ≡ map (λ x. x.leaf) read.tree.recovered.kept.items
    → applied ≡ length read.buds.read.nodes.items → IsToldOf (raw_of read.geometry) nodes references leaves applied image
told_space contents read image sound h nodes references leaves applied of_nodes of_references of_leaves of_applied =
    let P : RawGeometry → Type 0 = λ geo. IsStoredIndex contents geo.fanout (root_branch image.latest.master sound.index.key) image.placed in
    let Q : List BudRead → Type 0 = λ reads. length read.buds.read.nodes.items ≡ length (journal_nodes_in reads) in
    record {
      geometry = h.geo;
      contents = contents;
      root = root_branch image.latest.master sound.index.key;
      index = subst P h.geo sound.index.index;
      nodes_are = of_nodes ∙ h.index.nodes;
      references_are = of_references ∙ h.said.references_are;
      leaves_are = of_leaves ∙ places_same (parts_of image) (recovered_of (parts_of image)).kept read.tree.recovered.kept.items h.tree.recovered.kept;
      applied_is = of_applied ∙ subst Q h.said.buds (nodes_counted (journal_nodes_in h.said.read.reads) read.buds.read.nodes.items h.said.read.nodes);
    }

-- what is told, part by part
pub told_whole : (sound : Sound) (image : Image) → sound.clean ≡ is_clean image → sound.space ≡ space_of_image image → sound ≡ told_of image
told_whole sound image clean space = λ i. record { clean = clean i; space = space i }

-- the same is told of an image whose latest master stands elsewhere
same_parts : (image : Image) (latest : PlacedMaster) → latest.master ≡ image.latest.master → parts_of (record image { latest = latest }) ≡ parts_of image
same_parts image latest e = λ i. record {
  highest = (e i).highest_inum;
  committed = image.committed;
  named = map named_by_ref_node (references_of image.log);
  nodes = journal_nodes_in image.buds;
  copies = copies_in image.buds;
  listed = image.listed;
}

pub told_elsewhere : (image : Image) (latest : PlacedMaster) → latest.master ≡ image.latest.master → told_of (record image { latest = latest }) ≡ told_of image
told_elsewhere image latest e = λ i. record { clean = is_clean image; space = space_found (main_area_of image) (same_parts image latest e i) }
