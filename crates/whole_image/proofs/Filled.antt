-- Leaves of a tree and an index of them that were laid are what an image is laid around.
use Rattle.std.proofs.Common.{◌≡◌, ℕ, zero, suc, ◌+◌, ◌-◌, ◌<◌, ◌≤◌, true, false, List, [], ◌∷◌, ◌++◌, Some, inl, inr, length, get_or, refl, ap, sym, ◌∙◌, subst, arith}
use Rattle.std.specs.Prelude.{◌⊎◌, All, IsTrue, map, not, slice_get, take}
use Rattle.std.specs.List.{AllByRecursion, list_all}
use Rattle.std.specs.Option.{option_map_or}
use Rattle.std.proofs.lemmas.Bool.{le-ltb}
use Rattle.std.proofs.lemmas.List.{length-map}
use Rattle.std.proofs.lemmas.List.Elements.{All-head, All-tail}
use Rattle.ubifs_base.specs.Areas.{main_first, main_lebs}
use Rattle.ubifs_base.specs.declared.raw_geometry.RawGeometry.{RawGeometry}
use Rattle.ubifs_base.specs.Geometry.{IsGeometry}
use Rattle.ubi_volume.specs.Frame.{IsSameLeb}
use Rattle.ubi_volume.specs.Volume.{VolumeState, filled}
use Rattle.media_lpt.specs.declared.lprop.Lprop.{Lprop}
use Rattle.media_sys.specs.declared.branch.Branch.{Branch}
use Rattle.media_sys.specs.declared.master.Master.{Master}
use Rattle.lpt_area.specs.declared.lpt_at.LptAt.{LptAt}
use Rattle.small_areas.specs.Copies.{IsMasterLeb}
use Rattle.index_tree.specs.Distinct.{AreDistinct}
use Rattle.index_tree.specs.Shape.{contents as leaves_in, shape_weight}
use Rattle.index_tree.specs.declared.leaf.Leaf.{Leaf}
use Rattle.index_media.specs.PlacedRow.{PlacedRow, all_nodes, are_disjoint, branch_to, branches_of, plain}
use Rattle.index_media.specs.Stored.{IsStoredIndex}
use Rattle.fs_model.specs.Files.{Tree}
use Rattle.fs_model.specs.Orphan.{nameless}
use Rattle.fs_model.specs.Proper.{IsProper}
use Rattle.leaf_map.specs.Kept.{Placed, kept_at}
use Rattle.sound_image.specs.Leaves.{IsPlacedIn}
use Rattle.sound_image.specs.Properties.{is_unmarked, prop_of}
use Rattle.laid_image.specs.Laid.{IsLaidNode, ShowTree, leaf_of_placed, tree_of_nodes}
use Rattle.laid_main.specs.Filling.{AreFilled, TakesOfLebs}
use Rattle.laid_main.specs.Props.{laid_props, prop_behind}
use Rattle.tree_nodes.specs.Stored.{AreNodesOfTree}
use Rattle.laid_tree.specs.Leaves.{AreLeavesLaid}
use Rattle.laid_tree.specs.Standing.{StandInOrder, StandsUnmarked, is_plain}
use Rattle.image_maker.specs.Leaves.{live_leaves}
use Rattle.image_maker.specs.Packed.{packed_leaves}
use Rattle.image_maker.specs.declared.laid_leaves.LaidLeaves.{LaidLeaves}
use Rattle.tree_space.specs.Laid.{laid_weight}
use Rattle.laid_index.specs.Indexed.{IsLaidIndex}
use Rattle.laid_index.specs.Packing.{index_used, index_weight}
use Rattle.laid_index.specs.declared.laid_index.LaidIndex.{LaidIndex}
use Rattle.made_image.specs.Around.{IsUnwrittenLeb, StandsPlain, made_master}
use Rattle.made_image.specs.declared.filled_main.FilledMain.{FilledMain}
use Rattle.whole_image.specs.Made.{HoldsTree, IsPlainTree}
use Rattle.whole_image.proofs.IndexWeight.{full_nodes_weigh}

-- what other laws give
pub record TreeLaws : Type 0 where
  pub shows : (tree : Tree) (master : Master) (nodes : List Placed) → IsProper tree → AreNodesOfTree tree nodes → master.highest_inum ≡ tree.highest → nameless tree ≡ []
      → ShowTree (map kept_at nodes) (tree_of_nodes master nodes)
  pub laid : (contents : ℕ → List ℕ) (geo : RawGeometry) (props : List Lprop) (tree : Tree) (nodes : List Placed) → IsProper tree → AreNodesOfTree tree nodes
      → IsTrue (list_all is_plain tree.inodes) → AllByRecursion (StandsUnmarked contents geo props) nodes → AllByRecursion (IsLaidNode contents geo props) nodes
  pub disjoint : (lnum offs : ℕ) (nodes : List Placed) → StandInOrder lnum offs nodes → IsTrue (are_disjoint (map branch_to (map leaf_of_placed nodes)))
  pub distinct : (lnum offs : ℕ) (nodes : List Placed) → StandInOrder lnum offs nodes → AreDistinct (map leaf_of_placed nodes)
  pub leaves : (geo : RawGeometry) (leaves index : List ℕ) (i : ℕ) → i < length leaves → slice_get (laid_props geo leaves index) i ≡ Some (prop_behind geo (get_or leaves i 0) false)

nowhere : LptAt
nowhere = record { lnum = 0; offs = 0; ltab_lnum = 0; ltab_offs = 0; nhead_lnum = 0; nhead_offs = 0 }

abbrev Lies : ℕ → ℕ → Branch → Type 0
Lies low high branch = (low ≤ branch.lnum) × (branch.lnum < high)

module _ (geo : RawGeometry) (tree : Tree) (main : FilledMain) (state : VolumeState) (nodes : List Placed) (placed : PlacedRow) (laws : TreeLaws) where
  abbrev first : ℕ
  first = main_first geo

  abbrev behind : ℕ
  behind = main_first geo + length main.leaves.items

  abbrev props : List Lprop
  props = laid_props geo main.leaves.items []

  unmarked : (lnum : ℕ) → first ≤ lnum → lnum < behind → is_unmarked geo props lnum ≡ true
  unmarked lnum low high =
      let there : prop_of geo props lnum ≡ Some (prop_behind geo (get_or main.leaves.items (lnum - first) 0) false) =
      rw (le-ltb lnum first low) (laws.leaves geo main.leaves.items [] (lnum - first) (omega (arith, low, high))) in
      ap (λ o. option_map_or (λ (prop : Lprop). not prop.index) o false) there

  all_unmarked : (xs : List Placed) → All (Lies first behind) (map branch_to (map leaf_of_placed xs)) → AllByRecursion (IsPlacedIn state.holds) xs → AllByRecursion (StandsUnmarked state.holds geo props) xs
  all_unmarked [] within stand = tt
  all_unmarked (x ∷ xs) within stand =
      let P : Branch → Type 0 = Lies first behind in
      let rest = map branch_to (map leaf_of_placed xs) in
      let here = All-head P (branch_to (leaf_of_placed x)) rest within in
      (record { stands = stand.0; unmarked = unmarked x.lnum here.0 here.1 }, all_unmarked xs (All-tail P (branch_to (leaf_of_placed x)) rest within) stand.1)

  all_plain : (xs : List Placed) → AllByRecursion (IsLaidNode state.holds geo props) xs → AllByRecursion (StandsPlain state.holds) xs
  all_plain [] laid = tt
  all_plain (x ∷ xs) laid = (record { stands = laid.0.stands; plain = laid.0.plain; shows = laid.0.shows }, all_plain xs laid.1)

  module _ (proper : IsProper tree) (can : IsPlainTree tree) (leaves : AreLeavesLaid geo state.holds tree nodes main.leaves.items)
      (index : IsStoredIndex state.holds geo.fanout main.root placed) (key : map (λ (branch : Branch). branch.key) (take 1 (branches_of index.children)) ≡ main.root.key ∷ [])
      (said : leaves_in (plain placed) ≡ map leaf_of_placed nodes) (takes : TakesOfLebs (main_first geo + length main.leaves.items) main.index.items (all_nodes placed))
      (filled_there : AreFilled geo state.holds (main_first geo + length main.leaves.items) main.index.items) (room : length main.leaves.items + length main.index.items < main_lebs geo)
      (leaves_packed : length main.leaves.items ≡ length (packed_leaves geo.leb_size 0 (live_leaves tree))) (index_packed : length main.index.items ≡ length (index_used geo (length (live_leaves tree))))
      (weight : shape_weight geo.fanout (plain placed) ≡ laid_weight geo tree) (highest : main.highest ≡ tree.highest) (blank : (lnum : ℕ) → lnum < main_first geo → state.holds lnum ≡ filled state.leb_size [])
      (open_there : (lnum : ℕ) → IsMasterLeb lnum → state.written lnum ≡ 0) where
    some : 0 < length main.index.items
    some =
        let Q : Branch → Type 0 = λ branch. (behind ≤ branch.lnum) × (branch.lnum < behind + length main.index.items) in
        let P : PlacedRow → Type 0 = λ row. All Q (all_nodes row) in
        let here = All-head Q main.root (all_nodes index.children ++ []) (subst P index.whole takes.within) in
        let low = here.0 in
        let high = here.1 in
        omega (arith, low, high)

    pub holds_tree : HoldsTree geo state tree main
    holds_tree = record {
      placed = placed;
      nodes = nodes;
      indexed = record {
        leaves = leaves.takes;
        leaves_filled = leaves.filled;
        nodes_taken = takes;
        index_filled = filled_there;
        index = index;
        key = key;
        said = said;
        stand = all_plain nodes (laws.laid state.holds geo (laid_props geo main.leaves.items []) tree nodes proper leaves.are can.plain (all_unmarked nodes leaves.takes.within leaves.stand));
        distinct = laws.distinct (main_first geo) 0 nodes leaves.order;
        disjoint = laws.disjoint (main_first geo) 0 nodes leaves.order;
        tree = laws.shows tree (made_master geo main nowhere) nodes proper leaves.are highest can.named;
      };
      taken = record { leaves = leaves.filled.some; index = filled_there.some; some = some; room = room };
      are = leaves.are;
      leaves_packed = leaves_packed;
      index_packed = index_packed;
      weight = weight;
      highest = highest;
      blank = blank;
      open_there = open_there;
    }

-- ---- over the calls that lay them
master_or_not : (lnum : ℕ) → IsMasterLeb lnum ⊎ (IsMasterLeb lnum → ⊥)
master_or_not zero = inr (λ is. elim is [ inl one ↦ omega (arith, one) | inr two ↦ omega (arith, two) ])
master_or_not (suc zero) = inl (inl refl)
master_or_not (suc (suc zero)) = inl (inr refl)
master_or_not (suc (suc (suc n))) = inr (λ is. elim is [ inl one ↦ omega (arith, one) | inr two ↦ omega (arith, two) ])

no_master : (lnum : ℕ) → 3 ≤ lnum → IsMasterLeb lnum → ⊥
no_master lnum low (inl one) = omega (arith, low, one)
no_master lnum low (inr two) = omega (arith, low, two)

-- leaves that were laid stand where their LEBs hold the same
abbrev pub LeavesStay : Type 0
LeavesStay = (geo : RawGeometry) (old new : ℕ → List ℕ) (tree : Tree) (nodes : List Placed) (used : List ℕ) → ((k : ℕ) → k < length used → new (main_first geo + k) ≡ old (main_first geo + k))
    → AreLeavesLaid geo old tree nodes used → AreLeavesLaid geo new tree nodes used

-- what is told of leaves that were laid
abbrev pub StandLaid : RawGeometry → Tree → (ℕ → List ℕ) → LaidLeaves → Type 0
StandLaid geo tree contents laid = (nodes : List Placed) × AreLeavesLaid geo contents tree nodes laid.used.items × (laid.leaves.items ≡ map leaf_of_placed nodes) × (laid.sqnum ≡ length nodes + 1)

module _ (laws : TreeLaws) (kept : LeavesStay) (geo : RawGeometry) (g : IsGeometry geo) (tree : Tree) (proper : IsProper tree) (can : IsPlainTree tree) (v1 v2 v3 : VolumeState)
    (laid : LaidLeaves) (stand : StandLaid geo tree v1.holds laid)
    (unwritten : (n : ℕ) → n < geo.leb_cnt → (n < main_first geo) ⊎ (main_first geo + length laid.used.items ≤ n) → v1.holds n ≡ filled geo.leb_size [])
    (opened : (lnum : ℕ) → IsMasterLeb lnum → IsUnwrittenLeb v2 lnum) (second : (lnum : ℕ) → (IsMasterLeb lnum → ⊥) → IsSameLeb v1 v2 lnum)
    (leaves : List Leaf) (are : leaves ≡ laid.leaves.items) (at sqnum : ℕ) (at_is : at ≡ main_first geo + length laid.used.items) (made : LaidIndex) (indexed : IsLaidIndex geo v3.holds leaves at sqnum made)
    (third : (k : ℕ) → (k < at) ⊎ (at + length (index_used geo (length leaves)) ≤ k) → IsSameLeb v2 v3 k)
    (fits : length (index_used geo (length leaves)) + length laid.used.items + 1 ≤ main_lebs geo) (size2 : v2.leb_size ≡ geo.leb_size) (size3 : v3.leb_size ≡ geo.leb_size)
    (highest : ℕ) (same : highest ≡ tree.highest) (packed : laid.used.items ≡ packed_leaves geo.leb_size 0 (live_leaves tree)) (some : 0 < length stand.0) where
  leaves_stay : AreLeavesLaid geo v3.holds tree stand.0 laid.used.items
  leaves_stay = kept geo v1.holds v3.holds tree stand.0 laid.used.items (λ k lt.
      (third (main_first geo + k) (inl (omega (arith, lt, at_is)))).holds ∙ (second (main_first geo + k) (no_master (main_first geo + k) (omega arith))).holds) stand.1

  blank_before : (lnum : ℕ) → lnum < main_first geo → v3.holds lnum ≡ filled v3.leb_size []
  blank_before lnum low = (third lnum (inl (omega (arith, low, at_is)))).holds ∙ by (master_or_not lnum) ∙ ap (λ (n : ℕ). filled n []) (sym size3)
    where
      by : IsMasterLeb lnum ⊎ (IsMasterLeb lnum → ⊥) → v2.holds lnum ≡ filled geo.leb_size []
      by (inl is) = (opened lnum is).blank ∙ ap (λ (n : ℕ). filled n []) size2
      by (inr not) = let most = g.leb_cnt.0 in (second lnum not).holds ∙ unwritten lnum (omega (arith, low, most)) (inl low)

  open_still : (lnum : ℕ) → IsMasterLeb lnum → v3.written lnum ≡ 0
  open_still lnum is =
      let low : lnum < 3 = elim is [ inl one ↦ omega (arith, one) | inr two ↦ omega (arith, two) ] in
      (third lnum (inl (omega (arith, low, at_is)))).written ∙ (opened lnum is).open_there

  -- there are as many leaves as the tree has
  many_nodes : length stand.0 ≡ length (live_leaves tree)
  many_nodes = sym (length-map stand.0 (λ (x : Placed). x.node)) ∙ ap length stand.1.are

  many_leaves : length leaves ≡ length (live_leaves tree)
  many_leaves = ap length (are ∙ stand.2) ∙ length-map stand.0 leaf_of_placed ∙ many_nodes

  weighs : shape_weight geo.fanout (plain indexed.placed) ≡ laid_weight geo tree
  weighs = indexed.weight ∙ ap (index_weight geo.fanout) many_leaves ∙ full_nodes_weigh geo.fanout (length (live_leaves tree)) g.fanout.0 (let e = many_nodes in omega (arith, e, some))

  pub all_laid : HoldsTree geo v3 tree (record { leaves = laid.used; index = made.used; root = made.root; highest = highest })
  all_laid =
      let many = ap length indexed.used in
      let T : ℕ → Type 0 = λ n. TakesOfLebs n made.used.items (all_nodes indexed.placed) in
      let F : ℕ → Type 0 = λ n. AreFilled geo v3.holds n made.used.items in
      holds_tree geo tree (record { leaves = laid.used; index = made.used; root = made.root; highest = highest }) v3 stand.0 indexed.placed laws proper can leaves_stay indexed.index indexed.key
      (indexed.holds ∙ are ∙ stand.2) (subst T at_is indexed.takes) (subst F at_is indexed.filled) (omega (arith, many, fits)) (ap length packed) (ap length indexed.used ∙ ap (λ n. length (index_used geo n)) many_leaves) weighs same blank_before open_still
