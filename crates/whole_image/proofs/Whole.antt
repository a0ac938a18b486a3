-- What was laid around the leaves of a tree is a whole image of it.
use Rattle.std.proofs.Common.{◌≡◌, ℕ, ◌+◌, ◌-◌, ◌<◌, List, [], length, refl, ap, ◌∙◌, arith}
use Rattle.std.specs.Prelude.{map}
use Rattle.ubifs_base.specs.Areas.{main_lebs}
use Rattle.ubifs_base.specs.declared.raw_geometry.RawGeometry.{RawGeometry}
use Rattle.ubi_volume.specs.Volume.{VolumeState}
use Rattle.media_lpt.specs.declared.lprop.Lprop.{Lprop}
use Rattle.media_sys.specs.declared.master.Master.{Master}
use Rattle.small_areas.specs.declared.placed_master.PlacedMaster.{PlacedMaster}
use Rattle.index_media.specs.PlacedRow.{PlacedRow}
use Rattle.bud_log.specs.Log.{references_of}
use Rattle.bud_log.specs.LogText.{LogText}
use Rattle.fs_model.specs.Files.{Tree}
use Rattle.fs_model.specs.Proper.{IsProper}
use Rattle.leaf_map.specs.Kept.{Placed, kept_at}
use Rattle.leaf_map.specs.Recovered.{recovered_of, tree_found}
use Rattle.sound_image.specs.Image.{Image, named_by_ref_node, parts_of}
use Rattle.sound_image.specs.Sound.{SoundImage}
use Rattle.sound_image.specs.Summary.{space_of_image}
use Rattle.laid_image.specs.Laid.{IsLaidImage, laid_image, tree_of_nodes}
use Rattle.tree_nodes.specs.Stored.{AreNodesOfTree, stored_tree}
use Rattle.made_image.specs.Around.{IsMadeAround, props_over}
use Rattle.made_image.specs.declared.filled_main.FilledMain.{FilledMain}
use Rattle.whole_image.specs.Made.{HoldsTree, IsMadeImage, IsMadeSpace}
use Rattle.whole_image.proofs.Spaces.{empty_counted, index_counted}
use Rattle.whole_image.proofs.Stored.{mounted, stored_is_read}

-- what is laid without a journal is a sound image, of the tree that its nodes show, and live nodes show their tree
pub record ImageLaws : Type 0 where
  pub sound : (contents : ℕ → List ℕ) (geo : RawGeometry) (latest : PlacedMaster) (props : List Lprop) (placed : PlacedRow) (nodes : List Placed)
      → IsLaidImage contents geo latest props placed nodes
      → (log : List LogText) × (references_of log ≡ []) × SoundImage contents (laid_image geo latest props placed log nodes)
  pub tree : (geo : RawGeometry) (latest : PlacedMaster) (props : List Lprop) (placed : PlacedRow) (log : List LogText) (nodes : List Placed) (contents : ℕ → List ℕ)
      → references_of log ≡ [] → IsLaidImage contents geo latest props placed nodes
      → tree_found (parts_of (laid_image geo latest props placed log nodes)) ≡ tree_of_nodes latest.master nodes
  pub leaves : (geo : RawGeometry) (latest : PlacedMaster) (props : List Lprop) (placed : PlacedRow) (log : List LogText) (nodes : List Placed) (contents : ℕ → List ℕ)
      → references_of log ≡ [] → IsLaidImage contents geo latest props placed nodes
      → (recovered_of (parts_of (laid_image geo latest props placed log nodes))).kept ≡ map kept_at nodes
  pub shown : (tree : Tree) (master : Master) (nodes : List Placed) → IsProper tree → AreNodesOfTree tree nodes → master.highest_inum ≡ tree.highest
      → tree_of_nodes master nodes ≡ stored_tree tree

module _ (laws : ImageLaws) (geo : RawGeometry) (uuid : List ℕ) (tree : Tree) (proper : IsProper tree) (main : FilledMain) (state : VolumeState) (held : HoldsTree geo state tree main)
    (contents : ℕ → List ℕ) (sqnum : ℕ) (around : IsMadeAround contents geo uuid sqnum main held.placed held.nodes) where
  shown : tree_of_nodes around.areas.latest.master held.nodes ≡ stored_tree tree
  shown = laws.shown tree around.areas.latest.master held.nodes proper held.are (ap (λ (m : Master). m.highest_inum) around.areas.is_fresh ∙ held.highest)

  -- what a mount counts of it
  counted : (log : List LogText) → references_of log ≡ [] → IsMadeSpace geo tree (space_of_image (laid_image geo around.areas.latest (props_over geo main) held.placed log held.nodes))
  counted log none =
      let image : Image = laid_image geo around.areas.latest (props_over geo main) held.placed log held.nodes in
      let index = index_counted geo main state.holds held.placed held.nodes held.indexed held.taken in
      let empty = empty_counted geo main state.holds held.placed held.nodes held.indexed held.taken (parts_of image).named (recovered_of (parts_of image)).kept (ap (map named_by_ref_node) none)
      (laws.leaves geo around.areas.latest (props_over geo main) held.placed log held.nodes contents none around.laid) in
      let room = held.taken.room in
      record {
        index = index ∙ held.index_packed;
        empty = all_taken (main_lebs geo) (length main.leaves.items) (length main.index.items) _ _ _ room empty held.leaves_packed index;
        weight = nothing_more _ ∙ held.weight;
      }
    where
      nothing_more : (n : ℕ) → n + 0 ≡ n
      nothing_more n = omega arith

      all_taken : (lebs leaves index empty packed counted : ℕ) → leaves + index < lebs → empty ≡ lebs - leaves - index → leaves ≡ packed → counted ≡ index → empty + packed + counted ≡ lebs
      all_taken lebs leaves index empty packed counted room a b c = omega (arith, room, a, b, c)

  by : (log : List LogText) × (references_of log ≡ []) × SoundImage contents (laid_image geo around.areas.latest (props_over geo main) held.placed log held.nodes) → IsMadeImage contents geo uuid tree
  by (log, none, sound) = record {
    main = main;
    placed = held.placed;
    nodes = held.nodes;
    last = sqnum;
    are = held.are;
    around = around;
    image = laid_image geo around.areas.latest (props_over geo main) held.placed log held.nodes;
    sound = sound;
    geometry = refl;
    clean = refl;
    space = counted log none;
    files = ap mounted (laws.tree geo around.areas.latest (props_over geo main) held.placed log held.nodes contents none around.laid ∙ shown) ∙ stored_is_read tree;
  }

  pub is_made : IsMadeImage contents geo uuid tree
  is_made = by (laws.sound contents geo around.areas.latest (props_over geo main) held.placed held.nodes around.laid)
