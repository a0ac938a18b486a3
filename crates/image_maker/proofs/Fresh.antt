-- From a fresh volume to a whole image.
use Rattle.std.proofs.Common.{◌≡◌, ℕ, ◌+◌, ◌-◌, ◌*◌, ◌^◌, ◌<◌, ◌≤◌, List, [], ◌∷◌, ◌++◌, length, sym, ap, ◌∙◌, arith}
use Rattle.ubifs_base.specs.declared.raw_geometry.RawGeometry.{RawGeometry}
use Rattle.ubifs_base.specs.Areas.{main_first, main_lebs}
use Rattle.ubifs_base.specs.Geometry.{IsGeometry}
use Rattle.ubi_volume.specs.MemVolume.{IsBlank}
use Rattle.ubi_volume.specs.Volume.{VolumeState}
use Rattle.fs_model.specs.Cover.{tree_bytes}
use Rattle.fs_model.specs.Files.{Tree}
use Rattle.fs_model.specs.Proper.{IsProper}
use Rattle.media_leaf.specs.LeafNode.{LeafNode}
use Rattle.image_maker.specs.declared.open_leb.OpenLeb.{OpenLeb}
use Rattle.std.proofs.lemmas.List.{append-nil}
use Rattle.image_maker.specs.Image.{shape_for}
use Rattle.image_maker.specs.Packed.{packed_after, packed_leaves}
use Rattle.image_maker.specs.Places.{AreLaid, IsWrittenLeaf, numbered_leaves}
use Rattle.image_maker.specs.declared.laid_leaves.LaidLeaves.{LaidLeaves}
use Rattle.std.specs.List.{AllByRecursion}
use Rattle.image_maker.specs.Laying.{AreLeafNodesLaid, AreLeavesReady, IsLeafLebClosed, LaysLeaves}
use Rattle.image_maker.specs.Leaves.{live_leaves}
use Rattle.image_maker.proofs.LayingLemmas.{AreLaid-close}
use Rattle.image_maker.proofs.Grammar.{all_leaves, are_written}
use Rattle.image_maker.proofs.Room.{HasRoom, IsLaid-new, length-le-sum_by}
use Rattle.image_maker.proofs.Packing.{packed_none}
use Rattle.image_maker.proofs.Ready.{done_room}
use Rattle.image_maker.proofs.TreeNodes.{live_leaves-are, sum_by-live_leaves, some_leaf}

-- the first main LEB is open, and took nothing
pub record IsNew (raw : RawGeometry) (open_leb : OpenLeb) : Type 0 where
  pub lnum : open_leb.lnum ≡ main_first raw
  pub sqnum : open_leb.sqnum ≡ 1
  pub bytes : open_leb.bytes.items ≡ []
  pub leaves : open_leb.leaves.items ≡ []
  pub used : open_leb.used.items ≡ []

fresh_laid : (raw : RawGeometry) (open_leb : OpenLeb) (state : VolumeState) → IsGeometry raw → IsBlank (shape_for raw) state → IsNew raw open_leb → AreLeafNodesLaid raw [] open_leb state.holds
fresh_laid raw open_leb state geo blank new = IsLaid-new raw open_leb state.holds geo.leb_cnt.0 blank.holds new.lnum new.sqnum new.bytes new.leaves new.used

-- the leaves of a tree of few bytes are in the grammar, numbered from 1 on
nodes_written : (tree : Tree) → IsProper tree → tree_bytes tree ≤ 2 ^ 30 → AllByRecursion IsWrittenLeaf (numbered_leaves 1 (live_leaves tree))
nodes_written tree proper few =
    let sum = sum_by-live_leaves tree proper in
    let count = length-le-sum_by (live_leaves tree) in
    are_written 1 (live_leaves tree) (omega (arith, few, sum, count)) (live_leaves-are tree proper few)

-- and few
few_leaves : (tree : Tree) → IsProper tree → tree_bytes tree ≤ 2 ^ 30 → length (live_leaves tree) ≤ 2 ^ 30
few_leaves tree proper few =
    let sum = sum_by-live_leaves tree proper in
    let count = length-le-sum_by (live_leaves tree) in
    omega (arith, few, sum, count)

-- the LEBs that they take from the first one on
new_packed : (raw : RawGeometry) (leaves : List LeafNode) (open_leb : OpenLeb) → IsNew raw open_leb → packed_after raw open_leb leaves ≡ packed_leaves raw.leb_size 0 leaves
new_packed raw leaves open_leb new =
    let empty : length open_leb.bytes.items ≡ 0 = ap length new.bytes in
    ap (λ xs. xs ++ packed_leaves raw.leb_size (length open_leb.bytes.items) leaves) new.used ∙ ap (λ (n : ℕ). packed_leaves raw.leb_size n leaves) empty

-- all leaves of a tree that fits can be laid
pub tree_ready : (raw : RawGeometry) (tree : Tree) (open_leb : OpenLeb) (state : VolumeState) → IsGeometry raw → IsProper tree → tree_bytes tree ≤ 2 ^ 30
    → length (packed_leaves raw.leb_size 0 (live_leaves tree)) < main_lebs raw → IsBlank (shape_for raw) state → IsNew raw open_leb → AreLeavesReady raw (live_leaves tree) open_leb state
tree_ready raw tree open_leb state geo proper few fits blank new =
    let sum = sum_by-live_leaves tree proper in
    let empty : length open_leb.bytes.items ≡ 0 = ap length new.bytes in
    let all = ap length (new_packed raw (live_leaves tree) open_leb new) in
    record {
      nodes = all_leaves (live_leaves tree) (live_leaves-are tree proper few);
      done = [];
      laid = fresh_laid raw open_leb state geo blank new;
      room = omega (arith, all, fits);
      few = omega (arith, sum, few);
      fits = omega (arith, empty);
      geometry = record { leb_size = blank.leb_size; min_io = blank.min_io; leb_cnt = blank.leb_cnt; sure = blank.sure };
    }

-- then the last LEB can be closed, and one is left behind it
pub last_room : (raw : RawGeometry) (tree : Tree) (before after : OpenLeb) (was state : VolumeState) → AreLeavesReady raw (live_leaves tree) before was
    → LaysLeaves raw (live_leaves tree) before was after state → after.lnum + 2 ≤ raw.leb_cnt
last_room raw tree before after was state ready l =
    let room : HasRoom raw after = done_room raw (live_leaves tree) before after was state ready l in
    room.lnum

-- it has some bytes
pub last_some : (raw : RawGeometry) (tree : Tree) (before after : OpenLeb) (was state : VolumeState) → IsProper tree → LaysLeaves raw (live_leaves tree) before was after state → 0 < length after.bytes.items
last_some raw tree before after was state proper l = let some = some_leaf tree proper in l.some (omega (arith, some))

-- LEBs took leaves as long as they fit
all_packed : (raw : RawGeometry) (tree : Tree) (before after : OpenLeb) (was state : VolumeState) → IsNew raw before → LaysLeaves raw (live_leaves tree) before was after state
    → after.used.items ++ length after.bytes.items ∷ [] ≡ packed_leaves raw.leb_size 0 (live_leaves tree)
all_packed raw tree before after was state first l =
    ap (λ xs. after.used.items ++ xs) (sym (packed_none raw.leb_size (length after.bytes.items)))
    ∙ l.packed []
    ∙ new_packed raw (live_leaves tree ++ []) before first
    ∙ ap (packed_leaves raw.leb_size 0) (append-nil (live_leaves tree))

-- and all is laid
pub last_closed : (raw : RawGeometry) (tree : Tree) (before after closed : OpenLeb) (was state : VolumeState) (new : ℕ → List ℕ) (laid : LaidLeaves) → IsGeometry raw → IsProper tree
    → tree_bytes tree ≤ 2 ^ 30 → IsBlank (shape_for raw) was → IsNew raw before → after.lnum + 2 ≤ raw.leb_cnt
    → laid.leaves.items ≡ closed.leaves.items → laid.used.items ≡ closed.used.items → laid.sqnum ≡ closed.sqnum
    → LaysLeaves raw (live_leaves tree) before was after state → IsLeafLebClosed raw after closed state.holds new → AreLaid raw (live_leaves tree) new laid
last_closed raw tree before after closed was state new laid geo proper few blank first room leaves used sqnum l closing =
    AreLaid-close raw (live_leaves tree) after closed state.holds new laid room (last_some raw tree before after was state proper l) l.fits (nodes_written tree proper few) (few_leaves tree proper few) leaves used sqnum (all_packed raw tree before after was state first l) closing
    (l.laid [] (fresh_laid raw before was geo blank first))
