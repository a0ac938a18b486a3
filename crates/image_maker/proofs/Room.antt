-- The main LEBs don't run out.
use Rattle.std.proofs.Common.{◌≡◌, ℕ, ◌+◌, ◌^◌, ◌<◌, ◌≤◌, List, [], ◌∷◌, length, refl, ap, ◌∙◌, arith}
use Rattle.std.specs.List.{sum_by}
use Rattle.std.proofs.lemmas.List.Sums.{sum_by-cons}
use Rattle.std.proofs.lemmas.List.{length-map}
use Rattle.ubifs_base.specs.declared.raw_geometry.RawGeometry.{RawGeometry}
use Rattle.ubifs_base.specs.Areas.{main_first, main_lebs}
use Rattle.ubi_volume.specs.Volume.{filled}
use Rattle.media_leaf.specs.LeafNode.{LeafNode, inode, block, entry, truncation}
use Rattle.image_maker.specs.declared.open_leb.OpenLeb.{OpenLeb}
use Rattle.image_maker.specs.Laying.{AreLeafNodesLaid}
use Rattle.image_maker.specs.Packed.{packed_after}
use Rattle.image_maker.specs.Places.{row_bytes}
use Rattle.image_maker.proofs.Packing.{packed_after_some}
use Rattle.group_nodes.specs.Texts.{padded_leaf_bytes}

leaf_bytes-pos : (leaf : LeafNode) → 1 ≤ padded_leaf_bytes leaf
leaf_bytes-pos (inode node) = omega arith
leaf_bytes-pos (block node) = omega arith
leaf_bytes-pos (entry node) = omega arith
leaf_bytes-pos (truncation node) = omega arith

pub length-le-sum_by : (leaves : List LeafNode) → length leaves ≤ sum_by padded_leaf_bytes leaves
length-le-sum_by [] = omega arith
length-le-sum_by (leaf ∷ leaves) =
    let one = leaf_bytes-pos leaf in
    let more = length-le-sum_by leaves in
    let sum = sum_by-cons padded_leaf_bytes leaf leaves in
    omega (arith, one, more, sum)

-- where the open LEB and the next sequence number are
pub record HasRoom (raw : RawGeometry) (open_leb : OpenLeb) : Type 0 where
  pub lnum : open_leb.lnum + 2 ≤ raw.leb_cnt
  pub sqnum : open_leb.sqnum < 2 ^ 63

-- the open LEB is among those that are taken once more leaves are laid too, so one is left behind it
pub room : (raw : RawGeometry) (leaves next : List LeafNode) (open_leb : OpenLeb) (holds : ℕ → List ℕ)
    → length (packed_after raw open_leb next) < main_lebs raw
    → sum_by padded_leaf_bytes leaves ≤ 2 ^ 30
    → AreLeafNodesLaid raw leaves open_leb holds
    → HasRoom raw open_leb
room raw leaves next open_leb holds fits few h =
    let rows : length open_leb.used.items ≡ length h.rows = ap length h.used ∙ length-map h.rows row_bytes in
    let some = packed_after_some raw open_leb next in
    let place = h.place in
    let number = h.number in
    let count = length-le-sum_by leaves in
    record {
      lnum = omega (arith, rows, some, place, fits);
      sqnum = omega (arith, count, number, few);
    }

-- on a fresh volume nothing is laid
pub IsLaid-new : (raw : RawGeometry) (open_leb : OpenLeb) (holds : ℕ → List ℕ)
    → main_first raw < raw.leb_cnt
    → ((k : ℕ) → k < raw.leb_cnt → holds k ≡ filled raw.leb_size [])
    → open_leb.lnum ≡ main_first raw
    → open_leb.sqnum ≡ 1
    → open_leb.bytes.items ≡ []
    → open_leb.leaves.items ≡ []
    → open_leb.used.items ≡ []
    → AreLeafNodesLaid raw [] open_leb holds
IsLaid-new raw open_leb holds inside blank lnum sqnum bytes leaves used =
    let empty : length open_leb.bytes.items ≡ 0 = ap length bytes in
    record {
      rows = [];
      last = [];
      all = refl;
      each = tt;
      buffer = bytes;
      place = omega (arith, lnum);
      number = sqnum;
      held = record {
        main = λ k past. absurd (omega (arith, past));
        before = λ n early. blank n (omega (arith, early, inside));
        behind = λ n late within. blank n within;
      };
      taken = omega (arith, empty);
      leaves_are = leaves;
      used = used;
    }
