-- What an image says, part by part.
use Rattle.std.specs.Prelude.{◌≡◌, ℕ, ◌<◌, List, length, map}
use Rattle.ubifs_base.specs.JournalHead.{head_number}
use Rattle.ubifs_base.specs.NodeLaws.{IsBytes}
use Rattle.ubifs_base.specs.declared.raw_geometry.RawGeometry.{RawGeometry}
use Rattle.media_lpt.specs.declared.lprop.Lprop.{Lprop}
use Rattle.media_sys.specs.declared.ref_node.RefNode.{RefNode}
use Rattle.small_areas.specs.declared.placed_master.PlacedMaster.{PlacedMaster}
use Rattle.bud_log.specs.Log.{references_of}
use Rattle.bud_log.specs.LogText.{LogText}
use Rattle.index_media.specs.PlacedRow.{PlacedRow}
use Rattle.journal_scan.specs.Journal.{BudRead, copies_in, journal_nodes_in}
use Rattle.leaf_map.specs.Parts.{Committed, Named, Parts}

-- Contents as a volume has them: bytes in each LEB, and in those of the geometry as many as it says. The volume may have more LEBs: no rule asks
-- anything of them, but a branch that leads there is followed.
pub record AreOfVolume (contents : ℕ → List ℕ) (geo : RawGeometry) : Type 0 where
  pub bytes : (lnum : ℕ) → IsBytes (contents lnum)
  pub full : (lnum : ℕ) → lnum < geo.leb_cnt → length (contents lnum) ≡ geo.leb_size

-- The geometry, the latest master, the properties of the main LEBs, the committed index, the texts of the log that are read,
-- what was read of each bud, the committed leaves with what stands at their places, and the list of orphans.
pub record Image : Type 0 where
  pub geo : RawGeometry
  pub latest : PlacedMaster
  pub props : List Lprop
  pub placed : PlacedRow
  pub log : List LogText
  pub buds : List BudRead
  pub committed : List Committed
  pub listed : List ℕ

-- a reference, as recovery takes it
abbrev pub named_by_ref_node : RefNode → Named
named_by_ref_node node = record { head = head_number node.head; lnum = node.lnum; from = node.offs }

-- what a mount has read of such an image
abbrev pub parts_of : Image → Parts
parts_of image = record {
  highest = image.latest.master.highest_inum;
  committed = image.committed;
  named = map named_by_ref_node (references_of image.log);
  nodes = journal_nodes_in image.buds;
  copies = copies_in image.buds;
  listed = image.listed;
}
