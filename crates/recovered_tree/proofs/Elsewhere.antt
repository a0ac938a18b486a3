-- The files of an image whose latest master stands elsewhere.
use Rattle.std.proofs.Common.{◌≡◌, map, ap}
use Rattle.small_areas.specs.declared.placed_master.PlacedMaster.{PlacedMaster}
use Rattle.bud_log.specs.Log.{references_of}
use Rattle.journal_scan.specs.Journal.{copies_in, journal_nodes_in}
use Rattle.leaf_map.specs.Parts.{Parts}
use Rattle.leaf_map.specs.Recovered.{tree_found}
use Rattle.fs_model.specs.Files.{Tree}
use Rattle.sound_image.specs.Image.{Image, named_by_ref_node, parts_of}
use Rattle.sound_image.specs.Summary.{with_a_link}
use Rattle.recovered_tree.specs.Files.{files_of_image, without_lone_blocks}

same_parts : (image : Image) (latest : PlacedMaster) → latest.master ≡ image.latest.master → parts_of (record image { latest = latest }) ≡ parts_of image
same_parts image latest e = λ i. record {
  highest = (e i).highest_inum;
  committed = image.committed;
  named = map named_by_ref_node (references_of image.log);
  nodes = journal_nodes_in image.buds;
  copies = copies_in image.buds;
  listed = image.listed;
}

-- the files of what was read
abbrev files_of_parts : Parts → Tree
files_of_parts parts = without_lone_blocks (let found = tree_found parts in record found { inodes = map (λ e. (e.0, with_a_link e.1)) found.inodes })

pub files_elsewhere : (image : Image) (latest : PlacedMaster) → latest.master ≡ image.latest.master → files_of_image (record image { latest = latest }) ≡ files_of_image image
files_elsewhere image latest e = ap files_of_parts (same_parts image latest e)
