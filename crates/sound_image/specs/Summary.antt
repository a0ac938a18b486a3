-- What is told of a sound image.
use Rattle.std.specs.Prelude.{max, if◌then◌else◌, Bool, map}
use Rattle.std.specs.List.{list_all, range_with_len}
use Rattle.ubifs_base.specs.Areas.{main_first, main_lebs}
use Rattle.index_tree.specs.Shape.{shape_weight}
use Rattle.index_media.specs.PlacedRow.{lebs_of, plain}
use Rattle.fs_model.specs.Files.{Tree}
use Rattle.fs_model.specs.Path.{is_dir, is_empty}
use Rattle.fs_model.specs.declared.inode.Inode.{Inode}
use Rattle.fs_model.specs.declared.space.Space.{Space}
use Rattle.leaf_map.specs.Recovered.{tree_found}
use Rattle.leaf_map.specs.SpaceFound.{MainAreaFound, space_found}
use Rattle.sound_image.specs.Image.{Image, parts_of}

-- whether no bud holds a node, padding aside
abbrev pub is_clean : Image → Bool
is_clean image = list_all (λ read. is_empty read.nodes) image.buds

-- the main LEBs, those in which nodes of the committed index stand, and its weight
abbrev pub main_area_of : Image → MainAreaFound
main_area_of image = record {
  lebs = range_with_len (main_first image.geo) (main_lebs image.geo);
  indexed = lebs_of image.placed;
  weight = shape_weight image.geo.fanout (plain image.placed);
}

-- the space of the recovered state, before any commit
abbrev pub space_of_image : Image → Space
space_of_image image = space_found (main_area_of image) (parts_of image)

-- an inode as a mount reads it: a directory has one link at least, whatever its node says
abbrev pub with_a_link : Inode → Inode
with_a_link inode = if is_dir inode.kind then record inode { nlink = max 1 inode.nlink } else inode

-- the tree of which a mount makes its files: the recovered one, where each directory has a link
abbrev pub tree_of_image : Image → Tree
tree_of_image image =
    let found = tree_found (parts_of image) in
    record found { inodes = map (λ e. (e.0, with_a_link e.1)) found.inodes }
