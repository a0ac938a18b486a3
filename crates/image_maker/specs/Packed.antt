-- How many bytes leaves take of each LEB, if a LEB takes them as long as they fit.
use Rattle.std.specs.Prelude.{ℕ, ◌+◌, nat_le, if◌then◌else◌, List, [], ◌∷◌, ◌++◌, length}
use Rattle.ubifs_base.specs.declared.raw_geometry.RawGeometry.{RawGeometry}
use Rattle.media_leaf.specs.LeafNode.{LeafNode}
use Rattle.group_nodes.specs.Texts.{padded_leaf_bytes}
use Rattle.image_maker.specs.declared.open_leb.OpenLeb.{OpenLeb}

-- the bytes that leaves take of each LEB of this size, one behind another, and in the next LEB where one doesn't fit; of the first LEB so many are taken before
unfoldable pub packed_leaves : ℕ → ℕ → List LeafNode → List ℕ
packed_leaves size taken [] = taken ∷ []
packed_leaves size taken (leaf ∷ leaves) =
    if nat_le (taken + padded_leaf_bytes leaf) size then packed_leaves size (taken + padded_leaf_bytes leaf) leaves
    else taken ∷ packed_leaves size (padded_leaf_bytes leaf) leaves

-- the bytes that are taken of each LEB once these leaves are laid too
abbrev pub packed_after : RawGeometry → OpenLeb → List LeafNode → List ℕ
packed_after raw leb leaves = leb.used.items ++ packed_leaves raw.leb_size (length leb.bytes.items) leaves
