-- The rules on the recovered tree: directories and entries, and links (`dbg_check_filesystem` of Linux fs/ubifs).
use Rattle.std.specs.Prelude.{◌≡◌, ◌⊎◌, ℕ, ◌==◌, ◌&&◌, ◌||◌, nat_lt, not, is_some, Bool, true, IsSome, IsTrue, List, [], All, Option, Some, length, map, take, drop}
use Rattle.std.specs.List.{list_all, list_any}
use Rattle.media_leaf.specs.LeafNode.{IsLeafNode}
use Rattle.fs_model.specs.declared.change.Change.{Change}
use Rattle.fs_model.specs.declared.change.Change.TheVariants.{SetEntry}
use Rattle.fs_model.specs.declared.inode.Inode.{Inode}
use Rattle.fs_model.specs.declared.inode.Kind.TheVariants.{Dir}
use Rattle.fs_model.specs.Files.{Tree}
use Rattle.fs_model.specs.Path.{is_dir}
use Rattle.fs_model.specs.Proper.{has_kind, is_sound_dir, is_sound_entry, names_of}
use Rattle.index_tree.specs.Distinct.{AreDistinct}
use Rattle.index_tree.specs.Order.{leaf_rank}
use Rattle.group_nodes.specs.Nodes.{change_of}
use Rattle.leaf_map.specs.Allowed.{IsOwnNode}
use Rattle.leaf_map.specs.Kept.{Kept, Placed, kept_at, shown, shown_by}
use Rattle.leaf_map.specs.LeafMap.{are_apart}
use Rattle.leaf_map.specs.Lost.{empty_names}
use Rattle.leaf_map.specs.Parts.{Parts, is_shown, own_node}
use Rattle.leaf_map.specs.Recovered.{leaves_found, recovered_of, tree_found}

-- what a leaf is told to be is what stands at its place, and it shows an inode of a known kind, a block or a name
pub record ShowsItsNode (contents : ℕ → List ℕ) (x : Kept) : Type 0 where
  pub sqnum : ℕ
  pub group : ℕ
  pub is : IsLeafNode (take x.leaf.len (drop x.leaf.offs (contents x.leaf.lnum))) sqnum group x.node
  pub shown : IsTrue (is_shown (shown_by x))

-- A node of the collector's is a copy: of the own node of a committed leaf, or of one whose own node can't be read; it shows an inode, a block or a name.
abbrev pub IsCopy : Parts → Placed → Type 0
IsCopy parts copy =
    IsOwnNode parts.named parts.committed copy.node
    ⊎ IsTrue (is_shown (shown copy.node) && list_any (λ x. not (is_some (own_node parts.named x)) && (leaf_rank x.leaf == leaf_rank (kept_at copy).leaf)) parts.committed)

-- whether an inode is no directory, or the root, or a directory that has one entry and is reached from the root
abbrev pub is_in_place : Tree → ℕ × Inode → Bool
is_in_place tree e = not (is_dir e.1.kind) || is_sound_dir tree e.0

-- whether a leaf shows no name, or one that stands in a directory and names an inode of its kind, which isn't the root
abbrev pub is_named_well : Tree → Option Change → Bool
is_named_well tree (Some (SetEntry e)) = is_sound_entry tree e
is_named_well tree other = true

-- Each node that the journal has says a change of the tree, and each one of the collector's is a copy. No two committed leaves have one key and place.
-- No two leaves show the same, neither of those that are found nor of those after recovery. Each of the latter shows what stands at its place,
-- and no name is one of inode number 0. Inode 1 is a directory; each entry stands in a directory, and its inode is there, of its kind,
-- and not the root; each directory but the root has one entry and is reached from the root.
pub record HasTree (contents : ℕ → List ℕ) (parts : Parts) : Type 0 where
  pub changes : All (λ (x : Placed). IsSome (change_of x.node)) parts.nodes
  pub copies : All (IsCopy parts) parts.copies
  pub distinct : AreDistinct (map (λ x. x.leaf) parts.committed)
  pub named : empty_names parts ≡ []
  pub found : IsTrue (are_apart (leaves_found parts))
  pub shown : All (ShowsItsNode contents) (recovered_of parts).kept
  pub apart : IsTrue (are_apart (recovered_of parts).kept)
  pub root : IsTrue (has_kind (tree_found parts) 1 Dir)
  pub entries : IsTrue (list_all (λ x. is_named_well (tree_found parts) (shown_by x)) (recovered_of parts).kept)
  pub dirs : IsTrue (list_all (is_in_place (tree_found parts)) (tree_found parts).inodes)

-- whether an inode is a directory, or has as many links as names, and one at least
abbrev pub has_its_links : Tree → ℕ × Inode → Bool
has_its_links tree e = is_dir e.1.kind || (nat_lt 0 e.1.nlink && (e.1.nlink == length (names_of tree e.0)))

-- Each inode that is no directory has as many links as names, and one at least.
abbrev pub HasLinks : Tree → Type 0
HasLinks tree = IsTrue (list_all (has_its_links tree) tree.inodes)
