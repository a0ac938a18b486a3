-- What an operation that is done had room for.
use Rattle.std.specs.Prelude.{ℕ, ◌+◌, ◌≤◌, is_some, not, filter, length, sum_by}
use Rattle.std.specs.BTreeMap.{is_at}
use Rattle.std.specs.Map.{lookup, values_of}
use Rattle.std.specs.Option.{option_map_or}
use Rattle.ubifs_base.specs.declared.raw_geometry.RawGeometry.{RawGeometry}
use Rattle.ubifs_base.specs.Areas.{main_lebs}
use Rattle.fs_model.specs.declared.op.Op.{Op}
use Rattle.fs_model.specs.declared.op.Op.TheVariants.{Write}
use Rattle.fs_model.specs.declared.space.Need.{Need}
use Rattle.fs_model.specs.declared.space.Space.{Space}
use Rattle.fs_model.specs.Cover.{entry_bytes, inode_bytes, tree_bytes}
use Rattle.fs_model.specs.Files.{Files, Tree, handle_at, pages_of, pair_cmp}
use Rattle.fs_model.specs.Need.{need_of}
use Rattle.space_sums.specs.Spaces.{HasRoom}
use Rattle.buffered_files.specs.Alike.{IsAlike}
use Rattle.vfs_ops.specs.Writing.{credits_need}

-- how many of the pages that n bytes from a place of a file on touch have no block
abbrev pub fresh_pages : Tree → ℕ → ℕ → ℕ → ℕ
fresh_pages tree ino place n = length (filter (λ page. not (is_some (lookup (is_at (pair_cmp (ino, page))) tree.blocks))) (pages_of place n))

-- What an operation asks for at least: a write a credit for each page that has no block, any other the need of its group. A smaller size needs a whole block.
abbrev pub least_need : Files → ℕ → ℕ → Op → Need
least_need files caller now (Write slot offs len byte) = credits_need (option_map_or (λ ino. fresh_pages files.tree ino offs len) (handle_at files caller slot) 0)
least_need files caller now op = need_of files caller now op

-- the numbers of a volume with this tree, with no page dirty, beside an index of this weight; how many LEBs that one takes isn't asked
abbrev pub space_beside : RawGeometry → Tree → ℕ → Space
space_beside geo tree weight = record { used = tree_bytes tree; held = 0; credits = 0; empty = 0; index = 0; weight = weight; main = main_lebs geo }

-- the bytes of a tree's inodes and entries
abbrev pub named_bytes : Tree → ℕ
named_bytes tree = sum_by inode_bytes (values_of tree.inodes) + sum_by entry_bytes (values_of tree.entries)

-- There was room for this need, with its class's reserve, beside these files, as callers see them, and an index of some weight. With the need's nodes that index is no lighter than the one behind the line.
pub record HadRoom (geo : RawGeometry) (seen : Files) (need : Need) (index : ℕ) : Type 0 where
  pub put : Tree
  pub same : IsAlike seen (record seen { tree = put })
  pub weight : ℕ
  pub room : HasRoom geo (space_beside geo put weight) need
  pub heavy : index ≤ weight + need.nodes
