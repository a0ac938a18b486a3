-- What the laws ask of the files and of a call, and what they say of a group of changes.
use Rattle.std.specs.Prelude.{◌≡◌, ℕ, IsTrue, ◌<◌, ◌≤◌, ◌^◌, Some, List, [], ◌∷◌, sum_by}
use Rattle.std.specs.List.{list_all}
use Rattle.fs_model.specs.declared.change.Change.{Change}
use Rattle.fs_model.specs.declared.inode.Inode.{Inode}
use Rattle.fs_model.specs.declared.inode.Kind.TheVariants.{File}
use Rattle.fs_model.specs.declared.op.Op.{Op}
use Rattle.fs_model.specs.declared.op.Op.TheVariants.{Create, Mkdir, Symlink, Link, Rename, Write}
use Rattle.fs_model.specs.declared.page_node.PageNode.{PageNode}
use Rattle.fs_model.specs.declared.space.Grant.{Grant}
use Rattle.fs_model.specs.declared.space.Need.{Need}
use Rattle.fs_model.specs.Backing.{is_node, group_limit}
use Rattle.fs_model.specs.Change.{apply}
use Rattle.fs_model.specs.Files.{Tree, Files, Handles, inode_at}
use Rattle.fs_model.specs.Need.{change_bytes}
use Rattle.fs_model.specs.Orphan.{all_revive_none, all_drop_named}
use Rattle.fs_model.specs.Proper.{IsProper, are_bytes, is_inode_node, is_block_node, has_kind}

-- each handle names a regular file that is there
abbrev pub AreFiles : Tree → Handles → Type 0
AreFiles tree handles = IsTrue (list_all (λ handle. has_kind tree handle.1 File) handles)

-- files whose tree is proper and whose handles name regular files
pub record IsSound (files : Files) : Type 0 where
  pub proper : IsProper files.tree
  pub handles : AreFiles files.tree files.handles

-- a moment that a node can carry
abbrev pub IsMoment : ℕ → Type 0
IsMoment now = now < 2 ^ 64

-- what an operation gives to keep: the path of a name that it makes, the target of a symbolic link, the byte that it writes
abbrev pub given : Op → List (List ℕ)
given (Create path mode) = path ∷ []
given (Mkdir path mode) = path ∷ []
given (Symlink path target) = path ∷ target ∷ []
given (Link old new) = new ∷ []
given (Rename old new) = new ∷ []
given (Write slot offs len byte) = (byte ∷ []) ∷ []
given op = []

-- an operation that gives bytes
abbrev pub IsCall : Op → Type 0
IsCall op = IsTrue (list_all are_bytes (given op))

-- A group whose changes are nodes, with no more bytes than a group may have, which brings back no inode, drops none without a name, and after which the files are sound
pub record KeepsSound (files : Files) (group : List Change) : Type 0 where
  pub nodes : IsTrue (list_all is_node group)
  pub limit : sum_by (change_bytes files.tree) group ≤ group_limit
  pub revives_none : IsTrue (all_revive_none files.tree group)
  pub drops : IsTrue (all_drop_named files.tree group)
  pub proper : IsProper (apply files.tree group)
  pub handles : AreFiles (apply files.tree group) files.handles

-- an operation leaves the files sound
pub record LeavesSound (files after : Files) : Type 0 where
  pub sound : IsSound after

-- a grant of what is asked for, or of more
pub record Pays (grant : Grant) (need : Need) : Type 0 where
  pub bytes : need.bytes ≤ grant.bytes
  pub nodes : need.nodes ≤ grant.nodes

-- a page of a regular file that is there: block and inode are nodes, and the inode has the file's kind and links
pub record IsFilePage (tree : Tree) (page : PageNode) : Type 0 where
  pub file : IsTrue (has_kind tree page.ino File)
  pub kind : (inode : Inode) → inode_at tree page.ino ≡ Some inode → page.inode.kind ≡ inode.kind
  pub links : (inode : Inode) → inode_at tree page.ino ≡ Some inode → page.inode.nlink ≡ inode.nlink
  pub inode : IsTrue (is_inode_node (page.ino, page.inode))
  pub block : IsTrue (is_block_node ((page.ino, page.block), page.bytes))
