-- A file with one page, made on a fresh volume: what a test puts.
use Rattle.std.specs.Prelude.{List, [], ◌∷◌}
use Rattle.fs_model.specs.declared.change.Change.{Change}
use Rattle.fs_model.specs.declared.change.Change.TheVariants.{SetInode, SetEntry}
use Rattle.fs_model.specs.declared.inode.Kind.TheVariants.{File}
use Rattle.fs_model.specs.declared.page_node.PageNode.{PageNode}
use Rattle.fs_model.specs.Making.{new_dir, new_file}

-- the file `f` with its inode, and its directory
abbrev pub sample_group : List Change
sample_group = SetEntry (record { dir = 1; name = 102 ∷ []; ino = 65; kind = File }) ∷ SetInode 65 (new_file 420 0) ∷ SetInode 1 (new_dir 493 0) ∷ []

-- its first page, of three bytes
abbrev pub sample_page : PageNode
sample_page = record { ino = 65; block = 0; bytes = 97 ∷ 98 ∷ 99 ∷ []; inode = record (new_file 420 0) { size = 3 } }
