-- The files of a sound image.
use Rattle.std.specs.Prelude.{◌≡◌, ℕ, List, filter, is_some}
use Rattle.fs_model.specs.Files.{Tree, inode_at}
use Rattle.sound_image.specs.Image.{Image}
use Rattle.sound_image.specs.Sound.{SoundImage}
use Rattle.sound_image.specs.Summary.{tree_of_image}
use Rattle.sound_check.specs.Reads.{IsReadImage}
use Rattle.recovered_tree.specs.declared.recovered_files.RecoveredFiles.{RecoveredFiles}

-- a tree without blocks of inodes that it hasn't: such a block is nothing
abbrev pub without_lone_blocks : Tree → Tree
without_lone_blocks tree = record tree { blocks = filter (λ b. is_some (inode_at tree b.0.0)) tree.blocks }

-- the tree of which a mount makes its files: the recovered one, where each directory has a link, without blocks of no inode
abbrev pub files_of_image : Image → Tree
files_of_image image = without_lone_blocks (tree_of_image image)

-- These are the files of a sound image that the contents are, and what was read of it.
pub record AreFilesOf (contents : ℕ → List ℕ) (image : Image) (files : RecoveredFiles) : Type 0 where
  pub sound : SoundImage contents image
  pub read : IsReadImage contents files.read image
  pub tree : files.tree ≡ files_of_image image
