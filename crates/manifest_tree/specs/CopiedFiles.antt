-- The files that a manifest copies, and the tree that it makes with their bytes.
use Rattle.std.specs.Prelude.{ℕ, ◌+◌, ◌*◌, ◌/◌, ◌≡◌, None, Ok, List, [], ◌∷◌, fold, length, take, drop}
use Rattle.std.specs.List.{range_with_len}
use Rattle.std.specs.Option.{option_map_or}
use Rattle.fs_model.specs.declared.inode.Inode.{Inode}
use Rattle.fs_model.specs.declared.page_node.PageNode.{PageNode}
use Rattle.fs_model.specs.Backing.{page_group}
use Rattle.fs_model.specs.Change.{apply}
use Rattle.fs_model.specs.Files.{Tree, inode_at}
use Rattle.script_text.specs.declared.manifest.Manifest.{Manifest}
use Rattle.script_text.specs.declared.manifest_line.ManifestLine.{ManifestLine}
use Rattle.script_text.specs.declared.manifest_line.ManifestLine.TheVariants.{Dir, File, Copy, Symlink, Link}
use Rattle.script_text.specs.ManifestLines.{IsListedManifest}
use Rattle.manifest_tree.specs.declared.copied.CopiedFile.{CopiedFile}
use Rattle.manifest_tree.specs.ManifestTree.{manifest_tree}

-- The files that lines copy, in order, each with the inode that its line makes. The first line that makes an inode makes the one of this number.
abbrev pub copied_from : ℕ → List ManifestLine → List CopiedFile
copied_from ino [] = []
copied_from ino (Dir path mode ∷ lines) = copied_from (ino + 1) lines
copied_from ino (File path mode len byte ∷ lines) = copied_from (ino + 1) lines
copied_from ino (Copy path mode name ∷ lines) = record { ino = ino; name = name } ∷ copied_from (ino + 1) lines
copied_from ino (Symlink path target ∷ lines) = copied_from (ino + 1) lines
copied_from ino (Link old new ∷ lines) = copied_from ino lines

-- those of a manifest, whose inodes begin behind the 64 that no line makes
abbrev pub copied_files : List ManifestLine → List CopiedFile
copied_files lines = copied_from 65 lines

-- a page of a file's bytes, with its inode, whose size is that of all the bytes
abbrev pub bytes_page : ℕ → Inode → List ℕ → ℕ → PageNode
bytes_page ino inode bytes page = record { ino = ino; block = page; bytes = take 4096 (drop (4096 * page) bytes); inode = record inode { size = length bytes } }

-- the tree once this page is put
abbrev pub with_bytes_page : ℕ → List ℕ → Tree → ℕ → Tree
with_bytes_page ino bytes tree page = option_map_or (λ inode. apply tree (page_group (bytes_page ino inode bytes page))) (inode_at tree ino) tree

-- the tree once each page of a file is put
abbrev pub with_bytes : ℕ → List ℕ → Tree → Tree
with_bytes ino bytes tree = fold (with_bytes_page ino bytes) tree (range_with_len 0 ((length bytes + 4095) / 4096))

-- the tree once each file that is copied has its bytes
abbrev pub with_files : List CopiedFile → List (List ℕ) → Tree → Tree
with_files [] files tree = tree
with_files (copied ∷ more) [] tree = tree
with_files (copied ∷ more) (bytes ∷ files) tree = with_files more files (with_bytes copied.ino bytes tree)

-- The text is in its grammar: this is its geometry, it copies these files, and its lines make this tree, in which each of them is empty yet.
pub record IsNamedManifest (text : List ℕ) (volume : Manifest) (copied : List CopiedFile) (tree : Tree) : Type 0 where
  pub lines : List ManifestLine
  pub listed : IsListedManifest text volume lines None
  pub made : manifest_tree lines ≡ Ok tree
  pub copied_are : copied ≡ copied_files lines

-- The text is a manifest of this geometry. With these bytes of the files that it copies, in the order of its lines, it makes this tree.
pub record IsMadeManifest (text : List ℕ) (volume : Manifest) (files : List (List ℕ)) (tree : Tree) : Type 0 where
  pub copied : List CopiedFile
  pub names : Tree
  pub is : IsNamedManifest text volume copied names
  pub given : length files ≡ length copied
  pub filled : tree ≡ with_files copied files names

-- the text is a manifest that copies no file, of this geometry and of this tree
abbrev pub IsTreeManifest : List ℕ → Manifest → Tree → Type 0
IsTreeManifest text volume tree = IsMadeManifest text volume [] tree
