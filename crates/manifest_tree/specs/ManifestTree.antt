-- The tree that the lines of a manifest make, one after another. A file that is copied is empty in it: its bytes come once its lines are known to be good.
use Rattle.std.specs.Prelude.{ℕ, ◌+◌, ◌-◌, ◌*◌, ◌/◌, ◌≡◌, ◌⊎◌, ◌&&◌, min, not, is_some, if◌then◌else◌, Option, Some, None, Result, Ok, Err, List, [], ◌∷◌, fold, replicate}
use Rattle.std.specs.List.{range_with_len}
use Rattle.std.specs.Option.{option_map, option_map_or}
use Rattle.fs_model.specs.declared.inode.Entry.{Entry}
use Rattle.fs_model.specs.declared.inode.Inode.{Inode}
use Rattle.fs_model.specs.declared.page_node.PageNode.{PageNode}
use Rattle.fs_model.specs.declared.refusal.Refusal.{Refusal}
use Rattle.fs_model.specs.Backing.{page_group}
use Rattle.fs_model.specs.Change.{apply}
use Rattle.fs_model.specs.Files.{Tree, entry_at, inode_at}
use Rattle.fs_model.specs.Links.{linking}
use Rattle.fs_model.specs.Making.{is_bad_target, is_name_path, making, new_dir, new_file, new_symlink}
use Rattle.fs_model.specs.Path.{components, has_long_name, is_file, last_of, parent_of, walked}
use Rattle.fs_model.specs.Worked.{fresh}
use Rattle.script_text.specs.declared.manifest.Manifest.{Manifest}
use Rattle.script_text.specs.declared.manifest_line.ManifestLine.{ManifestLine}
use Rattle.script_text.specs.declared.manifest_line.ManifestLine.TheVariants.{Dir, File, Copy, Symlink, Link}
use Rattle.script_text.specs.ManifestLines.{HasNoVolume, IsListedManifest}

-- the directory that was found, if it has no entry of this name
abbrev pub free_in : Tree → List ℕ → Result Entry Refusal → Option ℕ
free_in tree name (Err refusal) = None
free_in tree name (Ok parent) = if is_some (entry_at tree parent.ino name) then None else Some parent.ino

-- The directory in which a path's name can be made: the path has no zero byte, no `.` and no `..`, and no component is too long; the directory is there, and the name isn't.
abbrev pub free_place : Tree → List ℕ → Option ℕ
free_place tree path = if is_name_path path && not (has_long_name path) then free_in tree (last_of (components path)) (parent_of tree path) else None

-- a new inode of the next number stands under this path
abbrev pub with_new : Tree → List ℕ → Inode → Option Tree
with_new tree path inode = option_map (λ dir. apply tree (making tree dir (last_of (components path)) inode 0)) (free_place tree path)

-- a page of a file of so many copies of a byte, with the file's inode
abbrev pub copies_page : ℕ → ℕ → ℕ → ℕ → ℕ → PageNode
copies_page ino mode len byte page = record { ino = ino; block = page; bytes = replicate (min (len - 4096 * page) 4096) byte; inode = record (new_file mode 0) { size = len } }

-- the tree once a page of such a file is put
abbrev pub with_copies_page : ℕ → ℕ → ℕ → ℕ → Tree → ℕ → Tree
with_copies_page ino mode len byte tree page = apply tree (page_group (copies_page ino mode len byte page))

-- the tree once each of its pages is
abbrev pub with_copies : ℕ → ℕ → ℕ → ℕ → Tree → Tree
with_copies ino mode len byte tree = fold (with_copies_page ino mode len byte) tree (range_with_len 0 ((len + 4095) / 4096))

-- the regular file that a path names
abbrev pub only_file : Result Entry Refusal → Option Entry
only_file (Err refusal) = None
only_file (Ok entry) = if is_file entry.kind then Some entry else None

-- a file has this path as a further name
abbrev pub with_name : Tree → List ℕ → Entry → Option Tree
with_name tree path entry =
    option_map_or (λ inode. option_map (λ dir. apply tree (linking tree entry inode dir (last_of (components path)) 0)) (free_place tree path)) (inode_at tree entry.ino) None

-- The tree after a line. There is none if the line isn't in the grammar because of what stands in the tree, or for its target's length.
abbrev pub line_made : Tree → ManifestLine → Option Tree
line_made tree (Dir path mode) = with_new tree path (new_dir mode 0)
line_made tree (File path mode len byte) = option_map (with_copies (tree.highest + 1) mode len byte) (with_new tree path (new_file mode 0))
line_made tree (Copy path mode name) = with_new tree path (new_file mode 0)
line_made tree (Symlink path target) = if is_bad_target target then None else with_new tree path (new_symlink target 0)
line_made tree (Link old new) = option_map_or (with_name tree new) (only_file (walked tree old)) None

-- The tree after lines of which the first has this number, or the number of the first that isn't in the grammar.
abbrev pub lines_made : ℕ → Tree → List ManifestLine → Result Tree ℕ
lines_made number tree [] = Ok tree
lines_made number tree (line ∷ lines) = option_map_or (λ made. lines_made (number + 1) made lines) (line_made tree line) (Err number)

-- what lines make of the root alone; they begin behind the line with the geometry
abbrev pub manifest_tree : List ManifestLine → Result Tree ℕ
manifest_tree lines = lines_made 2 fresh.tree lines

-- The line of this number is the first that isn't in the grammar: no geometry stands there; or what stands in the tree refuses it; or its words do, and no line before it is refused.
abbrev pub IsFirstBadTreeLine : List ℕ → ℕ → Type 0
IsFirstBadTreeLine text number =
    ((number ≡ 1) × HasNoVolume text)
    ⊎ ((volume : Manifest) × (lines : List ManifestLine) × (bad : Option ℕ) × IsListedManifest text volume lines bad
    × ((manifest_tree lines ≡ Err number) ⊎ ((tree : Tree) × (manifest_tree lines ≡ Ok tree) × (bad ≡ Some number))))
