-- What is looked up of a tree before a line is made.
use Rattle.std.specs.Prelude.{ℕ, ◌≡◌, Option, Some, None, Result, Ok, Err, List}
use Rattle.fs_model.specs.declared.inode.Entry.{Entry}
use Rattle.fs_model.specs.declared.refusal.Refusal.{Refusal}
use Rattle.fs_model.specs.Files.{Tree}
use Rattle.fs_model.specs.Path.{components, last_of, only_dir}
use Rattle.op_groups.specs.Facts.{IsParent}
use Rattle.manifest_tree.specs.declared.places.FreePlace.{FreePlace}
use Rattle.manifest_tree.specs.ManifestTree.{free_in, free_place}

-- the entry that was found
abbrev pub entry_found : Result Entry Refusal → Option Entry
entry_found (Err refusal) = None
entry_found (Ok entry) = Some entry

-- a name can be made in this directory
pub record IsFreePlace (tree : Tree) (path : List ℕ) (place : FreePlace) : Type 0 where
  pub free : free_place tree path ≡ Some place.parent.ino
  pub parent : IsParent tree place.parent
  pub name : place.name ≡ last_of (components path)

-- a name can be made in the directory that this entry names
pub record IsPlaceIn (tree : Tree) (dir : Entry) (name : List ℕ) (place : FreePlace) : Type 0 where
  pub free : free_in tree name (only_dir (Ok dir)) ≡ Some place.parent.ino
  pub parent : IsParent tree place.parent
  pub name_is : place.name ≡ name
