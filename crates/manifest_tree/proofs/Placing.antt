-- Where a name can be made.
use Rattle.std.proofs.Common.{◌≡◌, ℕ, Bool, true, false, cond, Some, None, Result, Ok, Err, List, refl, ap, sym, ◌∙◌}
use Rattle.std.specs.Prelude.{not, ◌&&◌, is_some}
use Rattle.fs_model.specs.declared.inode.Entry.{Entry}
use Rattle.fs_model.specs.declared.refusal.Refusal.{Refusal}
use Rattle.fs_model.specs.Files.{Tree, entry_at}
use Rattle.fs_model.specs.Making.{is_name_path}
use Rattle.fs_model.specs.Path.{components, front_of, has_long_name, last_of, only_dir, parent_of, reached, root_entry}
use Rattle.manifest_tree.specs.ManifestTree.{free_in, free_place}
use Rattle.manifest_tree.specs.Places.{entry_found}
use Rattle.manifest_tree.proofs.Walking.{found_ok}

-- the place of a good path is that in the directory before its last component
pub place_of : (tree : Tree) (path : List ℕ) → is_name_path path ≡ true → has_long_name path ≡ false → free_place tree path ≡ free_in tree (last_of (components path)) (parent_of tree path)
place_of tree path good short = rw (good, short) refl

-- a path that isn't good has none
pub no_path : (tree : Tree) (path : List ℕ) → is_name_path path ≡ false → free_place tree path ≡ None
no_path tree path bad = rw bad refl

pub long_path : (tree : Tree) (path : List ℕ) → has_long_name path ≡ true → free_place tree path ≡ None
long_path tree path long = by (is_name_path path)
  where
    by : (b : Bool) → cond (b && not (has_long_name path)) (free_in tree (last_of (components path)) (parent_of tree path)) None ≡ None
    by true = rw long refl
    by false = refl

lost_in : (tree : Tree) (name : List ℕ) (r : Result Entry Refusal) → entry_found r ≡ None → free_in tree name (only_dir r) ≡ None
lost_in tree name (Err refusal) e = refl
lost_in tree name (Ok entry) e = absurd cc

-- no directory is found
pub no_parent : (tree : Tree) (path : List ℕ) → is_name_path path ≡ true → has_long_name path ≡ false → entry_found (reached tree (Ok root_entry) (front_of (components path))) ≡ None → free_place tree path ≡ None
no_parent tree path good short none = place_of tree path good short ∙ lost_in tree (last_of (components path)) (reached tree (Ok root_entry) (front_of (components path))) none

-- it is found
pub parent_found : (tree : Tree) (path : List ℕ) (dir : Entry) → is_name_path path ≡ true → has_long_name path ≡ false → entry_found (reached tree (Ok root_entry) (front_of (components path))) ≡ Some dir
    → free_place tree path ≡ free_in tree (last_of (components path)) (only_dir (Ok dir))
parent_found tree path dir good short e =
    place_of tree path good short ∙ ap (λ r. free_in tree (last_of (components path)) (only_dir r)) (found_ok (reached tree (Ok root_entry) (front_of (components path))) dir e)

-- what is known of a place
pub record IsPlace (tree : Tree) (path : List ℕ) (dir : ℕ) : Type 0 where
  pub good : is_name_path path ≡ true
  pub short : has_long_name path ≡ false
  pub parent : Entry
  pub there : parent_of tree path ≡ Ok parent
  pub number : parent.ino ≡ dir
  pub free : is_some (entry_at tree dir (last_of (components path))) ≡ false

in_dir : (tree : Tree) (name : List ℕ) (r : Result Entry Refusal) (dir : ℕ) → free_in tree name r ≡ Some dir → (parent : Entry) × (r ≡ Ok parent) × (parent.ino ≡ dir) × (is_some (entry_at tree dir name) ≡ false)
in_dir tree name (Err refusal) dir e = absurd cc
in_dir tree name (Ok parent) dir e = let p = by (is_some (entry_at tree parent.ino name)) refl e in (parent, refl, p.0, p.1)
  where
    by : (b : Bool) → is_some (entry_at tree parent.ino name) ≡ b → cond b None (Some parent.ino) ≡ Some dir → (parent.ino ≡ dir) × (is_some (entry_at tree dir name) ≡ false)
    by true f g = absurd cc
    by false f g = let same : parent.ino ≡ dir = cc in (same, ap (λ (d : ℕ). is_some (entry_at tree d name)) (sym same) ∙ f)

pub place_known : (tree : Tree) (path : List ℕ) (dir : ℕ) → free_place tree path ≡ Some dir → IsPlace tree path dir
place_known tree path dir e = by (is_name_path path) (has_long_name path) refl refl e
  where
    by : (b l : Bool) → is_name_path path ≡ b → has_long_name path ≡ l → cond (b && not l) (free_in tree (last_of (components path)) (parent_of tree path)) None ≡ Some dir → IsPlace tree path dir
    by true true f g h = absurd cc
    by true false f g h = let p = in_dir tree (last_of (components path)) (parent_of tree path) dir h in record { good = f; short = g; parent = p.0; there = p.1; number = p.2; free = p.3 }
    by false l f g h = absurd cc
