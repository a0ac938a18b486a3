-- Which leaves show what is out of its place.
use Rattle.std.specs.Prelude.{◌≡◌, ◌⊎◌, ℕ, ◌||◌, Bool, IsTrue, List, [], ◌∷◌, ◌++◌, Option, Some, None, if◌then◌else◌}
use Rattle.std.specs.List.{list_all, list_any}
use Rattle.fs_model.specs.Files.{Tree, inode_at}
use Rattle.fs_model.specs.Proper.{has_kind}
use Rattle.fs_model.specs.declared.inode.Kind.{Kind}
use Rattle.fs_model.specs.declared.inode.Kind.TheVariants.{Dir}
use Rattle.leaf_map.specs.Kept.{Kept, shown_by}
use Rattle.leaf_map.specs.LeafMap.{are_apart}
use Rattle.sound_image.specs.Breaches.{IsAtNode, IsOutOfPlace, inode_number_of}
use Rattle.sound_image.specs.Tree.{is_in_place, is_named_well}
use Rattle.sound_image.specs.Wrong.{IsOneOf, Wrong, differs}
use Rattle.image_check.specs.declared.wrong_value.WrongValue.{WrongValue}
use Rattle.tree_check.specs.Facts.{Facts, is_misplaced}
use Rattle.tree_check.specs.Seen.{same_told}
use Rattle.tree_check.specs.declared.shown_leaf.Shown.{Shown}
use Rattle.tree_check.specs.declared.shown_leaf.Shown.TheVariants.{Entry}
use Rattle.tree_check.specs.declared.shown_leaf.ShownLeaf.{ShownLeaf}

-- One of these leaves, which show this tree, shows what is out of its place, or what one before it shows, and the inode number by which it
-- is named is wanted; or there is no inode 1, which is wrong at this place.
abbrev pub IsOutOfPlaceAt : List Kept → Tree → ℕ × ℕ → Wrong → Type 0
IsOutOfPlaceAt kept tree root at =
    ((x : Kept) × IsOneOf x kept × IsOutOfPlace kept tree x × IsAtNode x (differs (inode_number_of x) 0) at)
    ⊎ ((inode_at tree 1 ≡ None) × (at ≡ record { lnum = root.0; offs = root.1; misfit = differs 1 0 }))

-- No leaf shows what one before it shows, inode 1 is a directory, and names and directories are in their places: what the rule on the tree
-- says of these leaves and of the tree that they show.
pub record AreInPlace (kept : List Kept) (tree : Tree) : Type 0 where
  pub apart : IsTrue (are_apart kept)
  pub root : IsTrue (has_kind tree 1 Dir)
  pub entries : IsTrue (list_all (λ x. is_named_well tree (shown_by x)) kept)
  pub dirs : IsTrue (list_all (is_in_place tree) tree.inodes)

-- the inode number by which a leaf is named: that to which an entry leads, and else the one in its key
abbrev pub number_shown : ℕ → Shown → ℕ
number_shown number (Entry dir name ino kind) = ino
number_shown number other = number

-- what is wrong at a leaf, if that is
abbrev pub misplaced_at : ShownLeaf → WrongValue
misplaced_at leaf = record { lnum = leaf.lnum; offs = leaf.offs; wanted = number_shown leaf.number leaf.shown; found = 0 }

-- whether a leaf behind others shows what is out of its place, or what one of those shows
abbrev pub is_wrong_behind : Facts → List ShownLeaf → ShownLeaf → Bool
is_wrong_behind facts before leaf = is_misplaced facts leaf.shown || list_any (λ y. same_told y.shown leaf.shown) before

-- and is then wrong
abbrev pub wrong_if : Bool → ShownLeaf → Option WrongValue
wrong_if wrong leaf = if wrong then Some (misplaced_at leaf) else None

-- what is wrong at leaves that stand behind others
abbrev pub wrongs_behind : Facts → List ShownLeaf → List ShownLeaf → List (Option WrongValue)
wrongs_behind facts before [] = []
wrongs_behind facts before (leaf ∷ leaves) = wrong_if (is_wrong_behind facts before leaf) leaf ∷ wrongs_behind facts (before ++ leaf ∷ []) leaves

-- what is wrong at a leaf of which none before it shows the same
abbrev pub wrong_alone : Facts → ShownLeaf → Option WrongValue
wrong_alone facts leaf = wrong_if (is_misplaced facts leaf.shown) leaf

-- what is wrong at a place if there is no inode 1
abbrev pub wrong_root : Option Kind → ℕ × ℕ → Option WrongValue
wrong_root None root = Some (record { lnum = root.0; offs = root.1; wanted = 1; found = 0 })
wrong_root (Some kind) root = None
