-- Which leaf shows an inode with other links than names.
use Rattle.std.specs.Prelude.{ℕ, ◌==◌, ◌&&◌, ◌||◌, nat_lt, Bool, List, Option, Some, None, fold, if◌then◌else◌}
use Rattle.fs_model.specs.Path.{is_dir}
use Rattle.fs_model.specs.declared.inode.Kind.{Kind}
use Rattle.image_check.specs.WrongValues.{sooner_of}
use Rattle.image_check.specs.declared.wrong_value.WrongValue.{WrongValue}
use Rattle.tree_check.specs.declared.shown_leaf.Shown.{Shown}
use Rattle.tree_check.specs.declared.shown_leaf.Shown.TheVariants.{Inode}
use Rattle.tree_check.specs.declared.shown_leaf.ShownLeaf.{ShownLeaf}

-- whether an inode of this kind with so many names has the right number of links
abbrev pub are_right : Kind → ℕ → ℕ → Bool
are_right kind links names = is_dir kind || (nat_lt 0 links && (links == names))

-- what is wrong at a leaf that shows this, if it is an inode whose links are, where each inode has so many names
abbrev pub link_wrong : (ℕ → ℕ) → ShownLeaf → Shown → Option WrongValue
link_wrong names leaf (Inode ino kind links) = if are_right kind links (names ino) then None else Some (record { lnum = leaf.lnum; offs = leaf.offs; wanted = names ino; found = links })
link_wrong names leaf other = None

abbrev pub wrong_link : (ℕ → ℕ) → ShownLeaf → Option WrongValue
wrong_link names leaf = link_wrong names leaf leaf.shown

-- the first of some places that are there
abbrev pub soonest_of : Option WrongValue → List (Option WrongValue) → Option WrongValue
soonest_of now wrongs = fold sooner_of now wrongs
