-- What is gone since a commit: inodes that lost their last name, and leaves that groups made obsolete.
use Rattle.std.specs.Prelude.{◌≡◌, ◌⊎◌, ℕ, ◌==◌, ◌&&◌, ◌||◌, nat_le, IsTrue, Bool, true, false, List, take, get_or}
use Rattle.std.specs.List.{list_any}
use Rattle.std.specs.Option.{option_map_or}
use Rattle.fs_model.specs.declared.change.Change.{Change}
use Rattle.fs_model.specs.declared.change.Change.TheVariants.{DropInode}
use Rattle.fs_model.specs.Files.{Tree, inode_at}
use Rattle.fs_model.specs.Orphan.{is_nameless}
use Rattle.fs_model.specs.Recovery.{as_replayed}
use Rattle.store_model.specs.Fits.{Faced}
use Rattle.store_model.specs.Heads.{changes_of, groups_of_head}
use Rattle.store_model.specs.Store.{Bud, Carried, Orphan}

-- whether a group has a change that passes a test, as recovery makes it
abbrev pub group_does : (Change → Bool) → List Carried → Bool
group_does test group = list_any (λ change. test (as_replayed change)) (changes_of group)

-- whether a group of heads 1 and 2 has one
abbrev pub some_does : (Change → Bool) → List Bud → Bool
some_does test buds = list_any (group_does test) (groups_of_head 1 buds) || list_any (group_does test) (groups_of_head 2 buds)

-- whether a synced one has
abbrev pub some_synced_does : (Change → Bool) → List ℕ → List Bud → Bool
some_synced_does test synced buds = list_any (group_does test) (take (get_or synced 1 0) (groups_of_head 1 buds)) || list_any (group_does test) (take (get_or synced 2 0) (groups_of_head 2 buds))

-- whether a change takes an inode away
abbrev pub drops_inode : ℕ → Change → Bool
drops_inode ino (DropInode other) = other == ino
drops_inode ino change = false

-- whether a number was used whose inode has no name, or isn't there
abbrev pub is_lost : Tree → ℕ → Bool
is_lost tree ino = nat_le ino tree.highest && option_map_or (λ inode. inode.nlink == 0) (inode_at tree ino) true

-- Where an orphan isn't synced a group since took its last name. Where it is, so is that group, or it had no name when the view's commit began.
abbrev pub LostItsName : Faced → Orphan → Type 0
LostItsName f orphan =
    ((orphan.synced ≡ false) × IsTrue (some_does (drops_inode orphan.ino) f.view.buds))
    ⊎ ((orphan.synced ≡ true) × (IsTrue (some_synced_does (drops_inode orphan.ino) f.synced f.view.buds) ⊎ IsTrue (is_nameless f.view.tree orphan.ino)))
