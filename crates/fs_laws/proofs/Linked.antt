-- Directories whose inodes have links.
use Rattle.std.proofs.Common.{◌≡◌, ℕ, ◌+◌, ◌-◌, true, false, not, ◌&&◌, min, max, Some, refl, sym, inl, inr, arith}
use Rattle.std.specs.Prelude.{◌==◌, Bool}
use Rattle.std.proofs.lemmas.Bool.{false≢true}
use Rattle.std.proofs.lemmas.Bool.Decides.{eqb_tells}
use Rattle.std.specs.List.{list_all}
use Rattle.std.specs.Map.{remove_entry}
use Rattle.std.specs.BTreeMap.{is_at, insert_entry}
use Rattle.std.specs.Ordering.{nat_cmp}
use Rattle.fs_model.specs.declared.inode.Inode.{Inode}
use Rattle.fs_model.specs.declared.share.Share.{Share}
use Rattle.fs_model.specs.Directory.{counted}
use Rattle.fs_model.specs.Files.{Inodes}
use Rattle.fs_model.specs.Making.{touched}
use Rattle.fs_model.specs.Path.{is_dir}
use Rattle.fs_model.specs.Proper.{is_linked}
use Rattle.fs_laws.specs.Maps.{all_at, all_insert, all_remove}
use Rattle.fs_laws.specs.Orders.{numbers}
use Rattle.fs_laws.proofs.Rel.{inode_in}

abbrev pub are_linked : Inodes → Bool
are_linked inodes = list_all is_linked inodes

pub linked_set : (inodes : Inodes) (ino : ℕ) (new : Inode) → is_linked (ino, new) ≡ true → are_linked inodes ≡ true → are_linked (insert_entry nat_cmp inodes ino new) ≡ true
linked_set inodes ino new one all = all_insert nat_cmp numbers is_linked inodes ino new one all

-- an inode that is set with its kind and links as they were
pub linked_same : (inodes : Inodes) (ino : ℕ) (old new : Inode) → inode_in inodes ino ≡ Some old → new.kind ≡ old.kind → new.nlink ≡ old.nlink → are_linked inodes ≡ true → are_linked (insert_entry nat_cmp inodes ino new) ≡ true
linked_same inodes ino old new found kind nlink all =
    let one = all_at nat_cmp numbers is_linked inodes ino old all found in
    linked_set inodes ino new (rw (kind, nlink) one) all

pub linked_left : (inodes : Inodes) (gone : ℕ) → are_linked inodes ≡ true → are_linked (remove_entry (is_at (nat_cmp gone)) inodes) ≡ true
linked_left inodes gone all = all_remove is_linked (is_at (nat_cmp gone)) inodes all

-- a directory that is in place says a link
pub dir_linked : (inodes : Inodes) (ino : ℕ) (i : Inode) → inode_in inodes ino ≡ Some i → is_dir i.kind ≡ true → are_linked inodes ≡ true → (i.nlink == 0) ≡ false
dir_linked inodes ino i found dir all = by (is_dir i.kind) (i.nlink == 0) dir (all_at nat_cmp numbers is_linked inodes ino i all found)
  where
    by : (d z : Bool) → d ≡ true → not (d && z) ≡ true → z ≡ false
    by true true e h = sym h
    by true false e h = refl
    by false z e h = absurd (false≢true e)

-- and so does one whose entries change
pub counted_linked : (ino : ℕ) (came gone : Share) (i : Inode) (now : ℕ) → is_dir i.kind ≡ true → is_linked (ino, touched now (counted came gone i)) ≡ true
counted_linked ino came gone i now dir = rw dir (some (min (i.nlink + came.links) 4294967295 - gone.links))
  where
    some : (n : ℕ) → not (true && (max 1 n == 0)) ≡ true
    some n = elim (eqb_tells (max 1 n) 0) [ inl none ↦ (let z = none.1 in absurd (omega (arith, z))) | inr other ↦ rw other.0 refl ]

pub plain_linked : (ino : ℕ) (i : Inode) → is_dir i.kind ≡ false → is_linked (ino, i) ≡ true
plain_linked ino i plain = rw plain refl
