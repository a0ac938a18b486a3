-- Groups that bring back no inode, and drop none without a name.
use Rattle.std.proofs.Common.{◌≡◌, ℕ, ◌-◌, Bool, true, false, not, ◌||◌, List, [], ◌∷◌, ◌++◌, Some, refl, ap, ◌∙◌, inl, inr, arith}
use Rattle.std.specs.Prelude.{◌==◌, nat_lt}
use Rattle.std.specs.Option.{option_map_or}
use Rattle.std.proofs.lemmas.Bool.{and_parts, and_from}
use Rattle.std.proofs.lemmas.Bool.Decides.{eqb_tells}
use Rattle.fs_model.specs.declared.change.Change.{Change}
use Rattle.fs_model.specs.declared.change.Change.TheVariants.{DropInode, SetInode}
use Rattle.fs_model.specs.declared.inode.Inode.{Inode}
use Rattle.fs_model.specs.Change.{apply, applied}
use Rattle.fs_model.specs.Files.{Tree, inode_at}
use Rattle.fs_model.specs.Orphan.{revives_none, all_revive_none, drops_named, all_drop_named}

found_revives : (t : Tree) (ino : ℕ) (old new : Inode) → inode_at t ino ≡ Some old → ((new.nlink == 0) || not (old.nlink == 0)) ≡ true → revives_none t (SetInode ino new) ≡ true
found_revives t ino old new f h = ap (λ o. option_map_or (λ (i : Inode). (new.nlink == 0) || not (i.nlink == 0)) o (nat_lt t.highest ino)) f ∙ h

-- an inode that keeps its links
pub kept_revives : (t : Tree) (ino : ℕ) (old new : Inode) → inode_at t ino ≡ Some old → new.nlink ≡ old.nlink → revives_none t (SetInode ino new) ≡ true
kept_revives t ino old new f same = found_revives t ino old new f (rw same (by (old.nlink == 0)))
  where
    by : (b : Bool) → (b || not b) ≡ true
    by true = refl
    by false = refl

-- one that has links
pub linked_revives : (t : Tree) (ino : ℕ) (old new : Inode) → inode_at t ino ≡ Some old → (old.nlink == 0) ≡ false → revives_none t (SetInode ino new) ≡ true
linked_revives t ino old new f some = found_revives t ino old new f (rw some (by (new.nlink == 0)))
  where
    by : (b : Bool) → (b || true) ≡ true
    by true = refl
    by false = refl

-- one that loses a link
pub less_revives : (t : Tree) (ino : ℕ) (old new : Inode) → inode_at t ino ≡ Some old → new.nlink ≡ old.nlink - 1 → revives_none t (SetInode ino new) ≡ true
less_revives t ino old new f less = elim (eqb_tells old.nlink 0) [
  | inl none ↦
      let n = none.1 in
      let z : new.nlink ≡ 0 = omega (arith, less, n) in
      found_revives t ino old new f (rw z refl)
  | inr some ↦ linked_revives t ino old new f some.0
]

pub revive_append : (a b : List Change) (t : Tree) → all_revive_none t a ≡ true → all_revive_none (apply t a) b ≡ true → all_revive_none t (a ++ b) ≡ true
revive_append [] b t h i = i
revive_append (c ∷ a) b t h i =
    let parts = and_parts (revives_none t c) (all_revive_none (applied t c) a) h in
    and_from (revives_none t c) (all_revive_none (applied t c) (a ++ b)) parts.0 (revive_append a b (applied t c) parts.1 i)

-- one that has links is dropped
pub linked_drops : (t : Tree) (ino : ℕ) (inode : Inode) → inode_at t ino ≡ Some inode → (inode.nlink == 0) ≡ false → drops_named t (DropInode ino) ≡ true
linked_drops t ino inode f some = ap (λ o. not (option_map_or (λ (i : Inode). i.nlink == 0) o false)) f ∙ ap not some

pub drop_append : (a b : List Change) (t : Tree) → all_drop_named t a ≡ true → all_drop_named (apply t a) b ≡ true → all_drop_named t (a ++ b) ≡ true
drop_append [] b t h i = i
drop_append (c ∷ a) b t h i =
    let parts = and_parts (drops_named t c) (all_drop_named (applied t c) a) h in
    and_from (drops_named t c) (all_drop_named (applied t c) (a ++ b)) parts.0 (drop_append a b (applied t c) parts.1 i)
