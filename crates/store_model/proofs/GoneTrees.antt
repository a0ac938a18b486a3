-- What a group makes of inodes that have lost their last name, and which it takes that from.
use Rattle.std.proofs.Common.{◌≡◌, ◌⊎◌, ◌∙◌, ℕ, arith, Bool, true, false, cond, not, max, List, [], ◌∷◌, refl, sym, ap, subst, inl, inr, Option, Some, None}
use Rattle.std.specs.Prelude.{◌==◌, ◌&&◌, ◌||◌, is_some, nat_le, nat_lt}
use Rattle.std.specs.BTreeMap.{is_at}
use Rattle.std.specs.List.{list_any}
use Rattle.std.specs.Map.{lookup, remove_entry}
use Rattle.std.specs.Option.{option_map_or}
use Rattle.std.specs.Ordering.{nat_cmp}
use Rattle.std.proofs.lemmas.Bool.{and_from, and_parts, eq-eqb, eqb-true, false≢true}
use Rattle.fs_model.specs.declared.change.Change.{Change}
use Rattle.fs_model.specs.declared.change.Change.TheVariants.{CutBlocks, DropEntry, DropInode, SetBlock, SetEntry, SetInode}
use Rattle.fs_model.specs.declared.inode.Inode.{Inode}
use Rattle.fs_model.specs.Change.{applied, apply}
use Rattle.fs_model.specs.Files.{inode_at, Tree, with_block}
use Rattle.fs_model.specs.Orphan.{all_revive_none, is_nameless, revives_none}
use Rattle.fs_model.specs.Proper.{IsInOrder}
use Rattle.fs_model.specs.Recovery.{as_replayed}
use Rattle.fs_laws.specs.Forgotten.{applied_in_order}
use Rattle.fs_laws.specs.Maps.{key_cases, removed_here, set_here, set_other}
use Rattle.fs_laws.specs.Orders.{numbers}
use Rattle.leaf_map.specs.Allowed.{sets_inode}
use Rattle.store_model.specs.Gone.{drops_inode, is_lost}
use Rattle.store_model.proofs.Beside.{high_more}
use Rattle.store_model.proofs.Orphans.{gone_stays}
use Rattle.store_model.proofs.RecoveryCopies.{either_of}
use Rattle.store_model.proofs.RecoveryListed.{has_none}
use Rattle.store_model.proofs.RecoveryOrder.{or_left, or_right}

-- an inode that isn't there, or has no links
abbrev has_no_links : Option Inode → Bool
has_no_links o = option_map_or (λ inode. inode.nlink == 0) o true

differs : (a b : ℕ) → (b ≡ a → ⊥) → (a == b) ≡ false
differs a b other = by (a == b) refl
  where
    by : (z : Bool) → (a == b) ≡ z → (a == b) ≡ false
    by true e = absurd (other (sym (eqb-true a b e)))
    by false e = e

clash : (n h : ℕ) → nat_le n h ≡ true → nat_lt h n ≡ true → ⊥
clash n h low high = grind (arith, low, high)

still_high : (tree : Tree) (n k : ℕ) (o : Option Inode) → nat_le n tree.highest ≡ true → has_no_links o ≡ true → (nat_le n (max tree.highest k) && has_no_links o) ≡ true
still_high tree n k o low h = and_from (nat_le n (max tree.highest k)) (has_no_links o) (high_more n tree.highest k low) h

-- an inode that is set and is lost gets no links
no_links : (tree : Tree) (ino : ℕ) (inode : Inode) → nat_le ino tree.highest ≡ true → has_no_links (inode_at tree ino) ≡ true → revives_none tree (SetInode ino inode) ≡ true → (inode.nlink == 0) ≡ true
no_links tree ino inode low lost none = by (inode_at tree ino) lost none
  where
    by : (o : Option Inode) → has_no_links o ≡ true → option_map_or (λ (old : Inode). (inode.nlink == 0) || not (old.nlink == 0)) o (nat_lt tree.highest ino) ≡ true → (inode.nlink == 0) ≡ true
    by None l r = absurd (clash ino tree.highest low r)
    by (Some old) l r = of (either_of (inode.nlink == 0) (not (old.nlink == 0)) r)
      where
        of : ((inode.nlink == 0) ≡ true) ⊎ (not (old.nlink == 0) ≡ true) → (inode.nlink == 0) ≡ true
        of (inl e) = e
        of (inr e) = absurd (false≢true (sym (ap not l) ∙ e))

set_lost : (tree : Tree) (ino : ℕ) (inode : Inode) (n : ℕ) → revives_none tree (SetInode ino inode) ≡ true → is_lost tree n ≡ true
    → (is_lost (applied tree (SetInode ino inode)) n ≡ true) × (sets_inode n (as_replayed (SetInode ino inode)) ≡ false)
set_lost tree ino inode n none h = elim (key_cases nat_cmp numbers n ino) [
  | inl same ↦ here same
  | inr other ↦ away other
]
  where
    p : (nat_le n tree.highest ≡ true) × (has_no_links (inode_at tree n) ≡ true)
    p = and_parts (nat_le n tree.highest) (has_no_links (inode_at tree n)) h

    here : n ≡ ino → (is_lost (applied tree (SetInode ino inode)) n ≡ true) × (sets_inode n (as_replayed (SetInode ino inode)) ≡ false)
    here same =
        let z = no_links tree ino inode (subst (λ (k : ℕ). nat_le k tree.highest ≡ true) same p.0) (subst (λ (k : ℕ). has_no_links (inode_at tree k) ≡ true) same p.1) none in (
          subst (λ (k : ℕ). is_lost (applied tree (SetInode ino inode)) k ≡ true) (sym same)
              (still_high tree ino ino (inode_at (applied tree (SetInode ino inode)) ino) (subst (λ (k : ℕ). nat_le k tree.highest ≡ true) same p.0) (ap has_no_links (set_here nat_cmp numbers tree.inodes ino inode) ∙ z)),
          ap (λ (b : Bool). sets_inode n (cond b (DropInode ino) (SetInode ino inode))) z,
        )

    away : (n ≡ ino → ⊥) → (is_lost (applied tree (SetInode ino inode)) n ≡ true) × (sets_inode n (as_replayed (SetInode ino inode)) ≡ false)
    away other = (still_high tree n ino (inode_at (applied tree (SetInode ino inode)) n) p.0 (ap has_no_links (set_other nat_cmp numbers tree.inodes ino inode n other) ∙ p.1), by (inode.nlink == 0))
      where
        by : (b : Bool) → sets_inode n (cond b (DropInode ino) (SetInode ino inode)) ≡ false
        by true = refl
        by false = differs ino n other

change_lost : (tree : Tree) (change : Change) (n : ℕ) → IsInOrder tree → revives_none tree change ≡ true → is_lost tree n ≡ true → (is_lost (applied tree change) n ≡ true) × (sets_inode n (as_replayed change) ≡ false)
change_lost tree (SetInode ino inode) n o none h = set_lost tree ino inode n none h
change_lost tree (SetEntry e) n o none h = let p = and_parts (nat_le n tree.highest) (has_no_links (inode_at tree n)) h in (still_high tree n e.dir (inode_at tree n) p.0 p.1, refl)
change_lost tree (DropEntry dir name) n o none h = let p = and_parts (nat_le n tree.highest) (has_no_links (inode_at tree n)) h in (still_high tree n dir (inode_at tree n) p.0 p.1, refl)
change_lost tree (CutBlocks ino old new) n o none h = let p = and_parts (nat_le n tree.highest) (has_no_links (inode_at tree n)) h in (still_high tree n ino (inode_at tree n) p.0 p.1, refl)
change_lost tree (SetBlock ino block bytes) n o none h = (by (is_some (inode_at tree ino)), refl)
  where
    p : (nat_le n tree.highest ≡ true) × (has_no_links (inode_at tree n) ≡ true)
    p = and_parts (nat_le n tree.highest) (has_no_links (inode_at tree n)) h

    by : (b : Bool) → is_lost (record (cond b (record tree { blocks = with_block tree.blocks ino block bytes }) tree) { highest = max tree.highest ino }) n ≡ true
    by true = still_high tree n ino (inode_at tree n) p.0 p.1
    by false = still_high tree n ino (inode_at tree n) p.0 p.1
change_lost tree (DropInode ino) n o none h = (
  still_high tree n ino (inode_at (applied tree (DropInode ino)) n) p.0 (elim (key_cases nat_cmp numbers n ino) [
    | inl same ↦ ap has_no_links (subst (λ (k : ℕ). lookup (is_at (nat_cmp k)) (remove_entry (is_at (nat_cmp ino)) tree.inodes) ≡ None) (sym same) (removed_here nat_cmp numbers tree.inodes ino o.inodes))
    | inr other ↦ ap has_no_links (gone_stays tree ino n other) ∙ p.1
  ]),
  refl,
)
  where
    p : (nat_le n tree.highest ≡ true) × (has_no_links (inode_at tree n) ≡ true)
    p = and_parts (nat_le n tree.highest) (has_no_links (inode_at tree n)) h

pub group_lost : (group : List Change) (tree : Tree) (n : ℕ) → IsInOrder tree → all_revive_none tree group ≡ true → is_lost tree n ≡ true
    → (is_lost (apply tree group) n ≡ true) × (list_any (λ change. sets_inode n (as_replayed change)) group ≡ false)
group_lost [] tree n o none h = (h, refl)
group_lost (change ∷ group) tree n o none h =
    let p = and_parts (revives_none tree change) (all_revive_none (applied tree change) group) none in
    let first = change_lost tree change n o p.0 h in
    let rest = group_lost group (applied tree change) n (applied_in_order tree change o) p.1 first.0 in
    (rest.0, ap (λ (b : Bool). b || list_any (λ change. sets_inode n (as_replayed change)) group) first.1 ∙ rest.1)

-- ---- whose last name goes
set_newly : (tree : Tree) (ino : ℕ) (inode : Inode) (n : ℕ) → is_nameless tree n ≡ false → is_nameless (applied tree (SetInode ino inode)) n ≡ true → drops_inode n (as_replayed (SetInode ino inode)) ≡ true
set_newly tree ino inode n un h = elim (key_cases nat_cmp numbers n ino) [
  | inl same ↦ here same
  | inr other ↦ absurd (false≢true (sym un ∙ sym (ap has_none (set_other nat_cmp numbers tree.inodes ino inode n other)) ∙ h))
]
  where
    here : n ≡ ino → drops_inode n (as_replayed (SetInode ino inode)) ≡ true
    here same =
        let z : (inode.nlink == 0) ≡ true = sym (ap has_none (set_here nat_cmp numbers tree.inodes ino inode)) ∙ subst (λ (k : ℕ). is_nameless (applied tree (SetInode ino inode)) k ≡ true) same h in
        ap (λ (b : Bool). drops_inode n (cond b (DropInode ino) (SetInode ino inode))) z ∙ eq-eqb ino n (sym same)

change_newly : (tree : Tree) (change : Change) (n : ℕ) → is_nameless tree n ≡ false → is_nameless (applied tree change) n ≡ true → drops_inode n (as_replayed change) ≡ true
change_newly tree (SetInode ino inode) n un h = set_newly tree ino inode n un h
change_newly tree (SetEntry e) n un h = absurd (false≢true (sym un ∙ h))
change_newly tree (DropEntry dir name) n un h = absurd (false≢true (sym un ∙ h))
change_newly tree (CutBlocks ino old new) n un h = absurd (false≢true (sym un ∙ h))
change_newly tree (SetBlock ino block bytes) n un h = absurd (by (is_some (inode_at tree ino)) h)
  where
    by : (b : Bool) → is_nameless (record (cond b (record tree { blocks = with_block tree.blocks ino block bytes }) tree) { highest = max tree.highest ino }) n ≡ true → ⊥
    by true h = false≢true (sym un ∙ h)
    by false h = false≢true (sym un ∙ h)
change_newly tree (DropInode ino) n un h = elim (key_cases nat_cmp numbers n ino) [
  | inl same ↦ eq-eqb ino n (sym same)
  | inr other ↦ absurd (false≢true (sym un ∙ sym (ap has_none (gone_stays tree ino n other)) ∙ h))
]

pub group_newly : (group : List Change) (tree : Tree) (n : ℕ) → is_nameless tree n ≡ false → is_nameless (apply tree group) n ≡ true → list_any (λ change. drops_inode n (as_replayed change)) group ≡ true
group_newly [] tree n un h = absurd (false≢true (sym un ∙ h))
group_newly (change ∷ group) tree n un h = by (λ e. group_newly group (applied tree change) n e h) (is_nameless (applied tree change) n) refl
  where
    rest : Bool
    rest = list_any (λ change. drops_inode n (as_replayed change)) group

    by : (is_nameless (applied tree change) n ≡ false → rest ≡ true) → (b : Bool) → is_nameless (applied tree change) n ≡ b → (drops_inode n (as_replayed change) || rest) ≡ true
    by more true e = or_left (drops_inode n (as_replayed change)) rest (change_newly tree change n un e)
    by more false e = or_right (drops_inode n (as_replayed change)) rest (more e)
