-- Trees in which all that has a name is the same: what a group makes of the files, its replay makes of the other.
use Rattle.std.proofs.Common.{◌≡◌, ℕ, Bool, true, false, cond, not, ◌||◌, max, List, [], ◌∷◌, map, refl, sym, ap, ◌∙◌, arith, Option, Some, None}
use Rattle.std.specs.Prelude.{◌==◌, fold, is_some, nat_le, nat_lt}
use Rattle.std.specs.BTreeMap.{is_at}
use Rattle.std.specs.List.{AllByRecursion, list_all}
use Rattle.std.specs.Option.{option_map_or}
use Rattle.std.specs.Ordering.{nat_cmp}
use Rattle.std.proofs.lemmas.Bool.{and_from, and_parts, false≢true, leb-true, ltb-true}
use Rattle.ubifs_base.specs.declared.key.Key.{Key}
use Rattle.ubifs_base.specs.Key.{key_words}
use Rattle.index_tree.specs.declared.leaf.Leaf.{Leaf}
use Rattle.fs_model.specs.declared.change.Change.{Change}
use Rattle.fs_model.specs.declared.change.Change.TheVariants.{SetInode, SetEntry, DropEntry, SetBlock, CutBlocks, DropInode}
use Rattle.fs_model.specs.declared.inode.Inode.{Inode}
use Rattle.fs_model.specs.Change.{applied, apply, key_number, without_inode}
use Rattle.fs_model.specs.Files.{Inodes, Tree, inode_at, with_block}
use Rattle.fs_model.specs.Orphan.{all_revive_none, nameless, revives_none, without_nameless}
use Rattle.fs_model.specs.Proper.{IsInOrder}
use Rattle.fs_model.specs.Recovery.{as_replayed}
use Rattle.fs_laws.specs.Forgotten.{applied_in_order, change_forgotten, found_inode}
use Rattle.fs_laws.specs.Maps.{all_at, all_insert, all_remove, all_weaken}
use Rattle.fs_laws.specs.Orders.{numbers}
use Rattle.leaf_map.specs.Kept.{Kept, shown_by}
use Rattle.leaf_map.specs.LeafMap.{HasKeyOf, IsKeyed}
use Rattle.leaf_map.specs.Recovered.{highest_key}
use Rattle.leaf_map.specs.Shown.{inodes_of, with_shown_inode}

-- no inode has a number above the highest
abbrev pub has_low_inodes : ℕ → Inodes → Bool
has_low_inodes highest inodes = list_all (λ e. nat_le e.0 highest) inodes

-- the other tree has what has a name in the files, and no number above the highest one of theirs
pub record IsBeside (files other : Tree) : Type 0 where
  pub order : IsInOrder files
  pub in_order : IsInOrder other
  pub same : without_nameless other ≡ without_nameless files
  pub highest : other.highest ≡ files.highest
  pub low : has_low_inodes other.highest other.inodes ≡ true

-- ---- a change
pub high_more : (k h n : ℕ) → nat_le k h ≡ true → nat_le k (max h n) ≡ true
high_more k h n e = grind (arith)

high_own : (h n : ℕ) → nat_le n (max h n) ≡ true
high_own h n = grind (arith)

still_low : (h n : ℕ) (inodes : Inodes) → has_low_inodes h inodes ≡ true → has_low_inodes (max h n) inodes ≡ true
still_low h n inodes low = all_weaken (λ e. nat_le e.0 h) (λ e. nat_le e.0 (max h n)) (λ e t. high_more e.0 h n t) inodes low

pub change_low : (tree : Tree) (change : Change) → has_low_inodes tree.highest tree.inodes ≡ true → has_low_inodes (applied tree change).highest (applied tree change).inodes ≡ true
change_low tree (SetInode ino inode) low = all_insert nat_cmp numbers (λ e. nat_le e.0 (max tree.highest ino)) tree.inodes ino inode (high_own tree.highest ino) (still_low tree.highest ino tree.inodes low)
change_low tree (SetEntry entry) low = still_low tree.highest entry.dir tree.inodes low
change_low tree (DropEntry dir name) low = still_low tree.highest dir tree.inodes low
change_low tree (CutBlocks ino old_size new_size) low = still_low tree.highest ino tree.inodes low
change_low tree (DropInode ino) low = all_remove (λ e. nat_le e.0 (max tree.highest ino)) (is_at (nat_cmp ino)) tree.inodes (still_low tree.highest ino tree.inodes low)
change_low tree (SetBlock ino block bytes) low = by (is_some (inode_at tree ino))
  where
    by : (b : Bool) → has_low_inodes (max tree.highest ino) (cond {A = Tree} b (record tree { blocks = with_block tree.blocks ino block bytes }) tree).inodes ≡ true
    by true = still_low tree.highest ino tree.inodes low
    by false = still_low tree.highest ino tree.inodes low

same_key : (change : Change) → key_number (as_replayed change) ≡ key_number change
same_key (SetInode ino inode) = by (inode.nlink == 0)
  where
    by : (b : Bool) → key_number (cond b (DropInode ino) (SetInode ino inode)) ≡ ino
    by true = refl
    by false = refl
same_key (SetEntry entry) = refl
same_key (DropEntry dir name) = refl
same_key (CutBlocks ino old_size new_size) = refl
same_key (DropInode ino) = refl
same_key (SetBlock ino block bytes) = refl

-- a change that was replayed is replayed as it is
twice : (change : Change) → as_replayed (as_replayed change) ≡ as_replayed change
twice (SetInode ino inode) = by (inode.nlink == 0) refl
  where
    by : (b : Bool) → (inode.nlink == 0) ≡ b → as_replayed (cond b (DropInode ino) (SetInode ino inode)) ≡ cond b (DropInode ino) (SetInode ino inode)
    by true e = refl
    by false e = rw e refl
twice (SetEntry entry) = refl
twice (DropEntry dir name) = refl
twice (CutBlocks ino old_size new_size) = refl
twice (DropInode ino) = refl
twice (SetBlock ino block bytes) = refl

-- ---- a change that brings back no inode of the files brings back none of the other
-- the test of an inode that was there
abbrev revives : Inode → Option Inode → Bool → Bool
revives inode found new = option_map_or (λ old. (inode.nlink == 0) || not (old.nlink == 0)) found new

-- what is found of an inode once what has no name is gone
abbrev left_of : Option Inode → Option Inode
left_of found = cond (option_map_or (λ inode. inode.nlink == 0) found false) None found

has_links : (a b : Bool) → a ≡ false → (a || not b) ≡ true → b ≡ false
has_links true b e h = absurd (false≢true (sym e))
has_links false true e h = absurd (false≢true h)
has_links false false e h = refl

set_revives : (files other : Tree) (ino : ℕ) (inode : Inode) → IsBeside files other → (inode.nlink == 0) ≡ false → revives_none files (SetInode ino inode) ≡ true → revives_none other (SetInode ino inode) ≡ true
set_revives files other ino inode b some h = at (inode_at other ino) refl (inode_at files ino) refl
  where
    seen : left_of (inode_at other ino) ≡ left_of (inode_at files ino)
    seen = sym (found_inode other ino b.in_order) ∙ ap (λ (z : Tree). inode_at z ino) b.same ∙ found_inode files ino b.order

    was : (p : Option Inode) → inode_at files ino ≡ p → revives inode p (nat_lt files.highest ino) ≡ true
    was p f = ap (λ (o : Option Inode). revives inode o (nat_lt files.highest ino)) (sym f) ∙ h

    both : (o p : Option Inode) → inode_at other ino ≡ o → inode_at files ino ≡ p → left_of o ≡ left_of p
    both o p e f = ap left_of (sym e) ∙ seen ∙ ap left_of f

    named : (old : Inode) → inode_at files ino ≡ Some old → (old.nlink == 0) ≡ false
    named old f = has_links (inode.nlink == 0) (old.nlink == 0) some (was (Some old) f)

    -- an inode with a name in the files is found in the other
    found : (o : Option Inode) (old : Inode) → inode_at other ino ≡ o → inode_at files ino ≡ Some old → left_of o ≡ Some old
    found o old e f = both o (Some old) e f ∙ rw (named old f) refl

    too_high : (i : Inode) → inode_at other ino ≡ Some i → nat_lt files.highest ino ≡ true → ⊥
    too_high i e above =
        let low = leb-true ino other.highest (all_at nat_cmp numbers (λ (x : ℕ × Inode). nat_le x.0 other.highest) other.inodes ino i b.low e) in
        let high = ltb-true files.highest ino above in
        let same = b.highest in
        omega (arith, low, high, same)

    linked : (i old : Inode) → left_of (Some i) ≡ Some old → revives inode (Some i) (nat_lt other.highest ino) ≡ true
    linked i old is = by (i.nlink == 0) is
      where
        by : (z : Bool) → cond z None (Some i) ≡ Some old → ((inode.nlink == 0) || not z) ≡ true
        by true g = absurd cc
        by false g = last (inode.nlink == 0)
          where
            last : (a : Bool) → (a || true) ≡ true
            last true = refl
            last false = refl

    at : (o : Option Inode) → inode_at other ino ≡ o → (p : Option Inode) → inode_at files ino ≡ p → revives_none other (SetInode ino inode) ≡ true
    at None e None f = ap (λ (o : Option Inode). revives inode o (nat_lt other.highest ino)) e ∙ ap (λ (n : ℕ). nat_lt n ino) b.highest ∙ was None f
    at None e (Some old) f = let g : None ≡ Some old = found None old e f in absurd cc
    at (Some i) e None f = absurd (too_high i e (was None f))
    at (Some i) e (Some old) f = ap (λ (o : Option Inode). revives inode o (nat_lt other.highest ino)) e ∙ linked i old (found (Some i) old e f)

change_revives : (files other : Tree) (change : Change) → IsBeside files other → revives_none files change ≡ true → revives_none other (as_replayed change) ≡ true
change_revives files other (SetInode ino inode) b h = by (inode.nlink == 0) refl
  where
    by : (z : Bool) → (inode.nlink == 0) ≡ z → revives_none other (cond z (DropInode ino) (SetInode ino inode)) ≡ true
    by true e = refl
    by false e = set_revives files other ino inode b e h
change_revives files other (SetEntry entry) b h = refl
change_revives files other (DropEntry dir name) b h = refl
change_revives files other (CutBlocks ino old_size new_size) b h = refl
change_revives files other (DropInode ino) b h = refl
change_revives files other (SetBlock ino block bytes) b h = refl

change_beside : (files other : Tree) (change : Change) → IsBeside files other → revives_none files change ≡ true → IsBeside (applied files change) (applied other (as_replayed change))
change_beside files other change b h =
    let replayed : Change = as_replayed change in
    let again = change_revives files other change b h in
    record {
      order = applied_in_order files change b.order;
      in_order = applied_in_order other replayed b.in_order;
      same = change_forgotten other replayed b.in_order again ∙ ap (λ (c : Change). applied (without_nameless other) c) (twice change) ∙ ap (λ (z : Tree). applied z replayed) b.same ∙ sym (change_forgotten files change b.order h);
      highest = ap (λ (n : ℕ). max n (key_number replayed)) b.highest ∙ ap (λ (n : ℕ). max files.highest n) (same_key change);
      low = change_low other replayed b.low;
    }

pub group_beside : (group : List Change) (files other : Tree) → IsBeside files other → all_revive_none files group ≡ true → IsBeside (apply files group) (apply other (map as_replayed group))
group_beside [] files other b h = b
group_beside (change ∷ group) files other b h =
    let p = and_parts (revives_none files change) (all_revive_none (applied files change) group) h in
    group_beside group (applied files change) (applied other (as_replayed change)) (change_beside files other change b p.0) p.1

-- ---- trees after many changes
pub all_low : (changes : List Change) (tree : Tree) → has_low_inodes tree.highest tree.inodes ≡ true → has_low_inodes (apply tree changes).highest (apply tree changes).inodes ≡ true
all_low [] tree low = low
all_low (change ∷ changes) tree low = all_low changes (applied tree change) (change_low tree change low)

without_high : (inos : List ℕ) (tree : Tree) → (fold without_inode tree inos).highest ≡ tree.highest
without_high [] tree = refl
without_high (ino ∷ inos) tree = without_high inos (without_inode tree ino)

-- what has no name takes no number with it
pub forgotten_high : (tree : Tree) → (without_nameless tree).highest ≡ tree.highest
forgotten_high tree = without_high (nameless tree) tree

-- ---- the inodes of leaves
-- keys have no number above the highest of them
above_first : (highest : ℕ) (keys : List Key) (n : ℕ) → nat_le n highest ≡ true → nat_le n (highest_key highest keys) ≡ true
above_first highest [] n h = h
above_first highest (key ∷ keys) n h = above_first (max highest (key_words key).0) keys n (high_more n highest (key_words key).0 h)

inode_low : (shown : Option Change) (leaf : Leaf) (inodes : Inodes) (n : ℕ) → HasKeyOf leaf shown → nat_le (key_words leaf.key).0 n ≡ true → has_low_inodes n inodes ≡ true → has_low_inodes n (with_shown_inode shown inodes) ≡ true
inode_low (Some (SetInode ino inode)) leaf inodes n is here low = and_from (nat_le ino n) (has_low_inodes n inodes) (ap (λ (key : Key). nat_le (key_words key).0 n) (sym is) ∙ here) low
inode_low shown leaf inodes n is here low = low

pub leaves_low : (highest : ℕ) (kept : List Kept) → AllByRecursion IsKeyed kept → has_low_inodes (highest_key highest (map (λ x. x.leaf.key) kept)) (inodes_of kept) ≡ true
leaves_low highest [] keyed = refl
leaves_low highest (x ∷ kept) keyed =
    let next : ℕ = max highest (key_words x.leaf.key).0 in
    let keys : List Key = map (λ y. y.leaf.key) kept in
    inode_low (shown_by x) x.leaf (inodes_of kept) (highest_key next keys) keyed.0 (above_first next keys (key_words x.leaf.key).0 (high_own highest (key_words x.leaf.key).0)) (leaves_low next kept keyed.1)
