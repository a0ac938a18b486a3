-- Committed inodes without links stay on the lists of orphans.
use Rattle.std.proofs.Common.{◌≡◌, ◌⊎◌, ℕ, Bool, true, false, cond, not, List, [], ◌∷◌, ◌++◌, length, refl, sym, ap, subst, ◌∙◌, inl, inr, Option, Some, None}
use Rattle.std.specs.Prelude.{◌==◌, ◌&&◌, ◌||◌, filter, fold, is_some, nat_lt}
use Rattle.std.specs.BTreeMap.{is_at}
use Rattle.std.specs.List.{list_all}
use Rattle.std.specs.Map.{keys_of, lookup, remove_entry}
use Rattle.std.specs.Option.{option_map, option_map_or}
use Rattle.std.specs.Ordering.{nat_cmp}
use Rattle.std.proofs.lemmas.Bool.{and_from, and_parts, eq-eqb, eqb-true, false≢true}
use Rattle.std.proofs.lemmas.List.Folds.{list_any-append}
use Rattle.fs_model.specs.declared.change.Change.{Change}
use Rattle.fs_model.specs.declared.change.Change.TheVariants.{SetInode, SetEntry, DropEntry, SetBlock, CutBlocks, DropInode}
use Rattle.fs_model.specs.declared.inode.Inode.{Inode}
use Rattle.fs_model.specs.Change.{applied, apply}
use Rattle.fs_model.specs.Files.{Inodes, Tree, inode_at, with_block}
use Rattle.fs_model.specs.Orphan.{all_drop_named, all_revive_none, drops_named, is_nameless, nameless, revives_none}
use Rattle.fs_laws.specs.Maps.{key_cases, removed_other, set_here, set_other}
use Rattle.fs_laws.specs.Orders.{numbers}
use Rattle.leaf_map.specs.Kept.{Kept, shown_by}
use Rattle.leaf_map.specs.Shown.{inodes_of, with_shown_inode}
use Rattle.store_model.specs.Events.{after, after_part, Begin, credit, Drop, drop_inode, End, end_commit, Event, Free, free_victim, granted, in_next, last_list, Move, next_list, Offer, offered, Open, paid, Part, Payment, Put, put, Putting, Start, start, Sync, Write, write_index}
use Rattle.store_model.specs.Fits.{faced_now, next_lists}
use Rattle.store_model.specs.Heads.{changes_of, with_copy, with_head_group}
use Rattle.store_model.specs.Invariant.{AreViewOrphans, HasListedOrphans, HaveOrphans, is_listed, is_still_listed, IsStore, KeepOrphans}
use Rattle.store_model.specs.Lebs.{is_among}
use Rattle.store_model.specs.Legal.{AreLegalParts, IsLegalEvent, IsLegalPart}
use Rattle.store_model.specs.Store.{Bud, StoreIndex, Moving, Next, Store}
use Rattle.store_model.proofs.JournalEvents.{listed_nameless}
use Rattle.store_model.proofs.RecoveryCopies.{either_of}
use Rattle.store_model.proofs.RecoveryListed.{at_number, has_none}
use Rattle.store_model.proofs.RecoveryOrder.{or_left, or_right}

-- ---- tests of inodes without links
both_shown : (p q r : ℕ → Bool) → ((n : ℕ) → p n ≡ true → q n ≡ true → r n ≡ true) → (s : Option Change) → is_listed p s ≡ true → is_listed q s ≡ true → is_listed r s ≡ true
both_shown p q r more (Some (SetInode ino inode)) h g = by (inode.nlink == 0) h g
  where
    by : (b : Bool) → (not b || p ino) ≡ true → (not b || q ino) ≡ true → (not b || r ino) ≡ true
    by true h g = more ino h g
    by false h g = refl
both_shown p q r more (Some (SetEntry e)) h g = refl
both_shown p q r more (Some (DropEntry dir name)) h g = refl
both_shown p q r more (Some (SetBlock ino number bytes)) h g = refl
both_shown p q r more (Some (CutBlocks ino old new)) h g = refl
both_shown p q r more (Some (DropInode ino)) h g = refl
both_shown p q r more None h g = refl

pub both_orphans : (p q r : ℕ → Bool) → ((n : ℕ) → p n ≡ true → q n ≡ true → r n ≡ true) → (kept : List Kept) → list_all (λ x. is_listed p (shown_by x)) kept ≡ true → list_all (λ x. is_listed q (shown_by x)) kept ≡ true
    → list_all (λ x. is_listed r (shown_by x)) kept ≡ true
both_orphans p q r more [] h g = refl
both_orphans p q r more (x ∷ kept) h g =
    let a = and_parts (is_listed p (shown_by x)) (list_all (λ x. is_listed p (shown_by x)) kept) h in
    let b = and_parts (is_listed q (shown_by x)) (list_all (λ x. is_listed q (shown_by x)) kept) g in
    and_from (is_listed r (shown_by x)) (list_all (λ x. is_listed r (shown_by x)) kept) (both_shown p q r more (shown_by x) a.0 b.0) (both_orphans p q r more kept a.1 b.1)

pub more_orphans : (p q : ℕ → Bool) → ((n : ℕ) → p n ≡ true → q n ≡ true) → (kept : List Kept) → list_all (λ x. is_listed p (shown_by x)) kept ≡ true → list_all (λ x. is_listed q (shown_by x)) kept ≡ true
more_orphans p q more kept h = both_orphans p p q (λ n a b. more n a) kept h h

-- the lists that may be there have them
pub have_orphans_now : (m : Store) → HasListedOrphans m → HaveOrphans (faced_now m) (faced_now m).lists
have_orphans_now m h = by m.next h.later
  where
    of : (next : Next) (b : Bool) → AreViewOrphans (is_among next.listed) m.now → HaveOrphans (faced_now m) (m.listed ∷ cond b (next.listed ∷ []) [])
    of next true on = (h.now, (on, tt))
    of next false on = (h.now, tt)

    by : (next : Option Next) → KeepOrphans m next → HaveOrphans (faced_now m) (m.listed ∷ next_lists next)
    by None later = (h.now, tt)
    by (Some next) later = of next next.offered later.0

-- ---- an inode without a name stays so
set_stays : (tree : Tree) (ino : ℕ) (inode : Inode) (n : ℕ) → revives_none tree (SetInode ino inode) ≡ true → is_nameless tree n ≡ true → is_nameless (applied tree (SetInode ino inode)) n ≡ true
set_stays tree ino inode n none h = elim (key_cases nat_cmp numbers n ino) [
  | inl same ↦
      subst (λ (k : ℕ). is_nameless (applied tree (SetInode ino inode)) k ≡ true) (sym same)
      (ap has_none (set_here nat_cmp numbers tree.inodes ino inode) ∙ links (inode_at tree ino) (subst (λ (k : ℕ). is_nameless tree k ≡ true) same h) none)
  | inr other ↦ ap has_none (set_other nat_cmp numbers tree.inodes ino inode n other) ∙ h
]
  where
    links : (o : Option Inode) → has_none o ≡ true → option_map_or (λ (old : Inode). (inode.nlink == 0) || not (old.nlink == 0)) o (nat_lt tree.highest ino) ≡ true → (inode.nlink == 0) ≡ true
    links None h g = absurd (false≢true h)
    links (Some old) h g = by (either_of (inode.nlink == 0) (not (old.nlink == 0)) g)
      where
        by : ((inode.nlink == 0) ≡ true) ⊎ (not (old.nlink == 0) ≡ true) → (inode.nlink == 0) ≡ true
        by (inl e) = e
        by (inr e) = absurd (false≢true (subst (λ (b : Bool). not b ≡ true) h e))

pub gone_stays : (tree : Tree) (ino n : ℕ) → (n ≡ ino → ⊥) → lookup (is_at (nat_cmp n)) (remove_entry (is_at (nat_cmp ino)) tree.inodes) ≡ inode_at tree n
gone_stays tree ino n other = removed_other nat_cmp numbers tree.inodes ino n other

change_stays : (tree : Tree) (change : Change) (n : ℕ) → revives_none tree change ≡ true → drops_named tree change ≡ true → is_nameless tree n ≡ true → is_nameless (applied tree change) n ≡ true
change_stays tree (SetInode ino inode) n none named h = set_stays tree ino inode n none h
change_stays tree (SetEntry e) n none named h = h
change_stays tree (DropEntry dir name) n none named h = h
change_stays tree (CutBlocks ino old new) n none named h = h
change_stays tree (SetBlock ino block bytes) n none named h = by (is_some (inode_at tree ino))
  where
    by : (b : Bool) → is_nameless (cond b (record tree { blocks = with_block tree.blocks ino block bytes }) tree) n ≡ true
    by true = h
    by false = h
change_stays tree (DropInode ino) n none named h = elim (key_cases nat_cmp numbers n ino) [
  | inl same ↦ absurd (false≢true (subst (λ (b : Bool). not b ≡ true) (subst (λ (k : ℕ). is_nameless tree k ≡ true) same h) named))
  | inr other ↦ ap has_none (gone_stays tree ino n other) ∙ h
]

group_stays : (group : List Change) (tree : Tree) (n : ℕ) → all_revive_none tree group ≡ true → all_drop_named tree group ≡ true → is_nameless tree n ≡ true → is_nameless (apply tree group) n ≡ true
group_stays [] tree n none named h = h
group_stays (change ∷ group) tree n none named h =
    let a = and_parts (revives_none tree change) (all_revive_none (applied tree change) group) none in
    let b = and_parts (drops_named tree change) (all_drop_named (applied tree change) group) named in
    group_stays group (applied tree change) n a.1 b.1 (change_stays tree change n a.0 b.0 h)

-- ---- events that change no list
-- what of a running commit the orphans are a matter of
abbrev orphans_of : Next → List ℕ × List Kept
orphans_of next = (next.listed, next.view.kept)

record SameLists (m k : Store) : Type 0 where
  kept : k.now.kept ≡ m.now.kept
  listed : k.listed ≡ m.listed
  next : option_map orphans_of k.next ≡ option_map orphans_of m.next
  still : (n : ℕ) → is_still_listed m n ≡ true → is_still_listed k n ≡ true

same_lists : (m k : Store) → SameLists m k → HasListedOrphans m → HasListedOrphans k
same_lists m k s h = record { now = rw (s.kept, s.listed) h.now; later = by m.next k.next s.next h.later }
  where
    by : (a b : Option Next) → option_map orphans_of b ≡ option_map orphans_of a → KeepOrphans m a → KeepOrphans k b
    by None None e later = rw s.kept (more_orphans (is_still_listed m) (is_still_listed k) s.still m.now.kept later)
    by None (Some next) e later = let other : Some (orphans_of next) ≡ None = e in absurd cc
    by (Some next) None e later = let other : None ≡ Some (orphans_of next) = e in absurd cc
    by (Some next) (Some new) e later =
        let some : Some (orphans_of new) ≡ Some (orphans_of next) = e in
        let same : orphans_of new ≡ orphans_of next = cc in
        let list : new.listed ≡ next.listed = ap (λ (p : List ℕ × List Kept). p.0) same in
        let kept : new.view.kept ≡ next.view.kept = ap (λ (p : List ℕ × List Kept). p.1) same in
        (rw (s.kept, list) later.0, rw (list, kept) later.1, rw kept (more_orphans (is_still_listed m) (is_still_listed k) s.still next.view.kept later.2))

buds_lists : (change : List Bud → List Bud) (n : ℕ) (next : Option Next) → option_map orphans_of (option_map (in_next change n) next) ≡ option_map orphans_of next
buds_lists change n None = refl
buds_lists change n (Some next) = refl

part_orphans : (m : Store) (part : Part) → IsLegalPart m part → HasListedOrphans m → HasListedOrphans (after_part m part)
part_orphans m part is h = same_lists m (after_part m part) (record {
  kept = refl;
  listed = refl;
  next = buds_lists (with_head_group part.head part.group) (length part.group) m.next;
  still = still;
}) h
  where
    still : (n : ℕ) → is_still_listed m n ≡ true → is_still_listed (after_part m part) n ≡ true
    still n g = by (either_of (is_nameless m.tree n) (is_among m.closed n) g)
      where
        by : (is_nameless m.tree n ≡ true) ⊎ (is_among m.closed n ≡ true) → is_still_listed (after_part m part) n ≡ true
        by (inl e) = or_left (is_nameless (after_part m part).tree n) (is_among m.closed n) (group_stays (changes_of part.group) m.tree n is.keeps.revives_none is.keeps.drops e)
        by (inr e) = or_right (is_nameless (after_part m part).tree n) (is_among m.closed n) e

parts_orphans : (parts : List Part) (m : Store) → AreLegalParts m parts → HasListedOrphans m → HasListedOrphans (fold after_part m parts)
parts_orphans [] m are h = h
parts_orphans (part ∷ parts) m are h = parts_orphans parts (after_part m part) are.1 (part_orphans m part are.0 h)

put_orphans : (m : Store) (p : Putting) → AreLegalParts m p.parts → HasListedOrphans m → HasListedOrphans (put p m)
put_orphans m p are h = by p.payment (parts_orphans p.parts m are h)
  where
    end : Store
    end = fold after_part m p.parts

    by : (payment : Payment) → HasListedOrphans end → HasListedOrphans (record (paid payment end) { index = p.index })
    by credit h = record { now = h.now; later = h.later }
    by granted h = record { now = h.now; later = h.later }

-- ---- an inode without a name goes
closed_more : (m : Store) (ino n : ℕ) (b : Bool) → is_among m.closed n ≡ true → is_among (cond b (m.closed ++ ino ∷ []) m.closed) n ≡ true
closed_more m ino n true h = list_any-append (λ k. k == n) m.closed (ino ∷ []) ∙ or_left (is_among m.closed n) (is_among (ino ∷ []) n) h
closed_more m ino n false h = h

drop_still : (m : Store) (ino : ℕ) (index : StoreIndex) (n : ℕ) → is_among (last_list m) n ≡ true → is_still_listed m n ≡ true → is_still_listed (drop_inode ino index m) n ≡ true
drop_still m ino index n on h = elim (key_cases nat_cmp numbers n ino) [
  | inl same ↦ or_right (is_nameless k.tree n) (is_among k.closed n) (closed same (is_among (last_list m) ino) (subst (λ (i : ℕ). is_among (last_list m) i ≡ true) same on))
  | inr other ↦ by other (either_of (is_nameless m.tree n) (is_among m.closed n) h)
]
  where
    k : Store
    k = drop_inode ino index m

    closed : n ≡ ino → (b : Bool) → b ≡ true → is_among (cond b (m.closed ++ ino ∷ []) m.closed) n ≡ true
    closed same true e =
        list_any-append (λ k. k == n) m.closed (ino ∷ []) ∙ or_right (is_among m.closed n) (is_among (ino ∷ []) n) (or_left (ino == n) false (eq-eqb ino n (sym same)))
    closed same false e = absurd (false≢true e)

    by : (n ≡ ino → ⊥) → (is_nameless m.tree n ≡ true) ⊎ (is_among m.closed n ≡ true) → is_still_listed (drop_inode ino index m) n ≡ true
    by other (inl e) = or_left (is_nameless (drop_inode ino index m).tree n) (is_among (drop_inode ino index m).closed n) (ap has_none (gone_stays m.tree ino n other) ∙ e)
    by other (inr e) = or_right (is_nameless (drop_inode ino index m).tree n) (is_among (drop_inode ino index m).closed n) (closed_more m ino n (is_among (last_list m) ino) e)

drop_orphans : (m : Store) (ino : ℕ) (index : StoreIndex) → HasListedOrphans m → HasListedOrphans (drop_inode ino index m)
drop_orphans m ino index h = record { now = h.now; later = by m.next refl h.later }
  where
    k : Store
    k = drop_inode ino index m

    by : (next : Option Next) → m.next ≡ next → KeepOrphans m next → KeepOrphans (drop_inode ino index m) next
    by None e later =
        let last : last_list m ≡ m.listed = ap (λ (o : Option Next). option_map_or (λ next. next.listed) o m.listed) e in
        both_orphans (is_among m.listed) (is_still_listed m) (is_still_listed (drop_inode ino index m)) (λ n on still. drop_still m ino index n (subst (λ (l : List ℕ). is_among l n ≡ true) (sym last) on) still) m.now.kept h.now later
    by (Some next) e later =
        let last : last_list m ≡ next.listed = ap (λ (o : Option Next). option_map_or (λ next. next.listed) o m.listed) e in
        (later.0, later.1, both_orphans (is_among next.listed) (is_still_listed m) (is_still_listed (drop_inode ino index m)) (λ n on still. drop_still m ino index n (subst (λ (l : List ℕ). is_among l n ≡ true) (sym last) on) still) next.view.kept later.1 later.2)

-- ---- a commit's start
-- an inode without a name is among those that have none
pub nameless_among : (inodes : Inodes) (n : ℕ) → has_none (lookup (is_at (nat_cmp n)) inodes) ≡ true → is_among (keys_of (filter (λ e. e.1.nlink == 0) inodes)) n ≡ true
nameless_among [] n h = absurd (false≢true h)
nameless_among (e ∷ inodes) n h = by (nameless_among inodes n) (is_at (nat_cmp n) e.0) refl h
  where
    rest : List ℕ
    rest = keys_of (filter (λ e. e.1.nlink == 0) inodes)

    further : (z : Bool) → is_among (keys_of (filter (λ e. e.1.nlink == 0) inodes)) n ≡ true → is_among (keys_of (cond z (e ∷ filter (λ e. e.1.nlink == 0) inodes) (filter (λ e. e.1.nlink == 0) inodes))) n ≡ true
    further true g = or_right (e.0 == n) (is_among (keys_of (filter (λ e. e.1.nlink == 0) inodes)) n) g
    further false g = g

    here : n ≡ e.0 → (z : Bool) → z ≡ true → is_among (keys_of (cond z (e ∷ filter (λ e. e.1.nlink == 0) inodes) (filter (λ e. e.1.nlink == 0) inodes))) n ≡ true
    here same true g = or_left (e.0 == n) (is_among (keys_of (filter (λ e. e.1.nlink == 0) inodes)) n) (eq-eqb e.0 n (sym same))
    here same false g = absurd (false≢true g)

    by : (has_none (lookup (is_at (nat_cmp n)) inodes) ≡ true → is_among (keys_of (filter (λ e. e.1.nlink == 0) inodes)) n ≡ true) → (b : Bool) → is_at (nat_cmp n) e.0 ≡ b → has_none (cond b (Some e.1) (lookup (is_at (nat_cmp n)) inodes)) ≡ true
        → is_among (keys_of (filter (λ e. e.1.nlink == 0) (e ∷ inodes))) n ≡ true
    by more true at h = here (at_number n e.0 at) (e.1.nlink == 0) h
    by more false at h = further (e.1.nlink == 0) (more h)

among_filter : (test : ℕ → Bool) (numbers : List ℕ) (n : ℕ) → test n ≡ true → is_among numbers n ≡ true → is_among (filter test numbers) n ≡ true
among_filter test [] n t h = h
among_filter test (k ∷ numbers) n t h = by (among_filter test numbers n t) (either_of (k == n) (is_among numbers n) h)
  where
    further : (b : Bool) → is_among (filter test numbers) n ≡ true → is_among (cond b (k ∷ filter test numbers) (filter test numbers)) n ≡ true
    further true g = or_right (k == n) (is_among (filter test numbers) n) g
    further false g = g

    here : (b : Bool) → b ≡ true → (k == n) ≡ true → is_among (cond b (k ∷ filter test numbers) (filter test numbers)) n ≡ true
    here true g e = or_left (k == n) (is_among (filter test numbers) n) e
    here false g e = absurd (false≢true g)

    by : (is_among numbers n ≡ true → is_among (filter test numbers) n ≡ true) → ((k == n) ≡ true) ⊎ (is_among numbers n ≡ true) → is_among (filter test (k ∷ numbers)) n ≡ true
    by more (inl e) = here (test k) (subst (λ (i : ℕ). test i ≡ true) (sym (eqb-true k n e)) t) e
    by more (inr e) = further (test k) (more e)

-- those that the next list has: without a name, or closed
next_has : (m : Store) (n : ℕ) → is_still_listed m n ≡ true → is_among (next_list m) n ≡ true
next_has m n h = list_any-append (λ k. k == n) (nameless m.tree) closed ∙ by (is_among (nameless m.tree) n) refl (either_of (is_nameless m.tree n) (is_among m.closed n) h)
  where
    closed : List ℕ
    closed = filter (λ ino. not (is_among (nameless m.tree) ino)) m.closed

    by : (b : Bool) → is_among (nameless m.tree) n ≡ b → (is_nameless m.tree n ≡ true) ⊎ (is_among m.closed n ≡ true) → (is_among (nameless m.tree) n || is_among (filter (λ ino. not (is_among (nameless m.tree) ino)) m.closed) n) ≡ true
    by true e h = or_left (is_among (nameless m.tree) n) (is_among closed n) e
    by false e (inl h) = absurd (false≢true (sym e ∙ nameless_among m.tree.inodes n h))
    by false e (inr h) = or_right (is_among (nameless m.tree) n) (is_among closed n) (among_filter (λ ino. not (is_among (nameless m.tree) ino)) m.closed n (ap not e) h)

-- a leaf's inode without links is one without a name of the tree
leaves_lost : (kept : List Kept) → list_all (λ x. is_listed (is_among (keys_of (filter (λ e. e.1.nlink == 0) (inodes_of kept)))) (shown_by x)) kept ≡ true
leaves_lost [] = refl
leaves_lost (x ∷ kept) = by (shown_by x) (leaves_lost kept)
  where
    lost : Inodes → List ℕ
    lost inodes = keys_of (filter (λ e. e.1.nlink == 0) inodes)

    Each : List ℕ → Option Change → Type 0
    Each list s = (is_listed (is_among list) s && list_all (λ x. is_listed (is_among list) (shown_by x)) kept) ≡ true

    of : (ino : ℕ) (inode : Inode) (z : Bool) → list_all (λ x. is_listed (is_among (lost (inodes_of kept))) (shown_by x)) kept ≡ true
        → ((not z || is_among (keys_of (cond z ((ino, inode) ∷ filter (λ e. e.1.nlink == 0) (inodes_of kept)) (filter (λ e. e.1.nlink == 0) (inodes_of kept)))) ino)
        && list_all (λ x. is_listed (is_among (keys_of (cond z ((ino, inode) ∷ filter (λ e. e.1.nlink == 0) (inodes_of kept)) (filter (λ e. e.1.nlink == 0) (inodes_of kept))))) (shown_by x)) kept) ≡ true
    of ino inode true h =
        and_from (is_among (ino ∷ lost (inodes_of kept)) ino) (list_all (λ x. is_listed (is_among (ino ∷ lost (inodes_of kept))) (shown_by x)) kept) (or_left (ino == ino) (is_among (lost (inodes_of kept)) ino) (eq-eqb ino ino refl))
        (more_orphans (is_among (lost (inodes_of kept))) (is_among (ino ∷ lost (inodes_of kept))) (λ n g. or_right (ino == n) (is_among (lost (inodes_of kept)) n) g) kept h)
    of ino inode false h = h

    by : (s : Option Change) → list_all (λ x. is_listed (is_among (lost (inodes_of kept))) (shown_by x)) kept ≡ true → Each (lost (with_shown_inode s (inodes_of kept))) s
    by (Some (SetInode ino inode)) h = of ino inode (inode.nlink == 0) h
    by (Some (SetEntry e)) h = h
    by (Some (DropEntry dir name)) h = h
    by (Some (SetBlock ino number bytes)) h = h
    by (Some (CutBlocks ino old new)) h = h
    by (Some (DropInode ino)) h = h
    by None h = h

-- each live inode without links is one that has no name
pub live_nameless : (m : Store) → IsStore m → list_all (λ x. is_listed (is_nameless m.tree) (shown_by x)) m.live ≡ true
live_nameless m s = more_orphans (is_among (nameless m.tree)) (is_nameless m.tree) (λ n h. listed_nameless m.tree.inodes n s.proper_now.inodes_ascend h) m.live
    (subst (λ (es : Inodes). list_all (λ x. is_listed (is_among (keys_of (filter (λ e. e.1.nlink == 0) es))) (shown_by x)) m.live ≡ true) inodes (leaves_lost m.live))
  where
    inodes : inodes_of m.live ≡ m.tree.inodes
    inodes = ap (λ (t : Tree). t.inodes) s.files.tree

start_orphans : (m : Store) (taken : List ℕ) → m.next ≡ None → IsStore m → HasListedOrphans (start taken m)
start_orphans m taken idle s = record {
  now = s.orphans.now;
  later = (
    more_orphans (is_still_listed m) (is_among (next_list m)) (next_has m) m.now.kept (subst (λ (o : Option Next). KeepOrphans m o) idle s.orphans.later),
    more_orphans (is_nameless m.tree) (is_among (next_list m)) (λ n h. next_has m n (or_left (is_nameless m.tree n) (is_among m.closed n) h)) m.live (live_nameless m s),
    more_orphans (is_nameless m.tree) (is_still_listed (start taken m)) (λ n h. or_left (is_nameless m.tree n) false h) m.live (live_nameless m s),
  );
}

-- ---- each event
plain : (m k : Store) → k.now.kept ≡ m.now.kept → k.listed ≡ m.listed → k.tree ≡ m.tree → k.closed ≡ m.closed → option_map orphans_of k.next ≡ option_map orphans_of m.next → HasListedOrphans m → HasListedOrphans k
plain m k kept listed tree closed next h = same_lists m k (record { kept = kept; listed = listed; next = next; still = λ n g. rw (tree, closed) g }) h

free_orphans : (m : Store) (moving : Option Moving) → HasListedOrphans m → HasListedOrphans (free_victim m moving)
free_orphans m None h = h
free_orphans m (Some moving) h = plain m (free_victim m (Some moving)) refl refl refl refl refl h

write_orphans : (m : Store) (next : Option Next) → m.next ≡ next → HasListedOrphans m → HasListedOrphans (write_index m next)
write_orphans m None e h = h
write_orphans m (Some next) e h = plain m (write_index m (Some next)) refl refl refl refl (ap (option_map orphans_of) (sym e)) h

offer_next : (next : Option Next) → option_map orphans_of (option_map offered next) ≡ option_map orphans_of next
offer_next None = refl
offer_next (Some next) = refl

end_orphans : (m : Store) (next : Option Next) → m.next ≡ next → HasListedOrphans m → HasListedOrphans (end_commit m next)
end_orphans m None e h = h
end_orphans m (Some next) e h = let later = subst (λ (o : Option Next). KeepOrphans m o) e h.later in record { now = later.1; later = later.2 }

pub each_orphans : (m : Store) (event : Event) → IsLegalEvent m event → IsStore m → HasListedOrphans (after event m)
each_orphans m (Put p) can s = put_orphans m p can.parts s.orphans
each_orphans m (Open head lnum) can s = plain m (after (Open head lnum) m) refl refl refl refl (buds_lists _ 0 m.next) s.orphans
each_orphans m Sync can s = plain m (after Sync m) refl refl refl refl refl s.orphans
each_orphans m (Begin victim) can s = plain m (after (Begin victim) m) refl refl refl refl refl s.orphans
each_orphans m (Move c) can s = plain m (after (Move c) m) refl refl refl refl (buds_lists (with_copy c.copy) 0 m.next) s.orphans
each_orphans m Free can s = free_orphans m m.moving s.orphans
each_orphans m (Start taken) can s = start_orphans m taken can.idle s
each_orphans m Write can s = write_orphans m m.next refl s.orphans
each_orphans m Offer can s = plain m (after Offer m) refl refl refl refl (offer_next m.next) s.orphans
each_orphans m End can s = end_orphans m m.next refl s.orphans
each_orphans m (Drop ino index) can s = drop_orphans m ino index s.orphans
