-- A sync, an opened LEB, a dropped inode and a commit's start, as a backing's calls.
use Rattle.std.proofs.Common.{◌≡◌, ◌≤◌, ℕ, zero, suc, ◌+◌, arith, Bool, true, false, not, List, [], ◌∷◌, ◌++◌, length, map, refl, sym, ap, subst, length-append, Option, Some, None}
use Rattle.std.specs.Prelude.{get_or, nat_le, nat_lt, if◌then◌else◌}
use Rattle.std.proofs.lemmas.Bool.{and_parts, leb-true}
use Rattle.fs_model.specs.Backing.{IsDropped, IsSynced, KeepsCommit, KeepsFiles}
use Rattle.fs_model.specs.Journal.{AreSynced, Leaves}
use Rattle.fs_model.specs.Orphan.{without_nameless}
use Rattle.store_model.specs.Backing.{Outside, backing_of, begun_groups, store_journal_of}
use Rattle.store_model.specs.Events.{drop_inode, last_list, new_bud, open_leb, sync}
use Rattle.store_model.specs.Heads.{head_counts, groups_of_head, heads_of, numbered_group}
use Rattle.store_model.specs.Invariant.{HasNumbers, are_within}
use Rattle.store_model.specs.Lebs.{is_among}
use Rattle.store_model.specs.Store.{Bud, StoreIndex, Next, Store}
use Rattle.store_model.proofs.Further.{AreFurther, further_left}
use Rattle.store_model.proofs.Opens.{groups_open}

pub length_map : {X Y : Type 0} (f : X → Y) (xs : List X) → length (map f xs) ≡ length xs
length_map f [] = refl
length_map f (x ∷ xs) = ap suc (length_map f xs)

not_below : (n k : ℕ) → k ≡ n → not (nat_lt n k) ≡ true
not_below n k h = grind (arith)

-- ---- a sync
-- all groups are synced, as many as there are
pub heads_synced : (buds : List Bud) → AreSynced (heads_of buds (head_counts buds))
heads_synced buds =
    let one = not_below (length (groups_of_head 1 buds)) (length (map numbered_group (groups_of_head 1 buds))) (length_map numbered_group (groups_of_head 1 buds)) in
    let two = not_below (length (groups_of_head 2 buds)) (length (map numbered_group (groups_of_head 2 buds))) (length_map numbered_group (groups_of_head 2 buds)) in
    rw (one, two) refl

pub sync_synced : (m : Store) (outside : Outside) → IsSynced (backing_of (sync m) outside)
sync_synced m outside = record { held = refl; heads = heads_synced m.now.buds }

pub sync_files : (m : Store) (outside : Outside) → KeepsFiles (backing_of m outside) (backing_of (sync m) outside)
sync_files m outside = record { tree = refl; credits = refl; grant = refl; held = omega arith; closed = omega arith }

begun_same : (m : Store) (next : Option Next) → begun_groups (sync m) next ≡ begun_groups m next
begun_same m None = refl
begun_same m (Some next) = refl

pub sync_commit : (m : Store) → KeepsCommit (store_journal_of m) (store_journal_of (sync m))
sync_commit m = record { running = refl; left = refl; nodes = refl; later = refl; start = (refl, refl, begun_same m m.next) }

within_at : (a b : List ℕ) (n : ℕ) → are_within a b ≡ true → get_or a n 0 ≤ get_or b n 0
within_at [] b n h = omega arith
within_at (x ∷ a) [] n h = absurd cc
within_at (x ∷ a) (y ∷ b) zero h = leb-true x y (and_parts (nat_le x y) (are_within a b) h).0
within_at (x ∷ a) (y ∷ b) (suc n) h = within_at a b n (and_parts (nat_le x y) (are_within a b) h).1

pub synced_further : (buds : List Bud) (synced : List ℕ) → are_within synced (head_counts buds) ≡ true → AreFurther (heads_of buds synced) (heads_of buds (head_counts buds))
synced_further buds synced h = ((refl, omega arith, ((refl, within_at synced (head_counts buds) 1 h, (refl, within_at synced (head_counts buds) 2 h, tt)))))

pub sync_leaves : (m : Store) → HasNumbers m → Leaves (store_journal_of m) (store_journal_of (sync m)) []
sync_leaves m n more tree left =
    further_left (without_nameless m.now.tree) m.sqnum m.sqnum (heads_of m.now.buds m.synced) (heads_of m.now.buds (head_counts m.now.buds)) more tree (omega arith) (synced_further m.now.buds m.synced n.synced) left

-- ---- a LEB that is opened
pub open_files : (m : Store) (head lnum : ℕ) (outside : Outside) → KeepsFiles (backing_of m outside) (backing_of (open_leb head lnum m) outside)
open_files m head lnum outside = record { tree = refl; credits = refl; grant = refl; held = omega arith; closed = omega arith }

pub heads_open : (head lnum : ℕ) (buds : List Bud) (synced : List ℕ) → heads_of (buds ++ new_bud head lnum 0 ∷ []) synced ≡ heads_of buds synced
heads_open head lnum buds synced = rw (groups_open 1 head lnum buds, groups_open 2 head lnum buds) refl

pub same_further : (buds : List Bud) (synced : List ℕ) → AreFurther (heads_of buds synced) (heads_of buds synced)
same_further buds synced = (refl, omega arith, (refl, omega arith, (refl, omega arith, tt)))

pub open_leaves : (m : Store) (head lnum : ℕ) → Leaves (store_journal_of m) (store_journal_of (open_leb head lnum m)) []
open_leaves m head lnum more tree left =
    further_left (without_nameless m.now.tree) m.sqnum (m.sqnum + 1) (heads_of m.now.buds m.synced) (heads_of (m.now.buds ++ new_bud head lnum 0 ∷ []) m.synced) more tree (omega arith)
    (subst (λ heads. AreFurther (heads_of m.now.buds m.synced) heads) (sym (heads_open head lnum m.now.buds m.synced)) (same_further m.now.buds m.synced)) left

-- ---- an inode that is dropped
pub drop_is : (m : Store) (ino : ℕ) (index : StoreIndex) (outside : Outside) → IsDropped (backing_of m outside) (backing_of (drop_inode ino index m) outside) ino
drop_is m ino index outside = record { tree = refl; credits = refl; grant = refl; closed = by (is_among (last_list m) ino) }
  where
    by : (b : Bool) → length (if b then m.closed ++ ino ∷ [] else m.closed) ≤ length m.closed + 1
    by true = let more = length-append m.closed (ino ∷ []) in omega (arith, more)
    by false = omega arith
