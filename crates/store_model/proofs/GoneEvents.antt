-- What is gone since a commit stays so, after all events but a put.
use Rattle.std.proofs.Common.{◌≡◌, ◌⊎◌, ◌∙◌, ◌+◌, ◌-◌, ℕ, Bool, true, false, cond, not, List, [], ◌∷◌, ◌++◌, length, map, refl, sym, ap, subst, inl, inr, Option, Some, None}
use Rattle.std.specs.Prelude.{◌==◌, ◌&&◌, ◌||◌, filter, get_or, nat_le, take}
use Rattle.std.specs.BTreeMap.{is_at}
use Rattle.std.specs.List.{AllByRecursion, list_all, list_any}
use Rattle.std.specs.Map.{lookup, remove_entry}
use Rattle.std.specs.Option.{option_map, option_map_or}
use Rattle.std.specs.Ordering.{nat_cmp}
use Rattle.std.proofs.lemmas.Bool.{and_from, and_parts, eq-eqb, eqb-true, false≢true}
use Rattle.fs_model.specs.declared.change.Change.{Change}
use Rattle.fs_model.specs.declared.change.Change.TheVariants.{DropInode}
use Rattle.fs_model.specs.declared.inode.Inode.{Inode}
use Rattle.fs_model.specs.Change.{without_inode}
use Rattle.fs_model.specs.Files.{inode_at, Tree}
use Rattle.fs_model.specs.Orphan.{is_nameless}
use Rattle.fs_model.specs.Proper.{IsProper}
use Rattle.fs_laws.specs.Maps.{all_at, key_cases, removed_here}
use Rattle.fs_laws.specs.Orders.{numbers}
use Rattle.leaf_map.specs.After.{is_gone}
use Rattle.leaf_map.specs.Allowed.{sets_inode}
use Rattle.leaf_map.specs.Kept.{Kept, shown_by}
use Rattle.store_model.specs.Events.{begin, Copying, drop_inode, end_commit, free_victim, in_next, is_synced_orphan, move, new_bud, next_list, offer, offered, open_buds, open_leb, start, sync, synced_orphan, view_now, write_index}
use Rattle.store_model.specs.Fits.{Faced, faced_now}
use Rattle.store_model.specs.Gone.{drops_inode, group_does, is_lost, LostItsName, some_does, some_synced_does}
use Rattle.store_model.specs.Heads.{groups_of_head, synced_since, with_copy}
use Rattle.store_model.specs.Invariant.{faced_later, HasGone, HasSince, is_listed, IsStore, OfBoth, OfNext}
use Rattle.store_model.specs.Legal.{CanDrop, CanStart}
use Rattle.store_model.specs.Store.{Bud, Carried, StoreIndex, Moving, Next, Orphan, Store}
use Rattle.store_model.proofs.BackingStarts.{no_groups}
use Rattle.store_model.proofs.BegunEvents.{one_less, two_less}
use Rattle.store_model.proofs.EventNumbers.{groups_copied}
use Rattle.store_model.proofs.GoneGroups.{any_first}
use Rattle.store_model.proofs.GoneLeaves.{all_does, drops_leaf, since_base, since_data, some_more}
use Rattle.store_model.proofs.JournalEvents.{listed_nameless}
use Rattle.store_model.proofs.OfViews.{each_both, each_weaker}
use Rattle.store_model.proofs.Opens.{groups_open}
use Rattle.store_model.proofs.Orphans.{gone_stays, live_nameless, more_orphans}
use Rattle.store_model.proofs.RecoveryCopies.{either_of}
use Rattle.store_model.proofs.RecoveryListed.{has_none}
use Rattle.store_model.proofs.RecoveryOrder.{or_left, or_right}

-- ---- where neither files nor groups change
pub record SameGone (m k : Store) (f g : Faced) : Type 0 where
  pub tree : k.tree ≡ m.tree
  pub held : k.held ≡ m.held
  pub orphans : k.orphans ≡ m.orphans
  pub kept : g.view.kept ≡ f.view.kept
  pub committed : g.view.tree ≡ f.view.tree
  pub base : groups_of_head 1 g.view.buds ≡ groups_of_head 1 f.view.buds
  pub data_nodes : groups_of_head 2 g.view.buds ≡ groups_of_head 2 f.view.buds
  pub base_synced : get_or g.synced 1 0 ≡ get_or f.synced 1 0
  pub data_synced : get_or g.synced 2 0 ≡ get_or f.synced 2 0

does_as : (m k : Store) (f g : Faced) → SameGone m k f g → (t : Change → Bool) → some_does t g.view.buds ≡ some_does t f.view.buds
does_as m k f g s t =
    ap (λ (gs : List (List Carried)). list_any (group_does t) gs || list_any (group_does t) (groups_of_head 2 g.view.buds)) s.base
    ∙ ap (λ (gs : List (List Carried)). list_any (group_does t) (groups_of_head 1 f.view.buds) || list_any (group_does t) gs) s.data_nodes

synced_as : (m k : Store) (f g : Faced) → SameGone m k f g → (t : Change → Bool) → some_synced_does t g.synced g.view.buds ≡ some_synced_does t f.synced f.view.buds
synced_as m k f g s t =
    ap (λ (gs : List (List Carried)). list_any (group_does t) (take (get_or g.synced 1 0) gs) || list_any (group_does t) (take (get_or g.synced 2 0) (groups_of_head 2 g.view.buds))) s.base
    ∙ ap (λ (gs : List (List Carried)). list_any (group_does t) (take (get_or g.synced 1 0) (groups_of_head 1 f.view.buds)) || list_any (group_does t) (take (get_or g.synced 2 0) gs)) s.data_nodes
    ∙ ap (λ (n : ℕ). list_any (group_does t) (take n (groups_of_head 1 f.view.buds)) || list_any (group_does t) (take (get_or g.synced 2 0) (groups_of_head 2 f.view.buds))) s.base_synced
    ∙ ap (λ (n : ℕ). list_any (group_does t) (take (get_or f.synced 1 0) (groups_of_head 1 f.view.buds)) || list_any (group_does t) (take n (groups_of_head 2 f.view.buds))) s.data_synced

name_as : (m k : Store) (f g : Faced) (o : Orphan) → SameGone m k f g → LostItsName f o → LostItsName g o
name_as m k f g o s (inl (un, does)) = inl (un, does_as m k f g s (drops_inode o.ino) ∙ does)
name_as m k f g o s (inr (is, inl does)) = inr (is, inl (synced_as m k f g s (drops_inode o.ino) ∙ does))
name_as m k f g o s (inr (is, inr lost)) = inr (is, inr (ap (λ (t : Tree). is_nameless t o.ino) s.committed ∙ lost))

pub same_gone : (m k : Store) (f g : Faced) → SameGone m k f g → HasGone m f → HasGone k g
same_gone m k f g s h = record {
  lost = rw (s.kept, s.tree) h.lost;
  unset = subst (λ (kept : List Kept). list_all (λ x. is_listed (unset_by g) (shown_by x)) kept ≡ true) (sym s.kept) (more_orphans (unset_by f) (unset_by g) (λ n e. ap not (does_as m k f g s (sets_inode n)) ∙ e) f.view.kept h.unset);
  held = subst (AllByRecursion (λ x. some_does (λ change. is_gone change x) g.view.buds ≡ true)) (sym s.held) (each_weaker _ _ (λ x e. does_as m k f g s (λ change. is_gone change x) ∙ e) m.held h.held);
  orphans = subst (AllByRecursion (LostItsName g)) (sym s.orphans) (each_weaker (LostItsName f) (LostItsName g) (λ o e. name_as m k f g o s e) m.orphans h.orphans);
}
  where
    unset_by : Faced → ℕ → Bool
    unset_by f ino = not (some_does (sets_inode ino) f.view.buds)

next_gone : (m k : Store) (next : Option Next) → ((next : Next) → SameGone m k (faced_later m next) (faced_later k next)) → OfNext m next (HasGone m) → OfNext k next (HasGone k)
next_gone m k None same h = tt
next_gone m k (Some next) same h = same_gone m k (faced_later m next) (faced_later k next) (same next) h

plain_gone : (m k : Store) → k.tree ≡ m.tree → k.held ≡ m.held → k.orphans ≡ m.orphans → k.now ≡ m.now → k.synced ≡ m.synced → HasGone m (faced_now m) → HasGone k (faced_now k)
plain_gone m k tree held orphans now synced h = same_gone m k (faced_now m) (faced_now k) (record {
  tree = tree;
  held = held;
  orphans = orphans;
  kept = ap (λ v. v.kept) now;
  committed = ap (λ v. v.tree) now;
  base = ap (λ v. groups_of_head 1 v.buds) now;
  data_nodes = ap (λ v. groups_of_head 2 v.buds) now;
  base_synced = ap (λ (s : List ℕ). get_or s 1 0) synced;
  data_synced = ap (λ (s : List ℕ). get_or s 2 0) synced;
}) h

pub begin_gone : (m : Store) (victim : ℕ) → OfBoth m (HasGone m) → OfBoth (begin victim m) (HasGone (begin victim m))
begin_gone m victim h = (plain_gone m (begin victim m) refl refl refl refl refl h.0, next_gone m (begin victim m) m.next (λ next. record { tree = refl; held = refl; orphans = refl; kept = refl; committed = refl; base = refl; data_nodes = refl; base_synced = refl; data_synced = refl }) h.1)

pub free_gone : (m : Store) (moving : Option Moving) → OfBoth m (HasGone m) → OfBoth (free_victim m moving) (HasGone (free_victim m moving))
free_gone m None h = h
free_gone m (Some moving) h =
    let k : Store = free_victim m (Some moving) in
    (plain_gone m k refl refl refl refl refl h.0, next_gone m k m.next (λ next. record { tree = refl; held = refl; orphans = refl; kept = refl; committed = refl; base = refl; data_nodes = refl; base_synced = refl; data_synced = refl }) h.1)

pub write_gone : (m : Store) (next : Option Next) → m.next ≡ next → OfBoth m (HasGone m) → OfBoth (write_index m next) (HasGone (write_index m next))
write_gone m None e h = h
write_gone m (Some next) e h =
    let k : Store = write_index m (Some next) in (
      plain_gone m k refl refl refl refl refl h.0,
      same_gone m k (faced_later m next) (faced_later k (record next { written = next.written + 1 })) (record { tree = refl; held = refl; orphans = refl; kept = refl; committed = refl; base = refl; data_nodes = refl; base_synced = refl; data_synced = refl }) (subst (λ (o : Option Next). OfNext m o (HasGone m)) e h.1),
    )

pub offer_gone : (m : Store) → OfBoth m (HasGone m) → OfBoth (offer m) (HasGone (offer m))
offer_gone m h = (plain_gone m (offer m) refl refl refl refl refl h.0, by m.next h.1)
  where
    by : (next : Option Next) → OfNext m next (HasGone m) → OfNext (offer m) (option_map offered next) (HasGone (offer m))
    by None g = tt
    by (Some next) g = same_gone m (offer m) (faced_later m next) (faced_later (offer m) (offered next)) (record { tree = refl; held = refl; orphans = refl; kept = refl; committed = refl; base = refl; data_nodes = refl; base_synced = refl; data_synced = refl }) g

-- of a running commit's view as much is synced, where both views got as many groups
later_base : (m k : Store) (next after : Next) → k.synced ≡ m.synced → groups_of_head 1 k.now.buds ≡ groups_of_head 1 m.now.buds → groups_of_head 1 after.view.buds ≡ groups_of_head 1 next.view.buds → get_or (synced_since k after) 1 0 ≡ get_or (synced_since m next) 1 0
later_base m k next after synced all last =
    one_less k.synced _ _ _ ∙ ap (λ (s : List ℕ). get_or s 1 0 - (length (groups_of_head 1 k.now.buds) - length (groups_of_head 1 after.view.buds))) synced
    ∙ ap (λ (gs : List (List Carried)). get_or m.synced 1 0 - (length gs - length (groups_of_head 1 after.view.buds))) all
    ∙ ap (λ (gs : List (List Carried)). get_or m.synced 1 0 - (length (groups_of_head 1 m.now.buds) - length gs)) last ∙ sym (one_less m.synced _ _ _)

later_data : (m k : Store) (next after : Next) → k.synced ≡ m.synced → groups_of_head 2 k.now.buds ≡ groups_of_head 2 m.now.buds → groups_of_head 2 after.view.buds ≡ groups_of_head 2 next.view.buds → get_or (synced_since k after) 2 0 ≡ get_or (synced_since m next) 2 0
later_data m k next after synced all last =
    two_less k.synced _ _ _ ∙ ap (λ (s : List ℕ). get_or s 2 0 - (length (groups_of_head 2 k.now.buds) - length (groups_of_head 2 after.view.buds))) synced
    ∙ ap (λ (gs : List (List Carried)). get_or m.synced 2 0 - (length gs - length (groups_of_head 2 after.view.buds))) all
    ∙ ap (λ (gs : List (List Carried)). get_or m.synced 2 0 - (length (groups_of_head 2 m.now.buds) - length gs)) last ∙ sym (two_less m.synced _ _ _)

pub open_gone : (m : Store) (head lnum : ℕ) → OfBoth m (HasGone m) → OfBoth (open_leb head lnum m) (HasGone (open_leb head lnum m))
open_gone m head lnum h = (same_gone m k (faced_now m) (faced_now k) (record { tree = refl; held = refl; orphans = refl; kept = refl; committed = refl; base = groups_open 1 head lnum m.now.buds; data_nodes = groups_open 2 head lnum m.now.buds; base_synced = refl; data_synced = refl }) h.0, by m.next h.1)
  where
    k : Store
    k = open_leb head lnum m

    by : (next : Option Next) → OfNext m next (HasGone m) → OfNext k (option_map (in_next (λ buds. buds ++ new_bud head lnum 0 ∷ []) 0) next) (HasGone k)
    by None g = tt
    by (Some next) g =
        let after : Next = in_next (λ buds. buds ++ new_bud head lnum 0 ∷ []) 0 next in
        same_gone m k (faced_later m next) (faced_later k after) (record {
          tree = refl;
          held = refl;
          orphans = refl;
          kept = refl;
          committed = refl;
          base = groups_open 1 head lnum next.view.buds;
          data_nodes = groups_open 2 head lnum next.view.buds;
          base_synced = later_base m k next after refl (groups_open 1 head lnum m.now.buds) (groups_open 1 head lnum next.view.buds);
          data_synced = later_data m k next after refl (groups_open 2 head lnum m.now.buds) (groups_open 2 head lnum next.view.buds);
        }) g

pub move_gone : (m : Store) (c : Copying) → OfBoth m (HasGone m) → OfBoth (move c m) (HasGone (move c m))
move_gone m c h = (same_gone m k (faced_now m) (faced_now k) (record { tree = refl; held = refl; orphans = refl; kept = refl; committed = refl; base = groups_copied 1 c.copy m.now.buds; data_nodes = groups_copied 2 c.copy m.now.buds; base_synced = refl; data_synced = refl }) h.0, by m.next h.1)
  where
    k : Store
    k = move c m

    by : (next : Option Next) → OfNext m next (HasGone m) → OfNext k (option_map (in_next (with_copy c.copy) 0) next) (HasGone k)
    by None g = tt
    by (Some next) g =
        let after : Next = in_next (with_copy c.copy) 0 next in
        same_gone m k (faced_later m next) (faced_later k after) (record {
          tree = refl;
          held = refl;
          orphans = refl;
          kept = refl;
          committed = refl;
          base = groups_copied 1 c.copy next.view.buds;
          data_nodes = groups_copied 2 c.copy next.view.buds;
          base_synced = later_base m k next after refl (groups_copied 1 c.copy m.now.buds) (groups_copied 1 c.copy next.view.buds);
          data_synced = later_data m k next after refl (groups_copied 2 c.copy m.now.buds) (groups_copied 2 c.copy next.view.buds);
        }) g

-- ---- a sync
each_map : (P Q : Orphan → Type 0) (f : Orphan → Orphan) → ((o : Orphan) → P o → Q (f o)) → (os : List Orphan) → AllByRecursion P os → AllByRecursion Q (map f os)
each_map P Q f more [] h = tt
each_map P Q f more (o ∷ os) h = (more o h.0, each_map P Q f more os h.1)

first_does : (t : Change → Bool) (synced : List ℕ) (buds : List Bud) → some_synced_does t synced buds ≡ true → some_does t buds ≡ true
first_does t synced buds h = by (either_of (list_any (group_does t) (take (get_or synced 1 0) (groups_of_head 1 buds))) (list_any (group_does t) (take (get_or synced 2 0) (groups_of_head 2 buds))) h)
  where
    by : (list_any (group_does t) (take (get_or synced 1 0) (groups_of_head 1 buds)) ≡ true) ⊎ (list_any (group_does t) (take (get_or synced 2 0) (groups_of_head 2 buds)) ≡ true) → some_does t buds ≡ true
    by (inl e) = or_left (list_any (group_does t) (groups_of_head 1 buds)) (list_any (group_does t) (groups_of_head 2 buds)) (any_first (group_does t) (get_or synced 1 0) (groups_of_head 1 buds) e)
    by (inr e) = or_right (list_any (group_does t) (groups_of_head 1 buds)) (list_any (group_does t) (groups_of_head 2 buds)) (any_first (group_does t) (get_or synced 2 0) (groups_of_head 2 buds) e)

sync_name : (f g : Faced) (o : Orphan) → g.view ≡ f.view → get_or g.synced 1 0 ≡ length (groups_of_head 1 g.view.buds) → get_or g.synced 2 0 ≡ length (groups_of_head 2 g.view.buds) → LostItsName f o → LostItsName g (synced_orphan o)
sync_name f g o same one two (inl (un, does)) = inr (refl, inl (all_does (drops_inode o.ino) g.view.buds g.synced one two (ap (λ v. some_does (drops_inode o.ino) v.buds) same ∙ does)))
sync_name f g o same one two (inr (is, inl does)) = inr (refl, inl (all_does (drops_inode o.ino) g.view.buds g.synced one two (ap (λ v. some_does (drops_inode o.ino) v.buds) same ∙ first_does (drops_inode o.ino) f.synced f.view.buds does)))
sync_name f g o same one two (inr (is, inr lost)) = inr (refl, inr (ap (λ v. is_nameless v.tree o.ino) same ∙ lost))

pub sync_gone : (m : Store) → HasSince m m.next → OfBoth m (HasGone m) → OfBoth (sync m) (HasGone (sync m))
sync_gone m since h = (record { lost = h.0.lost; unset = h.0.unset; held = tt; orphans = each_map (LostItsName (faced_now m)) (LostItsName (faced_now k)) synced_orphan (λ o e. sync_name (faced_now m) (faced_now k) o refl refl refl e) m.orphans h.0.orphans }, by m.next since h.1)
  where
    k : Store
    k = sync m

    by : (next : Option Next) → HasSince m next → OfNext m next (HasGone m) → OfNext k next (HasGone k)
    by None s g = tt
    by (Some next) s g = record {
      lost = g.lost;
      unset = g.unset;
      held = tt;
      orphans = each_map (LostItsName (faced_later m next)) (LostItsName (faced_later k next)) synced_orphan (λ o e. sync_name (faced_later m next) (faced_later k next) o refl (since_base m next s) (since_data m next s) e) m.orphans g.orphans;
    }

-- ---- an orphan is dropped
lost_drop : (tree : Tree) (ino n : ℕ) → IsProper tree → is_lost tree n ≡ true → is_lost (without_inode tree ino) n ≡ true
lost_drop tree ino n proper h = let p = and_parts (nat_le n tree.highest) (option_map_or (λ (inode : Inode). inode.nlink == 0) (inode_at tree n) true) h in and_from (nat_le n tree.highest) _ p.0 (elim (key_cases nat_cmp numbers n ino) [
  | inl same ↦ ap (λ (o : Option Inode). option_map_or (λ (inode : Inode). inode.nlink == 0) o true) (subst (λ (i : ℕ). lookup (is_at (nat_cmp i)) (remove_entry (is_at (nat_cmp ino)) tree.inodes) ≡ None) (sym same) (removed_here nat_cmp numbers tree.inodes ino proper.inodes_ascend))
  | inr other ↦ ap (λ (o : Option Inode). option_map_or (λ (inode : Inode). inode.nlink == 0) o true) (gone_stays tree ino n other) ∙ p.1
])

-- an orphan that isn't synced lost its name in a group since
unsynced_there : (f : Faced) (ino : ℕ) (os : List Orphan) → AllByRecursion (LostItsName f) os → list_any (λ o. o.ino == ino) os ≡ true → is_synced_orphan os ino ≡ false → some_does (drops_inode ino) f.view.buds ≡ true
unsynced_there f ino [] h on un = absurd (false≢true on)
unsynced_there f ino (o ∷ os) h on un = by (λ g e. unsynced_there f ino os h.1 g e) (o.ino == ino) refl o.synced refl on un
  where
    here : o.ino ≡ ino → o.synced ≡ false → LostItsName f o → some_does (drops_inode ino) f.view.buds ≡ true
    here same z (inl (un, does)) = subst (λ (n : ℕ). some_does (drops_inode n) f.view.buds ≡ true) same does
    here same z (inr (is, more)) = absurd (false≢true (sym z ∙ is))

    Dropped : Type 0
    Dropped = some_does (drops_inode ino) f.view.buds ≡ true

    by : (list_any (λ o. o.ino == ino) os ≡ true → is_synced_orphan os ino ≡ false → Dropped) → (b : Bool) → (o.ino == ino) ≡ b → (c : Bool) → o.synced ≡ c → (b || list_any (λ o. o.ino == ino) os) ≡ true → ((b && c) || is_synced_orphan os ino) ≡ false → Dropped
    by rest true e false z on un = here (eqb-true o.ino ino e) z h.0
    by rest true e true z on un = absurd (false≢true (sym un))
    by rest false e c z on un = rest on un

each_other : (P : Orphan → Type 0) (t : Orphan → Bool) (os : List Orphan) → AllByRecursion P os → AllByRecursion P (filter t os)
each_other P t [] h = tt
each_other P t (o ∷ os) h = by (t o) (each_other P t os h.1)
  where
    by : (b : Bool) → AllByRecursion P (filter t os) → AllByRecursion P (cond b (o ∷ filter t os) (filter t os))
    by true rest = (h.0, rest)
    by false rest = rest

drop_face : (m : Store) (ino : ℕ) (index : StoreIndex) (f : Faced) → CanDrop m ino index → IsProper m.tree → HasGone m f → HasGone (drop_inode ino index m) f
drop_face m ino index f can proper h = record {
  lost = more_orphans (is_lost m.tree) (is_lost (without_inode m.tree ino)) (λ n e. lost_drop m.tree ino n proper e) f.view.kept h.lost;
  unset = h.unset;
  held = by (is_synced_orphan m.orphans ino) refl;
  orphans = each_other (LostItsName f) (λ orphan. not (orphan.ino == ino)) m.orphans h.orphans;
}
  where
    P : Kept → Type 0
    P x = some_does (λ change. is_gone change x) f.view.buds ≡ true

    all_gone : some_does (drops_inode ino) f.view.buds ≡ true → (xs : List Kept) → AllByRecursion P (filter (is_gone (DropInode ino)) xs)
    all_gone does [] = tt
    all_gone does (x ∷ xs) = go (is_gone (DropInode ino) x) refl (all_gone does xs)
      where
        go : (b : Bool) → is_gone (DropInode ino) x ≡ b → AllByRecursion P (filter (is_gone (DropInode ino)) xs) → AllByRecursion P (cond b (x ∷ filter (is_gone (DropInode ino)) xs) (filter (is_gone (DropInode ino)) xs))
        go true e rest = (some_more (drops_inode ino) (λ change. is_gone change x) (λ c d. drops_leaf ino x c e d) f.view.buds does, rest)
        go false e rest = rest

    by : (b : Bool) → is_synced_orphan m.orphans ino ≡ b → AllByRecursion P (cond b m.held (m.held ++ filter (is_gone (DropInode ino)) m.live))
    by true e = h.held
    by false e = each_both P m.held (filter (is_gone (DropInode ino)) m.live) h.held (all_gone (unsynced_there f ino m.orphans h.orphans can.orphan e) m.live)

pub drop_gone : (m : Store) (ino : ℕ) (index : StoreIndex) → CanDrop m ino index → IsProper m.tree → OfBoth m (HasGone m) → OfBoth (drop_inode ino index m) (HasGone (drop_inode ino index m))
drop_gone m ino index can proper h = (drop_face m ino index (faced_now m) can proper h.0, by m.next h.1)
  where
    k : Store
    k = drop_inode ino index m

    by : (next : Option Next) → OfNext m next (HasGone m) → OfNext k next (HasGone k)
    by None g = tt
    by (Some next) g = drop_face m ino index (faced_later m next) can proper g

-- ---- a commit starts: what has no name has none in its view, and no group came yet
pub nameless_low : (tree : Tree) (n : ℕ) → IsProper tree → is_nameless tree n ≡ true → is_lost tree n ≡ true
nameless_low tree n proper h = by (inode_at tree n) refl
  where
    low : list_all (λ e. nat_le e.0 tree.highest) tree.inodes ≡ true
    low =
        let p = and_parts (list_all (λ e. nat_le e.0 tree.highest) tree.inodes && list_all (λ e. nat_le e.0.0 tree.highest) tree.blocks) (list_all (λ e. nat_le e.0.0 tree.highest && nat_le e.1.ino tree.highest) tree.entries) proper.numbers in
        (and_parts (list_all (λ e. nat_le e.0 tree.highest) tree.inodes) (list_all (λ e. nat_le e.0.0 tree.highest) tree.blocks) p.0).0

    by : (o : Option Inode) → inode_at tree n ≡ o → is_lost tree n ≡ true
    by None e = absurd (false≢true (sym (ap has_none e) ∙ h))
    by (Some inode) e = and_from (nat_le n tree.highest) _ (all_at nat_cmp numbers (λ (e : ℕ × Inode). nat_le e.0 tree.highest) tree.inodes n inode low e) (ap (λ (o : Option Inode). option_map_or (λ (i : Inode). i.nlink == 0) o true) e ∙ sym (ap has_none e) ∙ h)

ino_there : (os : List Orphan) → AllByRecursion (λ o. list_any (λ k. k == o.ino) (map (λ orphan. orphan.ino) os) ≡ true) os
ino_there [] = tt
ino_there (o ∷ os) = (or_left (o.ino == o.ino) (list_any (λ k. k == o.ino) (map (λ orphan. orphan.ino) os)) (eq-eqb o.ino o.ino refl), further os (ino_there os))
  where
    further : (ps : List Orphan) → AllByRecursion (λ p. list_any (λ k. k == p.ino) (map (λ orphan. orphan.ino) os) ≡ true) ps → AllByRecursion (λ p. list_any (λ k. k == p.ino) (map (λ orphan. orphan.ino) (o ∷ os)) ≡ true) ps
    further [] h = tt
    further (p ∷ ps) h = (or_right (o.ino == p.ino) (list_any (λ k. k == p.ino) (map (λ orphan. orphan.ino) os)) h.0, further ps h.1)

start_names : (m : Store) (g : Faced) → g.view.tree ≡ m.tree → (os : List Orphan) → list_all (λ o. o.synced) os ≡ true → AllByRecursion (λ o. is_nameless m.tree o.ino ≡ true) os → AllByRecursion (LostItsName g) os
start_names m g same [] synced h = tt
start_names m g same (o ∷ os) synced h = let p = and_parts o.synced (list_all (λ o. o.synced) os) synced in (inr (p.0, inr (ap (λ (t : Tree). is_nameless t o.ino) same ∙ h.0)), start_names m g same os p.1 h.1)

pub start_gone : (m : Store) (taken : List ℕ) → CanStart m taken → IsStore m → OfBoth (start taken m) (HasGone (start taken m))
start_gone m taken can s = (
  plain_gone m k refl refl refl refl refl s.gone.0,
  record {
    lost = more_orphans (is_nameless m.tree) (is_lost m.tree) (λ n e. nameless_low m.tree n s.proper_now e) m.live (live_nameless m s);
    unset = more_orphans (is_nameless m.tree) (λ ino. not (some_does (sets_inode ino) (open_buds 0 m.ends))) (λ n e. ap not (none n)) m.live (live_nameless m s);
    held = subst (AllByRecursion (λ (x : Kept). some_does (λ change. is_gone change x) (open_buds 0 m.ends) ≡ true)) (sym can.synced.none_held) tt;
    orphans = start_names m (faced_later k began) refl m.orphans can.synced.orphans (each_weaker _ _ (λ o e. listed_nameless m.tree.inodes o.ino s.proper_now.inodes_ascend (subst (λ (ns : List ℕ). list_any (λ k. k == o.ino) ns ≡ true) s.nameless_are e)) m.orphans (ino_there m.orphans));
  },
)
  where
    k : Store
    k = start taken m

    began : Next
    began = record { view = view_now m taken; taken = taken; written = 0; listed = next_list m; offered = false }

    none : (n : ℕ) → some_does (sets_inode n) (open_buds 0 m.ends) ≡ false
    none n = ap (λ (gs : List (List Carried)). list_any (group_does (sets_inode n)) gs || list_any (group_does (sets_inode n)) (groups_of_head 2 (open_buds 0 m.ends))) (no_groups 1 0 m.ends) ∙ ap (list_any (group_does (sets_inode n))) (no_groups 2 0 m.ends)

-- ---- it ends
pub end_gone : (m : Store) (next : Option Next) → m.next ≡ next → OfBoth m (HasGone m) → OfBoth (end_commit m next) (HasGone (end_commit m next))
end_gone m None e h = h
end_gone m (Some next) e h =
    let g = subst (λ (o : Option Next). OfNext m o (HasGone m)) e h.1 in
    (record { lost = g.lost; unset = g.unset; held = g.held; orphans = g.orphans }, tt)
