-- A committed leaf that is held needn't stand once all is synced, nor one of an orphan that is dropped, if that is synced.
use Rattle.std.proofs.Common.{◌≡◌, ◌⊎◌, ◌≤◌, ◌∙◌, ◌-◌, ℕ, arith, Bool, true, false, cond, not, List, [], ◌∷◌, ◌++◌, length, length-append, refl, sym, ap, subst, inl, inr, Option, Some, None}
use Rattle.std.specs.Prelude.{◌==◌, ◌&&◌, ◌||◌, filter, get_or, take}
use Rattle.std.specs.BTreeMap.{is_at}
use Rattle.std.specs.List.{AllByRecursion, list_all, list_any}
use Rattle.std.specs.Map.{lookup}
use Rattle.std.specs.Ordering.{nat_cmp}
use Rattle.std.proofs.lemmas.Bool.{and_parts, eqb-true, false≢true}
use Rattle.std.proofs.lemmas.List.{take_all}
use Rattle.fs_model.specs.declared.change.Change.{Change}
use Rattle.fs_model.specs.declared.change.Change.TheVariants.{CutBlocks, DropEntry, DropInode, SetBlock, SetEntry, SetInode}
use Rattle.fs_model.specs.Files.{Inodes, Tree}
use Rattle.fs_model.specs.Orphan.{is_nameless}
use Rattle.fs_model.specs.Recovery.{as_replayed}
use Rattle.leaf_map.specs.After.{goes, is_gone}
use Rattle.leaf_map.specs.Allowed.{sets_inode}
use Rattle.leaf_map.specs.Kept.{Kept, shown_by}
use Rattle.leaf_map.specs.Shown.{inodes_of, with_shown_inode}
use Rattle.store_model.specs.Events.{drop_inode, is_synced_orphan, sync}
use Rattle.store_model.specs.Fits.{AreOfListed, Faced, faced_now, is_of_listed, IsLeafLeft, IsOfNameless, StaysNameless}
use Rattle.store_model.specs.Gone.{drops_inode, group_does, LostItsName, some_does, some_synced_does}
use Rattle.store_model.specs.Heads.{changes_of, copies_of, head_counts, groups_of_head, synced_since}
use Rattle.store_model.specs.Invariant.{AreAccountedFor, AreViewOrphans, faced_later, HasCommittedView, HasGone, HasSince, HaveOrphans, is_listed, IsAccountedFor, IsMoved, IsSince, IsStore, KeepOrphans, OfBoth, OfNext}
use Rattle.store_model.specs.Lebs.{is_among}
use Rattle.store_model.specs.Legal.{IsLeafOf}
use Rattle.store_model.specs.Store.{Bud, Carried, StoreIndex, Moving, Next, Orphan, Store}
use Rattle.store_model.proofs.BegunEvents.{one_less, two_less}
use Rattle.store_model.proofs.CopiedLeaves.{each_of}
use Rattle.store_model.proofs.GoneGroups.{none_sets, synced_does}
use Rattle.store_model.proofs.OfViews.{each_weaker}
use Rattle.store_model.proofs.Orphans.{have_orphans_now}
use Rattle.store_model.proofs.RecoveryCopies.{either_of}
use Rattle.store_model.proofs.RecoveryListed.{at_number, has_none}
use Rattle.store_model.proofs.RecoveryOrder.{or_left, or_right}
use Rattle.store_model.proofs.WholeSteps.{sync_left, sync_left_later}

-- ---- a sync
-- all groups are synced then
pub all_does : (t : Change → Bool) (buds : List Bud) (synced : List ℕ) → get_or synced 1 0 ≡ length (groups_of_head 1 buds) → get_or synced 2 0 ≡ length (groups_of_head 2 buds) → some_does t buds ≡ true → some_synced_does t synced buds ≡ true
all_does t buds synced one two h =
    ap (λ (n : ℕ). list_any (group_does t) (take n (groups_of_head 1 buds)) || list_any (group_does t) (take (get_or synced 2 0) (groups_of_head 2 buds))) one
    ∙ ap (λ (n : ℕ). list_any (group_does t) (take (length (groups_of_head 1 buds)) (groups_of_head 1 buds)) || list_any (group_does t) (take n (groups_of_head 2 buds))) two
    ∙ ap (λ (gs : List (List Carried)). list_any (group_does t) gs || list_any (group_does t) (take (length (groups_of_head 2 buds)) (groups_of_head 2 buds))) (take_all (length (groups_of_head 1 buds)) (groups_of_head 1 buds) (omega arith))
    ∙ ap (λ (gs : List (List Carried)). list_any (group_does t) (groups_of_head 1 buds) || list_any (group_does t) gs) (take_all (length (groups_of_head 2 buds)) (groups_of_head 2 buds) (omega arith)) ∙ h

-- what is held is touched by the groups that are synced now
held_left : (m : Store) (f g : Faced) (x : Kept) → HasGone m f → g.view.buds ≡ f.view.buds → get_or g.synced 1 0 ≡ length (groups_of_head 1 g.view.buds) → get_or g.synced 2 0 ≡ length (groups_of_head 2 g.view.buds) → IsLeafOf m.held x → IsLeafLeft g x
held_left m f g x gone same one two held =
    let touched = each_of (λ y. some_does (λ change. is_gone change y) f.view.buds ≡ true) m.held x gone.held held in
    inr (inl (synced_does (λ change. is_gone change x) g.view.buds g.synced (all_does (λ change. is_gone change x) g.view.buds g.synced one two (subst (λ (bs : List Bud). some_does (λ change. is_gone change x) bs ≡ true) (sym same) touched))))

pub last_all : (all last : ℕ) → last ≤ all → all - (all - last) ≡ last
last_all all last h = omega (arith, h)

sync_one : (m : Store) (f g : Faced) (x : Kept) → HasGone m f → g.view.buds ≡ f.view.buds → get_or g.synced 1 0 ≡ length (groups_of_head 1 g.view.buds) → get_or g.synced 2 0 ≡ length (groups_of_head 2 g.view.buds) → (IsMoved m.moving f x → IsMoved m.moving g x) → (IsLeafLeft f x → IsLeafLeft g x)
    → IsAccountedFor m f x → IsAccountedFor (sync m) g x
sync_one m f g x gone same one two moved left (inl live) = inl live
sync_one m f g x gone same one two moved left (inr (inl held)) = inr (inr (inr (held_left m f g x gone same one two held)))
sync_one m f g x gone same one two moved left (inr (inr (inl h))) = inr (inr (inl (moved h)))
sync_one m f g x gone same one two moved left (inr (inr (inr h))) = inr (inr (inr (left h)))

no_longer : (xs ys before : List (List Carried)) → xs ≡ before ++ ys → length ys ≤ length xs
no_longer xs ys before e = let n = ap length e ∙ length-append before ys in omega (arith, n)

pub since_base : (m : Store) (next : Next) → IsSince m next.view → get_or (synced_since (sync m) next) 1 0 ≡ length (groups_of_head 1 next.view.buds)
since_base m next since = one_less (head_counts m.now.buds) (length (copies_of m.now.buds) - length (copies_of next.view.buds)) (length (groups_of_head 1 m.now.buds) - length (groups_of_head 1 next.view.buds)) (length (groups_of_head 2 m.now.buds) - length (groups_of_head 2 next.view.buds)) ∙ last_all (length (groups_of_head 1 m.now.buds)) (length (groups_of_head 1 next.view.buds)) (no_longer (groups_of_head 1 m.now.buds) (groups_of_head 1 next.view.buds) since.base.before since.base.is)

pub since_data : (m : Store) (next : Next) → IsSince m next.view → get_or (synced_since (sync m) next) 2 0 ≡ length (groups_of_head 2 next.view.buds)
since_data m next since = two_less (head_counts m.now.buds) (length (copies_of m.now.buds) - length (copies_of next.view.buds)) (length (groups_of_head 1 m.now.buds) - length (groups_of_head 1 next.view.buds)) (length (groups_of_head 2 m.now.buds) - length (groups_of_head 2 next.view.buds)) ∙ last_all (length (groups_of_head 2 m.now.buds)) (length (groups_of_head 2 next.view.buds)) (no_longer (groups_of_head 2 m.now.buds) (groups_of_head 2 next.view.buds) since.data_nodes.before since.data_nodes.is)

pub sync_accounted : (m : Store) → IsStore m → OfBoth (sync m) (AreAccountedFor (sync m))
sync_accounted m s = (
  each_weaker (IsAccountedFor m (faced_now m)) (IsAccountedFor k (faced_now k)) (λ x g. sync_one m (faced_now m) (faced_now k) x s.gone.0 refl refl refl (moved_as x m.moving) (sync_left m s.numbers.synced x) g) m.now.kept s.accounted.0,
  by m.next s.since s.gone.1 s.accounted.1,
)
  where
    k : Store
    k = sync m

    moved_as : (x : Kept) (moving : Option Moving) → IsMoved moving (faced_now m) x → IsMoved moving (faced_now k) x
    moved_as x None h = h
    moved_as x (Some moving) h = h

    later_as : (next : Next) (x : Kept) (moving : Option Moving) → IsMoved moving (faced_later m next) x → IsMoved moving (faced_later k next) x
    later_as next x None h = h
    later_as next x (Some moving) h = h

    by : (next : Option Next) → HasSince m next → OfNext m next (HasGone m) → OfNext m next (AreAccountedFor m) → OfNext k next (AreAccountedFor k)
    by None since gone h = tt
    by (Some next) since gone h = each_weaker (IsAccountedFor m (faced_later m next)) (IsAccountedFor k (faced_later k next)) (λ x g. sync_one m (faced_later m next) (faced_later k next) x gone refl (since_base m next since) (since_data m next since) (later_as next x m.moving) (sync_left_later m next s.numbers.synced x) g) next.view.kept h

-- ---- an orphan is dropped
-- a committed inode without links passes the test that all of them pass
lost_passes : (test : ℕ → Bool) (q : ℕ) (s : Option Change) (rest : Inodes) → has_none (lookup (is_at (nat_cmp q)) (with_shown_inode s rest)) ≡ true → is_listed test s ≡ true → (has_none (lookup (is_at (nat_cmp q)) rest) ≡ true → test q ≡ true) → test q ≡ true
lost_passes test q (Some (SetInode ino inode)) rest h on more = by (is_at (nat_cmp q) ino) refl h (inode.nlink == 0) refl on
  where
    by : (b : Bool) → is_at (nat_cmp q) ino ≡ b → has_none (cond b (Some inode) (lookup (is_at (nat_cmp q)) rest)) ≡ true → (z : Bool) → (inode.nlink == 0) ≡ z → (not z || test ino) ≡ true → test q ≡ true
    by true at h true z on = subst (λ (n : ℕ). test n ≡ true) (sym (at_number q ino at)) on
    by true at h false z on = absurd (false≢true (sym z ∙ h))
    by false at h b z on = more h
lost_passes test q (Some (SetEntry e)) rest h on more = more h
lost_passes test q (Some (DropEntry dir name)) rest h on more = more h
lost_passes test q (Some (SetBlock ino number bytes)) rest h on more = more h
lost_passes test q (Some (CutBlocks ino old new)) rest h on more = more h
lost_passes test q (Some (DropInode ino)) rest h on more = more h
lost_passes test q None rest h on more = more h

pub leaf_passes : (test : ℕ → Bool) (q : ℕ) (kept : List Kept) → has_none (lookup (is_at (nat_cmp q)) (inodes_of kept)) ≡ true → list_all (λ x. is_listed test (shown_by x)) kept ≡ true → test q ≡ true
leaf_passes test q [] h on = absurd (false≢true h)
leaf_passes test q (x ∷ kept) h on =
    let p = and_parts (is_listed test (shown_by x)) (list_all (λ x. is_listed test (shown_by x)) kept) on in
    lost_passes test q (shown_by x) (inodes_of kept) h p.0 (λ g. leaf_passes test q kept g p.1)

-- a committed inode without a name
pub committed_lost : (test : ℕ → Bool) (f : Faced) (q : ℕ) → HasCommittedView f.view → AreViewOrphans test f.view → is_nameless f.view.tree q ≡ true → test q ≡ true
committed_lost test f q has on lost = leaf_passes test q f.view.kept (subst (λ (t : Tree). is_nameless t q ≡ true) (sym has.tree) lost) on

lists_have : (f : Faced) (lists : List (List ℕ)) (ino : ℕ) (x : Kept) → HasCommittedView f.view → HaveOrphans f lists → is_nameless f.view.tree ino ≡ true → ((list : List ℕ) → is_among list ino ≡ true → is_of_listed list (shown_by x) ≡ true) → AreOfListed lists x
lists_have f [] ino x has on lost of = tt
lists_have f (list ∷ lists) ino x has on lost of = (of list (committed_lost (is_among list) f ino has on.0 lost), lists_have f lists ino x has on.1 lost of)

-- a leaf that goes with an inode
gone_with : (ino : ℕ) (f : Faced) (s : Option Change) (list : List ℕ) → goes (DropInode ino) s ≡ true → StaysNameless f ino → (is_among list ino ≡ true → is_of_listed list s ≡ true) × IsOfNameless f s
gone_with ino f (Some (SetInode other inode)) list h stays = let e = eqb-true other ino h in (λ on. subst (λ (n : ℕ). is_among list n ≡ true) (sym e) on, subst (StaysNameless f) (sym e) stays)
gone_with ino f (Some (SetBlock other number bytes)) list h stays = let e = eqb-true other ino h in (λ on. subst (λ (n : ℕ). is_among list n ≡ true) (sym e) on, subst (StaysNameless f) (sym e) stays)
gone_with ino f (Some (SetEntry e)) list h stays = absurd (false≢true h)
gone_with ino f (Some (DropEntry dir name)) list h stays = absurd (false≢true h)
gone_with ino f (Some (CutBlocks a b n)) list h stays = absurd (false≢true h)
gone_with ino f (Some (DropInode a)) list h stays = absurd (false≢true h)
gone_with ino f None list h stays = absurd (false≢true h)

-- a change that takes an inode away takes its leaves
pub drops_leaf : (ino : ℕ) (x : Kept) (change : Change) → is_gone (DropInode ino) x ≡ true → drops_inode ino change ≡ true → is_gone change x ≡ true
drops_leaf ino x (DropInode other) h d = subst (λ (n : ℕ). is_gone (DropInode n) x ≡ true) (sym (eqb-true other ino d)) h
drops_leaf ino x (SetInode a b) h d = absurd (false≢true d)
drops_leaf ino x (SetEntry e) h d = absurd (false≢true d)
drops_leaf ino x (DropEntry a b) h d = absurd (false≢true d)
drops_leaf ino x (SetBlock a b n) h d = absurd (false≢true d)
drops_leaf ino x (CutBlocks a b n) h d = absurd (false≢true d)

any_more : {X : Type 0} (p q : X → Bool) → ((x : X) → p x ≡ true → q x ≡ true) → (xs : List X) → list_any p xs ≡ true → list_any q xs ≡ true
any_more p q more [] h = h
any_more p q more (x ∷ xs) h = by (λ g. any_more p q more xs g) (either_of (p x) (list_any p xs) h)
  where
    by : (list_any p xs ≡ true → list_any q xs ≡ true) → (p x ≡ true) ⊎ (list_any p xs ≡ true) → (q x || list_any q xs) ≡ true
    by rest (inl e) = or_left (q x) (list_any q xs) (more x e)
    by rest (inr e) = or_right (q x) (list_any q xs) (rest e)

group_more : (p q : Change → Bool) → ((c : Change) → p c ≡ true → q c ≡ true) → (group : List Carried) → group_does p group ≡ true → group_does q group ≡ true
group_more p q more group h = any_more (λ (c : Change). p (as_replayed c)) (λ (c : Change). q (as_replayed c)) (λ c e. more (as_replayed c) e) (changes_of group) h

pub either_more : (a b p q : Bool) → (a ≡ true → p ≡ true) → (b ≡ true → q ≡ true) → (a || b) ≡ true → (p || q) ≡ true
either_more a b p q f g h = by (either_of a b h)
  where
    by : (a ≡ true) ⊎ (b ≡ true) → (p || q) ≡ true
    by (inl e) = or_left p q (f e)
    by (inr e) = or_right p q (g e)

pub some_more : (p q : Change → Bool) → ((c : Change) → p c ≡ true → q c ≡ true) → (buds : List Bud) → some_does p buds ≡ true → some_does q buds ≡ true
some_more p q more buds h =
    either_more (list_any (group_does p) (groups_of_head 1 buds)) (list_any (group_does p) (groups_of_head 2 buds)) (list_any (group_does q) (groups_of_head 1 buds)) (list_any (group_does q) (groups_of_head 2 buds))
    (any_more (group_does p) (group_does q) (group_more p q more) (groups_of_head 1 buds)) (any_more (group_does p) (group_does q) (group_more p q more) (groups_of_head 2 buds)) h

synced_more : (p q : Change → Bool) → ((c : Change) → p c ≡ true → q c ≡ true) → (synced : List ℕ) (buds : List Bud) → some_synced_does p synced buds ≡ true → some_synced_does q synced buds ≡ true
synced_more p q more synced buds h =
    let one : List (List Carried) = take (get_or synced 1 0) (groups_of_head 1 buds) in
    let two : List (List Carried) = take (get_or synced 2 0) (groups_of_head 2 buds) in
    either_more (list_any (group_does p) one) (list_any (group_does p) two) (list_any (group_does q) one) (list_any (group_does q) two)
    (any_more (group_does p) (group_does q) (group_more p q more) one) (any_more (group_does p) (group_does q) (group_more p q more) two) h

-- which orphan an inode is
orphan_there : (f : Faced) (ino : ℕ) (orphans : List Orphan) → AllByRecursion (LostItsName f) orphans → is_synced_orphan orphans ino ≡ true → (some_synced_does (drops_inode ino) f.synced f.view.buds ≡ true) ⊎ (is_nameless f.view.tree ino ≡ true)
orphan_there f ino [] h on = absurd (false≢true on)
orphan_there f ino (o ∷ orphans) h on = by (λ more. orphan_there f ino orphans h.1 more) (either_of ((o.ino == ino) && o.synced) (is_synced_orphan orphans ino) on)
  where
    here : o.ino ≡ ino → o.synced ≡ true → LostItsName f o → (some_synced_does (drops_inode ino) f.synced f.view.buds ≡ true) ⊎ (is_nameless f.view.tree ino ≡ true)
    here same on (inl (un, does)) = absurd (false≢true (sym un ∙ on))
    here same on (inr (is, inl does)) = inl (subst (λ (n : ℕ). some_synced_does (drops_inode n) f.synced f.view.buds ≡ true) same does)
    here same on (inr (is, inr lost)) = inr (subst (λ (n : ℕ). is_nameless f.view.tree n ≡ true) same lost)

    Found : Type 0
    Found = (some_synced_does (drops_inode ino) f.synced f.view.buds ≡ true) ⊎ (is_nameless f.view.tree ino ≡ true)

    by : (is_synced_orphan orphans ino ≡ true → Found) → (((o.ino == ino) && o.synced) ≡ true) ⊎ (is_synced_orphan orphans ino ≡ true) → Found
    by rest (inl e) = let p = and_parts (o.ino == ino) o.synced e in here (eqb-true o.ino ino p.0) p.1 h.0
    by rest (inr e) = rest e

dropped_left : (m : Store) (f : Faced) (ino : ℕ) (x : Kept) → HasGone m f → HasCommittedView f.view → HaveOrphans f f.lists → is_synced_orphan m.orphans ino ≡ true → is_gone (DropInode ino) x ≡ true → IsLeafLeft f x
dropped_left m f ino x gone has on synced goes_too = by (orphan_there f ino m.orphans gone.orphans synced)
  where
    by : (some_synced_does (drops_inode ino) f.synced f.view.buds ≡ true) ⊎ (is_nameless f.view.tree ino ≡ true) → IsLeafLeft f x
    by (inl does) = inr (inl (synced_does (λ change. is_gone change x) f.view.buds f.synced (synced_more (drops_inode ino) (λ change. is_gone change x) (λ c d. drops_leaf ino x c goes_too d) f.synced f.view.buds does)))
    by (inr lost) =
        let stays : StaysNameless f ino = (lost, none_sets f.view.buds f.synced ino (committed_lost (λ ino. not (some_does (sets_inode ino) f.view.buds)) f ino has gone.unset lost)) in
        inr (inr (lists_have f f.lists ino x has on lost (λ list among. (gone_with ino f (shown_by x) list goes_too stays).0 among), (gone_with ino f (shown_by x) [] goes_too stays).1))

pub filter_leaf : (t : Kept → Bool) (xs : List Kept) (x : Kept) → IsLeafOf xs x → t x ≡ true → IsLeafOf (filter t xs) x
filter_leaf t [] x h e = h
filter_leaf t (y ∷ xs) x h e = by (λ more. filter_leaf t xs x more e) (t y) refl h
  where
    by : (IsLeafOf xs x → IsLeafOf (filter t xs) x) → (b : Bool) → t y ≡ b → (y ≡ x) ⊎ IsLeafOf xs x → IsLeafOf (cond b (y ∷ filter t xs) (filter t xs)) x
    by rest true f (inl same) = inl same
    by rest true f (inr more) = inr (rest more)
    by rest false f (inl same) = absurd (false≢true (sym f ∙ ap t same ∙ e))
    by rest false f (inr more) = rest more

pub leaf_last : (xs ys : List Kept) (x : Kept) → IsLeafOf ys x → IsLeafOf (xs ++ ys) x
leaf_last [] ys x h = h
leaf_last (y ∷ xs) ys x h = inr (leaf_last xs ys x h)

pub leaf_first : (xs ys : List Kept) (x : Kept) → IsLeafOf xs x → IsLeafOf (xs ++ ys) x
leaf_first [] ys x h = absurd h
leaf_first (y ∷ xs) ys x (inl e) = inl e
leaf_first (y ∷ xs) ys x (inr h) = inr (leaf_first xs ys x h)

drop_one : (m : Store) (ino : ℕ) (index : StoreIndex) (f g : Faced) (x : Kept) → HasGone m f → HasCommittedView f.view → HaveOrphans f f.lists → (IsMoved m.moving f x → IsMoved m.moving g x) → (IsLeafLeft f x → IsLeafLeft g x) → IsAccountedFor m f x → IsAccountedFor (drop_inode ino index m) g x
drop_one m ino index f g x gone has on moved left (inl live) = by (is_gone (DropInode ino) x) refl (is_synced_orphan m.orphans ino) refl
  where
    k : Store
    k = drop_inode ino index m

    by : (b : Bool) → is_gone (DropInode ino) x ≡ b → (z : Bool) → is_synced_orphan m.orphans ino ≡ z → IsAccountedFor k g x
    by false e z c = inl (filter_leaf (λ x. not (is_gone (DropInode ino) x)) m.live x live (ap not e))
    by true e true c = inr (inr (inr (left (dropped_left m f ino x gone has on c e))))
    by true e false c = inr (inl (subst (λ (z : Bool). IsLeafOf (cond z m.held (m.held ++ filter (is_gone (DropInode ino)) m.live)) x) (sym c) (leaf_last m.held (filter (is_gone (DropInode ino)) m.live) x (filter_leaf (is_gone (DropInode ino)) m.live x live e))))
drop_one m ino index f g x gone has on moved left (inr (inl held)) = inr (inl (by (is_synced_orphan m.orphans ino)))
  where
    by : (c : Bool) → IsLeafOf (cond c m.held (m.held ++ filter (is_gone (DropInode ino)) m.live)) x
    by true = held
    by false = leaf_first m.held (filter (is_gone (DropInode ino)) m.live) x held
drop_one m ino index f g x gone has on moved left (inr (inr (inl h))) = inr (inr (inl (moved h)))
drop_one m ino index f g x gone has on moved left (inr (inr (inr h))) = inr (inr (inr (left h)))

pub drop_accounted : (m : Store) (ino : ℕ) (index : StoreIndex) → IsStore m → OfBoth (drop_inode ino index m) (AreAccountedFor (drop_inode ino index m))
drop_accounted m ino index s = (
  each_weaker (IsAccountedFor m (faced_now m)) (IsAccountedFor k (faced_now k)) (λ x g. drop_one m ino index (faced_now m) (faced_now k) x s.gone.0 s.views.committed.0 (have_orphans_now m s.orphans) (moved_as x m.moving) (λ left. left) g) m.now.kept s.accounted.0,
  by m.next s.gone.1 s.views.committed.1 s.orphans.later s.accounted.1,
)
  where
    k : Store
    k = drop_inode ino index m

    moved_as : (x : Kept) (moving : Option Moving) → IsMoved moving (faced_now m) x → IsMoved moving (faced_now k) x
    moved_as x None h = h
    moved_as x (Some moving) h = h

    later_as : (next : Next) (x : Kept) (moving : Option Moving) → IsMoved moving (faced_later m next) x → IsMoved moving (faced_later k next) x
    later_as next x None h = h
    later_as next x (Some moving) h = h

    by : (next : Option Next) → OfNext m next (HasGone m) → OfNext m next (λ f. HasCommittedView f.view) → KeepOrphans m next → OfNext m next (AreAccountedFor m) → OfNext k next (AreAccountedFor k)
    by None gone has on h = tt
    by (Some next) gone has on h = each_weaker (IsAccountedFor m (faced_later m next)) (IsAccountedFor k (faced_later k next)) (λ x g. drop_one m ino index (faced_later m next) (faced_later k next) x gone has (on.1, tt) (later_as next x m.moving) (λ left. left) g) next.view.kept h
