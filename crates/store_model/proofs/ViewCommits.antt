-- What was committed stays whole through a commit's own events and those of a collection.
use Rattle.std.proofs.Common.{◌≡◌, ℕ, suc, Bool, true, false, cond, List, [], ◌∷◌, ◌++◌, map, refl, sym, ap, subst, ◌∙◌, inl, inr, Option, Some, None}
use Rattle.std.specs.Prelude.{◌==◌, ◌&&◌, not}
use Rattle.std.specs.List.{AllByRecursion, flat_map}
use Rattle.std.specs.Option.{option_map}
use Rattle.media_leaf.specs.LeafNode.{IsLeaf}
use Rattle.index_tree.specs.Distinct.{AreDistinct}
use Rattle.leaf_map.specs.Kept.{Kept, Placed}
use Rattle.store_model.specs.Events.{begin, Copying, end_commit, free_victim, in_next, move, offer, offered, open_buds, start, with_buds, write_index}
use Rattle.store_model.specs.Heads.{buds_of_head, copies_of, has_bud, with_copy}
use Rattle.store_model.specs.Invariant.{AreChangesCarried, AreOwned, HasCommittedView, HasFiles, HasViews, IsCopyOf, OfBoth, OfNext, all_carried}
use Rattle.store_model.specs.Legal.{CanMove, IsCarried, IsLeafOf}
use Rattle.store_model.specs.Store.{At, Bud, Carried, Moving, Next, Store, View}
use Rattle.store_model.proofs.Owned.{highest_is}
use Rattle.store_model.proofs.ReadNodes.{both_join, both_parts}
use Rattle.store_model.proofs.SinceCommits.{no_copies}
use Rattle.store_model.proofs.Views.{same_views}

pub begin_views : (m : Store) (victim : ℕ) → HasViews m → HasViews (begin victim m)
begin_views m victim v = same_views m (begin victim m) refl refl v

pub free_views : (m : Store) (moving : Option Moving) → HasViews m → HasViews (free_victim m moving)
free_views m None v = v
free_views m (Some moving) v = same_views m (free_victim m (Some moving)) refl refl v

pub write_views : (m : Store) (next : Option Next) → m.next ≡ next → HasViews m → HasViews (write_index m next)
write_views m None e v = v
write_views m (Some next) e v = record {
  committed = (v.committed.0, subst (λ (o : Option Next). OfNext m o (λ f. HasCommittedView f.view)) e v.committed.1);
  carried = (v.carried.0, subst (λ (o : Option Next). OfNext m o (λ f. AreChangesCarried f.view)) e v.carried.1);
}

pub offer_views : (m : Store) → HasViews m → HasViews (offer m)
offer_views m v = record { committed = (v.committed.0, of HasCommittedView m.next v.committed.1); carried = (v.carried.0, of AreChangesCarried m.next v.carried.1) }
  where
    of : (P : View → Type 0) (next : Option Next) → OfNext m next (λ f. P f.view) → OfNext (offer m) (option_map offered next) (λ f. P f.view)
    of P None h = tt
    of P (Some next) h = h

-- the running commit's view is the present one
pub end_views : (m : Store) (next : Option Next) → m.next ≡ next → HasViews m → HasViews (end_commit m next)
end_views m None e v = v
end_views m (Some next) e v = record {
  committed = (subst (λ (o : Option Next). OfNext m o (λ f. HasCommittedView f.view)) e v.committed.1, tt);
  carried = (subst (λ (o : Option Next). OfNext m o (λ f. AreChangesCarried f.view)) e v.carried.1, tt);
}

none_carried : (k : ℕ) (ends : List (Option At)) → AllByRecursion IsCarried (all_carried (open_buds k ends))
none_carried k [] = tt
none_carried k (None ∷ ends) = none_carried (suc k) ends
none_carried k (Some at ∷ ends) = none_carried (suc k) ends

-- a commit's view has the files as they are, and nothing was put yet
pub start_views : (m : Store) (taken : List ℕ) → HasFiles m → AreOwned m → AreDistinct (map (λ x. x.leaf) m.live) → HasViews m → HasViews (start taken m)
start_views m taken files owned distinct v = record {
  committed = (
    v.committed.0,
    record { leaves = files.leaves; distinct = distinct; tree = files.tree; inodes = owned.inodes; highest = highest_is m.tree.highest m.live owned.highest; copies = rw (no_copies 0 m.ends) tt },
  );
  carried = (v.carried.0, none_carried 0 m.ends);
}

-- ---- a copy
copied_copies : (P : Placed → Type 0) (copy : Placed) (buds : List Bud) → P copy → AllByRecursion P (copies_of buds) → AllByRecursion P (copies_of (with_copy copy buds))
copied_copies P copy [] p h = tt
copied_copies P copy (bud ∷ buds) p h = by (λ more. copied_copies P copy buds p more) ((bud.head == 0) && not (has_bud 0 buds)) refl (bud.head == 0) refl h
  where
    More : Type 0
    More = AllByRecursion P (copies_of buds) → AllByRecursion P (copies_of (with_copy copy buds))

    by : More → (last : Bool) → ((bud.head == 0) && not (has_bud 0 buds)) ≡ last → (here : Bool) → (bud.head == 0) ≡ here → AllByRecursion P (flat_map (λ b. b.copies) (cond here (bud ∷ buds_of_head 0 buds) (buds_of_head 0 buds)))
        → AllByRecursion P (copies_of (with_copy copy (bud ∷ buds)))
    by more true l true i h = let parts = both_parts P bud.copies (copies_of buds) h in rw (l, i) (both_join P (bud.copies ++ copy ∷ []) (copies_of buds) (both_join P bud.copies (copy ∷ []) parts.0 (p, tt)) parts.1)
    by more true l false i h = rw (l, i) h
    by more false l true i h = let parts = both_parts P bud.copies (copies_of buds) h in rw (l, i) (both_join P bud.copies (copies_of (with_copy copy buds)) parts.0 (more parts.1))
    by more false l false i h = rw (l, i) (more h)

carried_copied : (copy : Placed) (buds : List Bud) → all_carried (with_copy copy buds) ≡ all_carried buds
carried_copied copy [] = refl
carried_copied copy (bud ∷ buds) = by ((bud.head == 0) && not (has_bud 0 buds)) refl (carried_copied copy buds)
  where
    by : (last : Bool) → ((bud.head == 0) && not (has_bud 0 buds)) ≡ last → all_carried (with_copy copy buds) ≡ all_carried buds → all_carried (with_copy copy (bud ∷ buds)) ≡ all_carried (bud ∷ buds)
    by true l rest = rw l refl
    by false l rest = rw l (ap (λ (cs : List Carried). flat_map (λ group. group) bud.groups ++ cs) rest)

-- a leaf's node is in the grammar
leaf_node : (live : List Kept) (x : Kept) → AllByRecursion (λ y. IsLeaf y.node) live → IsLeafOf live x → IsLeaf x.node
leaf_node [] x h i = absurd i
leaf_node (y ∷ live) x h (inl e) = subst (λ (z : Kept). IsLeaf z.node) e h.0
leaf_node (y ∷ live) x h (inr i) = leaf_node live x h.1 i

-- a copy of a leaf is one of the leaves that this is among
copy_among : (kept : List Kept) (c : Copying) → c.copy.node ≡ c.leaf.node → c.copy.sqnum ≡ c.leaf.sqnum → IsLeafOf kept c.leaf → IsCopyOf kept c.copy
copy_among [] c node number i = absurd i
copy_among (x ∷ kept) c node number (inl e) = inl (node ∙ ap (λ (z : Kept). z.node) (sym e), number ∙ ap (λ (z : Kept). z.sqnum) (sym e))
copy_among (x ∷ kept) c node number (inr i) = inr (copy_among kept c node number i)

copied_view : (c : Copying) (view : View) → IsLeaf c.copy.node → IsCopyOf view.kept c.copy → HasCommittedView view → HasCommittedView (with_buds (with_copy c.copy) 0 view)
copied_view c view leaf among has = record {
  leaves = has.leaves;
  distinct = has.distinct;
  tree = has.tree;
  inodes = has.inodes;
  highest = has.highest;
  copies = copied_copies (λ d. IsLeaf d.node × IsCopyOf view.kept d) c.copy view.buds (leaf, among) has.copies;
}

-- what is copied is a committed leaf
pub move_views : (m : Store) (c : Copying) → CanMove m c → AreOwned m → OfBoth m (λ f. IsLeafOf f.view.kept c.leaf) → HasViews m → HasViews (move c m)
move_views m c can owned among v = record {
  committed = (copied_view c m.now leaf (copy_among m.now.kept c can.node_is can.sqnum among.0) v.committed.0, of m.next among.1 v.committed.1);
  carried = (subst (AllByRecursion IsCarried) (sym (carried_copied c.copy m.now.buds)) v.carried.0, too m.next v.carried.1);
}
  where
    leaf : IsLeaf c.copy.node
    leaf = subst IsLeaf (sym can.node_is) (leaf_node m.live c.leaf owned.nodes can.live)

    of : (next : Option Next) → OfNext m next (λ f. IsLeafOf f.view.kept c.leaf) → OfNext m next (λ f. HasCommittedView f.view) → OfNext (move c m) (option_map (in_next (with_copy c.copy) 0) next) (λ f. HasCommittedView f.view)
    of None a h = tt
    of (Some next) a h = copied_view c next.view leaf (copy_among next.view.kept c can.node_is can.sqnum a) h

    too : (next : Option Next) → OfNext m next (λ f. AreChangesCarried f.view) → OfNext (move c m) (option_map (in_next (with_copy c.copy) 0) next) (λ f. AreChangesCarried f.view)
    too None h = tt
    too (Some next) h = subst (AllByRecursion IsCarried) (sym (carried_copied c.copy next.view.buds)) h
