-- What becomes of committed leaves where one is copied, and where a victim is freed.
use Rattle.std.proofs.Common.{◌≡◌, ◌∙◌, ◌+◌, ◌-◌, ℕ, zero, suc, arith, Bool, true, false, cond, List, [], ◌∷◌, ◌++◌, length, length-append, map, refl, sym, ap, subst, inl, inr, Option, Some, None}
use Rattle.std.specs.Prelude.{◌==◌, ◌&&◌, ◌||◌, get_or, take}
use Rattle.std.specs.List.{AllByRecursion, list_any}
use Rattle.std.specs.Option.{option_map}
use Rattle.std.specs.Ordering.{is_eq}
use Rattle.std.proofs.lemmas.Bool.{and_from, eq-eqb, false≢true}
use Rattle.std.proofs.lemmas.List.{take_all}
use Rattle.std.proofs.lemmas.List.Folds.{list_any-append}
use Rattle.index_tree.specs.declared.leaf.Leaf.{Leaf}
use Rattle.index_tree.specs.Distinct.{AreDistinct}
use Rattle.index_tree.specs.Removal.{same_leaf}
use Rattle.media_leaf.specs.LeafNode.{LeafNode}
use Rattle.fs_model.specs.declared.change.Change.{Change}
use Rattle.fs_model.specs.declared.change.Change.TheVariants.{CutBlocks, DropEntry, DropInode, SetBlock, SetEntry, SetInode}
use Rattle.fs_model.specs.Files.{Tree}
use Rattle.fs_model.specs.Orphan.{is_nameless}
use Rattle.fs_model.specs.Path.{is_same_name}
use Rattle.fs_model.specs.Recovery.{Head}
use Rattle.fs_laws.specs.Orders.{bytes_same}
use Rattle.leaf_map.specs.Kept.{Kept, kept_at, Placed, shown, shown_by}
use Rattle.leaf_map.specs.LeafMap.{HasKeyOf, IsKeyed, shows_same}
use Rattle.store_model.specs.Events.{at_its_copy, Copying, end_at, free_victim, in_next, move}
use Rattle.store_model.specs.Fits.{AreOfListed, Faced, faced_now, has_copy, IsLeafLeft, IsOfNameless, IsTouchedBy, IsUnset, next_lists}
use Rattle.store_model.specs.Heads.{copies_of, head_counts, heads_of, less, synced_since, with_copy}
use Rattle.store_model.specs.Invariant.{AreAccountedFor, AreRolesApart, CameSince, faced_later, HasSince, is_leaf_copied, IsAccountedFor, IsMoved, IsSince, IsStore, OfBoth, OfNext}
use Rattle.store_model.specs.Legal.{CanFree, CanMove, FitHead, IfMoving, IsLeafOf}
use Rattle.store_model.specs.Store.{At, Bud, Moving, Next, Store}
use Rattle.store_model.proofs.BackingPuts.{has_last}
use Rattle.store_model.proofs.BegunEvents.{same_since}
use Rattle.store_model.proofs.CopiedLeaves.{each_of}
use Rattle.store_model.proofs.EventNumbers.{groups_copied}
use Rattle.store_model.proofs.LebPuts.{end_bud}
use Rattle.store_model.proofs.Moves.{one_leaf}
use Rattle.store_model.proofs.OfViews.{each_weaker}
use Rattle.store_model.proofs.RecoveryOrder.{or_left, or_right}
use Rattle.store_model.proofs.SinceCommits.{copies_added}

-- a copy has the node of a leaf, with its number
abbrev copies_leaf : Kept → Placed → Bool
copies_leaf x c = (c.sqnum == x.sqnum) && shows_same (shown_by x) (shown c.node)

-- ---- a victim is freed, once all is synced
copied_left : (f : Faced) (x : Kept) → get_or f.synced 0 0 ≡ length (copies_of f.view.buds) → is_leaf_copied f x ≡ true → has_copy f x ≡ true
copied_left f x all h = ap (λ (n : ℕ). list_any (copies_leaf x) (take n (copies_of f.view.buds))) all ∙ ap (list_any (copies_leaf x)) (take_all (length (copies_of f.view.buds)) (copies_of f.view.buds) (omega arith)) ∙ h

free_one : (m : Store) (moving : Moving) (f : Faced) (x : Kept) → m.moving ≡ Some moving → get_or f.synced 0 0 ≡ length (copies_of f.view.buds) → IsAccountedFor m f x → IsAccountedFor (free_victim m (Some moving)) f x
free_one m moving f x e all (inl live) = inl live
free_one m moving f x e all (inr (inl held)) = inr (inl held)
free_one m moving f x e all (inr (inr (inl moved))) = let copied = subst (λ (o : Option Moving). IsMoved o f x) e moved in inr (inr (inr (inl (copied_left f x all copied.1))))
free_one m moving f x e all (inr (inr (inr left))) = inr (inr (inr left))

counts_since : (m : Store) (next : Next) → m.synced ≡ head_counts m.now.buds → CameSince (copies_of m.now.buds) (copies_of next.view.buds) (get_or m.synced 0 0) → get_or (synced_since m next) 0 0 ≡ length (copies_of next.view.buds)
counts_since m next all c =
    let long = ap length c.is ∙ length-append c.before (copies_of next.view.buds) in
    let is : get_or (less (head_counts m.now.buds) (less (head_counts m.now.buds) (head_counts next.view.buds))) 0 0 ≡ length (copies_of m.now.buds) - (length (copies_of m.now.buds) - length (copies_of next.view.buds)) = refl in
    ap (λ (s : List ℕ). get_or (less s (less (head_counts m.now.buds) (head_counts next.view.buds))) 0 0) all ∙ is ∙ omega (arith, long)

pub free_accounted : (m : Store) (moving : Option Moving) → m.moving ≡ moving → CanFree m → HasSince m m.next → OfBoth m (AreAccountedFor m) → OfBoth (free_victim m moving) (AreAccountedFor (free_victim m moving))
free_accounted m None e can since h = h
free_accounted m (Some moving) e can since h = (
  each_weaker (IsAccountedFor m (faced_now m)) (IsAccountedFor k (faced_now m)) (λ x g. free_one m moving (faced_now m) x e (ap (λ (s : List ℕ). get_or s 0 0) can.synced.counts) g) m.now.kept h.0,
  by m.next since h.1,
)
  where
    k : Store
    k = free_victim m (Some moving)

    by : (next : Option Next) → HasSince m next → OfNext m next (AreAccountedFor m) → OfNext k next (AreAccountedFor k)
    by None s g = tt
    by (Some next) s g = each_weaker (IsAccountedFor m (faced_later m next)) (IsAccountedFor k (faced_later m next)) (λ x g. free_one m moving (faced_later m next) x e (counts_since m next can.synced.counts s.copies) g) next.view.kept g

-- ---- a leaf is copied
-- a master that leads to the same, with a copy more
pub record HasCopyMore (f g : Faced) (c : Placed) : Type 0 where
  pub tree : g.view.tree ≡ f.view.tree
  pub copies : copies_of g.view.buds ≡ copies_of f.view.buds ++ c ∷ []
  pub synced : get_or g.synced 0 0 ≡ get_or f.synced 0 0
  pub heads : heads_of g.view.buds g.synced ≡ heads_of f.view.buds f.synced
  pub lists : g.lists ≡ f.lists

nameless_more : (f g : Faced) (c : Placed) → HasCopyMore f g c → (s : Option Change) → IsOfNameless f s → IsOfNameless g s
nameless_more f g c same (Some (SetInode ino inode)) h = (subst (λ (t : Tree). is_nameless t ino ≡ true) (sym same.tree) h.0, subst (λ (hs : List Head). IsUnset hs ino) (sym same.heads) h.1)
nameless_more f g c same (Some (SetBlock ino block bytes)) h = (subst (λ (t : Tree). is_nameless t ino ≡ true) (sym same.tree) h.0, subst (λ (hs : List Head). IsUnset hs ino) (sym same.heads) h.1)
nameless_more f g c same (Some (SetEntry entry)) h = absurd h
nameless_more f g c same (Some (DropEntry dir name)) h = absurd h
nameless_more f g c same (Some (CutBlocks ino old new)) h = absurd h
nameless_more f g c same (Some (DropInode ino)) h = absurd h
nameless_more f g c same None h = absurd h

take_more : (t : Placed → Bool) (n : ℕ) (xs ys : List Placed) → list_any t (take n xs) ≡ true → list_any t (take n (xs ++ ys)) ≡ true
take_more t zero xs ys h = absurd (false≢true h)
take_more t (suc n) [] ys h = absurd (false≢true h)
take_more t (suc n) (x ∷ xs) ys h = by (λ g. take_more t n xs ys g) (t x) h
  where
    by : (list_any t (take n xs) ≡ true → list_any t (take n (xs ++ ys)) ≡ true) → (b : Bool) → (b || list_any t (take n xs)) ≡ true → (b || list_any t (take n (xs ++ ys))) ≡ true
    by rest true h = refl
    by rest false h = rest h

pub left_more : (f g : Faced) (c : Placed) (x : Kept) → HasCopyMore f g c → IsLeafLeft f x → IsLeafLeft g x
left_more f g c x same (inl copy) =
    inl (ap (λ (n : ℕ). list_any (copies_leaf x) (take n (copies_of g.view.buds))) same.synced ∙ ap (λ (cs : List Placed). list_any (copies_leaf x) (take (get_or f.synced 0 0) cs)) same.copies
    ∙ take_more (copies_leaf x) (get_or f.synced 0 0) (copies_of f.view.buds) (c ∷ []) copy)
left_more f g c x same (inr (inl touched)) = inr (inl (subst (λ (hs : List Head). IsTouchedBy hs x) (sym same.heads) touched))
left_more f g c x same (inr (inr (of, none))) = inr (inr (subst (λ (ls : List (List ℕ)). AreOfListed ls x) (sym same.lists) of, nameless_more f g c same (shown_by x) none))

moved_more : (f g : Faced) (c : Placed) (x : Kept) (moving : Option Moving) → HasCopyMore f g c → IsMoved moving f x → IsMoved moving g x
moved_more f g c x None same h = absurd h
moved_more f g c x (Some moving) same h =
    (h.0, ap (list_any (copies_leaf x)) same.copies ∙ list_any-append (copies_leaf x) (copies_of f.view.buds) (c ∷ []) ∙ or_left (is_leaf_copied f x) (list_any (copies_leaf x) (c ∷ [])) h.1)

-- a leaf shows what it shows
shows_self : (l : Leaf) (s : Option Change) → HasKeyOf l s → shows_same s s ≡ true
shows_self l (Some (SetInode ino inode)) h = eq-eqb ino ino refl
shows_self l (Some (SetEntry e)) h = and_from (e.dir == e.dir) (is_same_name e.name e.name) (eq-eqb e.dir e.dir refl) (ap is_eq (bytes_same e.name))
shows_self l (Some (SetBlock ino number bytes)) h = and_from (ino == ino) (number == number) (eq-eqb ino ino refl) (eq-eqb number number refl)
shows_self l (Some (DropEntry dir name)) h = absurd h
shows_self l (Some (CutBlocks ino old new)) h = absurd h
shows_self l (Some (DropInode ino)) h = absurd h
shows_self l None h = absurd h

new_copied : (m : Store) (c : Copying) (g : Faced) (x : Kept) (copies : List Placed) → CanMove m c → x ≡ c.leaf → HasKeyOf x.leaf (shown_by x) → copies_of g.view.buds ≡ copies ++ c.copy ∷ [] → is_leaf_copied g x ≡ true
new_copied m c g x copies can same keyed added =
    let node : c.copy.node ≡ x.node = can.node_is ∙ sym (ap (λ (y : Kept). y.node) same) in
    let sqnum : c.copy.sqnum ≡ x.sqnum = can.sqnum ∙ sym (ap (λ (y : Kept). y.sqnum) same) in
    let shows = subst (λ (n : LeafNode). shows_same (shown_by x) (shown n) ≡ true) (sym node) (shows_self x.leaf (shown_by x) keyed) in
    let is = and_from (c.copy.sqnum == x.sqnum) (shows_same (shown_by x) (shown c.copy.node)) (eq-eqb c.copy.sqnum x.sqnum sqnum) shows in
    ap (list_any (copies_leaf x)) added ∙ list_any-append (copies_leaf x) copies (c.copy ∷ []) ∙ or_right (list_any (copies_leaf x) copies) (list_any (copies_leaf x) (c.copy ∷ [])) (or_left (copies_leaf x c.copy) false is)

-- another live leaf stays where it is
live_stays : (c : Copying) (xs : List Kept) (x : Kept) → at_its_copy c x ≡ x → IsLeafOf xs x → IsLeafOf (map (at_its_copy c) xs) x
live_stays c [] x same h = absurd h
live_stays c (y ∷ xs) x same (inl e) = inl (ap (at_its_copy c) e ∙ same)
live_stays c (y ∷ xs) x same (inr h) = inr (live_stays c xs x same h)

move_one : (m : Store) (c : Copying) (f g : Faced) (x : Kept) → CanMove m c → AreDistinct (map (λ x. x.leaf) m.live) → AllByRecursion IsKeyed m.live → HasCopyMore f g c.copy → IsAccountedFor m f x → IsAccountedFor (move c m) g x
move_one m c f g x can d keyed more (inl live) = by (same_leaf x.leaf c.leaf.leaf) refl
  where
    there : x ≡ c.leaf → (moving : Option Moving) → m.moving ≡ moving → IfMoving m (λ moving. c.leaf.leaf.lnum ≡ moving.victim) → IsMoved moving g x
    there same None e at = absurd (rw e at at)
    there same (Some moving) e at = (ap (λ (y : Kept). y.leaf.lnum) same ∙ (rw e at at), new_copied m c g x (copies_of f.view.buds) can same (each_of IsKeyed m.live x keyed live) more.copies)

    by : (b : Bool) → same_leaf x.leaf c.leaf.leaf ≡ b → IsAccountedFor (move c m) g x
    by true e = inr (inr (inl (there (one_leaf m.live c.leaf x d can.live live e) m.moving refl can.victim)))
    by false e = inl (live_stays c m.live x (ap (λ (b : Bool). cond b (record x { leaf = (kept_at c.copy).leaf }) x) e) live)
move_one m c f g x can d keyed more (inr (inl held)) = inr (inl held)
move_one m c f g x can d keyed more (inr (inr (inl moved))) = inr (inr (inl (moved_more f g c.copy x m.moving more moved)))
move_one m c f g x can d keyed more (inr (inr (inr left))) = inr (inr (inr (left_more f g c.copy x more left)))

pub zero_less : (xs : List ℕ) (a b c : ℕ) → get_or (less xs (a ∷ b ∷ c ∷ [])) 0 0 ≡ get_or xs 0 0 - a
zero_less [] a b c = omega arith
zero_less (x ∷ xs) a b c = refl

copied_counts : (n a b p q : ℕ) → p ≡ a + 1 → q ≡ b + 1 → n - (p - q) ≡ n - (a - b)
copied_counts n a b p q e f = omega (arith, e, f)

copied_heads : (c : Placed) (buds : List Bud) (synced : List ℕ) → heads_of (with_copy c buds) synced ≡ heads_of buds synced
copied_heads c buds synced = rw (groups_copied 1 c buds, groups_copied 2 c buds) refl

-- what either master leads to gets the copy
pub copied_now : (m : Store) (c : Copying) (at : At) → AreRolesApart m → end_at m.ends 0 ≡ Some at → HasCopyMore (faced_now m) (faced_now (move c m)) c.copy
copied_now m c at a e = record {
  tree = refl;
  copies = copies_added c.copy m.now.buds (has_last m.now.buds 0 at.lnum (end_bud m.now.buds 0 0 0 m.ends at (omega arith) a.ends e));
  synced = refl;
  heads = copied_heads c.copy m.now.buds m.synced;
  lists = ap (λ (ls : List (List ℕ)). m.listed ∷ ls) (lists m.next);
}
  where
    lists : (next : Option Next) → next_lists (option_map (in_next (with_copy c.copy) 0) next) ≡ next_lists next
    lists None = refl
    lists (Some next) = refl

pub copied_later : (m : Store) (c : Copying) (at : At) (next : Next) → AreRolesApart m → IsSince m next.view → end_at m.ends 0 ≡ Some at → HasCopyMore (faced_later m next) (faced_later (move c m) (in_next (with_copy c.copy) 0 next)) c.copy
copied_later m c at next a since e = record {
  tree = refl;
  copies = new;
  synced = zero_less m.synced _ _ _ ∙ copied_counts (get_or m.synced 0 0) (length (copies_of m.now.buds)) (length (copies_of next.view.buds)) (length (copies_of (with_copy c.copy m.now.buds))) (length (copies_of (with_copy c.copy next.view.buds)))
      (ap length old ∙ length-append (copies_of m.now.buds) (c.copy ∷ [])) (ap length new ∙ length-append (copies_of next.view.buds) (c.copy ∷ [])) ∙ sym (zero_less m.synced _ _ _);
  heads = same_since (move c m) m next (in_next (with_copy c.copy) 0 next) refl (groups_copied 1 c.copy m.now.buds) (groups_copied 2 c.copy m.now.buds) (groups_copied 1 c.copy next.view.buds) (groups_copied 2 c.copy next.view.buds);
  lists = refl;
}
  where
    old : copies_of (with_copy c.copy m.now.buds) ≡ copies_of m.now.buds ++ c.copy ∷ []
    old = copies_added c.copy m.now.buds (has_last m.now.buds 0 at.lnum (end_bud m.now.buds 0 0 0 m.ends at (omega arith) a.ends e))

    new : copies_of (with_copy c.copy next.view.buds) ≡ copies_of next.view.buds ++ c.copy ∷ []
    new = copies_added c.copy next.view.buds (has_last next.view.buds 0 at.lnum (end_bud next.view.buds 0 0 0 m.ends at (omega arith) since.ends e))

pub move_accounted : (m : Store) (c : Copying) → CanMove m c → IsStore m → OfBoth (move c m) (AreAccountedFor (move c m))
move_accounted m c can s = by (end_at m.ends 0) refl can.fits
  where
    k : Store
    k = move c m

    one : (f g : Faced) (x : Kept) → HasCopyMore f g c.copy → IsAccountedFor m f x → IsAccountedFor k g x
    one f g x more h = move_one m c f g x can s.distinct s.files.leaves.keyed more h

    later : (at : At) → end_at m.ends 0 ≡ Some at → (next : Option Next) → HasSince m next → OfNext m next (AreAccountedFor m) → OfNext k (option_map (in_next (with_copy c.copy) 0) next) (AreAccountedFor k)
    later at e None since g = tt
    later at e (Some next) since g =
        let after : Next = in_next (with_copy c.copy) 0 next in
        each_weaker (IsAccountedFor m (faced_later m next)) (IsAccountedFor k (faced_later k after)) (λ x g. one (faced_later m next) (faced_later k after) x (copied_later m c at next s.apart since e) g) next.view.kept g

    by : (o : Option At) → end_at m.ends 0 ≡ o → FitHead m o (c.copy ∷ []) → OfBoth k (AreAccountedFor k)
    by None e fits = absurd fits
    by (Some at) e fits = (
      each_weaker (IsAccountedFor m (faced_now m)) (IsAccountedFor k (faced_now k)) (λ x g. one (faced_now m) (faced_now k) x (copied_now m c at s.apart e) g) m.now.kept s.accounted.0,
      later at e m.next s.since s.accounted.1,
    )
