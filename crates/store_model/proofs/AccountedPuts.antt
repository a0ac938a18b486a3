-- A put loses no committed leaf: one that goes is held, and what needn't stand needn't still. So LEBs stay whole or left.
use Rattle.std.proofs.Common.{◌≡◌, ◌⊎◌, ◌≤◌, ◌∙◌, ◌-◌, ℕ, arith, Bool, true, false, cond, not, List, [], ◌∷◌, ◌++◌, length, map, refl, sym, ap, subst, inl, inr, Option, Some, None}
use Rattle.std.specs.Prelude.{◌==◌, ◌&&◌, ◌||◌, filter, fold, get_or, nat_le, take}
use Rattle.std.specs.List.{list_any}
use Rattle.std.specs.Option.{option_map, option_map_or}
use Rattle.std.proofs.lemmas.Bool.{false≢true}
use Rattle.index_tree.specs.Order.{leaf_rank}
use Rattle.fs_model.specs.declared.change.Change.{Change}
use Rattle.fs_model.specs.declared.change.Change.TheVariants.{CutBlocks, DropEntry, DropInode, SetBlock, SetEntry, SetInode}
use Rattle.fs_model.specs.Files.{Tree}
use Rattle.fs_model.specs.Orphan.{is_nameless, nameless}
use Rattle.fs_model.specs.Proper.{IsProper}
use Rattle.fs_model.specs.Recovery.{KeepsSynced}
use Rattle.leaf_map.specs.After.{is_gone, is_idle, is_set, put_leaf}
use Rattle.leaf_map.specs.Allowed.{sets_inode}
use Rattle.leaf_map.specs.Kept.{Kept, kept_at, Placed, shown, shown_by}
use Rattle.leaf_map.specs.LeafMap.{shows_same}
use Rattle.leaf_map.specs.Shown.{tree_of}
use Rattle.store_model.specs.Events.{after_change, after_part, credit, end_at, granted, Held, in_next, paid, Part, Payment, put, Putting, with_items}
use Rattle.store_model.specs.Fits.{AreOfListed, Faced, faced_now, IsLeafLeft, IsOfNameless, IsTouchedBy, named_by_log, next_lists, StaysNameless}
use Rattle.store_model.specs.Gone.{some_does, some_synced_does}
use Rattle.store_model.specs.Heads.{copies_of, head_counts, groups_of_head, heads_of, numbered_group, with_head_group}
use Rattle.store_model.specs.Invariant.{AreAccountedFor, AreRolesApart, AreWholeOrLeft, faced_later, HasCommittedView, HasGone, HasNumbers, HasSince, IsAccountedFor, IsMoved, IsSince, IsStore, OfBoth, OfNext, LeafStands}
use Rattle.store_model.specs.Legal.{AreLegalParts, FitHead, IsLeafOf, IsLegalPart}
use Rattle.store_model.specs.Store.{At, Bud, Carried, leaf, Moving, Next, Store}
use Rattle.store_model.proofs.Accounted.{follows}
use Rattle.store_model.proofs.AccountedCopies.{zero_less}
use Rattle.store_model.proofs.BackingCalls.{length_map}
use Rattle.store_model.proofs.BegunEvents.{one_less, two_less}
use Rattle.store_model.proofs.GoneGroups.{none_sets, synced_does, taken_does}
use Rattle.store_model.proofs.GoneLeaves.{filter_leaf, leaf_first, leaf_last, leaf_passes}
use Rattle.store_model.proofs.GonePuts.{grown_later, grown_now, HasGrown, part_gone, synced_grown}
use Rattle.store_model.proofs.LebPuts.{part_apart}
use Rattle.store_model.proofs.LiveLeaves.{items_stand}
use Rattle.store_model.proofs.Nameless.{part_nameless}
use Rattle.store_model.proofs.OfViews.{each_weaker, named_put}
use Rattle.store_model.proofs.PutGroups.{copies_put}
use Rattle.store_model.proofs.PutNumbers.{part_numbers}
use Rattle.store_model.proofs.Since.{part_since}
use Rattle.store_model.proofs.WholeLebs.{keeps_either, KeepsLeb, within_at}

-- ---- what is synced touches a leaf, if it is touched whatever a cut leaves
or_nothing : (a b : Bool) → (a || (b || false)) ≡ true → (a || b) ≡ true
or_nothing true b h = refl
or_nothing false true h = refl
or_nothing false false h = h

touched_synced : (buds : List Bud) (synced : List ℕ) (x : Kept) → get_or synced 1 0 ≤ length (groups_of_head 1 buds) → get_or synced 2 0 ≤ length (groups_of_head 2 buds) → IsTouchedBy (heads_of buds synced) x → some_synced_does (λ change. is_gone change x) synced buds ≡ true
touched_synced buds synced x one two h =
    let a = length_map numbered_group (groups_of_head 1 buds) in
    let b = length_map numbered_group (groups_of_head 2 buds) in
    let keeps : KeepsSynced (heads_of buds synced) (0 ∷ get_or synced 1 0 ∷ get_or synced 2 0 ∷ []) = (omega arith, omega arith, (omega arith, omega (arith, one, a), (omega arith, omega (arith, two, b), tt))) in
    or_nothing _ _ (sym (taken_does (λ change. is_gone change x) buds synced (get_or synced 1 0) (get_or synced 2 0)) ∙ h (0 ∷ get_or synced 1 0 ∷ get_or synced 2 0 ∷ []) keeps)

-- ---- a group is put to a view
abbrev pub ShowsTree : Faced → Type 0
ShowsTree f = tree_of f.view.kept f.view.tree.highest ≡ f.view.tree

record HasPut (m : Store) (f g : Faced) (group : List Carried) : Type 0 where
  grown : HasGrown f g group
  copies : copies_of g.view.buds ≡ copies_of f.view.buds
  synced : get_or g.synced 0 0 ≡ get_or f.synced 0 0
  lists : g.lists ≡ f.lists
  shows : ShowsTree f
  base : get_or f.synced 1 0 ≤ length (groups_of_head 1 f.view.buds)
  data_nodes : get_or f.synced 2 0 ≤ length (groups_of_head 2 f.view.buds)

stays_lost : (m k : Store) (f g : Faced) (group : List Carried) (ino : ℕ) → HasPut m f g group → HasGone k g → StaysNameless f ino → StaysNameless g ino
stays_lost m k f g group ino p gone h = (
  ap (λ (t : Tree). is_nameless t ino) p.grown.tree ∙ h.0,
  none_sets g.view.buds g.synced ino (leaf_passes (λ ino. not (some_does (sets_inode ino) g.view.buds)) ino g.view.kept (subst (λ (kept : List Kept). is_nameless (tree_of kept f.view.tree.highest) ino ≡ true) (sym p.grown.kept) (subst (λ (t : Tree). is_nameless t ino ≡ true) (sym p.shows) h.0)) gone.unset),
)

nameless_put : (m k : Store) (f g : Faced) (group : List Carried) → HasPut m f g group → HasGone k g → (s : Option Change) → IsOfNameless f s → IsOfNameless g s
nameless_put m k f g group p gone (Some (SetInode ino inode)) h = stays_lost m k f g group ino p gone h
nameless_put m k f g group p gone (Some (SetBlock ino block bytes)) h = stays_lost m k f g group ino p gone h
nameless_put m k f g group p gone (Some (SetEntry entry)) h = absurd h
nameless_put m k f g group p gone (Some (DropEntry dir name)) h = absurd h
nameless_put m k f g group p gone (Some (CutBlocks ino old new)) h = absurd h
nameless_put m k f g group p gone (Some (DropInode ino)) h = absurd h
nameless_put m k f g group p gone None h = absurd h

left_put : (m k : Store) (f g : Faced) (group : List Carried) (x : Kept) → HasPut m f g group → HasGone k g → IsLeafLeft f x → IsLeafLeft g x
left_put m k f g group x p gone (inl copy) =
    let copied : ℕ → List Placed → Bool = λ n copies. list_any (λ c. (c.sqnum == x.sqnum) && shows_same (shown_by x) (shown c.node)) (take n copies) in
    inl (ap (λ (n : ℕ). copied n (copies_of g.view.buds)) p.synced ∙ ap (copied (get_or f.synced 0 0)) p.copies ∙ copy)
left_put m k f g group x p gone (inr (inl touched)) = inr (inl (synced_does (λ change. is_gone change x) g.view.buds g.synced (synced_grown f g group (λ change. is_gone change x) p.grown (touched_synced f.view.buds f.synced x p.base p.data_nodes touched))))
left_put m k f g group x p gone (inr (inr (of, lost))) = inr (inr (subst (λ (ls : List (List ℕ)). AreOfListed ls x) (sym p.lists) of, nameless_put m k f g group p gone (shown_by x) lost))

-- ---- a live leaf stays, or is held
put_keeps : (old : Kept → Bool) (new : Kept) (xs : List Kept) (x : Kept) → old x ≡ false → IsLeafOf xs x → IsLeafOf (put_leaf old new xs) x
put_keeps old new [] x e h = absurd h
put_keeps old new (y ∷ xs) x e h = by (λ more. put_keeps old new xs x e more) (old y) refl (nat_le (leaf_rank y.leaf) (leaf_rank new.leaf)) h
  where
    by : (IsLeafOf xs x → IsLeafOf (put_leaf old new xs) x) → (a : Bool) → old y ≡ a → (b : Bool) → (y ≡ x) ⊎ IsLeafOf xs x → IsLeafOf (cond a (new ∷ xs) (cond b (y ∷ put_leaf old new xs) (new ∷ y ∷ xs))) x
    by rest true f b (inl same) = absurd (false≢true (sym e ∙ sym (ap old same) ∙ f))
    by rest true f b (inr more) = inr more
    by rest false f true (inl same) = inl same
    by rest false f true (inr more) = inr (rest more)
    by rest false f false (inl same) = inr (inl same)
    by rest false f false (inr more) = inr (inr more)

abbrev IsHere : Held → Kept → Type 0
IsHere h x = IsLeafOf h.live x ⊎ IsLeafOf h.held x

change_keeps : (c : Carried) (h : Held) (x : Kept) → IsHere h x → IsHere (after_change h c) x
change_keeps c h x (inr held) = inr (leaf_first h.held _ x held)
change_keeps c h x (inl live) = by (is_idle h.live c.change) (is_set c.change) (is_gone c.change x) refl
  where
    by : (idle set b : Bool) → is_gone c.change x ≡ b
        → IsLeafOf (cond idle h.live (cond set (put_leaf (is_gone c.change) (kept_at c.placed) h.live) (filter (λ x. not (is_gone c.change x)) h.live))) x ⊎ IsLeafOf (h.held ++ cond idle [] (filter (is_gone c.change) h.live)) x
    by true set b e = inl live
    by false set true e = inr (leaf_last h.held (filter (is_gone c.change) h.live) x (filter_leaf (is_gone c.change) h.live x live e))
    by false true false e = inl (put_keeps (is_gone c.change) (kept_at c.placed) h.live x e live)
    by false false false e = inl (filter_leaf (λ x. not (is_gone c.change x)) h.live x live (ap not e))

group_keeps : (group : List Carried) (h : Held) (x : Kept) → IsHere h x → IsHere (fold after_change h group) x
group_keeps [] h x e = e
group_keeps (c ∷ group) h x e = group_keeps group (after_change h c) x (change_keeps c h x e)

-- ---- a part
moved_put : (f g : Faced) (x : Kept) (moving : Option Moving) → copies_of g.view.buds ≡ copies_of f.view.buds → IsMoved moving f x → IsMoved moving g x
moved_put f g x None same h = absurd h
moved_put f g x (Some moving) same h = (h.0, ap (λ (cs : List Placed). list_any (λ c. (c.sqnum == x.sqnum) && shows_same (shown_by x) (shown c.node)) cs) same ∙ h.1)

part_one : (m : Store) (part : Part) (f g : Faced) (x : Kept) → HasPut m f g part.group → HasGone (after_part m part) g → IsAccountedFor m f x → IsAccountedFor (after_part m part) g x
part_one m part f g x p gone h = by h
  where
    k : Store
    k = after_part m part

    here : IsHere (fold after_change (record { live = m.live; held = m.held }) part.group) x → IsAccountedFor k g x
    here (inl live) = inl live
    here (inr held) = inr (inl held)

    by : IsAccountedFor m f x → IsAccountedFor k g x
    by (inl live) = here (group_keeps part.group (record { live = m.live; held = m.held }) x (inl live))
    by (inr (inl held)) = here (group_keeps part.group (record { live = m.live; held = m.held }) x (inr held))
    by (inr (inr (inl moved))) = inr (inr (inl (moved_put f g x m.moving p.copies moved)))
    by (inr (inr (inr left))) = inr (inr (inr (left_put m k f g part.group x p gone left)))

-- what all of these ask of a store, and what they keep
pub record IsPutReady (m : Store) : Type 0 where
  pub proper : IsProper m.tree
  pub names : map (λ orphan. orphan.ino) m.orphans ≡ nameless m.tree
  pub apart : AreRolesApart m
  pub since : HasSince m m.next
  pub numbers : HasNumbers m
  pub shows : OfBoth m ShowsTree
  pub gone : OfBoth m (HasGone m)
  pub accounted : OfBoth m (AreAccountedFor m)
  pub whole : OfBoth m (AreWholeOrLeft m)

shows_next : (m k : Store) (change : List Bud → List Bud) (n : ℕ) (next : Option Next) → OfNext m next ShowsTree → OfNext k (option_map (in_next change n) next) ShowsTree
shows_next m k change n None h = tt
shows_next m k change n (Some next) h = h

low_rest : (s a b : ℕ) → s ≤ a → s - (a - b) ≤ b
low_rest s a b h = omega (arith, h)

part_ready : (m : Store) (part : Part) → IsLegalPart m part → IsPutReady m → IsPutReady (after_part m part)
part_ready m part is r = by (end_at m.ends part.head) refl is.fits
  where
    k : Store
    k = after_part m part

    gone : OfBoth k (HasGone k)
    gone = part_gone m part is r.proper r.names r.apart r.since r.gone

    lists : (next : Option Next) → next_lists (option_map (in_next (with_head_group part.head part.group) (length part.group)) next) ≡ next_lists next
    lists None = refl
    lists (Some next) = refl

    now : (at : At) → end_at m.ends part.head ≡ Some at → HasPut m (faced_now m) (faced_now k) part.group
    now at e = record {
      grown = grown_now m part at is r.apart e;
      copies = copies_put part.head part.group m.now.buds;
      synced = refl;
      lists = ap (λ (ls : List (List ℕ)). m.listed ∷ ls) (lists m.next);
      shows = r.shows.0;
      base = within_at m.synced (head_counts m.now.buds) 1 r.numbers.synced;
      data_nodes = within_at m.synced (head_counts m.now.buds) 2 r.numbers.synced;
    }

    later : (at : At) (next : Next) → end_at m.ends part.head ≡ Some at → IsSince m next.view → ShowsTree (faced_later m next) → HasPut m (faced_later m next) (faced_later k (in_next (with_head_group part.head part.group) (length part.group) next)) part.group
    later at next e since shows = record {
      grown = grown_later m part at next is r.apart since e;
      copies = copies_put part.head part.group next.view.buds;
      synced = zero_less m.synced _ _ _ ∙ ap (λ (cs : List Placed). get_or m.synced 0 0 - (length cs - length (copies_of (with_head_group part.head part.group next.view.buds)))) (copies_put part.head part.group m.now.buds)
          ∙ ap (λ (cs : List Placed). get_or m.synced 0 0 - (length (copies_of m.now.buds) - length cs)) (copies_put part.head part.group next.view.buds) ∙ sym (zero_less m.synced _ _ _);
      lists = refl;
      shows = shows;
      base = subst (λ (n : ℕ). n ≤ length (groups_of_head 1 next.view.buds)) (sym (one_less m.synced _ _ _)) (low_rest (get_or m.synced 1 0) (length (groups_of_head 1 m.now.buds)) (length (groups_of_head 1 next.view.buds)) (within_at m.synced (head_counts m.now.buds) 1 r.numbers.synced));
      data_nodes = subst (λ (n : ℕ). n ≤ length (groups_of_head 2 next.view.buds)) (sym (two_less m.synced _ _ _)) (low_rest (get_or m.synced 2 0) (length (groups_of_head 2 m.now.buds)) (length (groups_of_head 2 next.view.buds)) (within_at m.synced (head_counts m.now.buds) 2 r.numbers.synced));
    }

    stand : (o : Option At) → end_at m.ends part.head ≡ o → (x : Kept) → LeafStands m.lebs x → LeafStands k.lebs x
    stand o e x st = subst (λ (o : Option At). LeafStands (option_map_or (λ at. with_items at.lnum (map leaf (map (λ c. c.placed) part.group)) m.lebs) o m.lebs) x) (sym e) (of o)
      where
        of : (o : Option At) → LeafStands (option_map_or (λ at. with_items at.lnum (map leaf (map (λ c. c.placed) part.group)) m.lebs) o m.lebs) x
        of None = st
        of (Some at) = items_stand at.lnum (map leaf (map (λ c. c.placed) part.group)) m.lebs x st

    keeps : (f g : Faced) (n : ℕ) → map named_by_log g.view.buds ≡ map named_by_log f.view.buds → HasPut m f g part.group → HasGone k g → KeepsLeb m k f g n
    keeps f g n named p gone = record { named = named; stand = λ x at st. stand (end_at m.ends part.head) refl x st; left = λ x left. left_put m k f g part.group x p gone left }

    both : (at : At) → end_at m.ends part.head ≡ Some at → (next : Option Next) → HasSince m next → OfNext m next ShowsTree → OfNext k (option_map (in_next (with_head_group part.head part.group) (length part.group)) next) (HasGone k) → OfNext m next (AreAccountedFor m) → OfNext m next (AreWholeOrLeft m)
        → OfNext k (option_map (in_next (with_head_group part.head part.group) (length part.group)) next) (AreAccountedFor k) × OfNext k (option_map (in_next (with_head_group part.head part.group) (length part.group)) next) (AreWholeOrLeft k)
    both at e None since shows gone acc whole = (tt, tt)
    both at e (Some next) since shows gone acc whole =
        let after : Next = in_next (with_head_group part.head part.group) (length part.group) next in
        let p = later at next e since shows in (
          each_weaker (IsAccountedFor m (faced_later m next)) (IsAccountedFor k (faced_later k after)) (λ x h. part_one m part (faced_later m next) (faced_later k after) x p gone h) next.view.kept acc,
          λ n. keeps_either m k (faced_later m next) (faced_later k after) n next.view.kept (keeps (faced_later m next) (faced_later k after) n (named_put part.head part.group next.view.buds) p gone) (whole n),
        )

    by : (o : Option At) → end_at m.ends part.head ≡ o → FitHead m o (map (λ c. c.placed) part.group) → IsPutReady k
    by None e fits = absurd fits
    by (Some at) e fits =
        let next = both at e m.next r.since r.shows.1 gone.1 r.accounted.1 r.whole.1 in
        record {
          proper = is.keeps.proper;
          names = part_nameless m part;
          apart = part_apart m part is r.apart;
          since = part_since m part is r.apart r.since;
          numbers = part_numbers m part is.head is.numbers r.numbers;
          shows = (r.shows.0, shows_next m k (with_head_group part.head part.group) (length part.group) m.next r.shows.1);
          gone = gone;
          accounted = (each_weaker (IsAccountedFor m (faced_now m)) (IsAccountedFor k (faced_now k)) (λ x h. part_one m part (faced_now m) (faced_now k) x (now at e) gone.0 h) m.now.kept r.accounted.0, next.0);
          whole = (λ n. keeps_either m k (faced_now m) (faced_now k) n m.now.kept (keeps (faced_now m) (faced_now k) n (named_put part.head part.group m.now.buds) (now at e) gone.0) (r.whole.0 n), next.1);
        }

parts_ready : (parts : List Part) (m : Store) → AreLegalParts m parts → IsPutReady m → IsPutReady (fold after_part m parts)
parts_ready [] m are r = r
parts_ready (part ∷ parts) m are r = parts_ready parts (after_part m part) are.1 (part_ready m part are.0 r)

store_ready : (m : Store) → IsStore m → IsPutReady m
store_ready m s = record {
  proper = s.proper_now;
  names = s.nameless_are;
  apart = s.apart;
  since = s.since;
  numbers = s.numbers;
  shows = (s.views.committed.0.tree, by m.next s.views.committed.1);
  gone = s.gone;
  accounted = s.accounted;
  whole = s.whole_or_left;
}
  where
    by : (next : Option Next) → OfNext m next (λ f. HasCommittedView f.view) → OfNext m next ShowsTree
    by None h = tt
    by (Some next) h = h.tree

-- ---- a put
pub record HasKept (m : Store) : Type 0 where
  pub gone : OfBoth m (HasGone m)
  pub accounted : OfBoth m (AreAccountedFor m)
  pub whole : OfBoth m (AreWholeOrLeft m)

-- a matter of neither credits nor the index
as_kept : (m k : Store) → ((f : Faced) → HasGone m f → HasGone k f) → ((f : Faced) (x : Kept) → IsAccountedFor m f x → IsAccountedFor k f x) → ((f : Faced) (n : ℕ) → KeepsLeb m k f f n) → (next : Option Next) → ((next : Next) → faced_later k next ≡ faced_later m next)
    → OfNext m next (HasGone m) → OfNext m next (AreAccountedFor m) → OfNext m next (AreWholeOrLeft m) → OfNext k next (HasGone k) × OfNext k next (AreAccountedFor k) × OfNext k next (AreWholeOrLeft k)
as_kept m k gone acc whole None same g a w = (tt, tt, tt)
as_kept m k gone acc whole (Some next) same g a w = (
  subst (HasGone k) (sym (same next)) (gone (faced_later m next) g),
  subst (AreAccountedFor k) (sym (same next)) (each_weaker (IsAccountedFor m (faced_later m next)) (IsAccountedFor k (faced_later m next)) (λ x h. acc (faced_later m next) x h) next.view.kept a),
  subst (AreWholeOrLeft k) (sym (same next)) (λ n. keeps_either m k (faced_later m next) (faced_later m next) n next.view.kept (whole (faced_later m next) n) (w n)),
)

pub put_kept : (m : Store) (p : Putting) → AreLegalParts m p.parts → IsStore m → HasKept (put p m)
put_kept m p are s = by p.payment (parts_ready p.parts m are (store_ready m s))
  where
    end : Store
    end = fold after_part m p.parts

    by : (payment : Payment) → IsPutReady end → HasKept (record (paid payment end) { index = p.index })
    by credit r =
        let k : Store = record (paid credit end) { index = p.index } in
        let later = as_kept end k (λ f h. record { lost = h.lost; unset = h.unset; held = h.held; orphans = h.orphans }) (λ f x h. follows end k f f x (record { live = refl; held = refl; moved = λ h. h; left = λ h. h }) h) (λ f n. record { named = refl; stand = λ x at st. st; left = λ x h. h }) end.next (λ next. refl) r.gone.1 r.accounted.1 r.whole.1 in
        record {
          gone = (record { lost = r.gone.0.lost; unset = r.gone.0.unset; held = r.gone.0.held; orphans = r.gone.0.orphans }, later.0);
          accounted = (each_weaker (IsAccountedFor end (faced_now end)) (IsAccountedFor k (faced_now end)) (λ x h. follows end k (faced_now end) (faced_now end) x (record { live = refl; held = refl; moved = λ h. h; left = λ h. h }) h) end.now.kept r.accounted.0, later.1);
          whole = (λ n. keeps_either end k (faced_now end) (faced_now end) n end.now.kept (record { named = refl; stand = λ x at st. st; left = λ x h. h }) (r.whole.0 n), later.2);
        }
    by granted r =
        let k : Store = record (paid granted end) { index = p.index } in
        let later = as_kept end k (λ f h. record { lost = h.lost; unset = h.unset; held = h.held; orphans = h.orphans }) (λ f x h. follows end k f f x (record { live = refl; held = refl; moved = λ h. h; left = λ h. h }) h) (λ f n. record { named = refl; stand = λ x at st. st; left = λ x h. h }) end.next (λ next. refl) r.gone.1 r.accounted.1 r.whole.1 in
        record {
          gone = (record { lost = r.gone.0.lost; unset = r.gone.0.unset; held = r.gone.0.held; orphans = r.gone.0.orphans }, later.0);
          accounted = (each_weaker (IsAccountedFor end (faced_now end)) (IsAccountedFor k (faced_now end)) (λ x h. follows end k (faced_now end) (faced_now end) x (record { live = refl; held = refl; moved = λ h. h; left = λ h. h }) h) end.now.kept r.accounted.0, later.1);
          whole = (λ n. keeps_either end k (faced_now end) (faced_now end) n end.now.kept (record { named = refl; stand = λ x at st. st; left = λ x h. h }) (r.whole.0 n), later.2);
        }
