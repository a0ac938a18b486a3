-- What came since a running commit began, after a commit's own events and those of a collection.
use Rattle.std.proofs.Common.{◌≡◌, ◌<◌, ◌≤◌, ◌+◌, ◌∙◌, ℕ, suc, arith, Bool, true, false, cond, List, [], ◌∷◌, ◌++◌, length, refl, sym, ap, subst, append_assoc, append-nil, Option, Some, None}
use Rattle.std.specs.Prelude.{◌==◌, ◌||◌, filter, get_or}
use Rattle.std.specs.List.{flat_map}
use Rattle.std.specs.Option.{option_map, option_or}
use Rattle.std.proofs.lemmas.Bool.{eq-eqb, eqb-true, false≢true}
use Rattle.leaf_map.specs.Kept.{Placed}
use Rattle.store_model.specs.Events.{begin, Copying, end_at, end_commit, free_victim, in_next, move, moved_on, new_bud, nodes_len, offer, offered, open_buds, start, write_index}
use Rattle.store_model.specs.Heads.{copies_of, groups_of_head, has_bud, with_copy}
use Rattle.store_model.specs.Invariant.{AreRolesApart, AreAtBuds, CameSince, HasSince, IsSince, last_bud}
use Rattle.store_model.specs.Legal.{CanMove, CanStart, FitHead}
use Rattle.store_model.specs.Store.{At, Bud, Moving, Next, Store, View}
use Rattle.store_model.proofs.BackingPuts.{has_last}
use Rattle.store_model.proofs.BackingStarts.{no_groups}
use Rattle.store_model.proofs.EventNumbers.{groups_copied}
use Rattle.store_model.proofs.LebMoves.{last_copied}
use Rattle.store_model.proofs.LebPuts.{end_bud, ends_go_on}
use Rattle.store_model.proofs.Since.{as_since, more_since, same_since}
use Rattle.store_model.proofs.Sorting.{or_false}

-- ---- events that put nothing
pub begin_since : (m : Store) (victim : ℕ) → HasSince m m.next → HasSince (begin victim m) (begin victim m).next
begin_since m victim s = as_since m (begin victim m) m.next refl refl refl s

pub free_since : (m : Store) (moving : Option Moving) → HasSince m m.next → HasSince (free_victim m moving) (free_victim m moving).next
free_since m None s = s
free_since m (Some moving) s = as_since m (free_victim m (Some moving)) m.next refl refl refl s

as_view : (m k : Store) (v w : View) → k.now ≡ m.now → k.synced ≡ m.synced → k.ends ≡ m.ends → w.buds ≡ v.buds → IsSince m v → IsSince k w
as_view m k v w now synced ends buds s = record {
  copies = rw (now, synced, buds) s.copies;
  base = rw (now, synced, buds) s.base;
  data_nodes = rw (now, synced, buds) s.data_nodes;
  ends = rw (ends, buds) s.ends;
}

pub write_since : (m : Store) (next : Option Next) → m.next ≡ next → HasSince m m.next → HasSince (write_index m next) (write_index m next).next
write_since m None e s = s
write_since m (Some next) e s = as_view m (write_index m (Some next)) next.view next.view refl refl refl refl (subst (λ (o : Option Next). HasSince m o) e s)

pub offer_since : (m : Store) → HasSince m m.next → HasSince (offer m) (offer m).next
offer_since m s = by m.next s
  where
    by : (next : Option Next) → HasSince m next → HasSince (offer m) (option_map offered next)
    by None s = tt
    by (Some next) s = as_view m (offer m) next.view next.view refl refl refl refl s

pub end_since : (m : Store) (next : Option Next) → HasSince m m.next → HasSince (end_commit m next) (end_commit m next).next
end_since m None s = s
end_since m (Some next) s = tt

-- ---- a commit starts
-- each open head stands in its bud of the new section
no_bud : (ends : List (Option At)) (k h : ℕ) → h < k → last_bud (open_buds k ends) h ≡ None
no_bud [] k h low = refl
no_bud (None ∷ ends) k h low = no_bud ends (suc k) h (omega (arith, low))
no_bud (Some at ∷ ends) k h low = rw (no_bud ends (suc k) h (omega (arith, low)), other (k == h) refl) refl
  where
    other : (b : Bool) → (k == h) ≡ b → b ≡ false
    other true e = let is = eqb-true k h e in absurd (omega (arith, is, low))
    other false e = refl

open_at : (all : List Bud) (k j : ℕ) (ends : List (Option At)) → j ≡ k → ((h : ℕ) → k ≤ h → last_bud all h ≡ last_bud (open_buds k ends) h) → AreAtBuds all j ends
open_at all k j [] e same = tt
open_at all k j (None ∷ ends) e same = open_at all (suc k) (j + 1) ends (omega (arith, e)) (λ h low. same h (omega (arith, low)))
open_at all k j (Some at ∷ ends) e same = (
  ap (last_bud all) e ∙ same k (omega arith) ∙ first,
  open_at all (suc k) (j + 1) ends (omega (arith, e)) (λ h low. same h (omega (arith, low)) ∙ later h low),
)
  where
    first : last_bud (open_buds k (Some at ∷ ends)) k ≡ Some at.lnum
    first = rw (no_bud ends (suc k) k (omega arith), self) refl
      where
        self : (k == k) ≡ true
        self = eq-eqb k k refl

    later : (h : ℕ) → suc k ≤ h → last_bud (open_buds k (Some at ∷ ends)) h ≡ last_bud (open_buds (suc k) ends) h
    later h low = by (k == h) refl (last_bud (open_buds (suc k) ends) h)
      where
        by : (b : Bool) → (k == h) ≡ b → (o : Option ℕ) → option_or o (cond b (Some at.lnum) None) ≡ o
        by true e o = let is = eqb-true k h e in absurd (omega (arith, is, low))
        by false e (Some n) = refl
        by false e None = refl

-- nothing was put to them
pub no_copies : (k : ℕ) (ends : List (Option At)) → copies_of (open_buds k ends) ≡ []
no_copies k [] = refl
no_copies k (None ∷ ends) = no_copies (suc k) ends
no_copies k (Some at ∷ ends) = by (k == 0) (no_copies (suc k) ends)
  where
    by : (b : Bool) → copies_of (open_buds (suc k) ends) ≡ [] → flat_map (λ bud. bud.copies) (cond b (new_bud k at.lnum at.offs ∷ filter (λ bud. bud.head == 0) (open_buds (suc k) ends)) (filter (λ bud. bud.head == 0) (open_buds (suc k) ends))) ≡ []
    by true e = e
    by false e = e

all_before : {X : Type 0} (all last : List X) (n : ℕ) → last ≡ [] → n ≡ length all → CameSince all last n
all_before all last n none synced = record { before = all; is = sym (append-nil all) ∙ ap (λ z. all ++ z) (sym none); all_synced = omega (arith, synced) }

pub start_since : (m : Store) (taken : List ℕ) → CanStart m taken → HasSince (start taken m) (start taken m).next
start_since m taken can = record {
  copies = all_before (copies_of m.now.buds) (copies_of (open_buds 0 m.ends)) (get_or m.synced 0 0) (no_copies 0 m.ends) (ap (λ counts. get_or counts 0 0) can.synced.counts);
  base = all_before (groups_of_head 1 m.now.buds) (groups_of_head 1 (open_buds 0 m.ends)) (get_or m.synced 1 0) (no_groups 1 0 m.ends) (ap (λ counts. get_or counts 1 0) can.synced.counts);
  data_nodes = all_before (groups_of_head 2 m.now.buds) (groups_of_head 2 (open_buds 0 m.ends)) (get_or m.synced 2 0) (no_groups 2 0 m.ends) (ap (λ counts. get_or counts 2 0) can.synced.counts);
  ends = open_at (open_buds 0 m.ends) 0 0 m.ends refl (λ h low. refl);
}

-- ---- a copy
none_copied : (buds : List Bud) → has_bud 0 buds ≡ false → copies_of buds ≡ []
none_copied [] h = refl
none_copied (bud ∷ buds) h = let p = or_false (bud.head == 0) (has_bud 0 buds) h in rw p.0 (none_copied buds p.1)

pub copies_added : (copy : Placed) (buds : List Bud) → has_bud 0 buds ≡ true → copies_of (with_copy copy buds) ≡ copies_of buds ++ copy ∷ []
copies_added copy [] has = absurd (false≢true has)
copies_added copy (bud ∷ buds) has = by (copies_added copy buds) (has_bud 0 buds) refl (bud.head == 0) refl has
  where
    by : (has_bud 0 buds ≡ true → copies_of (with_copy copy buds) ≡ copies_of buds ++ copy ∷ []) → (o : Bool) → has_bud 0 buds ≡ o → (h : Bool) → (bud.head == 0) ≡ h → (h || o) ≡ true
        → copies_of (with_copy copy (bud ∷ buds)) ≡ copies_of (bud ∷ buds) ++ copy ∷ []
    by rest true o true h any = rw (o, h, h) (ap (λ cs. bud.copies ++ cs) (rest o) ∙ sym (append_assoc bud.copies (copies_of buds) (copy ∷ [])))
    by rest true o false h any = rw (o, h, h) (rest o)
    by rest false o true h any =
        let none = none_copied buds o in
        rw (h, o, h) (ap (λ cs. (bud.copies ++ copy ∷ []) ++ cs) none ∙ append-nil (bud.copies ++ copy ∷ []) ∙ sym (ap (λ cs. (bud.copies ++ cs) ++ copy ∷ []) none ∙ ap (λ cs. cs ++ copy ∷ []) (append-nil bud.copies)))
    by rest false o false h any = absurd (false≢true any)

moved_view : (m : Store) (c : Copying) (view : View) (at : At) → end_at m.ends 0 ≡ Some at → AreRolesApart m → IsSince m view → IsSince (move c m) (record view { buds = with_copy c.copy view.buds; put = view.put + 0 })
moved_view m c view at e a s =
    let old = has_last m.now.buds 0 at.lnum (end_bud m.now.buds 0 0 0 m.ends at (omega arith) a.ends e) in
    let new = has_last view.buds 0 at.lnum (end_bud view.buds 0 0 0 m.ends at (omega arith) s.ends e) in
    record {
      copies = more_since (copies_of (with_copy c.copy m.now.buds)) (copies_of (with_copy c.copy view.buds)) (copies_of m.now.buds) (copies_of view.buds) c.copy (get_or m.synced 0 0)
          (copies_added c.copy m.now.buds old) (copies_added c.copy view.buds new) s.copies;
      base = same_since (groups_of_head 1 (with_copy c.copy m.now.buds)) (groups_of_head 1 (with_copy c.copy view.buds)) (groups_of_head 1 m.now.buds) (groups_of_head 1 view.buds) (get_or m.synced 1 0)
          (groups_copied 1 c.copy m.now.buds) (groups_copied 1 c.copy view.buds) s.base;
      data_nodes = same_since (groups_of_head 2 (with_copy c.copy m.now.buds)) (groups_of_head 2 (with_copy c.copy view.buds)) (groups_of_head 2 m.now.buds) (groups_of_head 2 view.buds) (get_or m.synced 2 0)
          (groups_copied 2 c.copy m.now.buds) (groups_copied 2 c.copy view.buds) s.data_nodes;
      ends = ends_go_on view.buds (with_copy c.copy view.buds) 0 0 (moved_on m.geo (nodes_len (c.copy ∷ []))) m.ends (λ n. last_copied n c view.buds) (λ at. refl) s.ends;
    }

pub move_since : (m : Store) (c : Copying) → CanMove m c → AreRolesApart m → HasSince m m.next → HasSince (move c m) (move c m).next
move_since m c can a s = by (end_at m.ends 0) refl can.fits
  where
    of : (at : At) → end_at m.ends 0 ≡ Some at → (next : Option Next) → HasSince m next → HasSince (move c m) (option_map (in_next (with_copy c.copy) 0) next)
    of at e None s = tt
    of at e (Some next) s = moved_view m c next.view at e a s

    by : (o : Option At) → end_at m.ends 0 ≡ o → FitHead m o (c.copy ∷ []) → HasSince (move c m) (move c m).next
    by None e fits = absurd fits
    by (Some at) e fits = of at e m.next s
