-- What came since a running commit began, after a put, a LEB that is opened, a sync and a drop.
use Rattle.std.proofs.Common.{◌≡◌, ℕ, ◌+◌, arith, Bool, true, false, List, [], ◌∷◌, ◌++◌, length, map, refl, sym, ap, subst, ◌∙◌, append_assoc, length-append, Option, Some, None}
use Rattle.std.specs.Prelude.{◌==◌, fold, get_or}
use Rattle.std.specs.Option.{option_map}
use Rattle.std.proofs.lemmas.Bool.{eqb-true}
use Rattle.store_model.specs.Events.{after_part, credit, drop_inode, end_at, granted, in_next, moved_on, new_bud, nodes_len, open_leb, paid, Part, Payment, put, Putting, sync}
use Rattle.store_model.specs.Heads.{copies_of, groups_of_head, has_bud, with_head_group}
use Rattle.store_model.specs.Invariant.{AreRolesApart, CameSince, HasSince, IsSince}
use Rattle.store_model.specs.Legal.{AreLegalParts, FitHead, IsLegalPart}
use Rattle.store_model.specs.Store.{At, Bud, Carried, StoreIndex, Next, Store, View}
use Rattle.store_model.proofs.Apart.{groups_other}
use Rattle.store_model.proofs.BackingPuts.{groups_added, has_last}
use Rattle.store_model.proofs.LebFrees.{filled_ends}
use Rattle.store_model.proofs.LebOpens.{open_ends}
use Rattle.store_model.proofs.LebPuts.{end_bud, ends_go_on, last_put, part_apart}
use Rattle.store_model.proofs.Opens.{copies_open, groups_open}
use Rattle.store_model.proofs.PutGroups.{copies_put}

-- both lists as they are said otherwise
pub same_since : {X : Type 0} (a b all last : List X) (n : ℕ) → a ≡ all → b ≡ last → CameSince all last n → CameSince a b n
same_since a b all last n e f c = record { before = c.before; is = e ∙ c.is ∙ ap (λ z. c.before ++ z) (sym f); all_synced = c.all_synced }

pub more_since : {X : Type 0} (a b all last : List X) (x : X) (n : ℕ) → a ≡ all ++ x ∷ [] → b ≡ last ++ x ∷ [] → CameSince all last n → CameSince a b n
more_since a b all last x n e f c = record {
  before = c.before;
  is = e ∙ ap (λ z. z ++ x ∷ []) c.is ∙ append_assoc c.before last (x ∷ []) ∙ ap (λ z. c.before ++ z) (sym f);
  all_synced = c.all_synced;
}

-- ---- a put
head_since : (head h : ℕ) (group : List Carried) (old new : List Bud) (n : ℕ) → has_bud h old ≡ true → has_bud h new ≡ true → CameSince (groups_of_head head old) (groups_of_head head new) n
    → CameSince (groups_of_head head (with_head_group h group old)) (groups_of_head head (with_head_group h group new)) n
head_since head h group old new n in_old in_new c = by (h == head) refl
  where
    by : (b : Bool) → (h == head) ≡ b → CameSince (groups_of_head head (with_head_group h group old)) (groups_of_head head (with_head_group h group new)) n
    by true e =
        let is = eqb-true h head e in
        let first = subst (λ (k : ℕ). groups_of_head k (with_head_group h group old) ≡ groups_of_head k old ++ group ∷ []) is (groups_added h group old in_old) in
        let second = subst (λ (k : ℕ). groups_of_head k (with_head_group h group new) ≡ groups_of_head k new ++ group ∷ []) is (groups_added h group new in_new) in
        more_since (groups_of_head head (with_head_group h group old)) (groups_of_head head (with_head_group h group new)) (groups_of_head head old) (groups_of_head head new) group n first second c
    by false e =
        same_since (groups_of_head head (with_head_group h group old)) (groups_of_head head (with_head_group h group new)) (groups_of_head head old) (groups_of_head head new) n
        (groups_other head h group old e) (groups_other head h group new e) c

view_since : (m : Store) (part : Part) (view : View) (at : At) → end_at m.ends part.head ≡ Some at → AreRolesApart m → IsSince m view
    → IsSince (after_part m part) (record view { buds = with_head_group part.head part.group view.buds; put = view.put + length part.group })
view_since m part view at e a s =
    let old = has_last m.now.buds part.head at.lnum (end_bud m.now.buds 0 part.head part.head m.ends at (omega arith) a.ends e) in
    let new = has_last view.buds part.head at.lnum (end_bud view.buds 0 part.head part.head m.ends at (omega arith) s.ends e) in
    record {
      copies = same_since (copies_of (with_head_group part.head part.group m.now.buds)) (copies_of (with_head_group part.head part.group view.buds)) (copies_of m.now.buds) (copies_of view.buds) (get_or m.synced 0 0)
          (copies_put part.head part.group m.now.buds) (copies_put part.head part.group view.buds) s.copies;
      base = head_since 1 part.head part.group m.now.buds view.buds (get_or m.synced 1 0) old new s.base;
      data_nodes = head_since 2 part.head part.group m.now.buds view.buds (get_or m.synced 2 0) old new s.data_nodes;
      ends = ends_go_on view.buds (with_head_group part.head part.group view.buds) 0 part.head (moved_on m.geo (nodes_len (map (λ c. c.placed) part.group))) m.ends (λ n. last_put n part.head part.group view.buds) (λ at. refl) s.ends;
    }

next_since : (m : Store) (part : Part) (at : At) (next : Option Next) → end_at m.ends part.head ≡ Some at → AreRolesApart m → HasSince m next
    → HasSince (after_part m part) (option_map (in_next (with_head_group part.head part.group) (length part.group)) next)
next_since m part at None e a s = tt
next_since m part at (Some next) e a s = view_since m part next.view at e a s

pub part_since : (m : Store) (part : Part) → IsLegalPart m part → AreRolesApart m → HasSince m m.next → HasSince (after_part m part) (after_part m part).next
part_since m part is a s = by (end_at m.ends part.head) refl is.fits
  where
    by : (o : Option At) → end_at m.ends part.head ≡ o → FitHead m o (map (λ c. c.placed) part.group) → HasSince (after_part m part) (after_part m part).next
    by None e fits = absurd fits
    by (Some at) e fits = next_since m part at m.next e a s

parts_since : (parts : List Part) (m : Store) → AreLegalParts m parts → AreRolesApart m → HasSince m m.next → HasSince (fold after_part m parts) (fold after_part m parts).next
parts_since [] m are a s = s
parts_since (part ∷ parts) m are a s = parts_since parts (after_part m part) are.1 (part_apart m part are.0 a) (part_since m part are.0 a s)

-- a matter of what was put, of what is synced and of the heads alone
pub as_since : (m k : Store) (next : Option Next) → k.now ≡ m.now → k.synced ≡ m.synced → k.ends ≡ m.ends → HasSince m next → HasSince k next
as_since m k None now synced ends s = tt
as_since m k (Some next) now synced ends s = record {
  copies = rw (now, synced) s.copies;
  base = rw (now, synced) s.base;
  data_nodes = rw (now, synced) s.data_nodes;
  ends = rw ends s.ends;
}

pub put_since : (m : Store) (p : Putting) → AreLegalParts m p.parts → AreRolesApart m → HasSince m m.next → HasSince (put p m) (put p m).next
put_since m p are a s = by p.payment (parts_since p.parts m are a s)
  where
    end : Store
    end = fold after_part m p.parts

    by : (payment : Payment) → HasSince end end.next → HasSince (record (paid payment end) { index = p.index }) (record (paid payment end) { index = p.index }).next
    by credit s = as_since end (record (paid credit end) { index = p.index }) end.next refl refl refl s
    by granted s = as_since end (record (paid granted end) { index = p.index }) end.next refl refl refl s

-- ---- a LEB that is opened
opened_since : (m : Store) (head lnum : ℕ) (next : Option Next) → HasSince m next → HasSince (open_leb head lnum m) (option_map (in_next (λ buds. buds ++ new_bud head lnum 0 ∷ []) 0) next)
opened_since m head lnum None s = tt
opened_since m head lnum (Some next) s =
    let old : List Bud = m.now.buds in
    let new : List Bud = next.view.buds in
    let more : List Bud → List Bud = λ buds. buds ++ new_bud head lnum 0 ∷ [] in
    record {
      copies = same_since (copies_of (more old)) (copies_of (more new)) (copies_of old) (copies_of new) (get_or m.synced 0 0) (copies_open head lnum old) (copies_open head lnum new) s.copies;
      base = same_since (groups_of_head 1 (more old)) (groups_of_head 1 (more new)) (groups_of_head 1 old) (groups_of_head 1 new) (get_or m.synced 1 0) (groups_open 1 head lnum old) (groups_open 1 head lnum new) s.base;
      data_nodes = same_since (groups_of_head 2 (more old)) (groups_of_head 2 (more new)) (groups_of_head 2 old) (groups_of_head 2 new) (get_or m.synced 2 0) (groups_open 2 head lnum old) (groups_open 2 head lnum new) s.data_nodes;
      ends = open_ends head lnum 0 head (record { lnum = lnum; offs = 0; written = 0 }) new m.ends (omega arith) refl s.ends;
    }

pub open_since : (m : Store) (head lnum : ℕ) → HasSince m m.next → HasSince (open_leb head lnum m) (open_leb head lnum m).next
open_since m head lnum s = opened_since m head lnum m.next s

-- ---- a sync
all_since : {X : Type 0} (all last : List X) (n : ℕ) → CameSince all last n → CameSince all last (length all)
all_since all last n c =
    let long = ap length c.is ∙ length-append c.before last in
    record { before = c.before; is = c.is; all_synced = omega (arith, long) }

synced_since : (m : Store) (next : Option Next) → HasSince m next → HasSince (sync m) next
synced_since m None s = tt
synced_since m (Some next) s = record {
  copies = all_since (copies_of m.now.buds) (copies_of next.view.buds) (get_or m.synced 0 0) s.copies;
  base = all_since (groups_of_head 1 m.now.buds) (groups_of_head 1 next.view.buds) (get_or m.synced 1 0) s.base;
  data_nodes = all_since (groups_of_head 2 m.now.buds) (groups_of_head 2 next.view.buds) (get_or m.synced 2 0) s.data_nodes;
  ends = filled_ends m.geo next.view.buds 0 m.ends s.ends;
}

pub sync_since : (m : Store) → HasSince m m.next → HasSince (sync m) (sync m).next
sync_since m s = synced_since m m.next s

pub drop_since : (m : Store) (ino : ℕ) (index : StoreIndex) → HasSince m m.next → HasSince (drop_inode ino index m) (drop_inode ino index m).next
drop_since m ino index s = as_since m (drop_inode ino index m) m.next refl refl refl s
