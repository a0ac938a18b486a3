-- What was committed stays whole, and what is put carries its changes.
use Rattle.std.proofs.Common.{◌≡◌, ℕ, Bool, true, false, List, [], ◌∷◌, ◌++◌, length, refl, sym, subst, Option, Some, None}
use Rattle.std.specs.Prelude.{not, ◌==◌, ◌&&◌, fold}
use Rattle.std.specs.List.{AllByRecursion, flat_map}
use Rattle.std.specs.Option.{option_map}
use Rattle.media_leaf.specs.LeafNode.{IsLeaf}
use Rattle.store_model.specs.Events.{after_part, credit, granted, in_next, new_bud, open_leb, paid, Part, Payment, Putting, with_buds}
use Rattle.store_model.specs.Heads.{copies_of, has_bud, with_head_group}
use Rattle.store_model.specs.Invariant.{AreChangesCarried, HasCommittedView, HasViews, IsCopyOf, OfNext, all_carried}
use Rattle.store_model.specs.Legal.{AreLegalParts, IsCarried}
use Rattle.store_model.specs.Store.{Bud, Carried, Next, Store, View}
use Rattle.store_model.proofs.Opens.{copies_open}
use Rattle.store_model.proofs.PutGroups.{copies_put}
use Rattle.store_model.proofs.ReadNodes.{both_join, both_parts}

-- a change of the buds
abbrev KeepsCopies : (List Bud → List Bud) → Type 0
KeepsCopies change = (buds : List Bud) → copies_of (change buds) ≡ copies_of buds

committed_with : (change : List Bud → List Bud) (n : ℕ) (view : View) → KeepsCopies change → HasCommittedView view → HasCommittedView (with_buds change n view)
committed_with change n view keeps has = record {
  leaves = has.leaves;
  distinct = has.distinct;
  tree = has.tree;
  inodes = has.inodes;
  highest = has.highest;
  copies = subst (AllByRecursion (λ d. IsLeaf d.node × IsCopyOf view.kept d)) (sym (keeps view.buds)) has.copies;
}

abbrev KeepsCarried : (List Bud → List Bud) → Type 0
KeepsCarried change = (buds : List Bud) → AllByRecursion IsCarried (all_carried buds) → AllByRecursion IsCarried (all_carried (change buds))

next_committed : (change : List Bud → List Bud) (n : ℕ) (m k : Store) (next : Option Next) → KeepsCopies change → OfNext m next (λ f. HasCommittedView f.view)
    → OfNext k (option_map (in_next change n) next) (λ f. HasCommittedView f.view)
next_committed change n m k None keeps has = tt
next_committed change n m k (Some next) keeps has = committed_with change n next.view keeps has

next_carried : (change : List Bud → List Bud) (n : ℕ) (m k : Store) (next : Option Next) → KeepsCarried change → OfNext m next (λ f. AreChangesCarried f.view)
    → OfNext k (option_map (in_next change n) next) (λ f. AreChangesCarried f.view)
next_carried change n m k None keeps are = tt
next_carried change n m k (Some next) keeps are = keeps next.view.buds are

-- a group stands last at a head
group_last : (groups : List (List Carried)) (group : List Carried) → AllByRecursion IsCarried (flat_map (λ g. g) groups) → AllByRecursion IsCarried group
    → AllByRecursion IsCarried (flat_map (λ g. g) (groups ++ group ∷ []))
group_last [] group h g = both_join IsCarried group [] g tt
group_last (first ∷ groups) group h g =
    let p = both_parts IsCarried first (flat_map (λ g. g) groups) h in
    both_join IsCarried first (flat_map (λ g. g) (groups ++ group ∷ [])) p.0 (group_last groups group p.1 g)

put_carried : (head : ℕ) (group : List Carried) → AllByRecursion IsCarried group → KeepsCarried (with_head_group head group)
put_carried head group g [] h = tt
put_carried head group g (bud ∷ buds) h = let p = both_parts IsCarried (flat_map (λ g. g) bud.groups) (all_carried buds) h in by (put_carried head group g buds p.1) p.0 p.1 ((bud.head == head) && not (has_bud head buds)) refl
  where
    by : AllByRecursion IsCarried (all_carried (with_head_group head group buds)) → AllByRecursion IsCarried (flat_map (λ g. g) bud.groups) → AllByRecursion IsCarried (all_carried buds) → (last : Bool) → ((bud.head == head) && not (has_bud head buds)) ≡ last
        → AllByRecursion IsCarried (all_carried (with_head_group head group (bud ∷ buds)))
    by rest these those true l = rw l (both_join IsCarried (flat_map (λ g. g) (bud.groups ++ group ∷ [])) (all_carried buds) (group_last bud.groups group these g) those)
    by rest these those false l = rw l (both_join IsCarried (flat_map (λ g. g) bud.groups) (all_carried (with_head_group head group buds)) these rest)

open_carried : (head lnum : ℕ) → KeepsCarried (λ buds. buds ++ new_bud head lnum 0 ∷ [])
open_carried head lnum [] h = tt
open_carried head lnum (bud ∷ buds) h =
    let p = both_parts IsCarried (flat_map (λ g. g) bud.groups) (all_carried buds) h in
    both_join IsCarried (flat_map (λ g. g) bud.groups) (all_carried (buds ++ new_bud head lnum 0 ∷ [])) p.0 (open_carried head lnum buds p.1)

-- ---- the events
part_views : (m : Store) (part : Part) → AllByRecursion IsCarried part.group → HasViews m → HasViews (after_part m part)
part_views m part carried v =
    let change : List Bud → List Bud = with_head_group part.head part.group in
    let n : ℕ = length part.group in
    record {
      committed = (
        committed_with change n m.now (copies_put part.head part.group) v.committed.0,
        next_committed change n m (after_part m part) m.next (copies_put part.head part.group) v.committed.1,
      );
      carried = (
        put_carried part.head part.group carried m.now.buds v.carried.0,
        next_carried change n m (after_part m part) m.next (put_carried part.head part.group carried) v.carried.1,
      );
    }

parts_views : (parts : List Part) (m : Store) → AreLegalParts m parts → HasViews m → HasViews (fold after_part m parts)
parts_views [] m are v = v
parts_views (part ∷ parts) m are v = parts_views parts (after_part m part) are.1 (part_views m part are.0.carried v)

-- a matter of the views alone
pub next_same : (P : View → Type 0) (m k : Store) (next : Option Next) → OfNext m next (λ f. P f.view) → OfNext k next (λ f. P f.view)
next_same P m k None h = tt
next_same P m k (Some next) h = h

pub same_views : (m k : Store) → k.now ≡ m.now → k.next ≡ m.next → HasViews m → HasViews k
same_views m k now next v = record {
  committed = (rw now v.committed.0, subst (λ (o : Option Next). OfNext k o (λ f. HasCommittedView f.view)) (sym next) (next_same HasCommittedView m k m.next v.committed.1));
  carried = (rw now v.carried.0, subst (λ (o : Option Next). OfNext k o (λ f. AreChangesCarried f.view)) (sym next) (next_same AreChangesCarried m k m.next v.carried.1));
}

pub put_views : (p : Putting) (m : Store) → AreLegalParts m p.parts → HasViews m → HasViews (record (paid p.payment (fold after_part m p.parts)) { index = p.index })
put_views p m are v = by p.payment (parts_views p.parts m are v)
  where
    end : Store
    end = fold after_part m p.parts

    by : (payment : Payment) → HasViews end → HasViews (record (paid payment end) { index = p.index })
    by credit v = same_views end (record (paid credit end) { index = p.index }) refl refl v
    by granted v = same_views end (record (paid granted end) { index = p.index }) refl refl v

pub open_views : (m : Store) (head lnum : ℕ) → HasViews m → HasViews (open_leb head lnum m)
open_views m head lnum v =
    let change : List Bud → List Bud = λ buds. buds ++ new_bud head lnum 0 ∷ [] in
    record {
      committed = (
        committed_with change 0 m.now (copies_open head lnum) v.committed.0,
        next_committed change 0 m (open_leb head lnum m) m.next (copies_open head lnum) v.committed.1,
      );
      carried = (
        open_carried head lnum m.now.buds v.carried.0,
        next_carried change 0 m (open_leb head lnum m) m.next (open_carried head lnum) v.carried.1,
      );
    }
