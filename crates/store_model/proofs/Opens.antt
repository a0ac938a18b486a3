-- A LEB that is opened changes no group of a head, and numbers that were given stay so.
use Rattle.std.proofs.Common.{◌≡◌, ℕ, ◌+◌, Bool, true, false, cond, List, [], ◌∷◌, ◌++◌, refl, sym, ap, subst, arith, Option, Some, None}
use Rattle.std.specs.Prelude.{nat_le, filter, ◌==◌, map}
use Rattle.std.specs.List.{flat_map, list_all}
use Rattle.std.specs.Ordering.{nat_cmp}
use Rattle.std.specs.Option.{option_map}
use Rattle.std.proofs.lemmas.Bool.{and_parts}
use Rattle.fs_model.specs.Proper.{ascends}
use Rattle.fs_model.specs.Recovery.{Numbered}
use Rattle.leaf_map.specs.Kept.{Kept}
use Rattle.store_model.specs.Events.{in_next, new_bud, open_leb}
use Rattle.store_model.specs.Heads.{copies_of, head_counts, groups_of_head, numbered_group}
use Rattle.store_model.specs.Invariant.{AreNumbered, HasNumbers, OfNext, are_given, are_other, are_within, head_numbers}
use Rattle.store_model.specs.Store.{Bud, Next, Store}

pub groups_open : (head h lnum : ℕ) (buds : List Bud) → groups_of_head head (buds ++ new_bud h lnum 0 ∷ []) ≡ groups_of_head head buds
groups_open head h lnum [] = by (h == head)
  where
    by : (b : Bool) → flat_map (λ bud. bud.groups) (cond b (new_bud h lnum 0 ∷ []) []) ≡ []
    by true = refl
    by false = refl
groups_open head h lnum (bud ∷ buds) = by (groups_open head h lnum buds) (bud.head == head)
  where
    by : groups_of_head head (buds ++ new_bud h lnum 0 ∷ []) ≡ groups_of_head head buds → (b : Bool)
        → flat_map (λ x. x.groups) (cond b (bud ∷ filter (λ x. x.head == head) (buds ++ new_bud h lnum 0 ∷ [])) (filter (λ x. x.head == head) (buds ++ new_bud h lnum 0 ∷ [])))
        ≡ flat_map (λ x. x.groups) (cond b (bud ∷ filter (λ x. x.head == head) buds) (filter (λ x. x.head == head) buds))
    by same true = ap (λ groups. bud.groups ++ groups) same
    by same false = same

pub copies_open : (h lnum : ℕ) (buds : List Bud) → copies_of (buds ++ new_bud h lnum 0 ∷ []) ≡ copies_of buds
copies_open h lnum [] = by (h == 0)
  where
    by : (b : Bool) → flat_map (λ bud. bud.copies) (cond b (new_bud h lnum 0 ∷ []) []) ≡ []
    by true = refl
    by false = refl
copies_open h lnum (bud ∷ buds) = by (copies_open h lnum buds) (bud.head == 0)
  where
    by : copies_of (buds ++ new_bud h lnum 0 ∷ []) ≡ copies_of buds → (b : Bool)
        → flat_map (λ x. x.copies) (cond b (bud ∷ filter (λ x. x.head == 0) (buds ++ new_bud h lnum 0 ∷ [])) (filter (λ x. x.head == 0) (buds ++ new_bud h lnum 0 ∷ [])))
        ≡ flat_map (λ x. x.copies) (cond b (bud ∷ filter (λ x. x.head == 0) buds) (filter (λ x. x.head == 0) buds))
    by same true = ap (λ copies. bud.copies ++ copies) same
    by same false = same

le_more : (n sqnum : ℕ) → nat_le n sqnum ≡ true → nat_le n (sqnum + 1) ≡ true
le_more n sqnum h = grind (arith)

all_more : (sqnum : ℕ) (changes : Numbered) → list_all (λ c. nat_le c.0 sqnum) changes ≡ true → list_all (λ c. nat_le c.0 (sqnum + 1)) changes ≡ true
all_more sqnum [] h = refl
all_more sqnum (c ∷ changes) h =
    let p = and_parts (nat_le c.0 sqnum) (list_all (λ c. nat_le c.0 sqnum) changes) h in
    rw (le_more c.0 sqnum p.0) (all_more sqnum changes p.1)

kept_more : (sqnum : ℕ) (kept : List Kept) → list_all (λ x. nat_le x.sqnum sqnum) kept ≡ true → list_all (λ x. nat_le x.sqnum (sqnum + 1)) kept ≡ true
kept_more sqnum [] h = refl
kept_more sqnum (x ∷ kept) h =
    let p = and_parts (nat_le x.sqnum sqnum) (list_all (λ x. nat_le x.sqnum sqnum) kept) h in
    rw (le_more x.sqnum sqnum p.0) (kept_more sqnum kept p.1)

given_more : (sqnum : ℕ) (changes : Numbered) → are_given sqnum changes ≡ true → are_given (sqnum + 1) changes ≡ true
given_more sqnum changes h =
    let p = and_parts (ascends nat_cmp (map (λ c. c.0) changes)) (list_all (λ c. nat_le c.0 sqnum) changes) h in
    rw p.0 (all_more sqnum changes p.1)

head_more : (sqnum head h lnum : ℕ) (buds : List Bud) → are_given sqnum (head_numbers buds head) ≡ true → are_given (sqnum + 1) (head_numbers (buds ++ new_bud h lnum 0 ∷ []) head) ≡ true
head_more sqnum head h lnum buds g =
    subst (λ groups. are_given (sqnum + 1) (flat_map numbered_group groups) ≡ true) (sym (groups_open head h lnum buds)) (given_more sqnum (head_numbers buds head) g)

apart_open : (h lnum : ℕ) (buds : List Bud) → are_other (head_numbers buds 1) (head_numbers buds 2) ≡ true
    → are_other (head_numbers (buds ++ new_bud h lnum 0 ∷ []) 1) (head_numbers (buds ++ new_bud h lnum 0 ∷ []) 2) ≡ true
apart_open h lnum buds apart = rw (groups_open 1 h lnum buds, groups_open 2 h lnum buds) apart

next_more : (m : Store) (h lnum : ℕ) (next : Option Next) → OfNext m next (AreNumbered m)
    → OfNext (open_leb h lnum m) (option_map (in_next (λ buds. buds ++ new_bud h lnum 0 ∷ []) 0) next) (AreNumbered (open_leb h lnum m))
next_more m h lnum None n = n
next_more m h lnum (Some next) n = record {
  base = head_more m.sqnum 1 h lnum next.view.buds n.base;
  data_nodes = head_more m.sqnum 2 h lnum next.view.buds n.data_nodes;
  apart = apart_open h lnum next.view.buds n.apart;
  kept = kept_more m.sqnum next.view.kept n.kept;
}

pub counts_open : (h lnum : ℕ) (buds : List Bud) → head_counts (buds ++ new_bud h lnum 0 ∷ []) ≡ head_counts buds
counts_open h lnum buds = rw (copies_open h lnum buds, groups_open 1 h lnum buds, groups_open 2 h lnum buds) refl

-- what is opened has no group yet, and its reference has the next number
pub opened_numbers : (m : Store) (h lnum : ℕ) → HasNumbers m → HasNumbers (open_leb h lnum m)
opened_numbers m h lnum n = record {
  both = (
    record {
      base = head_more m.sqnum 1 h lnum m.now.buds n.both.0.base;
      data_nodes = head_more m.sqnum 2 h lnum m.now.buds n.both.0.data_nodes;
      apart = apart_open h lnum m.now.buds n.both.0.apart;
      kept = kept_more m.sqnum m.now.kept n.both.0.kept;
    },
    next_more m h lnum m.next n.both.1,
  );
  live = kept_more m.sqnum m.live n.live;
  synced = subst (λ counts. are_within m.synced counts ≡ true) (sym (counts_open h lnum m.now.buds)) n.synced;
}
