-- A put keeps the numbers: its groups stand last at their heads, or a head without a bud gets none.
use Rattle.std.proofs.Common.{◌≡◌, ℕ, ◌+◌, ◌⊎◌, true, List, [], ◌∷◌, length, refl, sym, subst, arith, inl, inr, Option, Some, None}
use Rattle.std.specs.Prelude.{nat_le, fold}
use Rattle.std.specs.List.{flat_map, list_all}
use Rattle.std.specs.Option.{option_map}
use Rattle.std.proofs.lemmas.Bool.{and_parts}
use Rattle.std.proofs.lemmas.List.{length-append}
use Rattle.fs_model.specs.Journal.{AreNext, last_number}
use Rattle.store_model.specs.Events.{after_change, after_part, Held, credit, granted, in_next, paid, Part, Payment, Putting}
use Rattle.store_model.specs.Heads.{copies_of, head_counts, groups_of_head, numbered_group, with_head_group}
use Rattle.store_model.specs.Invariant.{AreNumbered, HasNumbers, OfNext, are_given, are_within, head_numbers}
use Rattle.store_model.specs.Legal.{AreConsecutive, AreLegalParts}
use Rattle.store_model.specs.Store.{Bud, Carried, Next, Store}
use Rattle.store_model.proofs.Apart.{apart_put}
use Rattle.store_model.proofs.LebLeaves.{change_all}
use Rattle.store_model.proofs.Numbers.{consecutive_next, given_after, given_still, kept_still, no_less, none_greater}
use Rattle.store_model.proofs.PutGroups.{IsGrown, copies_put, groups_put, numbers_end}

-- ---- numbers
head_put : (n head h : ℕ) (group : List Carried) (buds : List Bud) → AreNext n (numbered_group group) → are_given n (head_numbers buds head) ≡ true
    → are_given (last_number n (numbered_group group)) (head_numbers (with_head_group h group buds) head) ≡ true
head_put n head h group buds next given = by (groups_put head h group buds)
  where
    by : IsGrown (groups_of_head head buds) group (groups_of_head head (with_head_group h group buds)) → are_given (last_number n (numbered_group group)) (head_numbers (with_head_group h group buds) head) ≡ true
    by (inl same) = subst (λ gs. are_given (last_number n (numbered_group group)) (flat_map numbered_group gs) ≡ true) (sym same) (given_still n (head_numbers buds head) (numbered_group group) given next)
    by (inr more) =
        subst (λ gs. are_given (last_number n (numbered_group group)) (flat_map numbered_group gs) ≡ true) (sym more)
        (subst (λ ns. are_given (last_number n (numbered_group group)) ns ≡ true) (sym (numbers_end (groups_of_head head buds) group)) (given_after n (head_numbers buds head) (numbered_group group) given next))

-- ---- counts
le_more : (a b c : ℕ) → nat_le a b ≡ true → nat_le b c ≡ true → nat_le a c ≡ true
le_more a b c h g = grind (arith)

le_self : (n : ℕ) → nat_le n n ≡ true
le_self n = grind (arith)

le_next : (n : ℕ) → nat_le n (n + 1) ≡ true
le_next n = grind (arith)

pub within_more : (s a b : List ℕ) → are_within s a ≡ true → are_within a b ≡ true → are_within s b ≡ true
within_more [] a b h g = refl
within_more (n ∷ s) [] b h g = absurd cc
within_more (n ∷ s) (k ∷ a) [] h g = absurd cc
within_more (n ∷ s) (k ∷ a) (j ∷ b) h g =
    let p = and_parts (nat_le n k) (are_within s a) h in
    let q = and_parts (nat_le k j) (are_within a b) g in
    rw (le_more n k j p.0 q.0) (within_more s a b p.1 q.1)

count_put : (head h : ℕ) (group : List Carried) (buds : List Bud) → nat_le (length (groups_of_head head buds)) (length (groups_of_head head (with_head_group h group buds))) ≡ true
count_put head h group buds = by (groups_put head h group buds)
  where
    by : IsGrown (groups_of_head head buds) group (groups_of_head head (with_head_group h group buds)) → nat_le (length (groups_of_head head buds)) (length (groups_of_head head (with_head_group h group buds))) ≡ true
    by (inl same) = rw same (le_self (length (groups_of_head head buds)))
    by (inr more) = rw (more, length-append (groups_of_head head buds) (group ∷ [])) (le_next (length (groups_of_head head buds)))

counts_put : (h : ℕ) (group : List Carried) (buds : List Bud) → are_within (head_counts buds) (head_counts (with_head_group h group buds)) ≡ true
counts_put h group buds = rw (copies_put h group buds, le_self (length (copies_of buds)), count_put 1 h group buds, count_put 2 h group buds) refl

-- the live leaves after a group
group_low : (n : ℕ) (group : List Carried) (h : Held) → list_all (λ c. nat_le c.0 n) (numbered_group group) ≡ true → list_all (λ x. nat_le x.sqnum n) h.live ≡ true
    → list_all (λ x. nat_le x.sqnum n) (fold after_change h group).live ≡ true
group_low n [] h low l = l
group_low n (c ∷ group) h low l =
    let p = and_parts (nat_le c.placed.sqnum n) (list_all (λ c. nat_le c.0 n) (numbered_group group)) low in
    group_low n group (after_change h c) p.1 (change_all (λ x. nat_le x.sqnum n) c h p.0 l)

-- ---- a group, and all of them
part_next : (m : Store) (part : Part) (next : Option Next) → (part.head ≡ 1) ⊎ (part.head ≡ 2) → AreNext m.sqnum (numbered_group part.group) → OfNext m next (AreNumbered m)
    → OfNext (after_part m part) (option_map (in_next (with_head_group part.head part.group) (length part.group)) next) (AreNumbered (after_part m part))
part_next m part None at follows n = n
part_next m part (Some next) at follows n = record {
  base = head_put m.sqnum 1 part.head part.group next.view.buds follows n.base;
  data_nodes = head_put m.sqnum 2 part.head part.group next.view.buds follows n.data_nodes;
  apart = apart_put m.sqnum part.head part.group next.view.buds at follows n.base n.data_nodes n.apart;
  kept = kept_still m.sqnum (last_number m.sqnum (numbered_group part.group)) (no_less m.sqnum (numbered_group part.group) follows) next.view.kept n.kept;
}

next_numbers : (m : Store) (part : Part) → (part.head ≡ 1) ⊎ (part.head ≡ 2) → AreNext m.sqnum (numbered_group part.group) → HasNumbers m → HasNumbers (after_part m part)
next_numbers m part at follows n = record {
  both = (
    record {
      base = head_put m.sqnum 1 part.head part.group m.now.buds follows n.both.0.base;
      data_nodes = head_put m.sqnum 2 part.head part.group m.now.buds follows n.both.0.data_nodes;
      apart = apart_put m.sqnum part.head part.group m.now.buds at follows n.both.0.base n.both.0.data_nodes n.both.0.apart;
      kept = kept_still m.sqnum (last_number m.sqnum (numbered_group part.group)) (no_less m.sqnum (numbered_group part.group) follows) m.now.kept n.both.0.kept;
    },
    part_next m part m.next at follows n.both.1,
  );
  live = group_low (last_number m.sqnum (numbered_group part.group)) part.group (record { live = m.live; held = m.held }) (none_greater m.sqnum (numbered_group part.group) follows)
      (kept_still m.sqnum (last_number m.sqnum (numbered_group part.group)) (no_less m.sqnum (numbered_group part.group) follows) m.live n.live);
  synced = within_more m.synced (head_counts m.now.buds) (head_counts (with_head_group part.head part.group m.now.buds)) n.synced (counts_put part.head part.group m.now.buds);
}

pub part_numbers : (m : Store) (part : Part) → (part.head ≡ 1) ⊎ (part.head ≡ 2) → AreConsecutive m.sqnum (numbered_group part.group) → HasNumbers m → HasNumbers (after_part m part)
part_numbers m part at follow n = next_numbers m part at (consecutive_next m.sqnum (numbered_group part.group) follow) n

-- groups that can be put
pub parts_numbers : (parts : List Part) (m : Store) → AreLegalParts m parts → HasNumbers m → HasNumbers (fold after_part m parts)
parts_numbers [] m are n = n
parts_numbers (part ∷ parts) m are n = parts_numbers parts (after_part m part) are.1 (part_numbers m part are.0.head are.0.numbers n)

-- numbers are a matter of what was put, of what is synced, and of the greatest one alone
same_next : (m k : Store) (next : Option Next) → k.sqnum ≡ m.sqnum → OfNext m next (AreNumbered m) → OfNext k next (AreNumbered k)
same_next m k None same n = n
same_next m k (Some next) same n = record { base = rw same n.base; data_nodes = rw same n.data_nodes; apart = n.apart; kept = rw same n.kept }

pub same_numbers : (m k : Store) → list_all (λ x. nat_le x.sqnum k.sqnum) k.live ≡ true → k.sqnum ≡ m.sqnum → k.now ≡ m.now → k.next ≡ m.next → k.synced ≡ m.synced → HasNumbers m → HasNumbers k
same_numbers m k live sqnum now next synced n = record {
  both = (
    record { base = rw (sqnum, now) n.both.0.base; data_nodes = rw (sqnum, now) n.both.0.data_nodes; apart = rw now n.both.0.apart; kept = rw (sqnum, now) n.both.0.kept },
    subst (λ other. OfNext k other (AreNumbered k)) (sym next) (same_next m k m.next sqnum n.both.1),
  );
  live = live;
  synced = rw (synced, now) n.synced;
}

-- what pays changes none
pub paid_numbers : (p : Putting) (m : Store) → HasNumbers m → HasNumbers (record (paid p.payment m) { index = p.index })
paid_numbers p m n = by p.payment
  where
    by : (payment : Payment) → HasNumbers (record (paid payment m) { index = p.index })
    by credit = same_numbers m (record (paid credit m) { index = p.index }) n.live refl refl refl refl n
    by granted = same_numbers m (record (paid granted m) { index = p.index }) n.live refl refl refl refl n
