-- A group that is put has numbers above all others, so no number comes to stand at two heads.
use Rattle.std.proofs.Common.{◌≡◌, ℕ, ◌⊎◌, Bool, true, false, List, [], ◌∷◌, ◌++◌, map, refl, sym, ap, ◌∙◌, arith, inl, inr}
use Rattle.std.specs.Prelude.{nat_le, nat_lt, ◌==◌}
use Rattle.std.specs.List.{list_all}
use Rattle.std.specs.Ordering.{nat_cmp}
use Rattle.std.proofs.lemmas.Bool.{and_parts, eqb-true, false≢true}
use Rattle.fs_model.specs.Journal.{AreNext}
use Rattle.fs_model.specs.Proper.{ascends}
use Rattle.fs_model.specs.Recovery.{Numbered}
use Rattle.store_model.specs.Heads.{groups_of_head, has_bud, numbered_group, with_head_group}
use Rattle.store_model.specs.Invariant.{are_given, are_other, has_number, head_numbers}
use Rattle.store_model.specs.Store.{Bud, Carried}
use Rattle.store_model.proofs.PutGroups.{IsGrown, groups_put, numbers_end}
use Rattle.store_model.proofs.Sorting.{others_both_left, others_both_right}

-- a number that isn't above, and numbers that are
apart_numbers : (n x y : ℕ) → nat_le x n ≡ true → nat_lt n y ≡ true → (y == x) ≡ false
apart_numbers n x y h g = grind (arith)

apart_turned : (n x y : ℕ) → nat_lt n x ≡ true → nat_le y n ≡ true → (y == x) ≡ false
apart_turned n x y h g = grind (arith)

none_high : (n x : ℕ) (changes : Numbered) → nat_le x n ≡ true → list_all (λ c. nat_lt n c.0) changes ≡ true → has_number changes x ≡ false
none_high n x [] h g = refl
none_high n x (c ∷ changes) h g =
    let p = and_parts (nat_lt n c.0) (list_all (λ c. nat_lt n c.0) changes) g in
    rw (apart_numbers n x c.0 h p.0) (none_high n x changes h p.1)

none_low : (n x : ℕ) (changes : Numbered) → nat_lt n x ≡ true → list_all (λ c. nat_le c.0 n) changes ≡ true → has_number changes x ≡ false
none_low n x [] h g = refl
none_low n x (c ∷ changes) h g =
    let p = and_parts (nat_le c.0 n) (list_all (λ c. nat_le c.0 n) changes) g in
    rw (apart_turned n x c.0 h p.0) (none_low n x changes h p.1)

low_high : (n : ℕ) (low high : Numbered) → list_all (λ c. nat_le c.0 n) low ≡ true → list_all (λ c. nat_lt n c.0) high ≡ true → are_other low high ≡ true
low_high n [] high h g = refl
low_high n (c ∷ low) high h g =
    let p = and_parts (nat_le c.0 n) (list_all (λ c. nat_le c.0 n) low) h in
    rw (none_high n c.0 high p.0 g) (low_high n low high p.1 g)

high_low : (n : ℕ) (high low : Numbered) → list_all (λ c. nat_lt n c.0) high ≡ true → list_all (λ c. nat_le c.0 n) low ≡ true → are_other high low ≡ true
high_low n [] low h g = refl
high_low n (c ∷ high) low h g =
    let p = and_parts (nat_lt n c.0) (list_all (λ c. nat_lt n c.0) high) h in
    rw (none_low n c.0 low p.0 g) (high_low n high low p.1 g)

-- another head gets nothing
pub groups_other : (head h : ℕ) (group : List Carried) (buds : List Bud) → (h == head) ≡ false → groups_of_head head (with_head_group h group buds) ≡ groups_of_head head buds
groups_other head h group [] other = refl
groups_other head h group (bud ∷ buds) other = by (groups_other head h group buds other) (has_bud h buds) refl (bud.head == h) refl (bud.head == head) refl
  where
    by : groups_of_head head (with_head_group h group buds) ≡ groups_of_head head buds → (more : Bool) → has_bud h buds ≡ more → (mine : Bool) → (bud.head == h) ≡ mine → (here : Bool) → (bud.head == head) ≡ here
        → groups_of_head head (with_head_group h group (bud ∷ buds)) ≡ groups_of_head head (bud ∷ buds)
    by s false o true m true i = absurd (false≢true (sym other ∙ ap (λ k. k == head) (sym (eqb-true bud.head h m)) ∙ i))
    by s false o true m false i = rw (o, m, i) refl
    by s true o true m true i = rw (o, m, i) (ap (λ gs. bud.groups ++ gs) s)
    by s true o true m false i = rw (o, m, i) s
    by s more o false m true i = rw (m, i) (ap (λ gs. bud.groups ++ gs) s)
    by s more o false m false i = rw (m, i) s

given_low : (n : ℕ) (changes : Numbered) → are_given n changes ≡ true → list_all (λ c. nat_le c.0 n) changes ≡ true
given_low n changes h = (and_parts (ascends nat_cmp (map (λ c. c.0) changes)) (list_all (λ c. nat_le c.0 n) changes) h).1

pub apart_put : (n h : ℕ) (group : List Carried) (buds : List Bud) → (h ≡ 1) ⊎ (h ≡ 2) → AreNext n (numbered_group group) → are_given n (head_numbers buds 1) ≡ true → are_given n (head_numbers buds 2) ≡ true
    → are_other (head_numbers buds 1) (head_numbers buds 2) ≡ true → are_other (head_numbers (with_head_group h group buds) 1) (head_numbers (with_head_group h group buds) 2) ≡ true
apart_put n h group buds (inl one) next given_1 given_2 apart =
    let same = groups_other 2 h group buds (ap (λ k. k == 2) one) in
    by same (groups_put 1 h group buds)
  where
    by : groups_of_head 2 (with_head_group h group buds) ≡ groups_of_head 2 buds → IsGrown (groups_of_head 1 buds) group (groups_of_head 1 (with_head_group h group buds))
        → are_other (head_numbers (with_head_group h group buds) 1) (head_numbers (with_head_group h group buds) 2) ≡ true
    by same (inl still) = rw (same, still) apart
    by same (inr more) =
        rw (same, more, numbers_end (groups_of_head 1 buds) group)
        (others_both_left (head_numbers buds 1) (numbered_group group) (head_numbers buds 2) apart (high_low n (numbered_group group) (head_numbers buds 2) next.above (given_low n (head_numbers buds 2) given_2)))
apart_put n h group buds (inr two) next given_1 given_2 apart =
    let same = groups_other 1 h group buds (ap (λ k. k == 1) two) in
    by same (groups_put 2 h group buds)
  where
    by : groups_of_head 1 (with_head_group h group buds) ≡ groups_of_head 1 buds → IsGrown (groups_of_head 2 buds) group (groups_of_head 2 (with_head_group h group buds))
        → are_other (head_numbers (with_head_group h group buds) 1) (head_numbers (with_head_group h group buds) 2) ≡ true
    by same (inl still) = rw (same, still) apart
    by same (inr more) =
        rw (same, more, numbers_end (groups_of_head 2 buds) group)
        (others_both_right (head_numbers buds 1) (head_numbers buds 2) (numbered_group group) apart (low_high n (head_numbers buds 1) (numbered_group group) (given_low n (head_numbers buds 1) given_1) next.above))
