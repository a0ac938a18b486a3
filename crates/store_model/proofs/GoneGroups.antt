-- What groups of a view make obsolete, as what a cut leaves of them does: by all synced ones, whatever else is left.
use Rattle.std.proofs.Common.{◌≡◌, ◌⊎◌, ◌≤◌, ◌∙◌, ℕ, zero, suc, arith, Bool, true, false, not, List, [], ◌∷◌, ◌++◌, map, refl, ap, inl, inr}
use Rattle.std.specs.Prelude.{◌||◌, get_or, take}
use Rattle.std.specs.List.{flat_map, list_all, list_any}
use Rattle.std.proofs.lemmas.Bool.{and_from, false≢true}
use Rattle.std.proofs.lemmas.List.Folds.{list_any-append}
use Rattle.fs_model.specs.declared.change.Change.{Change}
use Rattle.fs_model.specs.Recovery.{as_replayed, KeepsSynced, Numbered, taken}
use Rattle.leaf_map.specs.Allowed.{sets_inode}
use Rattle.store_model.specs.Fits.{IsUnset}
use Rattle.store_model.specs.Gone.{group_does, some_does, some_synced_does}
use Rattle.store_model.specs.Heads.{groups_of_head, heads_of, numbered_group}
use Rattle.store_model.specs.Store.{Bud, Carried}
use Rattle.store_model.proofs.RecoveryCopies.{either_of}
use Rattle.store_model.proofs.RecoveryOrder.{or_left, or_right}
use Rattle.store_model.proofs.Sorting.{or_false}

-- ---- a part of a list
pub any_up : {X : Type 0} (t : X → Bool) (n k : ℕ) (xs : List X) → n ≤ k → list_any t (take n xs) ≡ true → list_any t (take k xs) ≡ true
any_up t zero k xs up h = absurd (false≢true h)
any_up t (suc n) zero xs up h = absurd (omega (arith, up))
any_up t (suc n) (suc k) [] up h = h
any_up t (suc n) (suc k) (x ∷ xs) up h = by (λ g. any_up t n k xs (omega (arith, up)) g) (t x) h
  where
    by : (list_any t (take n xs) ≡ true → list_any t (take k xs) ≡ true) → (b : Bool) → (b || list_any t (take n xs)) ≡ true → (b || list_any t (take k xs)) ≡ true
    by rest true h = refl
    by rest false h = rest h

pub any_first : {X : Type 0} (t : X → Bool) (n : ℕ) (xs : List X) → list_any t (take n xs) ≡ true → list_any t xs ≡ true
any_first t zero xs h = absurd (false≢true h)
any_first t (suc n) [] h = h
any_first t (suc n) (x ∷ xs) h = by (λ g. any_first t n xs g) (t x) h
  where
    by : (list_any t (take n xs) ≡ true → list_any t xs ≡ true) → (b : Bool) → (b || list_any t (take n xs)) ≡ true → (b || list_any t xs) ≡ true
    by rest true h = refl
    by rest false h = rest h

pub none_first : {X : Type 0} (t : X → Bool) (n : ℕ) (xs : List X) → list_any t xs ≡ false → list_any t (take n xs) ≡ false
none_first t zero xs h = refl
none_first t (suc n) [] h = refl
none_first t (suc n) (x ∷ xs) h =
    let p = or_false (t x) (list_any t xs) h in
    ap (λ (b : Bool). b || list_any t (take n xs)) p.0 ∙ none_first t n xs p.1

none_all : {X : Type 0} (t : X → Bool) (xs : List X) → list_any t xs ≡ false → list_all (λ x. not (t x)) xs ≡ true
none_all t [] h = refl
none_all t (x ∷ xs) h =
    let p = or_false (t x) (list_any t xs) h in
    and_from (not (t x)) (list_all (λ x. not (t x)) xs) (ap not p.0) (none_all t xs p.1)

-- ---- the changes of groups
numbered_does : (t : Change → Bool) (group : List Carried) → list_any (λ c. t (as_replayed c.1)) (numbered_group group) ≡ group_does t group
numbered_does t [] = refl
numbered_does t (c ∷ group) = ap (λ (b : Bool). t (as_replayed c.change) || b) (numbered_does t group)

pub groups_do : (t : Change → Bool) (n : ℕ) (groups : List (List Carried)) → list_any (λ c. t (as_replayed c.1)) (flat_map (λ group. group) (take n (map numbered_group groups))) ≡ list_any (group_does t) (take n groups)
groups_do t zero groups = refl
groups_do t (suc n) [] = refl
groups_do t (suc n) (group ∷ groups) =
    list_any-append (λ (c : ℕ × Change). t (as_replayed c.1)) (numbered_group group) (flat_map (λ group. group) (take n (map numbered_group groups)))
    ∙ ap (λ (b : Bool). b || list_any (λ c. t (as_replayed c.1)) (flat_map (λ group. group) (take n (map numbered_group groups)))) (numbered_does t group)
    ∙ ap (λ (b : Bool). group_does t group || b) (groups_do t n groups)

-- what a cut leaves of both heads, as it is in the lists
both_do : (t : Change → Bool) (a b : Numbered) (p q : Bool) → list_any (λ c. t (as_replayed c.1)) a ≡ p → list_any (λ c. t (as_replayed c.1)) b ≡ q → list_any (λ c. t (as_replayed c.1)) (a ++ (b ++ [])) ≡ (p || (q || false))
both_do t a b p q e f =
    list_any-append (λ (c : ℕ × Change). t (as_replayed c.1)) a (b ++ [])
    ∙ ap (λ (z : Bool). z || list_any (λ c. t (as_replayed c.1)) (b ++ [])) e
    ∙ ap (λ (z : Bool). p || z) (list_any-append (λ (c : ℕ × Change). t (as_replayed c.1)) b [] ∙ ap (λ (z : Bool). z || false) f)

pub taken_does : (t : Change → Bool) (buds : List Bud) (synced : List ℕ) (n k : ℕ)
    → list_any (λ c. t (as_replayed c.1)) (taken (heads_of buds synced) (0 ∷ n ∷ k ∷ [])) ≡ (list_any (group_does t) (take n (groups_of_head 1 buds)) || (list_any (group_does t) (take k (groups_of_head 2 buds)) || false))
taken_does t buds synced n k = both_do t (flat_map (λ group. group) (take n (map numbered_group (groups_of_head 1 buds)))) (flat_map (λ group. group) (take k (map numbered_group (groups_of_head 2 buds)))) _ _ (groups_do t n (groups_of_head 1 buds)) (groups_do t k (groups_of_head 2 buds))

-- ---- whatever a cut leaves, it has what is synced
pub synced_does : (t : Change → Bool) (buds : List Bud) (synced : List ℕ) → some_synced_does t synced buds ≡ true → (counts : List ℕ) → KeepsSynced (heads_of buds synced) counts
    → list_any (λ c. t (as_replayed c.1)) (taken (heads_of buds synced) counts) ≡ true
synced_does t buds synced h [] keeps = absurd keeps
synced_does t buds synced h (x ∷ []) (l, g, rest) = absurd rest
synced_does t buds synced h (x ∷ y ∷ []) (l, g, (m, i, rest)) = absurd rest
synced_does t buds synced h (x ∷ y ∷ z ∷ w ∷ counts) (l, g, (m, i, (n, j, rest))) = absurd rest
synced_does t buds synced h (suc x ∷ y ∷ z ∷ []) (l, g, rest) = absurd (omega (arith, g))
synced_does t buds synced h (zero ∷ y ∷ z ∷ []) (l, g, (m, i, (n, j, rest))) = taken_does t buds synced y z ∙ by (either_of (list_any (group_does t) (take (get_or synced 1 0) (groups_of_head 1 buds))) (list_any (group_does t) (take (get_or synced 2 0) (groups_of_head 2 buds))) h)
  where
    first : Bool
    first = list_any (group_does t) (take y (groups_of_head 1 buds))

    second : Bool
    second = list_any (group_does t) (take z (groups_of_head 2 buds))

    by : (list_any (group_does t) (take (get_or synced 1 0) (groups_of_head 1 buds)) ≡ true) ⊎ (list_any (group_does t) (take (get_or synced 2 0) (groups_of_head 2 buds)) ≡ true) → (first || (second || false)) ≡ true
    by (inl e) = or_left first (second || false) (any_up (group_does t) (get_or synced 1 0) y (groups_of_head 1 buds) m e)
    by (inr e) = or_right first (second || false) (or_left second false (any_up (group_does t) (get_or synced 2 0) z (groups_of_head 2 buds) n e))

-- and no more than was put
pub none_sets : (buds : List Bud) (synced : List ℕ) (ino : ℕ) → not (some_does (sets_inode ino) buds) ≡ true → IsUnset (heads_of buds synced) ino
none_sets buds synced ino h [] keeps = absurd keeps
none_sets buds synced ino h (x ∷ []) (l, g, rest) = absurd rest
none_sets buds synced ino h (x ∷ y ∷ []) (l, g, (m, i, rest)) = absurd rest
none_sets buds synced ino h (x ∷ y ∷ z ∷ w ∷ counts) (l, g, (m, i, (n, j, rest))) = absurd rest
none_sets buds synced ino h (suc x ∷ y ∷ z ∷ []) (l, g, rest) = absurd (omega (arith, g))
none_sets buds synced ino h (zero ∷ y ∷ z ∷ []) keeps =
    let t : Change → Bool = sets_inode ino in
    let p = or_false (list_any (group_does t) (groups_of_head 1 buds)) (list_any (group_does t) (groups_of_head 2 buds)) (is_false (some_does t buds) h) in
    none_all (λ (c : ℕ × Change). t (as_replayed c.1)) (taken (heads_of buds synced) (0 ∷ y ∷ z ∷ []))
    (taken_does t buds synced y z ∙ ap (λ (b : Bool). b || (list_any (group_does t) (take z (groups_of_head 2 buds)) || false)) (none_first (group_does t) y (groups_of_head 1 buds) p.0) ∙ ap (λ (b : Bool). b || false) (none_first (group_does t) z (groups_of_head 2 buds) p.1))
  where
    is_false : (b : Bool) → not b ≡ true → b ≡ false
    is_false true e = absurd (false≢true e)
    is_false false e = refl
