-- What is so of some change, or of all, is so of them in order of number.
use Rattle.std.proofs.Common.{◌≡◌, ◌⊎◌, ℕ, Bool, true, false, cond, [], ◌∷◌, map, refl, inl, inr}
use Rattle.std.specs.Prelude.{◌||◌, nat_lt, fold}
use Rattle.std.specs.List.{list_all, list_any}
use Rattle.std.proofs.lemmas.Bool.{false≢true, and_parts, and_from}
use Rattle.fs_model.specs.declared.change.Change.{Change}
use Rattle.fs_model.specs.Recovery.{Numbered, as_replayed, by_number, placed}
use Rattle.leaf_map.specs.Allowed.{in_turn}
use Rattle.store_model.proofs.RecoveryCopies.{either_of}

pub or_left : (a b : Bool) → a ≡ true → (a || b) ≡ true
or_left true b h = refl
or_left false b h = absurd (false≢true h)

pub or_right : (a b : Bool) → b ≡ true → (a || b) ≡ true
or_right true b h = refl
or_right false b h = h

abbrev Test : Type 0
Test = ℕ × Change → Bool

any_placed : (q : Test) (l : Numbered) (c : ℕ × Change) → (q c ≡ true) ⊎ (list_any q l ≡ true) → list_any q (placed l c) ≡ true
any_placed q [] c (inl h) = or_left (q c) false h
any_placed q [] c (inr h) = absurd (false≢true h)
any_placed q (d ∷ l) c h = by (any_placed q l c) (nat_lt c.0 d.0) h
  where
    front : (q c ≡ true) ⊎ (list_any q (d ∷ l) ≡ true) → list_any q (c ∷ d ∷ l) ≡ true
    front (inl e) = or_left (q c) (list_any q (d ∷ l)) e
    front (inr e) = or_right (q c) (list_any q (d ∷ l)) e

    back_of : ((q c ≡ true) ⊎ (list_any q l ≡ true) → list_any q (placed l c) ≡ true) → (q d ≡ true) ⊎ (list_any q l ≡ true) → list_any q (d ∷ placed l c) ≡ true
    back_of more (inl e) = or_left (q d) (list_any q (placed l c)) e
    back_of more (inr e) = or_right (q d) (list_any q (placed l c)) (more (inr e))

    back : ((q c ≡ true) ⊎ (list_any q l ≡ true) → list_any q (placed l c) ≡ true) → (q c ≡ true) ⊎ (list_any q (d ∷ l) ≡ true) → list_any q (d ∷ placed l c) ≡ true
    back more (inl e) = or_right (q d) (list_any q (placed l c)) (more (inl e))
    back more (inr e) = back_of more (either_of (q d) (list_any q l) e)

    by : ((q c ≡ true) ⊎ (list_any q l ≡ true) → list_any q (placed l c) ≡ true) → (b : Bool) → (q c ≡ true) ⊎ (list_any q (d ∷ l) ≡ true) → list_any q (cond b (c ∷ d ∷ l) (d ∷ placed l c)) ≡ true
    by more true h = front h
    by more false h = back more h

any_folded : (q : Test) (l cs : Numbered) → (list_any q l ≡ true) ⊎ (list_any q cs ≡ true) → list_any q (fold placed l cs) ≡ true
any_folded q l [] (inl h) = h
any_folded q l [] (inr h) = absurd (false≢true h)
any_folded q l (c ∷ cs) (inl h) = any_folded q (placed l c) cs (inl (any_placed q l c (inr h)))
any_folded q l (c ∷ cs) (inr h) = any_folded q (placed l c) cs (by (either_of (q c) (list_any q cs) h))
  where
    by : (q c ≡ true) ⊎ (list_any q cs ≡ true) → (list_any q (placed l c) ≡ true) ⊎ (list_any q cs ≡ true)
    by (inl e) = inl (any_placed q l c (inl e))
    by (inr e) = inr e

all_placed : (q : Test) (l : Numbered) (c : ℕ × Change) → q c ≡ true → list_all q l ≡ true → list_all q (placed l c) ≡ true
all_placed q [] c h g = and_from (q c) true h refl
all_placed q (d ∷ l) c h g = let p = and_parts (q d) (list_all q l) g in by p.0 (all_placed q l c h p.1) (nat_lt c.0 d.0)
  where
    by : q d ≡ true → list_all q (placed l c) ≡ true → (b : Bool) → list_all q (cond b (c ∷ d ∷ l) (d ∷ placed l c)) ≡ true
    by first more true = and_from (q c) (list_all q (d ∷ l)) h g
    by first more false = and_from (q d) (list_all q (placed l c)) first more

all_folded : (q : Test) (l cs : Numbered) → list_all q l ≡ true → list_all q cs ≡ true → list_all q (fold placed l cs) ≡ true
all_folded q l [] h g = h
all_folded q l (c ∷ cs) h g = let p = and_parts (q c) (list_all q cs) g in all_folded q (placed l c) cs (all_placed q l c p.0 h) p.1

any_mapped : (p : Change → Bool) (cs : Numbered) → list_any (λ c. p (as_replayed c.1)) cs ≡ true → list_any p (map (λ c. as_replayed c.1) cs) ≡ true
any_mapped p [] h = h
any_mapped p (c ∷ cs) h = by (any_mapped p cs) (either_of (p (as_replayed c.1)) (list_any (λ c. p (as_replayed c.1)) cs) h)
  where
    by : (list_any (λ c. p (as_replayed c.1)) cs ≡ true → list_any p (map (λ c. as_replayed c.1) cs) ≡ true) → (p (as_replayed c.1) ≡ true) ⊎ (list_any (λ c. p (as_replayed c.1)) cs ≡ true) → list_any p (map (λ c. as_replayed c.1) (c ∷ cs)) ≡ true
    by more (inl e) = or_left (p (as_replayed c.1)) (list_any p (map (λ c. as_replayed c.1) cs)) e
    by more (inr e) = or_right (p (as_replayed c.1)) (list_any p (map (λ c. as_replayed c.1) cs)) (more e)

all_mapped : (p : Change → Bool) (cs : Numbered) → list_all (λ c. p (as_replayed c.1)) cs ≡ true → list_all p (map (λ c. as_replayed c.1) cs) ≡ true
all_mapped p [] h = h
all_mapped p (c ∷ cs) h =
    let q = and_parts (p (as_replayed c.1)) (list_all (λ c. p (as_replayed c.1)) cs) h in
    and_from (p (as_replayed c.1)) (list_all p (map (λ c. as_replayed c.1) cs)) q.0 (all_mapped p cs q.1)

pub any_in_turn : (p : Change → Bool) (cs : Numbered) → list_any (λ c. p (as_replayed c.1)) cs ≡ true → list_any p (in_turn cs) ≡ true
any_in_turn p cs h = any_mapped p (by_number cs) (any_folded (λ c. p (as_replayed c.1)) [] cs (inr h))

pub all_in_turn : (p : Change → Bool) (cs : Numbered) → list_all (λ c. p (as_replayed c.1)) cs ≡ true → list_all p (in_turn cs) ≡ true
all_in_turn p cs h = all_mapped p (by_number cs) (all_folded (λ c. p (as_replayed c.1)) [] cs refl h)
