-- Lists of which something holds at each place.
use Rattle.std.proofs.Common.{◌≡◌, Bool, true, false, cond, List, [], ◌∷◌, ◌++◌, map, refl, Option, Some, None}
use Rattle.std.specs.Prelude.{filter}
use Rattle.std.specs.List.{AllByRecursion, cons_option, find, list_all, list_any}
use Rattle.leaf_recovery.specs.Told.{Pairwise}

-- this holds of what there is, if there is anything
abbrev pub IfBoth : {A B : Type 0} → (A → B → Type 0) → Option A → Option B → Type 0
IfBoth R None None = Unit {0}
IfBoth R None (Some b) = ⊥
IfBoth R (Some a) None = ⊥
IfBoth R (Some a) (Some b) = R a b

module _ {A B : Type 0} (R : A → B → Type 0) where
  pub cons_pairs : (o : Option A) (p : Option B) (xs : List A) (ys : List B) → IfBoth R o p → Pairwise R xs ys → Pairwise R (cons_option o xs) (cons_option p ys)
  cons_pairs None None xs ys h k = k
  cons_pairs None (Some b) xs ys h k = absurd h
  cons_pairs (Some a) None xs ys h k = absurd h
  cons_pairs (Some a) (Some b) xs ys h k = (h, k)

  pub append_pairs : (xs : List A) (ys : List B) (xs' : List A) (ys' : List B) → Pairwise R xs ys → Pairwise R xs' ys' → Pairwise R (xs ++ xs') (ys ++ ys')
  append_pairs [] [] xs' ys' h k = k
  append_pairs [] (b ∷ ys) xs' ys' h k = absurd h
  append_pairs (a ∷ xs) [] xs' ys' h k = absurd h
  append_pairs (a ∷ xs) (b ∷ ys) xs' ys' h k = (h.0, append_pairs xs ys xs' ys' h.1 k)

  pub filter_pairs : (f : A → Bool) (g : B → Bool) → ((a : A) (b : B) → R a b → f a ≡ g b) → (xs : List A) (ys : List B) → Pairwise R xs ys → Pairwise R (filter f xs) (filter g ys)
  filter_pairs f g same [] [] h = h
  filter_pairs f g same [] (b ∷ ys) h = absurd h
  filter_pairs f g same (a ∷ xs) [] h = absurd h
  filter_pairs f g same (a ∷ xs) (b ∷ ys) h = by (f a) (g b) (same a b h.0) (filter_pairs f g same xs ys h.1)
    where
      by : (s t : Bool) → s ≡ t → Pairwise R (filter f xs) (filter g ys) → Pairwise R (cond s (a ∷ filter f xs) (filter f xs)) (cond t (b ∷ filter g ys) (filter g ys))
      by true true e more = (h.0, more)
      by false false e more = more
      by true false e more = absurd cc
      by false true e more = absurd cc

  pub any_pairs : (f : A → Bool) (g : B → Bool) → ((a : A) (b : B) → R a b → f a ≡ g b) → (xs : List A) (ys : List B) → Pairwise R xs ys → list_any f xs ≡ list_any g ys
  any_pairs f g same [] [] h = refl
  any_pairs f g same [] (b ∷ ys) h = absurd h
  any_pairs f g same (a ∷ xs) [] h = absurd h
  any_pairs f g same (a ∷ xs) (b ∷ ys) h = rw (same a b h.0, any_pairs f g same xs ys h.1) refl

  pub all_pairs : (f : A → Bool) (g : B → Bool) → ((a : A) (b : B) → R a b → f a ≡ g b) → (xs : List A) (ys : List B) → Pairwise R xs ys → list_all f xs ≡ list_all g ys
  all_pairs f g same [] [] h = refl
  all_pairs f g same [] (b ∷ ys) h = absurd h
  all_pairs f g same (a ∷ xs) [] h = absurd h
  all_pairs f g same (a ∷ xs) (b ∷ ys) h = rw (same a b h.0, all_pairs f g same xs ys h.1) refl

  pub find_pairs : (f : A → Bool) (g : B → Bool) → ((a : A) (b : B) → R a b → f a ≡ g b) → (xs : List A) (ys : List B) → Pairwise R xs ys → IfBoth R (find f xs) (find g ys)
  find_pairs f g same [] [] h = h
  find_pairs f g same [] (b ∷ ys) h = absurd h
  find_pairs f g same (a ∷ xs) [] h = absurd h
  find_pairs f g same (a ∷ xs) (b ∷ ys) h = by (f a) (g b) (same a b h.0) (find_pairs f g same xs ys h.1)
    where
      by : (s t : Bool) → s ≡ t → IfBoth R (find f xs) (find g ys) → IfBoth R (cond s (Some a) (find f xs)) (cond t (Some b) (find g ys))
      by true true e more = h.0
      by false false e more = more
      by true false e more = absurd cc
      by false true e more = absurd cc

  -- what is made of each
  pub map_pairs : {C D : Type 0} (S : C → D → Type 0) (s : A → C) (t : B → D) → ((a : A) (b : B) → R a b → S (s a) (t b)) → (xs : List A) (ys : List B) → Pairwise R xs ys → Pairwise S (map s xs) (map t ys)
  map_pairs S s t each [] [] h = tt
  map_pairs S s t each [] (b ∷ ys) h = absurd h
  map_pairs S s t each (a ∷ xs) [] h = absurd h
  map_pairs S s t each (a ∷ xs) (b ∷ ys) h = (each a b h.0, map_pairs S s t each xs ys h.1)

  -- something weaker
  pub weaker_pairs : (S : A → B → Type 0) → ((a : A) (b : B) → R a b → S a b) → (xs : List A) (ys : List B) → Pairwise R xs ys → Pairwise S xs ys
  weaker_pairs S each [] [] h = tt
  weaker_pairs S each [] (b ∷ ys) h = absurd h
  weaker_pairs S each (a ∷ xs) [] h = absurd h
  weaker_pairs S each (a ∷ xs) (b ∷ ys) h = (each a b h.0, weaker_pairs S each xs ys h.1)

  -- what is told of each
  pub told_pairs : (P : A → Type 0) (t : A → B) → ((a : A) → P a → R a (t a)) → (xs : List A) → AllByRecursion P xs → Pairwise R xs (map t xs)
  told_pairs P t each [] h = tt
  told_pairs P t each (a ∷ xs) h = (each a h.0, told_pairs P t each xs h.1)

-- an equation
pub equal_pairs : {A B : Type 0} (s : A → B) (xs : List A) (ys : List B) → Pairwise (λ a b. b ≡ s a) xs ys → ys ≡ map s xs
equal_pairs s [] [] h = refl
equal_pairs s [] (b ∷ ys) h = absurd h
equal_pairs s (a ∷ xs) [] h = absurd h
equal_pairs s (a ∷ xs) (b ∷ ys) h = rw (h.0, equal_pairs s xs ys h.1) refl
