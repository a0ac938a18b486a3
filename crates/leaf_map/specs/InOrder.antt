-- Nodes in order of number: which lists come to the same order. A list of nodes counts by the nodes that each number has.
use Rattle.std.specs.Prelude.{◌≡◌, ℕ, ◌<◌, ◌≤◌, ◌==◌, nat_lt, not, Bool, true, false, cond, List, [], ◌∷◌, ◌++◌, filter, fold}
use Rattle.std.specs.List.{list_all}
use Rattle.std.proofs.Common.{◌⊎◌, inl, inr, refl, ap, sym, ◌∙◌, subst, arith, append_assoc, append-nil}
use Rattle.std.proofs.lemmas.Bool.{cases_Bool, false≢true, and_parts, eqb-true, eq-eqb, ltb-true, ltb-false}
use Rattle.std.proofs.lemmas.List.Elements.{filter-append}
use Rattle.leaf_map.specs.Kept.{Placed}
use Rattle.leaf_map.specs.Recovered.{nodes_in_order, placed_node}

-- numbers don't fall, and none is below this one
abbrev pub Ascends : ℕ → List Placed → Type 0
Ascends low [] = Unit {0}
Ascends low (x ∷ nodes) = (low ≤ x.sqnum) × Ascends x.sqnum nodes

-- the nodes of one number, in their order
abbrev pub of_number : ℕ → List Placed → List Placed
of_number n nodes = filter (λ x. x.sqnum == n) nodes

-- whether no number is one of nodes of both lists
abbrev pub are_beside : List Placed → List Placed → Bool
are_beside xs ys = list_all (λ x. list_all (λ y. not (y.sqnum == x.sqnum)) ys) xs

-- ---- one node
has_it : (n : ℕ) (x : Placed) (xs : List Placed) → (x.sqnum == n) ≡ true → of_number n (x ∷ xs) ≡ x ∷ of_number n xs
has_it n x xs e = ap (λ b. cond b (x ∷ of_number n xs) (of_number n xs)) e

has_another : (n : ℕ) (x : Placed) (xs : List Placed) → (x.sqnum == n) ≡ false → of_number n (x ∷ xs) ≡ of_number n xs
has_another n x xs e = ap (λ b. cond b (x ∷ of_number n xs) (of_number n xs)) e

other_number : (a b : ℕ) → a < b → (b == a) ≡ false
other_number a b h = by (b == a) refl
  where
    by : (c : Bool) → (b == a) ≡ c → c ≡ false
    by true e = let same = eqb-true b a e in absurd (omega (arith, h, same))
    by false e = refl

none_below : (n low : ℕ) (xs : List Placed) → n < low → Ascends low xs → of_number n xs ≡ []
none_below n low [] h u = refl
none_below n low (x ∷ xs) h u =
    let first = u.0 in
    has_another n x xs (other_number n x.sqnum (omega (arith, h, first))) ∙ none_below n x.sqnum xs (omega (arith, h, first)) u.1

placed_ascends : (low : ℕ) (xs : List Placed) (new : Placed) → low ≤ new.sqnum → Ascends low xs → Ascends low (placed_node xs new)
placed_ascends low [] new l u = (l, tt)
placed_ascends low (y ∷ xs) new l u = by (nat_lt new.sqnum y.sqnum) refl (placed_ascends y.sqnum xs new)
  where
    by : (b : Bool) → nat_lt new.sqnum y.sqnum ≡ b → (y.sqnum ≤ new.sqnum → Ascends y.sqnum xs → Ascends y.sqnum (placed_node xs new)) → Ascends low (cond b (new ∷ y ∷ xs) (y ∷ placed_node xs new))
    by true e more = let less = ltb-true new.sqnum y.sqnum e in (l, (omega (arith, less), u.1))
    by false e more = (u.0, more (ltb-false new.sqnum y.sqnum e) u.1)

-- a node goes behind those of its number
placed_last : (n low : ℕ) (xs : List Placed) (new : Placed) → Ascends low xs → of_number n (placed_node xs new) ≡ of_number n xs ++ of_number n (new ∷ [])
placed_last n low [] new u = refl
placed_last n low (y ∷ xs) new u = by (nat_lt new.sqnum y.sqnum) refl (new.sqnum == n) refl (y.sqnum == n) refl (placed_last n y.sqnum xs new u.1)
  where
    by : (b : Bool) → nat_lt new.sqnum y.sqnum ≡ b → (c : Bool) → (new.sqnum == n) ≡ c → (d : Bool) → (y.sqnum == n) ≡ d → of_number n (placed_node xs new) ≡ of_number n xs ++ of_number n (new ∷ [])
        → of_number n (cond b (new ∷ y ∷ xs) (y ∷ placed_node xs new)) ≡ of_number n (y ∷ xs) ++ of_number n (new ∷ [])
    by true e true c d f more =
        let less = ltb-true new.sqnum y.sqnum e in
        let same = eqb-true new.sqnum n c in
        let above : Ascends y.sqnum (y ∷ xs) = (omega arith, u.1) in
        let none : of_number n (y ∷ xs) ≡ [] = none_below n y.sqnum (y ∷ xs) (omega (arith, less, same)) above in
        has_it n new (y ∷ xs) c ∙ ap (λ zs. new ∷ zs) none ∙ sym (has_it n new [] c) ∙ ap (λ zs. zs ++ of_number n (new ∷ [])) (sym none)
    by true e false c d f more =
        has_another n new (y ∷ xs) c ∙ sym (append-nil (of_number n (y ∷ xs))) ∙ ap (λ zs. of_number n (y ∷ xs) ++ zs) (sym (has_another n new [] c))
    by false e c g true f more = has_it n y (placed_node xs new) f ∙ ap (λ zs. y ∷ zs) more ∙ ap (λ zs. zs ++ of_number n (new ∷ [])) (sym (has_it n y xs f))
    by false e c g false f more = has_another n y (placed_node xs new) f ∙ more ∙ ap (λ zs. zs ++ of_number n (new ∷ [])) (sym (has_another n y xs f))

-- ---- all nodes
sorted_ascends : (acc xs : List Placed) → Ascends 0 acc → Ascends 0 (fold placed_node acc xs)
sorted_ascends acc [] u = u
sorted_ascends acc (x ∷ xs) u = sorted_ascends (placed_node acc x) xs (placed_ascends 0 acc x (omega arith) u)

sorted_same : (n : ℕ) (acc xs : List Placed) → Ascends 0 acc → of_number n (fold placed_node acc xs) ≡ of_number n acc ++ of_number n xs
sorted_same n acc [] u = sym (append-nil (of_number n acc))
sorted_same n acc (x ∷ xs) u =
    sorted_same n (placed_node acc x) xs (placed_ascends 0 acc x (omega arith) u)
    ∙ ap (λ zs. zs ++ of_number n xs) (placed_last n 0 acc x u)
    ∙ append_assoc (of_number n acc) (of_number n (x ∷ [])) (of_number n xs)
    ∙ ap (λ zs. of_number n acc ++ zs) (sym (filter-append (λ (z : Placed). z.sqnum == n) (x ∷ []) xs))

-- of each number the same nodes
abbrev pub AreAlike : List Placed → List Placed → Type 0
AreAlike xs ys = (n : ℕ) → of_number n xs ≡ of_number n ys

not_none : (x : Placed) (xs : List Placed) → x ∷ xs ≡ [] → ⊥
not_none x xs h = absurd cc

same_parts : (x y : Placed) (xs ys : List Placed) → x ∷ xs ≡ y ∷ ys → (x ≡ y) × (xs ≡ ys)
same_parts x y xs ys h = (cc, cc)

own_first : (x : Placed) (xs : List Placed) → of_number x.sqnum (x ∷ xs) ≡ x ∷ of_number x.sqnum xs
own_first x xs = has_it x.sqnum x xs (eq-eqb x.sqnum x.sqnum refl)

tails_alike : (x : Placed) (xs ys : List Placed) → AreAlike (x ∷ xs) (x ∷ ys) → AreAlike xs ys
tails_alike x xs ys h n = by (x.sqnum == n) refl
  where
    by : (b : Bool) → (x.sqnum == n) ≡ b → of_number n xs ≡ of_number n ys
    by true e = (same_parts x x _ _ (sym (has_it n x xs e) ∙ h n ∙ has_it n x ys e)).1
    by false e = sym (has_another n x xs e) ∙ h n ∙ has_another n x ys e

one_order : (low high : ℕ) (xs ys : List Placed) → Ascends low xs → Ascends high ys → AreAlike xs ys → xs ≡ ys
one_order low high [] [] u v h = refl
one_order low high [] (y ∷ ys) u v h = absurd (not_none y _ (sym (h y.sqnum ∙ own_first y ys)))
one_order low high (x ∷ xs) [] u v h = absurd (not_none x _ (sym (own_first x xs) ∙ h x.sqnum))
one_order low high (x ∷ xs) (y ∷ ys) u v h =
    let up : Ascends x.sqnum (x ∷ xs) = (omega arith, u.1) in
    let vp : Ascends y.sqnum (y ∷ ys) = (omega arith, v.1) in
    elim (cases_Bool (nat_lt x.sqnum y.sqnum)) [
      | inl lt ↦ absurd (not_none x _ (sym (own_first x xs) ∙ h x.sqnum ∙ none_below x.sqnum y.sqnum (y ∷ ys) (ltb-true x.sqnum y.sqnum lt) vp))
      | inr ge ↦ elim (cases_Bool (nat_lt y.sqnum x.sqnum)) [
        | inl lt ↦ absurd (not_none y _ (sym (own_first y ys) ∙ sym (h y.sqnum) ∙ none_below y.sqnum x.sqnum (x ∷ xs) (ltb-true y.sqnum x.sqnum lt) up))
        | inr le ↦
            let a = ltb-false x.sqnum y.sqnum ge in
            let b = ltb-false y.sqnum x.sqnum le in
            let e : y.sqnum ≡ x.sqnum = omega (arith, a, b) in
            let first : x ≡ y = (same_parts x y _ _ (sym (own_first x xs) ∙ h x.sqnum ∙ has_it x.sqnum y ys (eq-eqb y.sqnum x.sqnum e))).0 in
            let P : Placed → Type 0 = λ z. AreAlike (x ∷ xs) (z ∷ ys) in
            let rest = tails_alike x xs ys (subst P (sym first) h) in
            ap (λ z. z ∷ xs) first ∙ ap (λ zs. y ∷ zs) (one_order x.sqnum y.sqnum xs ys u.1 v.1 rest)
      ]
    ]

-- ---- the laws
-- The order depends on the nodes of each number alone.
pub same_order : (xs ys : List Placed) → AreAlike xs ys → nodes_in_order xs ≡ nodes_in_order ys
same_order xs ys h = one_order 0 0 (nodes_in_order xs) (nodes_in_order ys) (sorted_ascends [] xs tt) (sorted_ascends [] ys tt) (λ n. sorted_same n [] xs tt ∙ h n ∙ sym (sorted_same n [] ys tt))

-- An ascending list that has of each number the nodes of two lists is these two in order.
pub merged_order : (xs ys zs : List Placed) → Ascends 0 zs → ((n : ℕ) → of_number n zs ≡ of_number n xs ++ of_number n ys) → nodes_in_order (xs ++ ys) ≡ zs
merged_order xs ys zs up h =
    one_order 0 0 (nodes_in_order (xs ++ ys)) zs (sorted_ascends [] (xs ++ ys) tt) up (λ n. sorted_same n [] (xs ++ ys) tt ∙ filter-append (λ (z : Placed). z.sqnum == n) xs ys ∙ sym (h n))

no_such : (n : ℕ) (ys : List Placed) → list_all (λ y. not (y.sqnum == n)) ys ≡ true → of_number n ys ≡ []
no_such n [] h = refl
no_such n (y ∷ ys) h =
    let p = and_parts (not (y.sqnum == n)) (list_all (λ z. not (z.sqnum == n)) ys) h in
    by (y.sqnum == n) refl p.0 (no_such n ys p.1)
  where
    by : (b : Bool) → (y.sqnum == n) ≡ b → not b ≡ true → of_number n ys ≡ [] → of_number n (y ∷ ys) ≡ []
    by true e t more = absurd (false≢true t)
    by false e t more = has_another n y ys e ∙ more

one_has_none : (n : ℕ) (xs ys : List Placed) → are_beside xs ys ≡ true → (of_number n xs ≡ []) ⊎ (of_number n ys ≡ [])
one_has_none n [] ys h = inl refl
one_has_none n (x ∷ xs) ys h =
    let p = and_parts (list_all (λ y. not (y.sqnum == x.sqnum)) ys) (are_beside xs ys) h in
    by (x.sqnum == n) refl p.0 (one_has_none n xs ys p.1)
  where
    by : (b : Bool) → (x.sqnum == n) ≡ b → list_all (λ y. not (y.sqnum == x.sqnum)) ys ≡ true → (of_number n xs ≡ []) ⊎ (of_number n ys ≡ []) → (of_number n (x ∷ xs) ≡ []) ⊎ (of_number n ys ≡ [])
    by true e t more = inr (subst (λ m. of_number m ys ≡ []) (eqb-true x.sqnum n e) (no_such x.sqnum ys t))
    by false e t (inl none) = inl (has_another n x xs e ∙ none)
    by false e t (inr none) = inr none

either_way : (xs ys : List Placed) → (xs ≡ []) ⊎ (ys ≡ []) → xs ++ ys ≡ ys ++ xs
either_way xs ys (inl e) = ap (λ zs. zs ++ ys) e ∙ sym (append-nil ys) ∙ ap (λ zs. ys ++ zs) (sym e)
either_way xs ys (inr e) = ap (λ zs. xs ++ zs) e ∙ append-nil xs ∙ ap (λ zs. zs ++ xs) (sym e)

joined_alike : (n : ℕ) (front xs ys back : List Placed) → of_number n (front ++ (xs ++ ys) ++ back) ≡ of_number n front ++ (of_number n xs ++ of_number n ys) ++ of_number n back
joined_alike n front xs ys back =
    let P : Placed → Bool = λ z. z.sqnum == n in
    filter-append P (front ++ (xs ++ ys)) back ∙ ap (λ zs. zs ++ of_number n back) (filter-append P front (xs ++ ys) ∙ ap (λ zs. of_number n front ++ zs) (filter-append P xs ys))

-- Lists that have no number in common may be joined either way.
pub joined_order : (front xs ys back : List Placed) → are_beside xs ys ≡ true → nodes_in_order (front ++ (xs ++ ys) ++ back) ≡ nodes_in_order (front ++ (ys ++ xs) ++ back)
joined_order front xs ys back h = same_order _ _ (λ n.
    joined_alike n front xs ys back
    ∙ ap (λ zs. of_number n front ++ zs ++ of_number n back) (either_way (of_number n xs) (of_number n ys) (one_has_none n xs ys h))
    ∙ sym (joined_alike n front ys xs back))
