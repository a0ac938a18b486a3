-- A list in order of a key, in which equal keys keep their order, is one list alone.
use Rattle.std.proofs.Common.{◌≡◌, ℕ, suc, ◌<◌, ◌≤◌, ◌==◌, ◌&&◌, not, Bool, true, false, cond, nat_lt, List, [], ◌∷◌, ◌++◌, length, filter, fold, map, refl, ap, sym, ◌∙◌, subst, arith, append_assoc, append-nil, inl, inr, slice_index_or, Equal, Greater}
use Rattle.std.specs.List.Sorted.{IsNonDecreasingBy, IsStableByKey, ties}
use Rattle.std.specs.Ordering.{nat_cmp, is_lt}
use Rattle.std.proofs.lemmas.Bool.{cases_Bool, false≢true, ltb-true, ltb-false, lt-ltb, le-ltb}
use Rattle.std.proofs.lemmas.List.Elements.{filter-append}
use Rattle.leaf_map.specs.Kept.{Placed}
use Rattle.leaf_map.specs.Recovered.{nodes_in_order, placed_node}
use Rattle.journal_scan.specs.Content.{told}
use Rattle.journal_scan.specs.declared.journal_node.JournalNode.{JournalNode}

-- the test of a stable sort by numbers
abbrev pub tie : {X : Type 0} → (X → ℕ) → X → X → Bool
tie n x y = ties (λ a b. is_lt (nat_cmp (n a) (n b))) x y

below : (a b : ℕ) → a < b → is_lt (nat_cmp a b) ≡ true
below a b h = rw (lt-ltb a b h) refl

equal_or_greater : (e : Bool) → is_lt (cond e Equal Greater) ≡ false
equal_or_greater true = refl
equal_or_greater false = refl

not_below : (a b : ℕ) → b ≤ a → is_lt (nat_cmp a b) ≡ false
not_below a b h = rw (le-ltb a b h) (equal_or_greater (a == b))

filter_yes : {X : Type 0} (p : X → Bool) (x : X) (xs : List X) → p x ≡ true → filter p (x ∷ xs) ≡ x ∷ filter p xs
filter_yes p x xs e = rw e refl

filter_no : {X : Type 0} (p : X → Bool) (x : X) (xs : List X) → p x ≡ false → filter p (x ∷ xs) ≡ filter p xs
filter_no p x xs e = rw e refl

not_empty : {X : Type 0} (x : X) (xs : List X) → x ∷ xs ≡ [] → ⊥
not_empty x xs h = absurd cc

same_parts : {X : Type 0} (x y : X) (xs ys : List X) → x ∷ xs ≡ y ∷ ys → (x ≡ y) × (xs ≡ ys)
same_parts x y xs ys h = (cc, cc)

module _ {X : Type 0} (n : X → ℕ) where
  tie_same : (x y : X) → n x ≡ n y → tie n x y ≡ true
  tie_same x y e = rw (not_below (n x) (n y) (omega (arith, e))) (rw (not_below (n y) (n x) (omega (arith, e))) refl)

  tie_below : (x y : X) → n x < n y → tie n x y ≡ false
  tie_below x y h = rw (below (n x) (n y) h) refl

  -- an element behind all whose key isn't greater
  abbrev pub inserted : List X → X → List X
  inserted [] new = new ∷ []
  inserted (first ∷ xs) new = cond (nat_lt (n new) (n first)) (new ∷ first ∷ xs) (first ∷ inserted xs new)

  -- keys don't fall, from this one on
  abbrev pub Up : ℕ → List X → Type 0
  Up low [] = Unit {0}
  Up low (x ∷ xs) = (low ≤ n x) × Up (n x) xs

  lower : (a b : ℕ) (xs : List X) → a ≤ b → Up b xs → Up a xs
  lower a b [] h u = tt
  lower a b (x ∷ xs) h u = let first = u.0 in (omega (arith, h, first), u.1)

  inserted_up : (low : ℕ) (xs : List X) (x : X) → low ≤ n x → Up low xs → Up low (inserted xs x)
  inserted_up low [] x l u = (l, tt)
  inserted_up low (y ∷ xs) x l u = by (nat_lt (n x) (n y)) refl (inserted_up (n y) xs x)
    where
      by : (b : Bool) → nat_lt (n x) (n y) ≡ b → (n y ≤ n x → Up (n y) xs → Up (n y) (inserted xs x)) → Up low (cond b (x ∷ y ∷ xs) (y ∷ inserted xs x))
      by true e more = let lt = ltb-true (n x) (n y) e in (l, (omega (arith, lt), u.1))
      by false e more = (u.0, more (ltb-false (n x) (n y) e) u.1)

  -- no key above is tied
  none_above : (x : X) (low : ℕ) (xs : List X) → n x < low → Up low xs → filter (tie n x) xs ≡ []
  none_above x low [] h u = refl
  none_above x low (y ∷ xs) h u =
      let first = u.0 in
      filter_no (tie n x) y xs (tie_below x y (omega (arith, h, first))) ∙ none_above x (n y) xs (omega (arith, h, first)) u.1

  abbrev KeepsTies : X → List X → X → Type 0
  KeepsTies x xs new = filter (tie n x) (inserted xs new) ≡ filter (tie n x) xs ++ filter (tie n x) (new ∷ [])

  and_no : (b : Bool) → (b && false) ≡ false
  and_no true = refl
  and_no false = refl

  tie_above : (x y : X) → n y < n x → tie n x y ≡ false
  tie_above x y h = rw (below (n y) (n x) h) (and_no (not (is_lt (nat_cmp (n x) (n y)))))

  tied_key : (x y : X) → tie n x y ≡ true → n x ≤ n y
  tied_key x y e = elim (cases_Bool (nat_lt (n y) (n x))) [
    | inl lt ↦ absurd (false≢true (sym (tie_above x y (ltb-true (n y) (n x) lt)) ∙ e))
    | inr le ↦ ltb-false (n y) (n x) le
  ]

  -- an insertion keeps the order of what is tied
  inserted_kept : (x : X) (low : ℕ) (xs : List X) (new : X) → Up low xs → KeepsTies x xs new
  inserted_kept x low [] new u = refl
  inserted_kept x low (y ∷ xs) new u = by (nat_lt (n new) (n y)) refl (tie n x new) refl (tie n x y) refl (inserted_kept x (n y) xs new u.1)
    where
      by : (b : Bool) → nat_lt (n new) (n y) ≡ b → (s : Bool) → tie n x new ≡ s → (t : Bool) → tie n x y ≡ t → KeepsTies x xs new
          → filter (tie n x) (cond b (new ∷ y ∷ xs) (y ∷ inserted xs new)) ≡ filter (tie n x) (y ∷ xs) ++ filter (tie n x) (new ∷ [])
      by true e true es t et rest =
          let lt = ltb-true (n new) (n y) e in
          let key = tied_key x new es in
          let up : Up (n y) (y ∷ xs) = (omega arith, u.1) in
          let none : filter (tie n x) (y ∷ xs) ≡ [] = none_above x (n y) (y ∷ xs) (omega (arith, lt, key)) up in
          filter_yes (tie n x) new (y ∷ xs) es ∙ ap (λ zs. new ∷ zs) none ∙ sym (filter_yes (tie n x) new [] es) ∙ ap (λ zs. zs ++ filter (tie n x) (new ∷ [])) (sym none)
      by true e false es t et rest =
          filter_no (tie n x) new (y ∷ xs) es ∙ sym (append-nil (filter (tie n x) (y ∷ xs))) ∙ ap (λ zs. filter (tie n x) (y ∷ xs) ++ zs) (sym (filter_no (tie n x) new [] es))
      by false e s es true et rest =
          filter_yes (tie n x) y (inserted xs new) et ∙ ap (λ zs. y ∷ zs) rest ∙ ap (λ zs. zs ++ filter (tie n x) (new ∷ [])) (sym (filter_yes (tie n x) y xs et))
      by false e s es false et rest =
          filter_no (tie n x) y (inserted xs new) et ∙ rest ∙ ap (λ zs. zs ++ filter (tie n x) (new ∷ [])) (sym (filter_no (tie n x) y xs et))

  sorted_up : (acc xs : List X) → Up 0 acc → Up 0 (fold inserted acc xs)
  sorted_up acc [] u = u
  sorted_up acc (x ∷ xs) u = sorted_up (inserted acc x) xs (inserted_up 0 acc x (omega arith) u)

  sorted_kept : (x : X) (acc xs : List X) → Up 0 acc → filter (tie n x) (fold inserted acc xs) ≡ filter (tie n x) acc ++ filter (tie n x) xs
  sorted_kept x acc [] u = sym (append-nil (filter (tie n x) acc))
  sorted_kept x acc (y ∷ xs) u =
      sorted_kept x (inserted acc y) xs (inserted_up 0 acc y (omega arith) u)
      ∙ ap (λ zs. zs ++ filter (tie n x) xs) (inserted_kept x 0 acc y u)
      ∙ append_assoc (filter (tie n x) acc) (filter (tie n x) (y ∷ [])) (filter (tie n x) xs)
      ∙ ap (λ zs. filter (tie n x) acc ++ zs) (sym (filter-append (tie n x) (y ∷ []) xs))

  abbrev Alike : List X → List X → Type 0
  Alike xs ys = (z : X) → filter (tie n z) xs ≡ filter (tie n z) ys

  with_first : (x : X) (xs : List X) → filter (tie n x) (x ∷ xs) ≡ x ∷ filter (tie n x) xs
  with_first x xs = filter_yes (tie n x) x xs (tie_same x x refl)

  tails_alike : (x : X) (xs ys : List X) → Alike (x ∷ xs) (x ∷ ys) → Alike xs ys
  tails_alike x xs ys h z = by (tie n z x) refl
    where
      by : (b : Bool) → tie n z x ≡ b → filter (tie n z) xs ≡ filter (tie n z) ys
      by true e = (same_parts x x _ _ (sym (filter_yes (tie n z) x xs e) ∙ h z ∙ filter_yes (tie n z) x ys e)).1
      by false e = sym (filter_no (tie n z) x xs e) ∙ h z ∙ filter_no (tie n z) x ys e

  -- keys that don't fall, and the same ties: the same list
  one_order : (low high : ℕ) (xs ys : List X) → Up low xs → Up high ys → Alike xs ys → xs ≡ ys
  one_order low high [] [] u v h = refl
  one_order low high [] (y ∷ ys) u v h = absurd (not_empty y _ (sym (h y ∙ with_first y ys)))
  one_order low high (x ∷ xs) [] u v h = absurd (not_empty x _ (sym (with_first x xs) ∙ h x))
  one_order low high (x ∷ xs) (y ∷ ys) u v h =
      let up : Up (n x) (x ∷ xs) = (omega arith, u.1) in
      let vp : Up (n y) (y ∷ ys) = (omega arith, v.1) in
      elim (cases_Bool (nat_lt (n x) (n y))) [
        | inl lt ↦ absurd (not_empty x _ (sym (with_first x xs) ∙ h x ∙ none_above x (n y) (y ∷ ys) (ltb-true (n x) (n y) lt) vp))
        | inr ge ↦ elim (cases_Bool (nat_lt (n y) (n x))) [
          | inl lt ↦ absurd (not_empty y _ (sym (with_first y ys) ∙ sym (h y) ∙ none_above y (n x) (x ∷ xs) (ltb-true (n y) (n x) lt) up))
          | inr le ↦
              let a = ltb-false (n x) (n y) ge in
              let b = ltb-false (n y) (n x) le in
              let e : n x ≡ n y = omega (arith, a, b) in
              let first : x ≡ y = (same_parts x y _ _ (sym (with_first x xs) ∙ h x ∙ filter_yes (tie n x) y ys (tie_same x y e))).0 in
              let P : X → Type 0 = λ z. Alike (x ∷ xs) (z ∷ ys) in
              let rest = tails_alike x xs ys (subst P (sym first) h) in
              ap (λ z. z ∷ xs) first ∙ ap (λ zs. y ∷ zs) (one_order (n x) (n y) xs ys u.1 v.1 rest)
        ]
      ]

  up_from : (xs : List X) (low : ℕ) → IsNonDecreasingBy n xs → ((d : X) → 0 < length xs → low ≤ n (slice_index_or xs 0 d)) → Up low xs
  up_from [] low h first = tt
  up_from (x ∷ xs) low h first =
      (first x (omega arith), up_from xs (n x) (λ i j d le lt. h (suc i) (suc j) d (omega (arith, le)) (omega (arith, lt))) (λ d lt. h 0 1 d (omega arith) (omega (arith, lt))))

  -- a stable sort by numbers is insertion after insertion
  pub is_inserted : (old new : List X) → IsNonDecreasingBy n new → IsStableByKey n nat_cmp old new → new ≡ fold inserted [] old
  is_inserted old new up stable =
      one_order 0 0 new (fold inserted [] old) (up_from new 0 up (λ d lt. omega arith)) (sorted_up [] old tt) (λ z. stable z ∙ sym (sorted_kept z [] old tt))

-- ---- of nodes as they are told
told_inserted : (xs : List Placed) (x : Placed) → map told (placed_node xs x) ≡ inserted (λ (y : JournalNode). y.sqnum) (map told xs) (told x)
told_inserted [] x = refl
told_inserted (y ∷ xs) x = by (nat_lt x.sqnum y.sqnum) (told_inserted xs x)
  where
    by : (b : Bool) → map told (placed_node xs x) ≡ inserted (λ (z : JournalNode). z.sqnum) (map told xs) (told x)
        → map told (cond b (x ∷ y ∷ xs) (y ∷ placed_node xs x)) ≡ cond b (told x ∷ told y ∷ map told xs) (told y ∷ inserted (λ (z : JournalNode). z.sqnum) (map told xs) (told x))
    by true r = refl
    by false r = ap (λ zs. told y ∷ zs) r

told_sorted : (acc xs : List Placed) → map told (fold placed_node acc xs) ≡ fold (inserted (λ (y : JournalNode). y.sqnum)) (map told acc) (map told xs)
told_sorted acc [] = refl
told_sorted acc (x ∷ xs) = told_sorted (placed_node acc x) xs ∙ ap (λ a. fold (inserted (λ (y : JournalNode). y.sqnum)) a (map told xs)) (told_inserted acc x)

-- nodes after a stable sort by number are told in order
pub are_in_order : (xs : List Placed) (old new : List JournalNode) → old ≡ map told xs → IsNonDecreasingBy (λ (y : JournalNode). y.sqnum) new → IsStableByKey (λ (y : JournalNode). y.sqnum) nat_cmp old new → new ≡ map told (nodes_in_order xs)
are_in_order xs old new is up stable =
    is_inserted (λ (y : JournalNode). y.sqnum) old new up stable
    ∙ ap (λ a. fold (inserted (λ (y : JournalNode). y.sqnum)) [] a) is
    ∙ sym (told_sorted [] xs)
