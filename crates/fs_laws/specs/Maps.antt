-- Finite maps as lists of entries in order of key: what look-ups, tests of all entries and counts of entries come to after an insertion and a removal.
use Rattle.std.proofs.Common.{◌≡◌, ℕ, ◌+◌, ◌≤◌, ◌⊎◌, Bool, true, false, cond, not, ◌&&◌, List, [], ◌∷◌, length, Some, refl, sym, ap, subst, ◌∙◌, arith, inl, inr}
use Rattle.std.specs.Prelude.{filter, None}
use Rattle.std.specs.List.{list_all, list_any}
use Rattle.std.specs.Map.{lookup, remove_entry, keys_of, values_of}
use Rattle.std.specs.BTreeMap.{is_at, insert_entry}
use Rattle.std.specs.Cmp.{IsTotalOrder}
use Rattle.std.specs.Ordering.{is_eq, is_lt, match_ordering, ordering_reverse}
use Rattle.std.specs.declared.cmp.Ordering.{Ordering}
use Rattle.std.specs.declared.cmp.Ordering.TheVariants.{Less, Equal, Greater}
use Rattle.std.proofs.lemmas.Bool.{false≢true, and_parts, and_from}
use Rattle.std.proofs.lemmas.Map.Lookups.{CmpEqualImpliesEq}
use Rattle.fs_model.specs.Proper.{ascends}

-- an order on keys: total, exact and the same of a key and itself
pub record IsOrder {K : Type 0} (cmp : K → K → Ordering) : Type 0 where
  pub total : IsTotalOrder cmp
  pub exact : CmpEqualImpliesEq cmp
  pub same : (k : K) → cmp k k ≡ Equal

lt_is : (o : Ordering) → is_lt o ≡ true → o ≡ Less
lt_is Less h = refl
lt_is Equal h = absurd (false≢true h)
lt_is Greater h = absurd (false≢true h)

-- keys that differ aren't equal in the order
pub apart : {K : Type 0} (cmp : K → K → Ordering) → IsOrder cmp → (q k : K) → (q ≡ k → ⊥) → is_at (cmp q) k ≡ false
apart cmp order q k h = by (cmp q k) refl
  where
    by : (o : Ordering) → cmp q k ≡ o → is_eq o ≡ false
    by Less e = refl
    by Equal e = absurd (h (order.exact q k e))
    by Greater e = refl

-- a key that is before the first one isn't there
pub missing_before : {K X : Type 0} (cmp : K → K → Ordering) → IsOrder cmp → (es : List (K × X)) (e : K × X) (k : K) → ascends cmp (keys_of (e ∷ es)) ≡ true → cmp k e.0 ≡ Less → lookup (is_at (cmp k)) (e ∷ es) ≡ None
missing_before cmp order [] e k h l = rw l refl
missing_before cmp order (f ∷ es) e k h l =
    let parts = and_parts (is_lt (cmp e.0 f.0)) (ascends cmp (keys_of (f ∷ es))) h in
    let next = order.total.trans k e.0 f.0 l (lt_is (cmp e.0 f.0) parts.0) in
    rw l (missing_before cmp order es f k parts.1 next)

pub tail_ascends : {K X : Type 0} (cmp : K → K → Ordering) (es : List (K × X)) (e : K × X) → ascends cmp (keys_of (e ∷ es)) ≡ true → ascends cmp (keys_of es) ≡ true
tail_ascends cmp [] e h = refl
tail_ascends cmp (f ∷ es) e h = (and_parts (is_lt (cmp e.0 f.0)) (ascends cmp (keys_of (f ∷ es))) h).1

-- the first key isn't there again
pub missing_first : {K X : Type 0} (cmp : K → K → Ordering) → IsOrder cmp → (es : List (K × X)) (e : K × X) → ascends cmp (keys_of (e ∷ es)) ≡ true → lookup (is_at (cmp e.0)) es ≡ None
missing_first cmp order [] e h = refl
missing_first cmp order (f ∷ es) e h =
    let parts = and_parts (is_lt (cmp e.0 f.0)) (ascends cmp (keys_of (f ∷ es))) h in
    missing_before cmp order es f e.0 parts.1 (lt_is (cmp e.0 f.0) parts.0)

-- what passes for all entries passes for what is found
pub all_at : {K X : Type 0} (cmp : K → K → Ordering) → IsOrder cmp → (test : K × X → Bool) (es : List (K × X)) (k : K) (v : X) → list_all test es ≡ true → lookup (is_at (cmp k)) es ≡ Some v → test (k, v) ≡ true
all_at cmp order test [] k v h f = absurd cc
all_at cmp order test (e ∷ es) k v h f =
    let parts = and_parts (test e) (list_all test es) h in by (all_at cmp order test es k v parts.1) parts.0 (cmp k e.0) refl f
  where
    by : (lookup (is_at (cmp k)) es ≡ Some v → test (k, v) ≡ true) → test e ≡ true → (o : Ordering) → cmp k e.0 ≡ o → cond (is_eq o) (Some e.1) (lookup (is_at (cmp k)) es) ≡ Some v → test (k, v) ≡ true
    by more first Less x g = more g
    by more first Equal x g = let a = order.exact k e.0 x in let b : e.1 ≡ v = cc g in rw (a, sym b) first
    by more first Greater x g = more g

-- and where each entry that is found passes, all do
pub all_from : {K X : Type 0} (cmp : K → K → Ordering) → IsOrder cmp → (test : K × X → Bool) (es : List (K × X)) → ascends cmp (keys_of es) ≡ true → ((k : K) (v : X) → lookup (is_at (cmp k)) es ≡ Some v → test (k, v) ≡ true) → list_all test es ≡ true
all_from cmp order test [] h each = refl
all_from cmp order test (e ∷ es) h each =
    and_from (test e) (list_all test es) (each e.0 e.1 (rw (order.same e.0) refl))
    (all_from cmp order test es (tail_ascends cmp es e h) (λ k v f. each k v (rw (apart cmp order k e.0 (λ same.
    let none = missing_first cmp order es e h in
    let some = subst (λ q. lookup (is_at (cmp q)) es ≡ Some v) same f in absurd cc)) f)))

-- how many entries have a value that passes
abbrev pub count_in : {K X : Type 0} → (X → Bool) → List (K × X) → ℕ
count_in test es = length (filter test (values_of es))

count_cons : {X : Type 0} (test : X → Bool) (x : X) (xs : List X) → length (filter test (x ∷ xs)) ≡ cond (test x) 1 0 + length (filter test xs)
count_cons test x xs = by (test x)
  where
    by : (b : Bool) → length (cond b (x ∷ filter test xs) (filter test xs)) ≡ cond b 1 0 + length (filter test xs)
    by true = omega arith
    by false = omega arith

-- a new key adds its value
pub count_insert : {K X : Type 0} (cmp : K → K → Ordering) (test : X → Bool) (es : List (K × X)) (k : K) (v : X) → lookup (is_at (cmp k)) es ≡ None → count_in test (insert_entry cmp es k v) ≡ cond (test v) 1 0 + count_in test es
count_insert cmp test [] k v h = count_cons test v []
count_insert cmp test (e ∷ es) k v h = by (count_insert cmp test es k v) (cmp k e.0) refl h
  where
    by : (lookup (is_at (cmp k)) es ≡ None → count_in test (insert_entry cmp es k v) ≡ cond (test v) 1 0 + count_in test es) → (o : Ordering) → cmp k e.0 ≡ o → cond (is_eq o) (Some e.1) (lookup (is_at (cmp k)) es) ≡ None
        → count_in test (match_ordering o ((k, v) ∷ e ∷ es) ((e.0, v) ∷ es) (e ∷ insert_entry cmp es k v)) ≡ cond (test v) 1 0 + count_in test (e ∷ es)
    by more Less x g = count_cons test v (values_of (e ∷ es))
    by more Equal x g = absurd cc
    by more Greater x g =
        let here = count_cons test e.1 (values_of (insert_entry cmp es k v)) in
        let there = count_cons test e.1 (values_of es) in
        let rest = more g in
        omega (arith, here, there, rest)

-- a key that goes takes its value
pub count_remove : {K X : Type 0} (cmp : K → K → Ordering) (test : X → Bool) (es : List (K × X)) (k : K) (v : X) → lookup (is_at (cmp k)) es ≡ Some v → cond (test v) 1 0 + count_in test (remove_entry (is_at (cmp k)) es) ≡ count_in test es
count_remove cmp test [] k v h = absurd cc
count_remove cmp test (e ∷ es) k v h = by (count_remove cmp test es k v) (cmp k e.0) refl h
  where
    by : (lookup (is_at (cmp k)) es ≡ Some v → cond (test v) 1 0 + count_in test (remove_entry (is_at (cmp k)) es) ≡ count_in test es) → (o : Ordering) → cmp k e.0 ≡ o → cond (is_eq o) (Some e.1) (lookup (is_at (cmp k)) es) ≡ Some v
        → cond (test v) 1 0 + count_in test (cond (is_eq o) es (e ∷ remove_entry (is_at (cmp k)) es)) ≡ count_in test (e ∷ es)
    by more Less x g = let here = count_cons test e.1 (values_of (remove_entry (is_at (cmp k)) es)) in let there = count_cons test e.1 (values_of es) in let rest = more g in omega (arith, here, there, rest)
    by more Equal x g = let b : e.1 ≡ v = cc g in rw (sym b) (sym (count_cons test e.1 (values_of es)))
    by more Greater x g = let here = count_cons test e.1 (values_of (remove_entry (is_at (cmp k)) es)) in let there = count_cons test e.1 (values_of es) in let rest = more g in omega (arith, here, there, rest)

-- what is found and passes is counted
pub count_found : {K X : Type 0} (cmp : K → K → Ordering) (test : X → Bool) (es : List (K × X)) (k : K) (v : X) → lookup (is_at (cmp k)) es ≡ Some v → test v ≡ true → 1 ≤ count_in test es
count_found cmp test es k v f t = let one = rw t at (count_remove cmp test es k v f) in omega (arith, one)

-- what is set is there
pub set_here : {K X : Type 0} (cmp : K → K → Ordering) → IsOrder cmp → (es : List (K × X)) (k : K) (v : X) → lookup (is_at (cmp k)) (insert_entry cmp es k v) ≡ Some v
set_here cmp order [] k v = rw (order.same k) refl
set_here cmp order (e ∷ es) k v = by (set_here cmp order es k v) (cmp k e.0) refl
  where
    by : lookup (is_at (cmp k)) (insert_entry cmp es k v) ≡ Some v → (o : Ordering) → cmp k e.0 ≡ o → lookup (is_at (cmp k)) (match_ordering o ((k, v) ∷ e ∷ es) ((e.0, v) ∷ es) (e ∷ insert_entry cmp es k v)) ≡ Some v
    by more Less h = rw (order.same k) refl
    by more Equal h = rw h refl
    by more Greater h = rw h more

-- and what stands elsewhere stays
pub set_other : {K X : Type 0} (cmp : K → K → Ordering) → IsOrder cmp → (es : List (K × X)) (k : K) (v : X) (q : K) → (q ≡ k → ⊥) → lookup (is_at (cmp q)) (insert_entry cmp es k v) ≡ lookup (is_at (cmp q)) es
set_other cmp order [] k v q h = rw (apart cmp order q k h) refl
set_other cmp order (e ∷ es) k v q h = by (set_other cmp order es k v q h) (cmp k e.0) refl
  where
    by : lookup (is_at (cmp q)) (insert_entry cmp es k v) ≡ lookup (is_at (cmp q)) es → (o : Ordering) → cmp k e.0 ≡ o
        → lookup (is_at (cmp q)) (match_ordering o ((k, v) ∷ e ∷ es) ((e.0, v) ∷ es) (e ∷ insert_entry cmp es k v)) ≡ lookup (is_at (cmp q)) (e ∷ es)
    by more Less x = rw (apart cmp order q k h) refl
    by more Equal x = rw (apart cmp order q e.0 (λ same. h (same ∙ sym (order.exact k e.0 x)))) refl
    by more Greater x = ap (λ z. cond (is_at (cmp q) e.0) (Some e.1) z) more

-- what is taken out leaves the others
pub removed_other : {K X : Type 0} (cmp : K → K → Ordering) → IsOrder cmp → (es : List (K × X)) (k q : K) → (q ≡ k → ⊥) → lookup (is_at (cmp q)) (remove_entry (is_at (cmp k)) es) ≡ lookup (is_at (cmp q)) es
removed_other cmp order [] k q h = refl
removed_other cmp order (e ∷ es) k q h = by (removed_other cmp order es k q h) (cmp k e.0) refl
  where
    by : lookup (is_at (cmp q)) (remove_entry (is_at (cmp k)) es) ≡ lookup (is_at (cmp q)) es → (o : Ordering) → cmp k e.0 ≡ o
        → lookup (is_at (cmp q)) (cond (is_eq o) es (e ∷ remove_entry (is_at (cmp k)) es)) ≡ lookup (is_at (cmp q)) (e ∷ es)
    by more Less x = ap (λ z. cond (is_at (cmp q) e.0) (Some e.1) z) more
    by more Equal x = rw (apart cmp order q e.0 (λ same. h (same ∙ sym (order.exact k e.0 x)))) refl
    by more Greater x = ap (λ z. cond (is_at (cmp q) e.0) (Some e.1) z) more

-- and is itself gone
pub removed_here : {K X : Type 0} (cmp : K → K → Ordering) → IsOrder cmp → (es : List (K × X)) (k : K) → ascends cmp (keys_of es) ≡ true → lookup (is_at (cmp k)) (remove_entry (is_at (cmp k)) es) ≡ None
removed_here cmp order [] k h = refl
removed_here cmp order (e ∷ es) k h = by (removed_here cmp order es k (tail_ascends cmp es e h)) (cmp k e.0) refl
  where
    by : lookup (is_at (cmp k)) (remove_entry (is_at (cmp k)) es) ≡ None → (o : Ordering) → cmp k e.0 ≡ o → lookup (is_at (cmp k)) (cond (is_eq o) es (e ∷ remove_entry (is_at (cmp k)) es)) ≡ None
    by more Less x = rw x more
    by more Equal x = let a = order.exact k e.0 x in subst (λ q. lookup (is_at (cmp q)) es ≡ None) (sym a) (missing_first cmp order es e h)
    by more Greater x = rw x more

-- in place of what stood at a key
pub count_replace : {K X : Type 0} (cmp : K → K → Ordering) → IsOrder cmp → (test : X → Bool) (es : List (K × X)) (k : K) (old v : X) → ascends cmp (keys_of es) ≡ true → lookup (is_at (cmp k)) es ≡ Some old
    → cond (test old) 1 0 + count_in test (insert_entry cmp es k v) ≡ cond (test v) 1 0 + count_in test es
count_replace cmp order test [] k old v h f = absurd cc
count_replace cmp order test (e ∷ es) k old v h f = by (count_replace cmp order test es k old v (tail_ascends cmp es e h)) (cmp k e.0) refl f
  where
    by : (lookup (is_at (cmp k)) es ≡ Some old → cond (test old) 1 0 + count_in test (insert_entry cmp es k v) ≡ cond (test v) 1 0 + count_in test es) → (o : Ordering) → cmp k e.0 ≡ o → cond (is_eq o) (Some e.1) (lookup (is_at (cmp k)) es) ≡ Some old
        → cond (test old) 1 0 + count_in test (match_ordering o ((k, v) ∷ e ∷ es) ((e.0, v) ∷ es) (e ∷ insert_entry cmp es k v)) ≡ cond (test v) 1 0 + count_in test (e ∷ es)
    by more Less x g = let none = missing_before cmp order es e k h x in absurd cc
    by more Equal x g =
        let b : e.1 ≡ old = cc g in
        let here = count_cons test v (values_of es) in
        let there = count_cons test e.1 (values_of es) in
        rw (sym b) (omega (arith, here, there))
    by more Greater x g =
        let here = count_cons test e.1 (values_of (insert_entry cmp es k v)) in
        let there = count_cons test e.1 (values_of es) in
        let rest = more g in
        omega (arith, here, there, rest)

-- a set is ascending after an insertion
first_ascends : {K X : Type 0} (cmp : K → K → Ordering) (e : K × X) (es : List (K × X)) → (k : K) → (v : X) → cmp e.0 k ≡ Less → ascends cmp (keys_of (e ∷ es)) ≡ true → ascends cmp (keys_of (insert_entry cmp es k v)) ≡ true → ascends cmp (keys_of (e ∷ insert_entry cmp es k v)) ≡ true
first_ascends cmp e [] k v l h i = rw l refl
first_ascends cmp e (f ∷ es) k v l h i = by (cmp k f.0) refl
  where
    by : (o : Ordering) → cmp k f.0 ≡ o → ascends cmp (keys_of (e ∷ insert_entry cmp (f ∷ es) k v)) ≡ true
    by Less x = let j = rw x at i in rw x (rw l j)
    by Equal x = let j = rw x at i in let p = (and_parts (is_lt (cmp e.0 f.0)) (ascends cmp (keys_of (f ∷ es))) h).0 in rw x (and_from (is_lt (cmp e.0 f.0)) (ascends cmp (keys_of (f ∷ es))) p j)
    by Greater x = let j = rw x at i in let p = (and_parts (is_lt (cmp e.0 f.0)) (ascends cmp (keys_of (f ∷ es))) h).0 in rw x (and_from (is_lt (cmp e.0 f.0)) (ascends cmp (keys_of (f ∷ insert_entry cmp es k v))) p j)

greater_less : {K : Type 0} (cmp : K → K → Ordering) → IsOrder cmp → (a b : K) → cmp a b ≡ Greater → cmp b a ≡ Less
greater_less cmp order a b g = by (cmp b a) (order.total.antisymm a b)
  where
    by : (o : Ordering) → cmp a b ≡ ordering_reverse o → o ≡ Less
    by Less e = refl
    by Equal e = absurd cc
    by Greater e = absurd cc

keep_first : {K X : Type 0} (cmp : K → K → Ordering) (e : K × X) (v : X) (xs : List (K × X)) → ascends cmp (keys_of (e ∷ xs)) ≡ true → ascends cmp (keys_of ((e.0, v) ∷ xs)) ≡ true
keep_first cmp e v [] g = refl
keep_first cmp e v (f ∷ xs) g = g

pub insert_ascends : {K X : Type 0} (cmp : K → K → Ordering) → IsOrder cmp → (es : List (K × X)) (k : K) (v : X) → ascends cmp (keys_of es) ≡ true → ascends cmp (keys_of (insert_entry cmp es k v)) ≡ true
insert_ascends cmp order [] k v h = refl
insert_ascends cmp order (e ∷ es) k v h = by (insert_ascends cmp order es k v (tail_ascends cmp es e h)) (cmp k e.0) refl
  where
    by : ascends cmp (keys_of (insert_entry cmp es k v)) ≡ true → (o : Ordering) → cmp k e.0 ≡ o → ascends cmp (keys_of (match_ordering o ((k, v) ∷ e ∷ es) ((e.0, v) ∷ es) (e ∷ insert_entry cmp es k v))) ≡ true
    by rest Less x = rw x h
    by rest Equal x = keep_first cmp e v es h
    by rest Greater x = first_ascends cmp e es k v (greater_less cmp order k e.0 x) h rest

-- a first key is below all others, and then the keys ascend
pub after_all : {K X : Type 0} (cmp : K → K → Ordering) → IsOrder cmp → (es : List (K × X)) (k : K) (e : K × X) → is_lt (cmp k e.0) ≡ true → ascends cmp (keys_of (e ∷ es)) ≡ true → list_all (λ f. is_lt (cmp k f.0)) (e ∷ es) ≡ true
after_all cmp order [] k e l h = rw l refl
after_all cmp order (f ∷ es) k e l h =
    let parts = and_parts (is_lt (cmp e.0 f.0)) (ascends cmp (keys_of (f ∷ es))) h in
    let next = order.total.trans k e.0 f.0 (lt_is (cmp k e.0) l) (lt_is (cmp e.0 f.0) parts.0) in
    let below : is_lt (cmp k f.0) ≡ true = rw next refl in
    rw l (after_all cmp order es k f below parts.1)

pub below_rest : {K X : Type 0} (cmp : K → K → Ordering) → IsOrder cmp → (es : List (K × X)) (e : K × X) → ascends cmp (keys_of (e ∷ es)) ≡ true → list_all (λ f. is_lt (cmp e.0 f.0)) es ≡ true
below_rest cmp order [] e h = refl
below_rest cmp order (f ∷ es) e h =
    let parts = and_parts (is_lt (cmp e.0 f.0)) (ascends cmp (keys_of (f ∷ es))) h in
    after_all cmp order es e.0 f parts.0 parts.1

pub ascends_from : {K X : Type 0} (cmp : K → K → Ordering) (es : List (K × X)) (e : K × X) → list_all (λ f. is_lt (cmp e.0 f.0)) es ≡ true → ascends cmp (keys_of es) ≡ true → ascends cmp (keys_of (e ∷ es)) ≡ true
ascends_from cmp [] e b h = refl
ascends_from cmp (f ∷ es) e b h = and_from (is_lt (cmp e.0 f.0)) (ascends cmp (keys_of (f ∷ es))) (and_parts (is_lt (cmp e.0 f.0)) (list_all (λ g. is_lt (cmp e.0 g.0)) es) b).0 h

pub all_remove : {K X : Type 0} (test : K × X → Bool) (gone : K → Bool) (es : List (K × X)) → list_all test es ≡ true → list_all test (remove_entry gone es) ≡ true
all_remove test gone [] h = refl
all_remove test gone (e ∷ es) h = by (and_parts (test e) (list_all test es) h) (all_remove test gone es) (gone e.0)
  where
    by : (test e ≡ true) × (list_all test es ≡ true) → (list_all test es ≡ true → list_all test (remove_entry gone es) ≡ true) → (b : Bool) → list_all test (cond b es (e ∷ remove_entry gone es)) ≡ true
    by parts more true = parts.1
    by parts more false = and_from (test e) (list_all test (remove_entry gone es)) parts.0 (more parts.1)

pub all_filter : {X : Type 0} (test kept : X → Bool) (xs : List X) → list_all test xs ≡ true → list_all test (filter kept xs) ≡ true
all_filter test kept [] h = refl
all_filter test kept (x ∷ xs) h = by (and_parts (test x) (list_all test xs) h) (all_filter test kept xs) (kept x)
  where
    by : (test x ≡ true) × (list_all test xs ≡ true) → (list_all test xs ≡ true → list_all test (filter kept xs) ≡ true) → (b : Bool) → list_all test (cond b (x ∷ filter kept xs) (filter kept xs)) ≡ true
    by parts more true = and_from (test x) (list_all test (filter kept xs)) parts.0 (more parts.1)
    by parts more false = more parts.1

pub all_weaken : {X : Type 0} (p q : X → Bool) → ((x : X) → p x ≡ true → q x ≡ true) → (xs : List X) → list_all p xs ≡ true → list_all q xs ≡ true
all_weaken p q h [] t = refl
all_weaken p q h (x ∷ xs) t = let parts = and_parts (p x) (list_all p xs) t in and_from (q x) (list_all q xs) (h x parts.0) (all_weaken p q h xs parts.1)

pub all_insert : {K X : Type 0} (cmp : K → K → Ordering) → IsOrder cmp → (test : K × X → Bool) (es : List (K × X)) (k : K) (v : X) → test (k, v) ≡ true → list_all test es ≡ true → list_all test (insert_entry cmp es k v) ≡ true
all_insert cmp order test [] k v t h = rw t refl
all_insert {K} {X} cmp order test (e ∷ es) k v t h = by (and_parts (test e) (list_all test es) h) (all_insert cmp order test es k v t) (cmp k e.0) refl
  where
    by : (test e ≡ true) × (list_all test es ≡ true) → (list_all test es ≡ true → list_all test (insert_entry cmp es k v) ≡ true) → (o : Ordering) → cmp k e.0 ≡ o → list_all test (match_ordering o ((k, v) ∷ e ∷ es) ((e.0, v) ∷ es) (e ∷ insert_entry cmp es k v)) ≡ true
    by parts more Less x = rw t h
    by parts more Equal x = and_from (test (e.0, v)) (list_all test es) (subst (λ (q : K). test (q, v) ≡ true) (order.exact k e.0 x) t) parts.1
    by parts more Greater x = and_from (test e) (list_all test (insert_entry cmp es k v)) parts.0 (more parts.1)

pub remove_ascends : {K X : Type 0} (cmp : K → K → Ordering) → IsOrder cmp → (gone : K → Bool) (es : List (K × X)) → ascends cmp (keys_of es) ≡ true → ascends cmp (keys_of (remove_entry gone es)) ≡ true
remove_ascends cmp order gone [] h = refl
remove_ascends cmp order gone (e ∷ es) h = by (tail_ascends cmp es e h) (remove_ascends cmp order gone es) (gone e.0)
  where
    by : ascends cmp (keys_of es) ≡ true → (ascends cmp (keys_of es) ≡ true → ascends cmp (keys_of (remove_entry gone es)) ≡ true) → (b : Bool) → ascends cmp (keys_of (cond b es (e ∷ remove_entry gone es))) ≡ true
    by rest more true = rest
    by rest more false = ascends_from cmp (remove_entry gone es) e (all_remove (λ f. is_lt (cmp e.0 f.0)) gone es (below_rest cmp order es e h)) (more rest)

pub filter_ascends : {K X : Type 0} (cmp : K → K → Ordering) → IsOrder cmp → (kept : K × X → Bool) (es : List (K × X)) → ascends cmp (keys_of es) ≡ true → ascends cmp (keys_of (filter kept es)) ≡ true
filter_ascends cmp order kept [] h = refl
filter_ascends cmp order kept (e ∷ es) h = by (tail_ascends cmp es e h) (filter_ascends cmp order kept es) (kept e)
  where
    by : ascends cmp (keys_of es) ≡ true → (ascends cmp (keys_of es) ≡ true → ascends cmp (keys_of (filter kept es)) ≡ true) → (b : Bool) → ascends cmp (keys_of (cond b (e ∷ filter kept es) (filter kept es))) ≡ true
    by rest more true = ascends_from cmp (filter kept es) e (all_filter (λ f. is_lt (cmp e.0 f.0)) kept es (below_rest cmp order es e h)) (more rest)
    by rest more false = more rest

-- two keys are one or they aren't
pub key_cases : {K : Type 0} (cmp : K → K → Ordering) → IsOrder cmp → (a b : K) → (a ≡ b) ⊎ (a ≡ b → ⊥)
key_cases cmp order a b = by (cmp a b) refl
  where
    by : (o : Ordering) → cmp a b ≡ o → (a ≡ b) ⊎ (a ≡ b → ⊥)
    by Less x = inr (λ same. let e = subst (λ q. cmp a q ≡ Equal) same (order.same a) in absurd cc)
    by Equal x = inl (order.exact a b x)
    by Greater x = inr (λ same. let e = subst (λ q. cmp a q ≡ Equal) same (order.same a) in absurd cc)

-- a value that is found and passes both tests
pub record Found {K X : Type 0} (cmp : K → K → Ordering) (test more : X → Bool) (es : List (K × X)) : Type 0 where
  pub key : K
  pub value : X
  pub found : lookup (is_at (cmp key)) es ≡ Some value
  pub passes : test value ≡ true
  pub also : more value ≡ true

found_later : {K X : Type 0} (cmp : K → K → Ordering) → IsOrder cmp → (test more : X → Bool) (e : K × X) (es : List (K × X)) → ascends cmp (keys_of (e ∷ es)) ≡ true → Found cmp test more es → Found cmp test more (e ∷ es)
found_later cmp order test more e es h it = record {
  key = it.key;
  value = it.value;
  found = rw (apart cmp order it.key e.0 (λ same.
      let none = missing_first cmp order es e h in
      let some = subst (λ q. lookup (is_at (cmp q)) es ≡ Some it.value) same it.found in absurd cc)) it.found;
  passes = it.passes;
  also = it.also;
}

pub any_found : {K X : Type 0} (cmp : K → K → Ordering) → IsOrder cmp → (test more : X → Bool) (es : List (K × X)) → ascends cmp (keys_of es) ≡ true → list_any more (filter test (values_of es)) ≡ true → Found cmp test more es
any_found cmp order test more [] h a = absurd (false≢true a)
any_found cmp order test more (e ∷ es) h a = by (λ b. found_later cmp order test more e es h (any_found cmp order test more es (tail_ascends cmp es e h) b)) (test e.1) refl (more e.1) refl a
  where
    by : (list_any more (filter test (values_of es)) ≡ true → Found cmp test more (e ∷ es)) → (t : Bool) → test e.1 ≡ t → (m : Bool) → more e.1 ≡ m → list_any more (cond t (e.1 ∷ filter test (values_of es)) (filter test (values_of es))) ≡ true → Found cmp test more (e ∷ es)
    by rest true p true q b = record { key = e.0; value = e.1; found = rw (order.same e.0) refl; passes = p; also = q }
    by rest true p false q b = rest (rw q at b)
    by rest false p true q b = rest b
    by rest false p false q b = rest b

pub found_any : {K X : Type 0} (cmp : K → K → Ordering) (test more : X → Bool) (es : List (K × X)) (k : K) (v : X) → lookup (is_at (cmp k)) es ≡ Some v → test v ≡ true → more v ≡ true → list_any more (filter test (values_of es)) ≡ true
found_any cmp test more [] k v f t m = absurd cc
found_any cmp test more (e ∷ es) k v f t m = by (λ g. found_any cmp test more es k v g t m) (is_at (cmp k) e.0) f
  where
    skip : list_any more (filter test (values_of es)) ≡ true → (b c : Bool) → more e.1 ≡ c → list_any more (cond b (e.1 ∷ filter test (values_of es)) (filter test (values_of es))) ≡ true
    skip h true true q = rw q refl
    skip h true false q = rw q h
    skip h false c q = h

    by : (lookup (is_at (cmp k)) es ≡ Some v → list_any more (filter test (values_of es)) ≡ true) → (b : Bool) → cond b (Some e.1) (lookup (is_at (cmp k)) es) ≡ Some v → list_any more (filter test (values_of (e ∷ es))) ≡ true
    by rest true g = let same : e.1 ≡ v = cc g in rw (same, t, m) refl
    by rest false g = skip (rest g) (test e.1) (more e.1) refl

pub values_all : {K X : Type 0} (test : X → Bool) (es : List (K × X)) → list_all test (values_of es) ≡ list_all (λ e. test e.1) es
values_all test [] = refl
values_all test (e ∷ es) = ap (λ b. test e.1 && b) (values_all test es)

pub length_replace : {K X : Type 0} (cmp : K → K → Ordering) → (es : List (K × X)) (k : K) (v : X) → length es ≤ length (insert_entry cmp es k v)
length_replace cmp [] k v = omega arith
length_replace cmp (e ∷ es) k v = by (length_replace cmp es k v) (cmp k e.0)
  where
    by : length es ≤ length (insert_entry cmp es k v) → (o : Ordering) → length (e ∷ es) ≤ length (match_ordering o ((k, v) ∷ e ∷ es) ((e.0, v) ∷ es) (e ∷ insert_entry cmp es k v))
    by more Less = omega arith
    by more Equal = omega arith
    by more Greater = omega (arith, more)

none_counted : {X : Type 0} (test : X → Bool) (xs : List X) → list_all (λ x. not (test x)) xs ≡ true → length (filter test xs) ≡ 0
none_counted test [] h = refl
none_counted test (x ∷ xs) h = by (none_counted test xs) (test x) refl h
  where
    by : (list_all (λ y. not (test y)) xs ≡ true → length (filter test xs) ≡ 0) → (b : Bool) → test x ≡ b → (not b && list_all (λ y. not (test y)) xs) ≡ true → length (cond b (x ∷ filter test xs) (filter test xs)) ≡ 0
    by rest true e t = absurd (false≢true t)
    by rest false e t = rest t

-- none is counted where none that is found passes
pub count_none : {K X : Type 0} (cmp : K → K → Ordering) → IsOrder cmp → (test : X → Bool) (es : List (K × X)) → ascends cmp (keys_of es) ≡ true → ((k : K) (v : X) → lookup (is_at (cmp k)) es ≡ Some v → test v ≡ false) → count_in test es ≡ 0
count_none cmp order test es h each = none_counted test (values_of es) (values_all (λ x. not (test x)) es ∙ all_from cmp order (λ e. not (test e.1)) es h (λ k v f. rw (each k v f) refl))

-- an insertion at a key that is there is the one after its removal
insert_first : {K X : Type 0} (cmp : K → K → Ordering) → IsOrder cmp → (es : List (K × X)) (e : K × X) (k : K) (v : X) → ascends cmp (keys_of (e ∷ es)) ≡ true → k ≡ e.0 → insert_entry cmp es k v ≡ (k, v) ∷ es
insert_first cmp order [] e k v h same = refl
insert_first cmp order (f ∷ es) e k v h same =
    let less = lt_is (cmp e.0 f.0) (and_parts (is_lt (cmp e.0 f.0)) (ascends cmp (keys_of (f ∷ es))) h).0 in
    let l = subst (λ q. cmp q f.0 ≡ Less) (sym same) less in rw l refl

pub insert_again : {K X : Type 0} (cmp : K → K → Ordering) → IsOrder cmp → (es : List (K × X)) (k : K) (old v : X) → ascends cmp (keys_of es) ≡ true → lookup (is_at (cmp k)) es ≡ Some old → insert_entry cmp (remove_entry (is_at (cmp k)) es) k v ≡ insert_entry cmp es k v
insert_again cmp order [] k old v h f = absurd cc
insert_again {K} {X} cmp order (e ∷ es) k old v h f = by (insert_again cmp order es k old v (tail_ascends cmp es e h)) (cmp k e.0) refl f
  where
    by : (lookup (is_at (cmp k)) es ≡ Some old → insert_entry cmp (remove_entry (is_at (cmp k)) es) k v ≡ insert_entry cmp es k v) → (o : Ordering) → cmp k e.0 ≡ o → cond (is_eq o) (Some e.1) (lookup (is_at (cmp k)) es) ≡ Some old
        → insert_entry cmp (cond (is_eq o) es (e ∷ remove_entry (is_at (cmp k)) es)) k v ≡ match_ordering o ((k, v) ∷ e ∷ es) ((e.0, v) ∷ es) (e ∷ insert_entry cmp es k v)
    by more Less x g = let none = missing_before cmp order es e k h x in absurd cc
    by more Equal x g = let same = order.exact k e.0 x in insert_first cmp order es e k v h same ∙ ap (λ (q : K). (q, v) ∷ es) same
    by more Greater x g = rw x (ap (λ z. e ∷ z) (more g))
