-- Insertions into a sorted map and removals, one after another.
use Rattle.std.proofs.Common.{◌≡◌, true, false, List, [], ◌∷◌, Some, cond, refl, sym, ap, ◌∙◌, ℕ, None, Bool, ◌<◌}
use Rattle.std.specs.BTreeMap.{insert_entry, is_at}
use Rattle.std.specs.Cmp.{nat_cmp_is}
use Rattle.std.specs.List.{list_all}
use Rattle.std.specs.Map.{lookup, keys_of, remove_entry}
use Rattle.std.specs.Ordering.{match_ordering, is_eq, is_lt, nat_cmp}
use Rattle.std.specs.declared.cmp.Ordering.{Ordering}
use Rattle.std.specs.declared.cmp.Ordering.TheVariants.{Less, Equal, Greater}
use Rattle.std.proofs.lemmas.Bool.{and_parts}
use Rattle.fs_model.specs.Proper.{ascends}
use Rattle.fs_laws.specs.Maps.{IsOrder, apart, missing_before, tail_ascends}

-- a key that isn't there isn't taken out
pub remove_missing : {K X : Type 0} (gone : K → Bool) (es : List (K × X)) → lookup gone es ≡ None → remove_entry gone es ≡ es
remove_missing gone [] h = refl
remove_missing gone (e ∷ es) h = by (remove_missing gone es) (gone e.0) h
  where
    by : (lookup gone es ≡ None → remove_entry gone es ≡ es) → (b : Bool) → cond b (Some e.1) (lookup gone es) ≡ None → cond b es (e ∷ remove_entry gone es) ≡ e ∷ es
    by more true f = absurd cc
    by more false f = ap (λ z. e ∷ z) (more f)

-- what is set and then taken out might as well not have been set
pub remove_insert : {K X : Type 0} (cmp : K → K → Ordering) → IsOrder cmp → (es : List (K × X)) (k : K) (v : X) → ascends cmp (keys_of es) ≡ true → remove_entry (is_at (cmp k)) (insert_entry cmp es k v) ≡ remove_entry (is_at (cmp k)) es
remove_insert cmp order [] k v h = rw (order.same k) refl
remove_insert {K} {X} cmp order (e ∷ es) k v h = by (remove_insert cmp order es k v (tail_ascends cmp es e h)) (cmp k e.0) refl
  where
    by : remove_entry (is_at (cmp k)) (insert_entry cmp es k v) ≡ remove_entry (is_at (cmp k)) es → (o : Ordering) → cmp k e.0 ≡ o
        → remove_entry (is_at (cmp k)) (match_ordering o ((k, v) ∷ e ∷ es) ((e.0, v) ∷ es) (e ∷ insert_entry cmp es k v)) ≡ remove_entry (is_at (cmp k)) (e ∷ es)
    by more Less x = rw (order.same k) (sym (remove_missing (is_at (cmp k)) (e ∷ es) (missing_before cmp order es e k h x)))
    by more Equal x = rw x refl
    by more Greater x = rw x (ap (λ z. e ∷ z) more)

-- a key before all others is set in front
pub insert_front : {K X : Type 0} (cmp : K → K → Ordering) (es : List (K × X)) (k : K) (v : X) → list_all (λ e. is_lt (cmp k e.0)) es ≡ true → insert_entry cmp es k v ≡ (k, v) ∷ es
insert_front cmp [] k v h = refl
insert_front cmp (e ∷ es) k v h = by (cmp k e.0) (and_parts (is_lt (cmp k e.0)) (list_all (λ e. is_lt (cmp k e.0)) es) h).0
  where
    by : (o : Ordering) → is_lt o ≡ true → match_ordering o ((k, v) ∷ e ∷ es) ((e.0, v) ∷ es) (e ∷ insert_entry cmp es k v) ≡ (k, v) ∷ e ∷ es
    by Less l = refl
    by Equal l = absurd cc
    by Greater l = absurd cc

first_lt : (o : Ordering) → is_lt o ≡ true → o ≡ Less
first_lt Less h = refl
first_lt Equal h = absurd cc
first_lt Greater h = absurd cc

insert_before : {K X : Type 0} (cmp : K → K → Ordering) → IsOrder cmp → (es : List (K × X)) (e : K × X) (q : K) (w : X) → ascends cmp (keys_of (e ∷ es)) ≡ true → cmp q e.0 ≡ Less → insert_entry cmp es q w ≡ (q, w) ∷ es
insert_before cmp order [] e q w h l = refl
insert_before cmp order (f ∷ es) e q w h l =
    let next = first_lt (cmp e.0 f.0) (and_parts (is_lt (cmp e.0 f.0)) (ascends cmp (keys_of (f ∷ es))) h).0 in
    let less = order.total.trans q e.0 f.0 l next in rw less refl

-- what is set and what is taken out at another key, in either order
pub remove_swap : {K X : Type 0} (cmp : K → K → Ordering) → IsOrder cmp → (es : List (K × X)) (k q : K) (w : X) → (k ≡ q → ⊥) → ascends cmp (keys_of es) ≡ true
    → remove_entry (is_at (cmp k)) (insert_entry cmp es q w) ≡ insert_entry cmp (remove_entry (is_at (cmp k)) es) q w
remove_swap cmp order [] k q w other h = rw (apart cmp order k q other) refl
remove_swap {K} {X} cmp order (e ∷ es) k q w other h = by (remove_swap cmp order es k q w other (tail_ascends cmp es e h)) (cmp k e.0) (cmp q e.0) refl refl
  where
    Goal : Ordering → Ordering → Type 0
    Goal a b = remove_entry (is_at (cmp k)) (match_ordering b ((q, w) ∷ e ∷ es) ((e.0, w) ∷ es) (e ∷ insert_entry cmp es q w)) ≡ insert_entry cmp (cond (is_eq a) es (e ∷ remove_entry (is_at (cmp k)) es)) q w

    by : remove_entry (is_at (cmp k)) (insert_entry cmp es q w) ≡ insert_entry cmp (remove_entry (is_at (cmp k)) es) q w → (a b : Ordering) → cmp k e.0 ≡ a → cmp q e.0 ≡ b → Goal a b
    by more Equal Less x y = rw (apart cmp order k q other) (rw x (sym (insert_before cmp order es e q w h y)))
    by more Less Less x y = rw (apart cmp order k q other) (rw (x, y) refl)
    by more Greater Less x y = rw (apart cmp order k q other) (rw (x, y) refl)
    by more Equal Equal x y = absurd (other (order.exact k e.0 x ∙ sym (order.exact q e.0 y)))
    by more Less Equal x y = rw (x, y) refl
    by more Greater Equal x y = rw (x, y) refl
    by more Equal Greater x y = rw x refl
    by more Less Greater x y = rw (x, y) (ap (λ z. e ∷ z) more)
    by more Greater Greater x y = rw (x, y) (ap (λ z. e ∷ z) more)

pub less_is : (a b : ℕ) → a < b → nat_cmp a b ≡ Less
less_is a b h = sym (nat_cmp_is a b Less h)

pub greater_is : (a b : ℕ) → b < a → nat_cmp a b ≡ Greater
greater_is a b h = sym (nat_cmp_is a b Greater h)

pub equal_is : (a b : ℕ) → a ≡ b → nat_cmp a b ≡ Equal
equal_is a b h = sym (nat_cmp_is a b Equal h)
