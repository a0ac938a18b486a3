-- What is set or removed under entries that are set after it.
use Rattle.std.proofs.Common.{◌≡◌, ◌⊎◌, inl, inr, Bool, true, false, List, [], ◌∷◌, Some, cond, refl, sym, ap, subst, ◌∙◌}
use Rattle.std.specs.Prelude.{filter, None, Option}
use Rattle.std.specs.List.{list_all}
use Rattle.std.specs.BTreeMap.{insert_entry, is_at}
use Rattle.std.specs.Map.{lookup, set_value, remove_entry, keys_of}
use Rattle.std.specs.Ordering.{match_ordering, is_eq, is_lt}
use Rattle.std.specs.declared.cmp.Ordering.{Ordering}
use Rattle.std.specs.declared.cmp.Ordering.TheVariants.{Less, Equal, Greater}
use Rattle.std.proofs.lemmas.Bool.{false≢true, and_parts}
use Rattle.fs_model.specs.Proper.{ascends}
use Rattle.fs_laws.specs.Insertions.{insert_twice, insert_swap}
use Rattle.buffered_files.proofs.Inserts.{with_all}
use Rattle.fs_laws.specs.Maps.{IsOrder, apart, missing_before, missing_first, tail_ascends, after_all, all_remove, all_filter, insert_ascends, key_cases}

-- keys of which one is before the other are two
less_apart : {K : Type 0} (cmp : K → K → Ordering) → IsOrder cmp → (a b : K) → cmp a b ≡ Less → a ≡ b → ⊥
less_apart cmp order a b h same = let e : cmp a b ≡ Equal = rw (sym same) (order.same a) in absurd cc

greater_apart : {K : Type 0} (cmp : K → K → Ordering) → IsOrder cmp → (a b : K) → cmp a b ≡ Greater → a ≡ b → ⊥
greater_apart cmp order a b h same = let e : cmp a b ≡ Equal = rw (sym same) (order.same a) in absurd cc

-- a key that isn't set later may be set before or after
pub set_before : {K X : Type 0} (cmp : K → K → Ordering) → IsOrder cmp → (new es : List (K × X)) (k : K) (v : X) → lookup (is_at (cmp k)) new ≡ None
    → with_all cmp (insert_entry cmp es k v) new ≡ insert_entry cmp (with_all cmp es new) k v
set_before cmp order [] es k v none = refl
set_before {K} {X} cmp order (e ∷ new) es k v none = by (set_before cmp order new (insert_entry cmp es e.0 e.1) k v) (cmp k e.0) refl none
  where
    Goal : Type 0
    Goal = with_all cmp (insert_entry cmp (insert_entry cmp es k v) e.0 e.1) new ≡ insert_entry cmp (with_all cmp (insert_entry cmp es e.0 e.1) new) k v

    More : Type 0
    More = lookup (is_at (cmp k)) new ≡ None → with_all cmp (insert_entry cmp (insert_entry cmp es e.0 e.1) k v) new ≡ insert_entry cmp (with_all cmp (insert_entry cmp es e.0 e.1) new) k v

    other : More → (k ≡ e.0 → ⊥) → lookup (is_at (cmp k)) new ≡ None → Goal
    other more two n = ap (λ z. with_all cmp z new) (insert_swap cmp order es k e.0 v e.1 two) ∙ more n

    by : More → (o : Ordering) → cmp k e.0 ≡ o → cond (is_eq o) (Some e.1) (lookup (is_at (cmp k)) new) ≡ None → Goal
    by more Less x n = other more (less_apart cmp order k e.0 x) n
    by more Equal x n = absurd cc
    by more Greater x n = other more (greater_apart cmp order k e.0 x) n

-- what is set above and below is set in all
pub set_through : {K X : Type 0} (cmp : K → K → Ordering) → IsOrder cmp → (new es : List (K × X)) (k : K) (v : X) → ascends cmp (keys_of new) ≡ true
    → with_all cmp (insert_entry cmp es k v) (set_value (is_at (cmp k)) new v) ≡ insert_entry cmp (with_all cmp es new) k v
set_through cmp order [] es k v h = refl
set_through {K} {X} cmp order (e ∷ new) es k v h = by (set_through cmp order new (insert_entry cmp es e.0 e.1) k v (tail_ascends cmp new e h)) (cmp k e.0) refl
  where
    Goal : Ordering → Type 0
    Goal o = with_all cmp (insert_entry cmp es k v) (cond (is_eq o) ((e.0, v) ∷ new) (e ∷ set_value (is_at (cmp k)) new v)) ≡ insert_entry cmp (with_all cmp (insert_entry cmp es e.0 e.1) new) k v

    More : Type 0
    More = with_all cmp (insert_entry cmp (insert_entry cmp es e.0 e.1) k v) (set_value (is_at (cmp k)) new v) ≡ insert_entry cmp (with_all cmp (insert_entry cmp es e.0 e.1) new) k v

    other : More → (k ≡ e.0 → ⊥) → Goal Less
    other more two = ap (λ z. with_all cmp z (set_value (is_at (cmp k)) new v)) (insert_swap cmp order es k e.0 v e.1 two) ∙ more

    here : k ≡ e.0 → Goal Equal
    here same =
        let none : lookup (is_at (cmp k)) new ≡ None = subst (λ q. lookup (is_at (cmp q)) new ≡ None) (sym same) (missing_first cmp order new e h) in
        let left : with_all cmp (insert_entry cmp (insert_entry cmp es k v) e.0 v) new ≡ with_all cmp (insert_entry cmp es k v) new =
        ap (λ q. with_all cmp (insert_entry cmp (insert_entry cmp es k v) q v) new) (sym same) ∙ ap (λ z. with_all cmp z new) (insert_twice cmp order es k v v) in
        let right : with_all cmp (insert_entry cmp es k v) new ≡ with_all cmp (insert_entry cmp (insert_entry cmp es e.0 e.1) k v) new =
        ap (λ z. with_all cmp z new) (sym (insert_twice cmp order es k e.1 v)) ∙ ap (λ q. with_all cmp (insert_entry cmp (insert_entry cmp es q e.1) k v) new) same in
        left ∙ right ∙ set_before cmp order new (insert_entry cmp es e.0 e.1) k v none

    by : More → (o : Ordering) → cmp k e.0 ≡ o → Goal o
    by more Less x = other more (less_apart cmp order k e.0 x)
    by more Equal x = here (order.exact k e.0 x)
    by more Greater x = other more (greater_apart cmp order k e.0 x)

-- what isn't there can't be removed
pub remove_missing : {K X : Type 0} (test : K → Bool) (es : List (K × X)) → lookup test es ≡ None → remove_entry test es ≡ es
remove_missing test [] none = refl
remove_missing test (e ∷ es) none = by (remove_missing test es) (test e.0) none
  where
    by : (lookup test es ≡ None → remove_entry test es ≡ es) → (b : Bool) → cond b (Some e.1) (lookup test es) ≡ None → cond b es (e ∷ remove_entry test es) ≡ e ∷ es
    by more true n = absurd cc
    by more false n = ap (λ z. e ∷ z) (more n)

-- nor be set
pub set_missing : {K X : Type 0} (test : K → Bool) (es : List (K × X)) (v : X) → lookup test es ≡ None → set_value test es v ≡ es
set_missing test [] v none = refl
set_missing test (e ∷ es) v none = by (set_missing test es v) (test e.0) none
  where
    by : (lookup test es ≡ None → set_value test es v ≡ es) → (b : Bool) → cond b (Some e.1) (lookup test es) ≡ None → cond b ((e.0, v) ∷ es) (e ∷ set_value test es v) ≡ e ∷ es
    by more true n = absurd cc
    by more false n = ap (λ z. e ∷ z) (more n)

-- a key below all others goes in front
insert_front : {K X : Type 0} (cmp : K → K → Ordering) (es : List (K × X)) (k : K) (v : X) → list_all (λ f. is_lt (cmp k f.0)) es ≡ true → insert_entry cmp es k v ≡ (k, v) ∷ es
insert_front cmp [] k v h = refl
insert_front cmp (e ∷ es) k v h = by (cmp k e.0) (and_parts (is_lt (cmp k e.0)) (list_all (λ f. is_lt (cmp k f.0)) es) h).0
  where
    by : (o : Ordering) → is_lt o ≡ true → match_ordering o ((k, v) ∷ e ∷ es) ((e.0, v) ∷ es) (e ∷ insert_entry cmp es k v) ≡ (k, v) ∷ e ∷ es
    by Less l = refl
    by Equal l = absurd (false≢true l)
    by Greater l = absurd (false≢true l)

below_all : {K X : Type 0} (cmp : K → K → Ordering) → IsOrder cmp → (es : List (K × X)) (k : K) (e : K × X) → cmp k e.0 ≡ Less → ascends cmp (keys_of (e ∷ es)) ≡ true → list_all (λ f. is_lt (cmp k f.0)) (e ∷ es) ≡ true
below_all cmp order es k e l h = after_all cmp order es k e (rw l refl) h

remove_insert_other : {K X : Type 0} (cmp : K → K → Ordering) → IsOrder cmp → (es : List (K × X)) (k q : K) (v : X) → (q ≡ k → ⊥) → ascends cmp (keys_of es) ≡ true
    → remove_entry (is_at (cmp q)) (insert_entry cmp es k v) ≡ insert_entry cmp (remove_entry (is_at (cmp q)) es) k v
remove_insert_other cmp order [] k q v two h = rw (apart cmp order q k two) refl
remove_insert_other {K} {X} cmp order (e ∷ es) k q v two h = by (remove_insert_other cmp order es k q v two (tail_ascends cmp es e h)) (cmp k e.0) refl
  where
    Goal : Ordering → Type 0
    Goal o = remove_entry (is_at (cmp q)) (match_ordering o ((k, v) ∷ e ∷ es) ((e.0, v) ∷ es) (e ∷ insert_entry cmp es k v)) ≡ insert_entry cmp (remove_entry (is_at (cmp q)) (e ∷ es)) k v

    later : cmp k e.0 ≡ Greater → remove_entry (is_at (cmp q)) (insert_entry cmp es k v) ≡ insert_entry cmp (remove_entry (is_at (cmp q)) es) k v → (b : Bool)
        → cond b (insert_entry cmp es k v) (e ∷ remove_entry (is_at (cmp q)) (insert_entry cmp es k v)) ≡ insert_entry cmp (cond b es (e ∷ remove_entry (is_at (cmp q)) es)) k v
    later x more true = refl
    later x more false = rw x (ap (λ z. e ∷ z) more)

    by : remove_entry (is_at (cmp q)) (insert_entry cmp es k v) ≡ insert_entry cmp (remove_entry (is_at (cmp q)) es) k v → (o : Ordering) → cmp k e.0 ≡ o → Goal o
    by more Less x = rw (apart cmp order q k two)
        (sym (insert_front cmp (remove_entry (is_at (cmp q)) (e ∷ es)) k v (all_remove (λ f. is_lt (cmp k f.0)) (is_at (cmp q)) (e ∷ es) (below_all cmp order es k e x h))))
    by more Equal x = rw (apart cmp order q e.0 (λ same. two (same ∙ sym (order.exact k e.0 x))), x) refl
    by more Greater x = later x more (is_at (cmp q) e.0)

remove_insert_same : {K X : Type 0} (cmp : K → K → Ordering) → IsOrder cmp → (es : List (K × X)) (k : K) (v : X) → ascends cmp (keys_of es) ≡ true
    → remove_entry (is_at (cmp k)) (insert_entry cmp es k v) ≡ remove_entry (is_at (cmp k)) es
remove_insert_same cmp order [] k v h = rw (order.same k) refl
remove_insert_same {K} {X} cmp order (e ∷ es) k v h = by (remove_insert_same cmp order es k v (tail_ascends cmp es e h)) (cmp k e.0) refl
  where
    by : remove_entry (is_at (cmp k)) (insert_entry cmp es k v) ≡ remove_entry (is_at (cmp k)) es → (o : Ordering) → cmp k e.0 ≡ o
        → remove_entry (is_at (cmp k)) (match_ordering o ((k, v) ∷ e ∷ es) ((e.0, v) ∷ es) (e ∷ insert_entry cmp es k v)) ≡ cond (is_eq o) es (e ∷ remove_entry (is_at (cmp k)) es)
    by more Less x = rw (order.same k) (ap (λ z. e ∷ z) (sym (remove_missing (is_at (cmp k)) es (none_later x))))
      where
        none_later : cmp k e.0 ≡ Less → lookup (is_at (cmp k)) es ≡ None
        none_later l = let none = missing_before cmp order es e k h l in rw l at none
    by more Equal x = rw x refl
    by more Greater x = rw x (ap (λ z. e ∷ z) more)

-- a key that isn't set later is removed below
remove_under : {K X : Type 0} (cmp : K → K → Ordering) → IsOrder cmp → (new es : List (K × X)) (q : K) → lookup (is_at (cmp q)) new ≡ None → ascends cmp (keys_of es) ≡ true
    → remove_entry (is_at (cmp q)) (with_all cmp es new) ≡ with_all cmp (remove_entry (is_at (cmp q)) es) new
remove_under cmp order [] es q none h = refl
remove_under {K} {X} cmp order (e ∷ new) es q none h = by (λ n. remove_under cmp order new (insert_entry cmp es e.0 e.1) q n (insert_ascends cmp order es e.0 e.1 h)) (cmp q e.0) refl none
  where
    Goal : Type 0
    Goal = remove_entry (is_at (cmp q)) (with_all cmp (insert_entry cmp es e.0 e.1) new) ≡ with_all cmp (insert_entry cmp (remove_entry (is_at (cmp q)) es) e.0 e.1) new

    More : Type 0
    More = lookup (is_at (cmp q)) new ≡ None → remove_entry (is_at (cmp q)) (with_all cmp (insert_entry cmp es e.0 e.1) new) ≡ with_all cmp (remove_entry (is_at (cmp q)) (insert_entry cmp es e.0 e.1)) new

    other : More → (q ≡ e.0 → ⊥) → lookup (is_at (cmp q)) new ≡ None → Goal
    other more two n = more n ∙ ap (λ z. with_all cmp z new) (remove_insert_other cmp order es e.0 q e.1 two h)

    by : More → (o : Ordering) → cmp q e.0 ≡ o → cond (is_eq o) (Some e.1) (lookup (is_at (cmp q)) new) ≡ None → Goal
    by more Less x n = other more (less_apart cmp order q e.0 x) n
    by more Equal x n = absurd cc
    by more Greater x n = other more (greater_apart cmp order q e.0 x) n

-- what is removed above and below is removed in all
pub remove_through : {K X : Type 0} (cmp : K → K → Ordering) → IsOrder cmp → (new es : List (K × X)) (q : K) → ascends cmp (keys_of new) ≡ true → ascends cmp (keys_of es) ≡ true
    → with_all cmp (remove_entry (is_at (cmp q)) es) (remove_entry (is_at (cmp q)) new) ≡ remove_entry (is_at (cmp q)) (with_all cmp es new)
remove_through cmp order [] es q n h = refl
remove_through {K} {X} cmp order (e ∷ new) es q n h = by (remove_through cmp order new (insert_entry cmp es e.0 e.1) q (tail_ascends cmp new e n) (insert_ascends cmp order es e.0 e.1 h)) (cmp q e.0) refl
  where
    Goal : Ordering → Type 0
    Goal o = with_all cmp (remove_entry (is_at (cmp q)) es) (cond (is_eq o) new (e ∷ remove_entry (is_at (cmp q)) new)) ≡ remove_entry (is_at (cmp q)) (with_all cmp (insert_entry cmp es e.0 e.1) new)

    More : Type 0
    More = with_all cmp (remove_entry (is_at (cmp q)) (insert_entry cmp es e.0 e.1)) (remove_entry (is_at (cmp q)) new) ≡ remove_entry (is_at (cmp q)) (with_all cmp (insert_entry cmp es e.0 e.1) new)

    other : More → (q ≡ e.0 → ⊥) → Goal Less
    other more two = ap (λ z. with_all cmp z (remove_entry (is_at (cmp q)) new)) (sym (remove_insert_other cmp order es e.0 q e.1 two h)) ∙ more

    here : q ≡ e.0 → Goal Equal
    here same =
        let none : lookup (is_at (cmp q)) new ≡ None = subst (λ k. lookup (is_at (cmp k)) new ≡ None) (sym same) (missing_first cmp order new e n) in
        let gone : remove_entry (is_at (cmp q)) (insert_entry cmp es e.0 e.1) ≡ remove_entry (is_at (cmp q)) es =
        ap (λ k. remove_entry (is_at (cmp q)) (insert_entry cmp es k e.1)) (sym same) ∙ remove_insert_same cmp order es q e.1 h in
        ap (λ z. with_all cmp z new) (sym gone) ∙ sym (remove_under cmp order new (insert_entry cmp es e.0 e.1) q none (insert_ascends cmp order es e.0 e.1 h))

    by : More → (o : Ordering) → cmp q e.0 ≡ o → Goal o
    by more Less x = other more (less_apart cmp order q e.0 x)
    by more Equal x = here (order.exact q e.0 x)
    by more Greater x = other more (greater_apart cmp order q e.0 x)

-- a key that passes is set among those that pass
pub filter_insert : {K X : Type 0} (cmp : K → K → Ordering) → IsOrder cmp → (test : K → Bool) (es : List (K × X)) (k : K) (v : X) → test k ≡ true → ascends cmp (keys_of es) ≡ true
    → filter (λ e. test e.0) (insert_entry cmp es k v) ≡ insert_entry cmp (filter (λ e. test e.0) es) k v
filter_insert cmp order test [] k v t h = rw t refl
filter_insert {K} {X} cmp order test (e ∷ es) k v t h = by (filter_insert cmp order test es k v t (tail_ascends cmp es e h)) (cmp k e.0) refl
  where
    passing : K × X → Bool
    passing f = test f.0

    More : Type 0
    More = filter (λ f. test f.0) (insert_entry cmp es k v) ≡ insert_entry cmp (filter (λ f. test f.0) es) k v

    Goal : Ordering → Type 0
    Goal o = filter (λ f. test f.0) (match_ordering o ((k, v) ∷ e ∷ es) ((e.0, v) ∷ es) (e ∷ insert_entry cmp es k v)) ≡ insert_entry cmp (filter (λ f. test f.0) (e ∷ es)) k v

    later : cmp k e.0 ≡ Greater → More → (b : Bool)
        → cond b (e ∷ filter (λ f. test f.0) (insert_entry cmp es k v)) (filter (λ f. test f.0) (insert_entry cmp es k v)) ≡ insert_entry cmp (cond b (e ∷ filter (λ f. test f.0) es) (filter (λ f. test f.0) es)) k v
    later x more true = rw x (ap (λ z. e ∷ z) more)
    later x more false = more

    by : More → (o : Ordering) → cmp k e.0 ≡ o → Goal o
    by more Less x = rw t (sym (insert_front cmp (filter (λ f. test f.0) (e ∷ es)) k v (all_filter (λ f. is_lt (cmp k f.0)) (λ f. test f.0) (e ∷ es) (below_all cmp order es k e x h))))
    by more Equal x = let u : test e.0 ≡ true = subst (λ q. test q ≡ true) (order.exact k e.0 x) t in rw (u, x) refl
    by more Greater x = later x more (test e.0)

-- and one that doesn't pass is nothing to them
pub filter_insert_gone : {K X : Type 0} (cmp : K → K → Ordering) → IsOrder cmp → (test : K → Bool) (es : List (K × X)) (k : K) (v : X) → test k ≡ false
    → filter (λ e. test e.0) (insert_entry cmp es k v) ≡ filter (λ e. test e.0) es
filter_insert_gone cmp order test [] k v t = rw t refl
filter_insert_gone {K} {X} cmp order test (e ∷ es) k v t = by (filter_insert_gone cmp order test es k v t) (cmp k e.0) refl
  where
    More : Type 0
    More = filter (λ f. test f.0) (insert_entry cmp es k v) ≡ filter (λ f. test f.0) es

    later : More → (b : Bool) → cond b (e ∷ filter (λ f. test f.0) (insert_entry cmp es k v)) (filter (λ f. test f.0) (insert_entry cmp es k v)) ≡ cond b (e ∷ filter (λ f. test f.0) es) (filter (λ f. test f.0) es)
    later more true = ap (λ z. e ∷ z) more
    later more false = more

    by : More → (o : Ordering) → cmp k e.0 ≡ o → filter (λ f. test f.0) (match_ordering o ((k, v) ∷ e ∷ es) ((e.0, v) ∷ es) (e ∷ insert_entry cmp es k v)) ≡ filter (λ f. test f.0) (e ∷ es)
    by more Less x = rw t refl
    by more Equal x = let u : test e.0 ≡ false = subst (λ q. test q ≡ false) (order.exact k e.0 x) t in rw u refl
    by more Greater x = later more (test e.0)

-- what is found where a value was set
pub set_value_here : {K X : Type 0} (cmp : K → K → Ordering) → IsOrder cmp → (es : List (K × X)) (k : K) (w v : X) → lookup (is_at (cmp k)) es ≡ Some w → lookup (is_at (cmp k)) (set_value (is_at (cmp k)) es v) ≡ Some v
set_value_here cmp order [] k w v f = absurd cc
set_value_here {K} {X} cmp order (e ∷ es) k w v f = by (set_value_here cmp order es k w v) (is_at (cmp k) e.0) refl f
  where
    by : (lookup (is_at (cmp k)) es ≡ Some w → lookup (is_at (cmp k)) (set_value (is_at (cmp k)) es v) ≡ Some v) → (b : Bool) → is_at (cmp k) e.0 ≡ b → cond b (Some e.1) (lookup (is_at (cmp k)) es) ≡ Some w
        → lookup (is_at (cmp k)) (cond b ((e.0, v) ∷ es) (e ∷ set_value (is_at (cmp k)) es v)) ≡ Some v
    by more true x g = rw x refl
    by more false x g = rw x (more g)

pub set_value_other : {K X : Type 0} (cmp : K → K → Ordering) → IsOrder cmp → (es : List (K × X)) (k q : K) (v : X) → (q ≡ k → ⊥) → lookup (is_at (cmp q)) (set_value (is_at (cmp k)) es v) ≡ lookup (is_at (cmp q)) es
set_value_other cmp order [] k q v two = refl
set_value_other {K} {X} cmp order (e ∷ es) k q v two = by (set_value_other cmp order es k q v two) (cmp k e.0) refl
  where
    by : lookup (is_at (cmp q)) (set_value (is_at (cmp k)) es v) ≡ lookup (is_at (cmp q)) es → (o : Ordering) → cmp k e.0 ≡ o
        → lookup (is_at (cmp q)) (cond (is_eq o) ((e.0, v) ∷ es) (e ∷ set_value (is_at (cmp k)) es v)) ≡ lookup (is_at (cmp q)) (e ∷ es)
    by more Less x = ap (λ z. cond (is_at (cmp q) e.0) (Some e.1) z) more
    by more Equal x = rw (apart cmp order q e.0 (λ same. two (same ∙ sym (order.exact k e.0 x)))) refl
    by more Greater x = ap (λ z. cond (is_at (cmp q) e.0) (Some e.1) z) more

-- what stands in a map in which a value was set: that value in place of another, or what stood there
pub record WasSet {K X : Type 0} (cmp : K → K → Ordering) (es : List (K × X)) (k : K) (v : X) (q : K) (x : X) : Type 0 where
  pub same : q ≡ k
  pub value : x ≡ v
  pub before : X
  pub found : lookup (is_at (cmp q)) es ≡ Some before

pub was_set : {K X : Type 0} (cmp : K → K → Ordering) → IsOrder cmp → (es : List (K × X)) (k : K) (v : X) (q : K) (x : X) → lookup (is_at (cmp q)) (set_value (is_at (cmp k)) es v) ≡ Some x
    → WasSet cmp es k v q x ⊎ ((q ≡ k → ⊥) × (lookup (is_at (cmp q)) es ≡ Some x))
was_set {K} {X} cmp order es k v q x f = by (key_cases cmp order q k)
  where
    here : q ≡ k → (o : Option X) → lookup (is_at (cmp k)) es ≡ o → WasSet cmp es k v q x ⊎ ((q ≡ k → ⊥) × (lookup (is_at (cmp q)) es ≡ Some x))
    here same None n =
        let unchanged = set_missing (is_at (cmp k)) es v n in
        let found : lookup (is_at (cmp k)) (set_value (is_at (cmp k)) es v) ≡ Some x = subst (λ z. lookup (is_at (cmp z)) (set_value (is_at (cmp k)) es v) ≡ Some x) same f in
        let found_before : lookup (is_at (cmp k)) es ≡ Some x = subst (λ z. lookup (is_at (cmp k)) z ≡ Some x) unchanged found in
        absurd cc
    here same (Some w) n =
        let set = set_value_here cmp order es k w v n in
        let found : lookup (is_at (cmp k)) (set_value (is_at (cmp k)) es v) ≡ Some x = subst (λ z. lookup (is_at (cmp z)) (set_value (is_at (cmp k)) es v) ≡ Some x) same f in
        let both : Some x ≡ Some v = sym found ∙ set in
        inl (record { same = same; value = cc both; before = w; found = subst (λ z. lookup (is_at (cmp z)) es ≡ Some w) (sym same) n })

    by : (q ≡ k) ⊎ (q ≡ k → ⊥) → WasSet cmp es k v q x ⊎ ((q ≡ k → ⊥) × (lookup (is_at (cmp q)) es ≡ Some x))
    by (inl same) = here same (lookup (is_at (cmp k)) es) refl
    by (inr two) = inr (two, sym (set_value_other cmp order es k q v two) ∙ f)
