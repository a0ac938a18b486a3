-- What insertions into a map come to, one after another.
use Rattle.std.proofs.Common.{◌≡◌, true, List, [], ◌∷◌, Some, cond, refl, sym, ap, subst, ◌∙◌, ℕ, ◌⊎◌, inl, inr, Option, None}
use Rattle.std.specs.Prelude.{fold}
use Rattle.std.specs.BTreeMap.{insert_entry, is_at}
use Rattle.std.specs.Option.{option_map_or}
use Rattle.std.specs.Map.{lookup, keys_of, remove_entry}
use Rattle.std.specs.Ordering.{match_ordering, is_eq}
use Rattle.std.specs.declared.cmp.Ordering.{Ordering}
use Rattle.std.specs.declared.cmp.Ordering.TheVariants.{Less, Equal, Greater}
use Rattle.fs_model.specs.Proper.{ascends}
use Rattle.fs_laws.specs.Insertions.{insert_twice, insert_swap}
use Rattle.fs_laws.specs.Maps.{IsOrder, apart, missing_before, missing_first, tail_ascends, key_cases}

-- the map with these entries set, one after another
abbrev pub with_all : {K X : Type 0} (cmp : K → K → Ordering) → List (K × X) → List (K × X) → List (K × X)
with_all cmp es new = fold (λ old e. insert_entry cmp old e.0 e.1) es new

-- an entry that is set again later needn't be set before
pub set_later : {K X : Type 0} (cmp : K → K → Ordering) → IsOrder cmp → (new es : List (K × X)) (k : K) (v : X) → ascends cmp (keys_of new) ≡ true → lookup (is_at (cmp k)) new ≡ Some v
    → with_all cmp (insert_entry cmp es k v) new ≡ with_all cmp es new
set_later cmp order [] es k v h found = absurd cc
set_later cmp order (e ∷ new) es k v h found = by (set_later cmp order new (insert_entry cmp es e.0 e.1) k v (tail_ascends cmp new e h)) (cmp k e.0) refl found
  where
    other : (lookup (is_at (cmp k)) new ≡ Some v → with_all cmp (insert_entry cmp (insert_entry cmp es e.0 e.1) k v) new ≡ with_all cmp (insert_entry cmp es e.0 e.1) new) → (k ≡ e.0 → ⊥) → lookup (is_at (cmp k)) new ≡ Some v
        → with_all cmp (insert_entry cmp (insert_entry cmp es k v) e.0 e.1) new ≡ with_all cmp (insert_entry cmp es e.0 e.1) new
    other more apart f = ap (λ z. with_all cmp z new) (insert_swap cmp order es k e.0 v e.1 apart) ∙ more f

    by : (lookup (is_at (cmp k)) new ≡ Some v → with_all cmp (insert_entry cmp (insert_entry cmp es e.0 e.1) k v) new ≡ with_all cmp (insert_entry cmp es e.0 e.1) new) → (o : Ordering) → cmp k e.0 ≡ o → cond (is_eq o) (Some e.1) (lookup (is_at (cmp k)) new) ≡ Some v
        → with_all cmp (insert_entry cmp (insert_entry cmp es k v) e.0 e.1) new ≡ with_all cmp (insert_entry cmp es e.0 e.1) new
    by more Equal x f = rw (sym (order.exact k e.0 x)) (ap (λ z. with_all cmp z new) (insert_twice cmp order es k v e.1))
    by more Less x f = other more (λ same. let y : cmp k e.0 ≡ Equal = rw (sym same) (order.same k) in absurd cc) f
    by more Greater x f = other more (λ same. let y : cmp k e.0 ≡ Equal = rw (sym same) (order.same k) in absurd cc) f

-- an entry that is there already changes nothing
pub insert_same : {K X : Type 0} (cmp : K → K → Ordering) → IsOrder cmp → (es : List (K × X)) (k : K) (v : X) → ascends cmp (keys_of es) ≡ true → lookup (is_at (cmp k)) es ≡ Some v → insert_entry cmp es k v ≡ es
insert_same cmp order [] k v h found = absurd cc
insert_same cmp order (e ∷ es) k v h found = by (insert_same cmp order es k v (tail_ascends cmp es e h)) (cmp k e.0) refl found
  where
    by : (lookup (is_at (cmp k)) es ≡ Some v → insert_entry cmp es k v ≡ es) → (o : Ordering) → cmp k e.0 ≡ o → cond (is_eq o) (Some e.1) (lookup (is_at (cmp k)) es) ≡ Some v
        → match_ordering o ((k, v) ∷ e ∷ es) ((e.0, v) ∷ es) (e ∷ insert_entry cmp es k v) ≡ e ∷ es
    by more Less x f = let none = missing_before cmp order es e k h x in let whole : lookup (is_at (cmp k)) (e ∷ es) ≡ Some v = rw x f in absurd cc
    by more Equal x f = let same : e.1 ≡ v = cc f in rw (sym same) refl
    by more Greater x f = ap (λ z. e ∷ z) (more f)

-- nor do entries that are all there
pub set_same : {K X : Type 0} (cmp : K → K → Ordering) → IsOrder cmp → (new es : List (K × X)) → ascends cmp (keys_of es) ≡ true → ascends cmp (keys_of new) ≡ true
    → ((k : K) (v : X) → lookup (is_at (cmp k)) new ≡ Some v → lookup (is_at (cmp k)) es ≡ Some v) → with_all cmp es new ≡ es
set_same cmp order [] es s h there = refl
set_same cmp order (e ∷ new) es s h there =
    let first = insert_same cmp order es e.0 e.1 s (there e.0 e.1 (rw (order.same e.0) refl)) in
    ap (λ z. with_all cmp z new) first
    ∙ set_same cmp order new es s (tail_ascends cmp new e h) (λ k v f. there k v (rw (apart cmp order k e.0 (λ same.
    let none = missing_first cmp order new e h in
    let some = subst (λ q. lookup (is_at (cmp q)) new ≡ Some v) same f in absurd cc)) f))

-- an entry whose key isn't set later can be set last
late : {K X : Type 0} (cmp : K → K → Ordering) → IsOrder cmp → (new es : List (K × X)) (k : K) (v : X) → lookup (is_at (cmp k)) new ≡ None → with_all cmp (insert_entry cmp es k v) new ≡ insert_entry cmp (with_all cmp es new) k v
late cmp order [] es k v none = refl
late {K} {X} cmp order (e ∷ new) es k v none = by (key_cases cmp order k e.0) (λ h. late cmp order new (insert_entry cmp es e.0 e.1) k v h)
  where
    by : (k ≡ e.0) ⊎ (k ≡ e.0 → ⊥) → (lookup (is_at (cmp k)) new ≡ None → with_all cmp (insert_entry cmp (insert_entry cmp es e.0 e.1) k v) new ≡ insert_entry cmp (with_all cmp (insert_entry cmp es e.0 e.1) new) k v)
        → with_all cmp (insert_entry cmp es k v) (e ∷ new) ≡ insert_entry cmp (with_all cmp es (e ∷ new)) k v
    by (inl same) more =
        let P : K → Type 0 = λ q. lookup (is_at (cmp q)) (e ∷ new) ≡ Some e.1 in
        let found : lookup (is_at (cmp k)) (e ∷ new) ≡ Some e.1 = subst P (sym same) (rw (order.same e.0) refl) in
        let never : None ≡ Some e.1 = sym none ∙ found in
        absurd cc
    by (inr other) more = ap (λ z. with_all cmp z new) (insert_swap cmp order es k e.0 v e.1 other) ∙ more (rw (apart cmp order k e.0 other) at none)

-- an entry that is set among those that are set is set last
pub insert_under : {K X : Type 0} (cmp : K → K → Ordering) → IsOrder cmp → (new es : List (K × X)) (k : K) (v : X) → ascends cmp (keys_of new) ≡ true → with_all cmp es (insert_entry cmp new k v) ≡ insert_entry cmp (with_all cmp es new) k v
insert_under cmp order [] es k v up = refl
insert_under {K} {X} cmp order (e ∷ new) es k v up = by (insert_under cmp order new (insert_entry cmp es e.0 e.1) k v (tail_ascends cmp new e up)) (cmp k e.0) refl
  where
    here : with_all cmp (insert_entry cmp es e.0 v) new ≡ insert_entry cmp (with_all cmp (insert_entry cmp es e.0 e.1) new) e.0 v
    here =
        let none = missing_first cmp order new e up in
        late cmp order new es e.0 v none
        ∙ sym (insert_twice cmp order (with_all cmp es new) e.0 e.1 v)
        ∙ ap (λ z. insert_entry cmp z e.0 v) (sym (late cmp order new es e.0 e.1 none))

    by : with_all cmp (insert_entry cmp es e.0 e.1) (insert_entry cmp new k v) ≡ insert_entry cmp (with_all cmp (insert_entry cmp es e.0 e.1) new) k v → (o : Ordering) → cmp k e.0 ≡ o
        → with_all cmp es (match_ordering o ((k, v) ∷ e ∷ new) ((e.0, v) ∷ new) (e ∷ insert_entry cmp new k v)) ≡ insert_entry cmp (with_all cmp es (e ∷ new)) k v
    by more Less x = late cmp order (e ∷ new) es k v (missing_before cmp order new e k up x)
    by more Equal x = here ∙ ap (λ q. insert_entry cmp (with_all cmp (insert_entry cmp es e.0 e.1) new) q v) (sym (order.exact k e.0 x))
    by more Greater x = more

-- a new entry that is taken out again leaves all as it was
pub remove_inserted : {K X : Type 0} (cmp : K → K → Ordering) → IsOrder cmp → (es : List (K × X)) (k : K) (v : X) → lookup (is_at (cmp k)) es ≡ None → remove_entry (is_at (cmp k)) (insert_entry cmp es k v) ≡ es
remove_inserted cmp order [] k v none = rw (order.same k) refl
remove_inserted cmp order (e ∷ es) k v none = by (remove_inserted cmp order es k v) (cmp k e.0) refl none
  where
    by : (lookup (is_at (cmp k)) es ≡ None → remove_entry (is_at (cmp k)) (insert_entry cmp es k v) ≡ es) → (o : Ordering) → cmp k e.0 ≡ o → cond (is_eq o) (Some e.1) (lookup (is_at (cmp k)) es) ≡ None
        → remove_entry (is_at (cmp k)) (match_ordering o ((k, v) ∷ e ∷ es) ((e.0, v) ∷ es) (e ∷ insert_entry cmp es k v)) ≡ e ∷ es
    by more Less x h = rw (order.same k) refl
    by more Equal x h = absurd cc
    by more Greater x h = rw x (ap (λ z. e ∷ z) (more h))

-- what an insertion replaced, put back
pub restored : {X : Type 0} (cmp : ℕ → ℕ → Ordering) → IsOrder cmp → (es mid : List (ℕ × X)) (k : ℕ) (v : X) (old : Option X) → ascends cmp (keys_of es) ≡ true → old ≡ lookup (is_at (cmp k)) es → mid ≡ insert_entry cmp es k v
    → option_map_or (λ w. insert_entry cmp mid k w) old (remove_entry (is_at (cmp k)) mid) ≡ es
restored cmp order es mid k v None up was is = rw is (remove_inserted cmp order es k v (sym was))
restored cmp order es mid k v (Some w) up was is = rw is (insert_twice cmp order es k v w ∙ insert_same cmp order es k w up (sym was))
