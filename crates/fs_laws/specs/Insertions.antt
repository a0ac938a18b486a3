-- Two insertions into a map in order: at one key, and at two.
use Rattle.std.proofs.Common.{◌≡◌, List, [], ◌∷◌, refl, sym, ap, ◌∙◌}
use Rattle.std.specs.BTreeMap.{insert_entry}
use Rattle.std.specs.Ordering.{match_ordering, ordering_reverse}
use Rattle.std.specs.declared.cmp.Ordering.{Ordering}
use Rattle.std.specs.declared.cmp.Ordering.TheVariants.{Less, Equal, Greater}
use Rattle.fs_laws.specs.Maps.{IsOrder}

-- of two insertions at one key the second stands
pub insert_twice : {K X : Type 0} (cmp : K → K → Ordering) → IsOrder cmp → (es : List (K × X)) (k : K) (w v : X) → insert_entry cmp (insert_entry cmp es k w) k v ≡ insert_entry cmp es k v
insert_twice cmp order [] k w v = rw (order.same k) refl
insert_twice cmp order (e ∷ es) k w v = by (insert_twice cmp order es k w v) (cmp k e.0) refl
  where
    by : insert_entry cmp (insert_entry cmp es k w) k v ≡ insert_entry cmp es k v → (o : Ordering) → cmp k e.0 ≡ o
        → insert_entry cmp (match_ordering o ((k, w) ∷ e ∷ es) ((e.0, w) ∷ es) (e ∷ insert_entry cmp es k w)) k v ≡ match_ordering o ((k, v) ∷ e ∷ es) ((e.0, v) ∷ es) (e ∷ insert_entry cmp es k v)
    by more Less h = rw (order.same k) refl
    by more Equal h = rw h refl
    by more Greater h = rw h (ap (λ z. e ∷ z) more)

-- a comparison the other way round
pub reversed : {K : Type 0} (cmp : K → K → Ordering) → IsOrder cmp → (a b : K) (o : Ordering) → cmp a b ≡ o → cmp b a ≡ ordering_reverse o
reversed cmp order a b o h = order.total.antisymm b a ∙ ap ordering_reverse h

-- insertions at two keys that differ come to the same in either order
pub insert_swap : {K X : Type 0} (cmp : K → K → Ordering) → IsOrder cmp → (es : List (K × X)) (k q : K) (v w : X) → (k ≡ q → ⊥) → insert_entry cmp (insert_entry cmp es k v) q w ≡ insert_entry cmp (insert_entry cmp es q w) k v
insert_swap {K} {X} cmp order [] k q v w apart = by (cmp k q) refl
  where
    by : (o : Ordering) → cmp k q ≡ o → insert_entry cmp ((k, v) ∷ []) q w ≡ insert_entry cmp ((q, w) ∷ []) k v
    by Less h = rw (reversed cmp order k q Less h, h) refl
    by Equal h = absurd (apart (order.exact k q h))
    by Greater h = rw (reversed cmp order k q Greater h, h) refl
insert_swap {K} {X} cmp order (e ∷ es) k q v w apart = by (insert_swap cmp order es k q v w apart) (cmp k e.0) (cmp q e.0) (cmp k q) refl refl refl
  where
    Goal : Ordering → Ordering → Type 0
    Goal a b = insert_entry cmp (match_ordering a ((k, v) ∷ e ∷ es) ((e.0, v) ∷ es) (e ∷ insert_entry cmp es k v)) q w ≡ insert_entry cmp (match_ordering b ((q, w) ∷ e ∷ es) ((e.0, w) ∷ es) (e ∷ insert_entry cmp es q w)) k v

    by : insert_entry cmp (insert_entry cmp es k v) q w ≡ insert_entry cmp (insert_entry cmp es q w) k v → (a b o : Ordering) → cmp k e.0 ≡ a → cmp q e.0 ≡ b → cmp k q ≡ o → Goal a b
    by more a b Equal h g x = absurd (apart (order.exact k q x))
    by more Less Less Less h g x = rw (reversed cmp order k q Less x, x, g) refl
    by more Less Less Greater h g x = rw (reversed cmp order k q Greater x, x, h) refl
    by more Less Equal o h g x =
        let l : cmp k q ≡ Less = (ap (λ z. cmp k z) (order.exact q e.0 g)) ∙ h in
        rw (reversed cmp order k q Less l, g, h) refl
    by more Less Greater o h g x =
        let l : cmp k q ≡ Less = order.total.trans k e.0 q h (reversed cmp order q e.0 Greater g) in
        rw (reversed cmp order k q Less l, g, h) refl
    by more Equal Less o h g x =
        let l : cmp q k ≡ Less = (ap (λ z. cmp q z) (order.exact k e.0 h)) ∙ g in
        rw (reversed cmp order q k Less l, g, h) refl
    by more Greater Less o h g x =
        let l : cmp q k ≡ Less = order.total.trans q e.0 k g (reversed cmp order k e.0 Greater h) in
        rw (reversed cmp order q k Less l, g, h) refl
    by more Equal Equal o h g x = absurd (apart (order.exact k e.0 h ∙ sym (order.exact q e.0 g)))
    by more Equal Greater o h g x = rw (h, g) refl
    by more Greater Equal o h g x = rw (h, g) refl
    by more Greater Greater o h g x = rw (h, g) (ap (λ z. e ∷ z) more)
