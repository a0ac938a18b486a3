-- Maps in order are told apart by their look-ups.
use Rattle.std.proofs.Common.{◌≡◌, true, List, [], ◌∷◌, refl, sym, ap, subst, ◌∙◌, inl, inr, Some, None}
use Rattle.std.specs.BTreeMap.{is_at}
use Rattle.std.specs.Map.{lookup, keys_of}
use Rattle.std.specs.Ordering.{ordering_reverse}
use Rattle.std.specs.declared.cmp.Ordering.{Ordering}
use Rattle.std.specs.declared.cmp.Ordering.TheVariants.{Less, Equal, Greater}
use Rattle.fs_model.specs.Proper.{ascends}
use Rattle.fs_laws.specs.Maps.{IsOrder, apart, key_cases, missing_before, missing_first, tail_ascends}

-- maps in order in which the same is found are one
pub same_maps : {K X : Type 0} (cmp : K → K → Ordering) → IsOrder cmp → (a b : List (K × X)) → ascends cmp (keys_of a) ≡ true → ascends cmp (keys_of b) ≡ true → ((k : K) → lookup (is_at (cmp k)) a ≡ lookup (is_at (cmp k)) b) → a ≡ b
same_maps cmp order [] [] h i each = refl
same_maps cmp order [] (e ∷ b) h i each = let f = each e.0 in let g = rw (order.same e.0) at f in absurd cc
same_maps cmp order (d ∷ a) [] h i each = let f = each d.0 in let g = rw (order.same d.0) at f in absurd cc
same_maps {K} {X} cmp order (d ∷ a) (e ∷ b) h i each = by (λ each. same_maps cmp order a b (tail_ascends cmp a d h) (tail_ascends cmp b e i) each) (cmp d.0 e.0) refl
  where
    found : Some d.1 ≡ lookup (is_at (cmp d.0)) (e ∷ b)
    found = let f = each d.0 in rw (order.same d.0) at f

    rest : d.0 ≡ e.0 → (k : K) → lookup (is_at (cmp k)) a ≡ lookup (is_at (cmp k)) b
    rest same k = elim (key_cases cmp order k d.0) [
      | inl here ↦ subst (λ q. lookup (is_at (cmp q)) a ≡ lookup (is_at (cmp q)) b) (sym here) (missing_first cmp order a d h ∙ sym (subst (λ q. lookup (is_at (cmp q)) b ≡ None) (sym same) (missing_first cmp order b e i)))
      | inr other ↦
          let f = each k in
          let x = rw (apart cmp order k d.0 other) at f in
          let y : lookup (is_at (cmp k)) a ≡ lookup (is_at (cmp k)) (e ∷ b) = x in
          rw (apart cmp order k e.0 (λ z. other (z ∙ sym same))) at y
    ]

    by : (((k : K) → lookup (is_at (cmp k)) a ≡ lookup (is_at (cmp k)) b) → a ≡ b) → (o : Ordering) → cmp d.0 e.0 ≡ o → (d ∷ a) ≡ (e ∷ b)
    by tails Less x = let none = missing_before cmp order b e d.0 i x in let f = found ∙ none in absurd cc
    by tails Equal x =
        let same = order.exact d.0 e.0 x in
        let f : Some d.1 ≡ Some e.1 = found ∙ rw x refl in
        let value : d.1 ≡ e.1 = cc in
        let more = tails (rest same) in
        ap (λ k. (k, d.1) ∷ a) same ∙ ap (λ v. (e.0, v) ∷ a) value ∙ ap (λ z. e ∷ z) more
    by tails Greater x =
        let back : cmp e.0 d.0 ≡ Less = order.total.antisymm e.0 d.0 ∙ ap ordering_reverse x in
        let none = missing_before cmp order a d e.0 h back in
        let here : lookup (is_at (cmp e.0)) (e ∷ b) ≡ Some e.1 = rw (order.same e.0) refl in
        let f = sym none ∙ each e.0 ∙ here in
        absurd cc
