-- Places that are given one after another.
use Rattle.std.proofs.Common.{◌≡◌, ℕ, ◌<◌, ◌≤◌, true, List, [], ◌∷◌, length, refl, ap, sym, ◌∙◌, subst, arith, inl, inr}
use Rattle.std.specs.Prelude.{◌⊎◌, ◌==◌, Option, None, Some, slice_get}
use Rattle.std.proofs.lemmas.Bool.{cases_Bool}
use Rattle.std.proofs.lemmas.Bool.Decides.{nat_tests}
use Rattle.index_media.specs.KeyedRow.{KeyedRow, no_more, leaf_in, node_in, bare}
use Rattle.index_media.specs.PlacedRow.{Stretch}
use Rattle.table_nodes.specs.NodeView.{stretch_at}
use Rattle.node_table.specs.Placing.{IsPlacedRow, KeepsPlaces, without_number}
use Rattle.table_nodes.specs.declared.node.NodePlace.{NodePlace}

pub kept_shape : (old new : KeyedRow) → KeepsPlaces old new → bare new ≡ bare old
kept_shape no_more new h = ap bare h
kept_shape (leaf_in x rest) new h = let e = kept_shape rest h.0 h.2 in ap bare h.1 ∙ rw e refl
kept_shape (node_in key old children rest) new h =
    let c = kept_shape children h.1 h.5 in
    let r = kept_shape rest h.2 h.6 in
    ap bare h.3 ∙ rw (c, r) refl

weaker : (p : NodePlace) (b children : KeyedRow) (old now : Option Stretch) → (now ≡ old) ⊎ ((old ≡ None) × (now ≡ stretch_at (Some p)) × (children ≡ b)) → (now ≡ old) ⊎ (old ≡ None)
weaker p b children old now (inl e) = inl e
weaker p b children old now (inr e) = inr e.0

pub given_kept : (p : NodePlace) (b old new : KeyedRow) → IsPlacedRow p b old new → KeepsPlaces old new
given_kept p b no_more new h = h
given_kept p b (leaf_in x rest) new h = (h.0, h.1, given_kept p b rest h.0 h.2)
given_kept p b (node_in key old children rest) new h =
    (h.0, h.1, h.2, h.3, weaker p b children old h.0 h.4, given_kept p b children h.1 h.5, given_kept p b rest h.2 h.6)

pub none_kept : (row : KeyedRow) → KeepsPlaces row row
none_kept no_more = refl
none_kept (leaf_in x rest) = (rest, refl, none_kept rest)
none_kept (node_in key old children rest) = (old, children, rest, refl, inl refl, none_kept children, none_kept rest)

place_kept : (a b c : Option Stretch) → (b ≡ a) ⊎ (a ≡ None) → (c ≡ b) ⊎ (b ≡ None) → (c ≡ a) ⊎ (a ≡ None)
place_kept a b c (inr e) h = inr e
place_kept a b c (inl e) (inl k) = inl (k ∙ e)
place_kept a b c (inl e) (inr k) = inr (sym e ∙ k)

pub both_kept : (first second third : KeyedRow) → KeepsPlaces first second → KeepsPlaces second third → KeepsPlaces first third
both_kept no_more second third h k = let P : KeyedRow → Type 0 = λ r. KeepsPlaces r third in subst P h k
both_kept (leaf_in x rest) second third h k =
    let P : KeyedRow → Type 0 = λ r. KeepsPlaces r third in
    let n = subst P h.1 k in
    (n.0, n.1, both_kept rest h.0 n.0 h.2 n.2)
both_kept (node_in key old children rest) second third h k =
    let P : KeyedRow → Type 0 = λ r. KeepsPlaces r third in
    let n = subst P h.3 k in
    (n.0, n.1, n.2, n.3, place_kept old h.0 n.0 h.4 n.4, both_kept children h.1 n.1 h.5 n.5, both_kept rest h.2 n.2 h.6 n.6)

-- numbers get fewer
no_longer : (number : ℕ) (numbers : List ℕ) → length (without_number number numbers) ≤ length numbers
no_longer number [] = omega arith
no_longer number (n ∷ numbers) =
    let more = no_longer number numbers in
    elim (cases_Bool (n == number)) [
      | inl e ↦ rw e (omega (arith, more))
      | inr e ↦ rw e (omega (arith, more))
    ]

pub fewer_numbers : (number : ℕ) (numbers : List ℕ) → slice_get numbers 0 ≡ Some number → length (without_number number numbers) < length numbers
fewer_numbers number [] h = absurd cc
fewer_numbers number (n ∷ numbers) h =
    let same : n ≡ number = cc in
    let itself : (n == number) ≡ true = grind (arith, nat_tests, same) in
    let more = no_longer number numbers in
    rw itself (omega (arith, more))
