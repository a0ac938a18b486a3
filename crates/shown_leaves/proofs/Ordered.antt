-- Nodes in order of number are the same nodes.
use Rattle.std.proofs.Common.{◌≡◌, ◌⊎◌, Bool, true, false, cond, List, [], ◌∷◌, inl, inr, fold, nat_lt}
use Rattle.leaf_map.specs.Kept.{Placed}
use Rattle.leaf_map.specs.Recovered.{nodes_in_order, placed_node}
use Rattle.sound_image.specs.Wrong.{IsOneOf}
use Rattle.sound_image.specs.WrongLaws.{first_or_behind, one_behind, one_first, one_of_none}

placed_one : (x y : Placed) (ys : List Placed) → (x ≡ y) ⊎ IsOneOf x ys → IsOneOf x (placed_node ys y)
placed_one x y [] (inl e) = one_first x y [] e
placed_one x y [] (inr one) = absurd (one_of_none x one)
placed_one x y (z ∷ ys) h = by (nat_lt y.sqnum z.sqnum) h (λ there. placed_one x y ys there)
  where
    by : (b : Bool) → (x ≡ y) ⊎ IsOneOf x (z ∷ ys) → ((x ≡ y) ⊎ IsOneOf x ys → IsOneOf x (placed_node ys y)) → IsOneOf x (cond b (y ∷ z ∷ ys) (z ∷ placed_node ys y))
    by true (inl e) further = one_first x y (z ∷ ys) e
    by true (inr one) further = one_behind x y (z ∷ ys) one
    by false (inl e) further = one_behind x z (placed_node ys y) (further (inl e))
    by false (inr one) further = elim (first_or_behind x z ys one) [
      | inl e ↦ one_first x z (placed_node ys y) e
      | inr more ↦ one_behind x z (placed_node ys y) (further (inr more))
    ]

one_placed : (x y : Placed) (ys : List Placed) → IsOneOf x (placed_node ys y) → (x ≡ y) ⊎ IsOneOf x ys
one_placed x y [] h = first_or_behind x y [] h
one_placed x y (z ∷ ys) h = by (nat_lt y.sqnum z.sqnum) h (λ there. one_placed x y ys there)
  where
    by : (b : Bool) → IsOneOf x (cond b (y ∷ z ∷ ys) (z ∷ placed_node ys y)) → (IsOneOf x (placed_node ys y) → (x ≡ y) ⊎ IsOneOf x ys) → (x ≡ y) ⊎ IsOneOf x (z ∷ ys)
    by true one further = first_or_behind x y (z ∷ ys) one
    by false one further = elim (first_or_behind x z (placed_node ys y) one) [
      | inl e ↦ inr (one_first x z ys e)
      | inr more ↦ elim (further more) [ inl e ↦ inl e | inr there ↦ inr (one_behind x z ys there) ]
    ]

ordered_from : (x : Placed) (ys nodes : List Placed) → IsOneOf x ys ⊎ IsOneOf x nodes → IsOneOf x (fold placed_node ys nodes)
ordered_from x ys [] (inl one) = one
ordered_from x ys [] (inr one) = absurd (one_of_none x one)
ordered_from x ys (y ∷ nodes) (inl one) = ordered_from x (placed_node ys y) nodes (inl (placed_one x y ys (inr one)))
ordered_from x ys (y ∷ nodes) (inr one) = ordered_from x (placed_node ys y) nodes (elim (first_or_behind x y nodes one) [ inl e ↦ inl (placed_one x y ys (inl e)) | inr more ↦ inr more ])

from_ordered : (x : Placed) (ys nodes : List Placed) → IsOneOf x (fold placed_node ys nodes) → IsOneOf x ys ⊎ IsOneOf x nodes
from_ordered x ys [] one = inl one
from_ordered x ys (y ∷ nodes) one = elim (from_ordered x (placed_node ys y) nodes one) [
  | inl there ↦ elim (one_placed x y ys there) [ inl e ↦ inr (one_first x y nodes e) | inr old ↦ inl old ]
  | inr more ↦ inr (one_behind x y nodes more)
]

pub in_order_one : (x : Placed) (nodes : List Placed) → IsOneOf x nodes → IsOneOf x (nodes_in_order nodes)
in_order_one x nodes one = ordered_from x [] nodes (inr one)

pub one_in_order : (x : Placed) (nodes : List Placed) → IsOneOf x (nodes_in_order nodes) → IsOneOf x nodes
one_in_order x nodes one = elim (from_ordered x [] nodes one) [ inl none ↦ absurd (one_of_none x none) | inr there ↦ there ]
