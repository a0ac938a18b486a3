-- Elements of lists.
use Rattle.std.proofs.Common.{◌≡◌, ◌⊎◌, List, [], ◌∷◌, ◌++◌, ap, sym, ◌∙◌, inl, inr, refl, append_assoc}
use Rattle.sound_image.specs.Wrong.{IsOneOf}

pub first_of_equal : {X : Type 0} (x y : X) (xs ys : List X) → x ∷ xs ≡ y ∷ ys → (x ≡ y) × (xs ≡ ys)
first_of_equal x y xs ys h = (cc, cc)

-- an element is behind another, or that one
pub one_behind : {X : Type 0} (x y : X) (xs : List X) → IsOneOf x xs → IsOneOf x (y ∷ xs)
one_behind x y xs (before, behind, e) = (y ∷ before, behind, ap (λ zs. y ∷ zs) e)

pub one_first : {X : Type 0} (x y : X) (xs : List X) → x ≡ y → IsOneOf x (y ∷ xs)
one_first x y xs e = ([], xs, ap (λ z. z ∷ xs) (sym e))

pub first_or_behind : {X : Type 0} (x y : X) (xs : List X) → IsOneOf x (y ∷ xs) → (x ≡ y) ⊎ IsOneOf x xs
first_or_behind x y xs ([], behind, e) = inl (sym (first_of_equal y x xs behind e).0)
first_or_behind x y xs (z ∷ before, behind, e) = inr (before, behind, (first_of_equal y z xs (before ++ x ∷ behind) e).1)

pub one_of_none : {X : Type 0} (x : X) → IsOneOf x [] → ⊥
one_of_none x ([], behind, e) = absurd cc
one_of_none x (z ∷ before, behind, e) = absurd cc

-- an element of a list, or the one behind it
pub in_front : {X : Type 0} (x y : X) (xs : List X) → IsOneOf x xs → IsOneOf x (xs ++ y ∷ [])
in_front x y xs (before, behind, e) = (before, behind ++ y ∷ [], ap (λ zs. zs ++ y ∷ []) e ∙ append_assoc before (x ∷ behind) (y ∷ []))

pub is_one_at_end : {X : Type 0} (y : X) (xs : List X) → IsOneOf y (xs ++ y ∷ [])
is_one_at_end y xs = (xs, [], refl)

pub front_or_end : {X : Type 0} (x y : X) (xs : List X) → IsOneOf x (xs ++ y ∷ []) → IsOneOf x xs ⊎ (x ≡ y)
front_or_end x y [] h = elim (first_or_behind x y [] h) [ inl e ↦ inr e | inr more ↦ absurd (one_of_none x more) ]
front_or_end x y (z ∷ xs) h = elim (first_or_behind x z (xs ++ y ∷ []) h) [
  | inl e ↦ inl (one_first x z xs e)
  | inr more ↦ elim (front_or_end x y xs more) [ inl here ↦ inl (one_behind x z xs here) | inr e ↦ inr e ]
]

-- an element of one list, or of the other behind it
pub front_of_two : {X : Type 0} (x : X) (a b : List X) → IsOneOf x a → IsOneOf x (a ++ b)
front_of_two x a b (before, behind, e) = (before, behind ++ b, ap (λ zs. zs ++ b) e ∙ append_assoc before (x ∷ behind) b)

pub back_of_two : {X : Type 0} (x : X) (a b : List X) → IsOneOf x b → IsOneOf x (a ++ b)
back_of_two x [] b h = h
back_of_two x (y ∷ a) b h = one_behind x y (a ++ b) (back_of_two x a b h)

pub one_of_two : {X : Type 0} (x : X) (a b : List X) → IsOneOf x (a ++ b) → IsOneOf x a ⊎ IsOneOf x b
one_of_two x [] b h = inr h
one_of_two x (y ∷ a) b h = elim (first_or_behind x y (a ++ b) h) [
  | inl e ↦ inl (one_first x y a e)
  | inr more ↦ elim (one_of_two x a b more) [ inl here ↦ inl (one_behind x y a here) | inr there ↦ inr there ]
]
