-- Elements of lists.
use Rattle.std.proofs.Common.{◌≡◌, List, [], ◌∷◌, ap, sym, inl, inr, refl, map, subst, length, arith}
use Rattle.std.specs.List.{AllByRecursion}
use Rattle.sound_image.specs.Wrong.{IsOneOf}
use Rattle.sound_image.specs.WrongLaws.{one_behind, one_first, first_or_behind, one_of_none}

-- an element of what a list becomes is what one of its elements becomes
pub one_of_map : {X Y : Type 0} (f : X → Y) (y : Y) (xs : List X) → IsOneOf y (map f xs) → (x : X) × IsOneOf x xs × (y ≡ f x)
one_of_map f y [] h = absurd (one_of_none y h)
one_of_map f y (x ∷ xs) h = elim (first_or_behind y (f x) (map f xs) h) [
  | inl e ↦ (x, one_first x x xs refl, e)
  | inr more ↦ let r = one_of_map f y xs more in (r.0, one_behind r.0 x xs r.1, r.2)
]

pub map_of_one : {X Y : Type 0} (f : X → Y) (x : X) (xs : List X) → IsOneOf x xs → IsOneOf (f x) (map f xs)
map_of_one f x [] h = absurd (one_of_none x h)
map_of_one f x (y ∷ xs) h = elim (first_or_behind x y xs h) [
  | inl e ↦ one_first (f x) (f y) (map f xs) (ap f e)
  | inr more ↦ one_behind (f x) (f y) (map f xs) (map_of_one f x xs more)
]

-- what holds of all holds of each
pub all_at : {X : Type 0} (P : X → Type 0) (x : X) (xs : List X) → AllByRecursion P xs → IsOneOf x xs → P x
all_at P x [] all h = absurd (one_of_none x h)
all_at P x (y ∷ xs) all h = elim (first_or_behind x y xs h) [
  | inl e ↦ subst P (sym e) all.0
  | inr more ↦ all_at P x xs all.1 more
]

pub no_left : {X : Type 0} (xs : List X) → length xs ≡ 0 → xs ≡ []
no_left [] h = refl
no_left (x ∷ xs) h = absurd (omega (arith, h))
