-- The first of what is found at leaves.
use Rattle.std.proofs.Common.{◌≡◌, ◌⊎◌, List, [], ◌∷◌, ◌++◌, Option, Some, None, refl, ap, subst, ◌∙◌, inl, inr}
use Rattle.std.specs.Prelude.{map}
use Rattle.leaf_map.specs.Kept.{Kept}
use Rattle.sound_image.specs.Wrong.{IsOneOf, Wrong}
use Rattle.image_check.specs.WrongValues.{IsFirstOf, sooner_of, wrong_at}
use Rattle.image_check.specs.FirstLaws.{first_alone, first_of_both, first_same}
use Rattle.image_check.specs.declared.wrong_value.WrongValue.{WrongValue}
use Rattle.tree_check.specs.LinkFindings.{soonest_of}
use Rattle.tree_check.specs.Told.{AreShownBy, IsShownBy}
use Rattle.tree_check.specs.declared.shown_leaf.ShownLeaf.{ShownLeaf}

-- ---- one of a list
pub none_of : {X : Type 0} (x : X) → IsOneOf x [] → ⊥
none_of {X} x (before, behind, e) = by before e
  where
    by : (before : List X) → [] ≡ before ++ (x ∷ behind) → ⊥
    by [] k = absurd cc
    by (y ∷ before) k = absurd cc

pub one_more : {X : Type 0} (x y : X) (xs : List X) → IsOneOf x xs → IsOneOf x (y ∷ xs)
one_more {X} x y xs (before, behind, e) = (y ∷ before, behind, ap (λ (zs : List X). y ∷ zs) e)

pub head_or : {X : Type 0} (x y : X) (xs : List X) → IsOneOf x (y ∷ xs) → (y ≡ x) ⊎ IsOneOf x xs
head_or {X} x y xs (before, behind, e) = by before e
  where
    by : (before : List X) → y ∷ xs ≡ before ++ (x ∷ behind) → (y ≡ x) ⊎ IsOneOf x xs
    by [] k = inl cc
    by (z ∷ before) k = let rest : xs ≡ before ++ (x ∷ behind) = cc in inr (before, behind, rest)

pub map_one : {X Y : Type 0} (f : X → Y) (x : X) (xs : List X) → IsOneOf x xs → IsOneOf (f x) (map f xs)
map_one f x [] h = absurd (none_of x h)
map_one {X} {Y} f x (y ∷ xs) h = elim (head_or x y xs h) [
  | inl here ↦ ([], map f xs, ap (λ (z : X). f z ∷ map f xs) here)
  | inr rest ↦ one_more (f x) (f y) (map f xs) (map_one f x xs rest)
]

pub one_map : {X Y : Type 0} (f : X → Y) (y : Y) (xs : List X) → IsOneOf y (map f xs) → (x : X) × IsOneOf x xs × (f x ≡ y)
one_map f y [] h = absurd (none_of y h)
one_map f y (x ∷ xs) h = elim (head_or y (f x) (map f xs) h) [
  | inl here ↦ (x, ([], xs, refl), here)
  | inr rest ↦ let r = one_map f y xs rest in (r.0, one_more r.0 x xs r.1, r.2)
]

-- ---- leaves of which something is told
pub told_of : (kept : List Kept) (leaves : List ShownLeaf) → AreShownBy kept leaves → (x : Kept) → IsOneOf x kept → (leaf : ShownLeaf) × IsOneOf leaf leaves × IsShownBy x leaf
told_of [] leaves h x one = absurd (none_of x one)
told_of (y ∷ kept) [] h x one = absurd h
told_of (y ∷ kept) (leaf ∷ leaves) h x one = elim (head_or x y kept one) [
  | inl here ↦ (leaf, ([], leaves, refl), subst (λ z. IsShownBy z leaf) here h.0)
  | inr rest ↦ let r = told_of kept leaves h.1 x rest in (r.0, one_more r.0 leaf leaves r.1, r.2)
]

pub kept_of : (kept : List Kept) (leaves : List ShownLeaf) → AreShownBy kept leaves → (leaf : ShownLeaf) → IsOneOf leaf leaves → (x : Kept) × IsOneOf x kept × IsShownBy x leaf
kept_of [] [] h leaf one = absurd (none_of leaf one)
kept_of [] (l ∷ leaves) h leaf one = absurd h
kept_of (y ∷ kept) [] h leaf one = absurd h
kept_of (y ∷ kept) (l ∷ leaves) h leaf one = elim (head_or leaf l leaves one) [
  | inl here ↦ (y, ([], kept, refl), subst (λ z. IsShownBy y z) here h.0)
  | inr rest ↦ let r = kept_of kept leaves h.1 leaf rest in (r.0, one_more r.0 y kept r.1, r.2)
]

-- ---- what is found
-- this is one of the places that were found
abbrev pub IsFoundAmong : List (Option WrongValue) → Wrong → Type 0
IsFoundAmong wrongs at = (d : WrongValue) × IsOneOf (Some d) wrongs × (at ≡ wrong_at d)

abbrev IsOwn : Option WrongValue → Wrong → Type 0
IsOwn w at = (d : WrongValue) × (w ≡ Some d) × (at ≡ wrong_at d)

own_first : (w : Option WrongValue) → IsFirstOf (IsOwn w) w
own_first None = λ at own. let e = own.1 in absurd cc
own_first (Some d) = first_alone (IsOwn (Some d)) d (d, refl, refl) (λ at own. let e = own.1 in let same : own.0 ≡ d = cc in own.2 ∙ ap wrong_at same)

pub first_over : (wrongs : List (Option WrongValue)) (now : Option WrongValue) (P : Wrong → Type 0) → IsFirstOf P now → IsFirstOf (λ at. P at ⊎ IsFoundAmong wrongs at) (soonest_of now wrongs)
first_over [] now P h = first_same P (λ at. P at ⊎ IsFoundAmong [] at) now (λ at p. inl p) (λ at k. elim k [ inl p ↦ p | inr found ↦ absurd (none_of (Some found.0) found.1) ]) h
first_over (w ∷ wrongs) now P h =
    let Q : Wrong → Type 0 = λ at. P at ⊎ IsOwn w at in
    first_same (λ at. Q at ⊎ IsFoundAmong wrongs at) (λ at. P at ⊎ IsFoundAmong (w ∷ wrongs) at) (soonest_of (sooner_of now w) wrongs)
    (λ at k. elim k [
      | inl front ↦ elim front [ inl p ↦ inl p | inr own ↦ inr (own.0, ([], wrongs, ap (λ (z : Option WrongValue). z ∷ wrongs) own.1), own.2) ]
      | inr found ↦ inr (found.0, one_more (Some found.0) w wrongs found.1, found.2)
    ])
    (λ at k. elim k [
      | inl p ↦ inl (inl p)
      | inr found ↦ elim (head_or (Some found.0) w wrongs found.1) [ inl here ↦ inl (inr (found.0, here, found.2)) | inr rest ↦ inr (found.0, rest, found.2) ]
    ])
    (first_over wrongs (sooner_of now w) Q (first_of_both P (IsOwn w) now w h (own_first w)))
