-- The first of what is wrong with the elements of a list.
use Rattle.std.proofs.Common.{◌≡◌, ◌⊎◌, List, [], ◌∷◌, ap, sym, ◌∙◌, inl, inr, refl, fold, Option, Some, None, subst}
use Rattle.sound_image.specs.Wrong.{IsOneOf, Wrong}
use Rattle.sound_image.specs.WrongLaws.{first_or_behind, one_behind, one_first, one_of_none}
use Rattle.image_check.specs.FirstLaws.{first_alone, first_of_both, first_same}
use Rattle.image_check.specs.WrongValues.{IsFirstOf, sooner_of, wrong_at}
use Rattle.image_check.specs.declared.wrong_value.WrongValue.{WrongValue}

-- this is what is told, if it is
abbrev pub IsTold : Option WrongValue → Wrong → Type 0
IsTold o at = (w : WrongValue) × (o ≡ Some w) × (at ≡ wrong_at w)

some_same : (a b : WrongValue) → Some a ≡ Some b → a ≡ b
some_same a b h = cc

pub told_alone : (o : Option WrongValue) → IsFirstOf (IsTold o) o
told_alone None = λ at told. (let e = told.1 in absurd cc)
told_alone (Some d) = first_alone (IsTold (Some d)) d (d, refl, refl) (λ at told. told.2 ∙ ap wrong_at (sym (some_same d told.0 told.1)))

-- this is told of one of some elements
abbrev pub IsToldIn : {X : Type 0} → (X → Option WrongValue) → List X → Wrong → Type 0
IsToldIn {X = X} tell xs at = (x : X) × IsOneOf x xs × IsTold (tell x) at

told_from : {X : Type 0} (tell : X → Option WrongValue) (P : Wrong → Type 0) (o : Option WrongValue) (xs : List X) → IsFirstOf P o → IsFirstOf (λ at. P at ⊎ IsToldIn tell xs at) (fold (λ first x. sooner_of first (tell x)) o xs)
told_from tell P o [] h = first_same P (λ at. P at ⊎ IsToldIn tell [] at) o (λ at p. inl p) (λ at w. elim w [ inl p ↦ p | inr (x, one, told) ↦ absurd (one_of_none x one) ]) h
told_from {X} tell P o (x ∷ xs) h =
    let Q : Wrong → Type 0 = λ at. P at ⊎ IsTold (tell x) at in
    let next = told_from tell Q (sooner_of o (tell x)) xs (first_of_both P (IsTold (tell x)) o (tell x) h (told_alone (tell x))) in
    first_same (λ at. Q at ⊎ IsToldIn tell xs at) (λ at. P at ⊎ IsToldIn tell (x ∷ xs) at) (fold (λ first y. sooner_of first (tell y)) (sooner_of o (tell x)) xs) to from next
  where
    to : (at : Wrong) → (P at ⊎ IsTold (tell x) at) ⊎ IsToldIn tell xs at → P at ⊎ IsToldIn tell (x ∷ xs) at
    to at (inl (inl p)) = inl p
    to at (inl (inr told)) = inr (x, one_first x x xs refl, told)
    to at (inr (y, one, told)) = inr (y, one_behind y x xs one, told)

    from : (at : Wrong) → P at ⊎ IsToldIn tell (x ∷ xs) at → (P at ⊎ IsTold (tell x) at) ⊎ IsToldIn tell xs at
    from at (inl p) = inl (inl p)
    from at (inr (y, one, told)) = elim (first_or_behind y x xs one) [
      | inl e ↦ inl (inr (subst (λ z. IsTold (tell z) at) e told))
      | inr more ↦ inr (y, more, told)
    ]

pub first_told : {X : Type 0} (tell : X → Option WrongValue) (xs : List X) → IsFirstOf (IsToldIn tell xs) (fold (λ first x. sooner_of first (tell x)) None xs)
first_told tell xs =
    let none : Wrong → Type 0 = λ at. ⊥ in
    first_same (λ at. ⊥ ⊎ IsToldIn tell xs at) (IsToldIn tell xs) (fold (λ first x. sooner_of first (tell x)) None xs)
    (λ at w. elim w [ inl p ↦ absurd p | inr told ↦ told ]) (λ at told. inr told) (told_from tell none None xs (λ at p. p))
