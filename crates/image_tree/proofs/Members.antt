-- Elements of lists, and the first of what is wrong at them.
use Rattle.std.proofs.Common.{◌≡◌, ◌⊎◌, inl, inr, Bool, true, false, cond, List, [], ◌∷◌, ◌++◌, fold, refl, ap, sym, ◌∙◌, Option, Some, None}
use Rattle.std.specs.Prelude.{IfNone}
use Rattle.leaf_recovery.specs.Told.{Pairwise}
use Rattle.sound_image.specs.Wrong.{IsOneOf, Wrong, comes_before}
use Rattle.image_check.specs.FirstLaws.{first_alone, first_of_both, first_same}
use Rattle.image_check.specs.WrongValues.{IsFirstOf, sooner_of, wrong_at}
use Rattle.image_check.specs.declared.wrong_value.WrongValue.{WrongValue}

pub none_of : {X : Type 0} (x : X) → IsOneOf x [] → ⊥
none_of {X} x (before, behind, e) = by before e
  where
    by : (before : List X) → [] ≡ before ++ (x ∷ behind) → ⊥
    by [] k = absurd cc
    by (y ∷ before) k = absurd cc

pub one_more : {X : Type 0} (x y : X) (xs : List X) → IsOneOf x xs → IsOneOf x (y ∷ xs)
one_more {X} x y xs (before, behind, e) = (y ∷ before, behind, ap (λ (zs : List X). y ∷ zs) e)

pub head_or : {X : Type 0} (x y : X) (xs : List X) → IsOneOf x (y ∷ xs) → (y ≡ x) ⊎ IsOneOf x xs
head_or {X} x y xs (before, behind, e) = by before e
  where
    by : (before : List X) → y ∷ xs ≡ before ++ (x ∷ behind) → (y ≡ x) ⊎ IsOneOf x xs
    by [] k = inl cc
    by (z ∷ before) k = let rest : xs ≡ before ++ (x ∷ behind) = cc in inr (before, behind, rest)

-- at one of these elements this is wrong
abbrev pub IsAtOne : {X : Type 0} → (X → Wrong) → List X → Wrong → Type 0
IsAtOne {X = X} W xs at = (x : X) × IsOneOf x xs × (at ≡ W x)

told_from : {X Y : Type 0} (W : X → Wrong) (tell : Y → WrongValue) (R : X → Y → Type 0) → ((x : X) (y : Y) → R x y → wrong_at (tell y) ≡ W x) → (P : Wrong → Type 0) (o : Option WrongValue) (xs : List X) (ys : List Y) → Pairwise R xs ys → IsFirstOf P o
    → IsFirstOf (λ at. P at ⊎ IsAtOne W xs at) (fold (λ first y. sooner_of first (Some (tell y))) o ys)
told_from W tell R is P o [] [] r h = first_same P (λ at. P at ⊎ IsAtOne W [] at) o (λ at p. inl p) (λ at w. elim w [ inl p ↦ p | inr (x, one, e) ↦ absurd (none_of x one) ]) h
told_from W tell R is P o [] (y ∷ ys) r h = absurd r
told_from W tell R is P o (x ∷ xs) [] r h = absurd r
told_from {X} W tell R is P o (x ∷ xs) (y ∷ ys) r h =
    let Q : Wrong → Type 0 = λ at. P at ⊎ (at ≡ W x) in
    let alone = first_alone (λ at. at ≡ W x) (tell y) (is x y r.0) (λ at e. e ∙ sym (is x y r.0)) in
    let next = told_from W tell R is Q (sooner_of o (Some (tell y))) xs ys r.1 (first_of_both P (λ at. at ≡ W x) o (Some (tell y)) h alone) in
    first_same (λ at. Q at ⊎ IsAtOne W xs at) (λ at. P at ⊎ IsAtOne W (x ∷ xs) at) (fold (λ first z. sooner_of first (Some (tell z))) (sooner_of o (Some (tell y))) ys) to from next
  where
    to : (at : Wrong) → (P at ⊎ (at ≡ W x)) ⊎ IsAtOne W xs at → P at ⊎ IsAtOne W (x ∷ xs) at
    to at (inl (inl p)) = inl p
    to at (inl (inr e)) = inr (x, ([], xs, refl), e)
    to at (inr (z, one, e)) = inr (z, one_more z x xs one, e)

    from : (at : Wrong) → P at ⊎ IsAtOne W (x ∷ xs) at → (P at ⊎ (at ≡ W x)) ⊎ IsAtOne W xs at
    from at (inl p) = inl (inl p)
    from at (inr (z, one, e)) = elim (head_or z x xs one) [
      | inl here ↦ inl (inr (e ∙ ap W (sym here)))
      | inr more ↦ inr (z, more, e)
    ]

pub first_told : {X Y : Type 0} (W : X → Wrong) (tell : Y → WrongValue) (R : X → Y → Type 0) → ((x : X) (y : Y) → R x y → wrong_at (tell y) ≡ W x) → (xs : List X) (ys : List Y) → Pairwise R xs ys
    → IsFirstOf (IsAtOne W xs) (fold (λ first y. sooner_of first (Some (tell y))) None ys)
first_told W tell R is xs ys r =
    let none : Wrong → Type 0 = λ at. ⊥ in
    first_same (λ at. ⊥ ⊎ IsAtOne W xs at) (IsAtOne W xs) (fold (λ first y. sooner_of first (Some (tell y))) None ys)
    (λ at w. elim w [ inl p ↦ absurd p | inr t ↦ t ]) (λ at t. inr t) (told_from W tell R is none None xs ys r (λ at p. p))

pub same_pairs : {X : Type 0} (xs : List X) → Pairwise (λ a b. a ≡ b) xs xs
same_pairs [] = tt
same_pairs (x ∷ xs) = (refl, same_pairs xs)

-- ---- what holds where nothing is wrong
pub right_more : (o : Option WrongValue) (P Q : Type 0) → (P → Q) → IfNone o P → IfNone o Q
right_more None P Q f h = f h
right_more (Some d) P Q f h = tt

one_of_two : (b : Bool) (c d : WrongValue) (Q : Type 0) → IfNone (cond b (Some c) (Some d)) Q
one_of_two true c d Q = tt
one_of_two false c d Q = tt

pub right_both : (a b : Option WrongValue) (P R Q : Type 0) → (P → R → Q) → IfNone a P → IfNone b R → IfNone (sooner_of a b) Q
right_both None None P R Q f h k = f h k
right_both None (Some d) P R Q f h k = tt
right_both (Some c) None P R Q f h k = tt
right_both (Some c) (Some d) P R Q f h k = one_of_two (comes_before (wrong_at d) (wrong_at c)) d c Q

-- nothing is wrong where no first is
pub none_wrong : (IsWrong : Wrong → Type 0) (o : Option WrongValue) → IsFirstOf IsWrong o → IfNone o ((at : Wrong) → IsWrong at → ⊥)
none_wrong IsWrong None h = h
none_wrong IsWrong (Some d) h = tt
