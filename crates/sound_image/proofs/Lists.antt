-- What holds of each of a list, and of one of it.
use Rattle.std.proofs.Common.{◌≡◌, Bool, true, false, List, [], ◌∷◌, ◌++◌, refl, ap, sym, ◌∙◌, subst}
use Rattle.std.specs.Prelude.{◌&&◌, All}
use Rattle.std.specs.List.{AllByRecursion, list_all}
use Rattle.std.proofs.lemmas.List.Elements.{All-head, All-tail}
use Rattle.sound_image.specs.Wrong.{IsOneOf}

pub two_true : (a b : Bool) → (a && b) ≡ true → (a ≡ true) × (b ≡ true)
two_true true b h = (refl, h)
two_true false b h = absurd cc

-- the first of a list, and the others
pub cons_parts : {X : Type 0} (a b : X) (xs ys : List X) → a ∷ xs ≡ b ∷ ys → (a ≡ b) × (xs ≡ ys)
cons_parts a b xs ys h = (cc, cc)

-- at one of a list
pub all_at : {X : Type 0} (P : X → Type 0) (x : X) (xs : List X) → IsOneOf x xs → All P xs → P x
all_at {X = X} P x xs (before, behind, e) h = let Q : List X → Type 0 = λ ys. All P ys in at before (subst Q e h)
  where
    at : (front : List X) → All P (front ++ (x ∷ behind)) → P x
    at [] k = All-head P x behind k
    at (y ∷ front) k = at front (All-tail P y (front ++ (x ∷ behind)) k)

pub each_at : {X : Type 0} (P : X → Type 0) (x : X) (xs : List X) → IsOneOf x xs → AllByRecursion P xs → P x
each_at {X = X} P x xs (before, behind, e) h = let Q : List X → Type 0 = λ ys. AllByRecursion P ys in at before (subst Q e h)
  where
    at : (front : List X) → AllByRecursion P (front ++ (x ∷ behind)) → P x
    at [] k = k.0
    at (y ∷ front) k = at front k.1

pub test_at : {X : Type 0} (test : X → Bool) (x : X) (xs : List X) → IsOneOf x xs → list_all test xs ≡ true → test x ≡ true
test_at {X = X} test x xs (before, behind, e) h = at before (ap (list_all test) (sym e) ∙ h)
  where
    at : (front : List X) → list_all test (front ++ (x ∷ behind)) ≡ true → test x ≡ true
    at [] k = (two_true (test x) (list_all test behind) k).0
    at (y ∷ front) k = at front (two_true (test y) (list_all test (front ++ (x ∷ behind))) k).1

-- no list is one that has something and one that has nothing
pub none_of : {X : Type 0} (x : X) (xs : List X) → IsOneOf x xs → xs ≡ [] → ⊥
none_of {X = X} x xs (before, behind, e) none = at before (sym e ∙ none)
  where
    at : (front : List X) → front ++ (x ∷ behind) ≡ [] → ⊥
    at [] k = absurd cc
    at (y ∷ front) k = absurd cc

pub one_more : {X : Type 0} (x y : X) (xs : List X) → IsOneOf x xs → IsOneOf x (y ∷ xs)
one_more {X = X} x y xs (before, behind, e) = (y ∷ before, behind, ap (λ (ys : List X). y ∷ ys) e)
