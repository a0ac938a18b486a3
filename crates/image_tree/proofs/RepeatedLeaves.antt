-- Leaves that show what one before them shows.
use Rattle.std.proofs.Common.{◌≡◌, ◌⊎◌, inl, inr, Bool, true, false, cond, ◌||◌, not, List, [], ◌∷◌, ◌++◌, refl, ap, sym, ◌∙◌, subst, append_assoc}
use Rattle.std.specs.List.{list_all, list_any}
use Rattle.std.proofs.lemmas.Bool.{and_from, cases_Bool, not_from_false, or_left, or_right}
use Rattle.std.proofs.lemmas.List.Folds.{list_any-append}
use Rattle.leaf_map.specs.Kept.{Kept, shown_by}
use Rattle.leaf_map.specs.LeafMap.{are_apart, shows_same}
use Rattle.leaf_recovery.specs.Repeated.{repeated_behind}
use Rattle.sound_image.specs.Wrong.{IsOneOf}
use Rattle.image_tree.proofs.Members.{head_or, none_of, one_more}

-- whether one of these leaves shows what a leaf shows
abbrev pub is_shown_before : List Kept → Kept → Bool
is_shown_before before x = list_any (λ y. shows_same (shown_by y) (shown_by x)) before

-- a leaf of a list shows what one before it shows, there or in front of the list
abbrev RepeatsIn : List Kept → List Kept → Kept → Type 0
RepeatsIn front kept x = (before : List Kept) × (behind : List Kept) × (kept ≡ before ++ (x ∷ behind)) × ((is_shown_before front x || is_shown_before before x) ≡ true)

turned : (s b m : Bool) → ((s || b) || m) ≡ (b || (s || m))
turned true true m = refl
turned true false m = refl
turned false b m = refl

first_step : (t : Bool) (x z : Kept) (rest : List Kept) → IsOneOf x ((cond t (z ∷ []) []) ++ rest) → ((z ≡ x) × (t ≡ true)) ⊎ IsOneOf x rest
first_step true x z rest one = elim (head_or x z rest one) [ inl e ↦ inl (e, refl) | inr more ↦ inr more ]
first_step false x z rest one = inr one

step_back : (t : Bool) (x z : Kept) (rest : List Kept) → IsOneOf x rest → IsOneOf x ((cond t (z ∷ []) []) ++ rest)
step_back true x z rest one = one_more x z rest one
step_back false x z rest one = one

step_here : (t : Bool) (x z : Kept) (rest : List Kept) → z ≡ x → t ≡ true → IsOneOf x ((cond t (z ∷ []) []) ++ rest)
step_here true x z rest e h = ([], rest, ap (λ (y : Kept). y ∷ rest) e)
step_here false x z rest e h = absurd cc

or_none : (b : Bool) → (b || false) ≡ true → b ≡ true
or_none true h = refl
or_none false h = absurd cc

pub repeats : (front kept : List Kept) (x : Kept) → IsOneOf x (repeated_behind front kept) → RepeatsIn front kept x
repeats front [] x one = absurd (none_of x one)
repeats front (z ∷ kept) x one = elim (first_step (is_shown_before front z) x z (repeated_behind (z ∷ front) kept) one) [
  | inl here ↦ ([], kept, ap (λ (y : Kept). y ∷ kept) here.0, or_left (is_shown_before front x) false (subst (λ (y : Kept). is_shown_before front y ≡ true) here.0 here.1))
  | inr more ↦
      let (before, behind, e, any) = repeats (z ∷ front) kept x more in
      (z ∷ before, behind, ap (λ (ys : List Kept). z ∷ ys) e, sym (turned (shows_same (shown_by z) (shown_by x)) (is_shown_before front x) (is_shown_before before x)) ∙ any)
]

pub repeated : (front kept before behind : List Kept) (x : Kept) → kept ≡ before ++ (x ∷ behind) → (is_shown_before front x || is_shown_before before x) ≡ true → IsOneOf x (repeated_behind front kept)
repeated front [] [] behind x e any = absurd cc
repeated front [] (y ∷ before) behind x e any = absurd cc
repeated front (z ∷ kept) [] behind x e any =
    let same : z ≡ x = cc in
    step_here (is_shown_before front z) x z (repeated_behind (z ∷ front) kept) same (subst (λ (y : Kept). is_shown_before front y ≡ true) (sym same) (or_none (is_shown_before front x) any))
repeated front (z ∷ kept) (y ∷ before) behind x e any =
    let same : y ≡ z = cc in
    let rest : kept ≡ before ++ (x ∷ behind) = cc in
    let there = subst (λ (w : Kept). (is_shown_before front x || is_shown_before (w ∷ before) x) ≡ true) same any in
    step_back (is_shown_before front z) x z (repeated_behind (z ∷ front) kept)
    (repeated (z ∷ front) kept before behind x rest (turned (shows_same (shown_by z) (shown_by x)) (is_shown_before front x) (is_shown_before before x) ∙ there))

-- ---- where none does
abbrev pub NoneRepeats : List Kept → Type 0
NoneRepeats kept = (x : Kept) (before behind : List Kept) → kept ≡ before ++ (x ∷ behind) → is_shown_before before x ≡ true → ⊥

apart_behind : (kept : List Kept) → NoneRepeats kept → (first mid rest : List Kept) (x : Kept) → kept ≡ first ++ (x ∷ (mid ++ rest)) → list_all (λ y. not (shows_same (shown_by x) (shown_by y))) rest ≡ true
apart_behind kept none first mid [] x parts = refl
apart_behind kept none first mid (y ∷ rest) x parts =
    and_from (not (shows_same (shown_by x) (shown_by y))) (list_all (λ z. not (shows_same (shown_by x) (shown_by z))) rest) (not_from_false (shows_same (shown_by x) (shown_by y)) other)
    (apart_behind kept none first (mid ++ y ∷ []) rest x (parts ∙ (let e : first ++ (x ∷ (mid ++ (y ∷ rest))) ≡ first ++ (x ∷ ((mid ++ y ∷ []) ++ rest)) = simp append_assoc in e)))
  where
    split : kept ≡ (first ++ (x ∷ mid)) ++ (y ∷ rest)
    split = parts ∙ (let e : first ++ (x ∷ (mid ++ (y ∷ rest))) ≡ (first ++ (x ∷ mid)) ++ (y ∷ rest) = simp append_assoc in e)

    other : shows_same (shown_by x) (shown_by y) ≡ false
    other = elim (cases_Bool (shows_same (shown_by x) (shown_by y))) [
      | inl same ↦
          let test = λ (z : Kept). shows_same (shown_by z) (shown_by y) in
          let any = list_any-append test first (x ∷ mid) ∙ or_right (list_any test first) (list_any test (x ∷ mid)) (or_left (test x) (list_any test mid) same) in
          absurd (none y (first ++ (x ∷ mid)) rest split any)
      | inr apart ↦ apart
    ]

pub all_apart : (kept : List Kept) → NoneRepeats kept → (first rest : List Kept) → kept ≡ first ++ rest → are_apart rest ≡ true
all_apart kept none first [] parts = refl
all_apart kept none first (x ∷ rest) parts =
    and_from (list_all (λ y. not (shows_same (shown_by x) (shown_by y))) rest) (are_apart rest) (apart_behind kept none first [] rest x parts)
    (all_apart kept none (first ++ x ∷ []) rest (parts ∙ (let e : first ++ (x ∷ rest) ≡ (first ++ x ∷ []) ++ rest = simp append_assoc in e)))
