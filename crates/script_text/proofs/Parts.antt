-- An empty component of a path.
use Rattle.std.proofs.Common.{◌≡◌, ℕ, ◌+◌, ◌<◌, ◌≤◌, length, drop, get_or, ap, subst, Bool, true, false, List, [], ◌∷◌, refl, sym, ◌∙◌}
use Rattle.std.specs.Prelude.{◌==◌, ◌||◌, if◌then◌else◌}
use Rattle.std.specs.List.{list_any}
use Rattle.std.proofs.lemmas.List.{drop_more, drop_all}
use Rattle.fs_model.specs.Path.{between_slashes, with_first, is_empty}

-- whether a component is empty, where the first has begun behind nothing or not
abbrev pub empty_behind : Bool → List ℕ → Bool
empty_behind nothing [] = nothing
empty_behind nothing (byte ∷ bytes) = if byte == 47 then nothing || empty_behind true bytes else empty_behind false bytes

-- whether a part but the first is empty
abbrev later : List (List ℕ) → Bool
later [] = false
later (part ∷ parts) = list_any is_empty parts

behind_first : (byte : ℕ) (parts : List (List ℕ)) → later (with_first byte parts) ≡ later parts
behind_first byte [] = refl
behind_first byte (part ∷ parts) = refl

first_filled : (byte : ℕ) (parts : List (List ℕ)) → list_any is_empty (with_first byte parts) ≡ later parts
first_filled byte [] = refl
first_filled byte (part ∷ parts) = refl

-- the parts between slashes, with the first part or without
behind_slash : (bytes : List ℕ) → (empty_behind true bytes ≡ list_any is_empty (between_slashes bytes)) × (empty_behind false bytes ≡ later (between_slashes bytes))
behind_slash [] = (refl, refl)
behind_slash (byte ∷ bytes) = let e = behind_slash bytes in (
  elim (byte == 47) as (λ t. (if t then true || empty_behind true bytes else empty_behind false bytes) ≡ list_any is_empty (if t then [] ∷ between_slashes bytes else with_first byte (between_slashes bytes))) [
    | true ↦ refl
    | false ↦ e.1 ∙ sym (first_filled byte (between_slashes bytes))
  ],
  elim (byte == 47) as (λ t. (if t then false || empty_behind true bytes else empty_behind false bytes) ≡ later (if t then [] ∷ between_slashes bytes else with_first byte (between_slashes bytes))) [
    | true ↦ e.0
    | false ↦ e.1 ∙ sym (behind_first byte (between_slashes bytes))
  ],
)

pub empty_part : (bytes : List ℕ) → empty_behind true bytes ≡ list_any is_empty (between_slashes bytes)
empty_part bytes = (behind_slash bytes).0

pub empty_last : (names : List ℕ) (i : ℕ) (e : Bool) → length names ≤ i → empty_behind e (drop i names) ≡ empty_behind true names → e ≡ list_any is_empty (between_slashes names)
empty_last names i e past h = ap (empty_behind e) (sym (drop_all i names past)) ∙ (h ∙ empty_part names)

pub empty_here : (names : List ℕ) (i : ℕ) (e : Bool) → i < length names → get_or names i 0 ≡ 47 → e ≡ true → empty_behind e (drop i names) ≡ empty_behind true names → true ≡ list_any is_empty (between_slashes names)
empty_here names i e fits is turn h =
    let here : drop i names ≡ 47 ∷ drop (i + 1) names = drop_more names i 0 fits ∙ ap (λ (x : ℕ). x ∷ drop (i + 1) names) is in
    let P : Bool → Type 0 = λ b. empty_behind b (47 ∷ drop (i + 1) names) ≡ empty_behind true names in
    subst P turn (ap (empty_behind e) (sym here) ∙ h) ∙ empty_part names
