-- The components of a path, as the parts between slashes.
use Rattle.std.proofs.Common.{◌≡◌, ℕ, ◌+◌, ◌-◌, ◌≤◌, ◌<◌, false, List, [], ◌∷◌, ◌++◌, Option, Some, None, length, take, drop, get_or, refl, ap, sym, ◌∙◌, arith, take_all}
use Rattle.std.specs.Prelude.{◌==◌}
use native.Mathlib.Numerals.{unary_clauses}
use Rattle.std.specs.Option.{MatchOption, IfSome, option_to_list}
use Rattle.std.specs.List.{slice_split, onto_first, starts_with}
use Rattle.std.specs.Str.{bytes_eq}
use Rattle.std.proofs.lemmas.Map.Text.{is_eq-slice_cmp}
use Rattle.std.proofs.Math.Bool.{and-false}
use Rattle.fs_model.specs.Path.{between_slashes, with_first, components, front_of, last_of, is_same_name}
use Rattle.fs_model.specs.Rename.{is_under}

first_part : (byte : ℕ) (parts : List (List ℕ)) → with_first byte parts ≡ onto_first byte parts
first_part byte [] = refl
first_part byte (part ∷ parts) = refl

-- what stands between the slashes is what a split gives
pub slashes_split : (bytes : List ℕ) → between_slashes bytes ≡ slice_split (λ b. b == 47) bytes
slashes_split [] = refl
slashes_split (byte ∷ bytes) = rw (slashes_split bytes, first_part byte (slice_split (λ b. b == 47) bytes)) refl

-- the components stand behind the first slash
pub components_split : (path rest : List ℕ) → 2 ≤ length path → rest ≡ take (length path - 1) (drop 1 path) → components path ≡ slice_split (λ b. b == 47) rest
components_split [] rest h e = absurd (omega (arith, h))
components_split (slash ∷ []) rest h e = absurd (omega (arith, h))
components_split (slash ∷ byte ∷ bytes) rest h e =
    let whole : take (length (slash ∷ byte ∷ bytes) - 1) (byte ∷ bytes) ≡ byte ∷ bytes = take_all (length (slash ∷ byte ∷ bytes) - 1) (byte ∷ bytes) (omega arith) in
    slashes_split (byte ∷ bytes) ∙ ap (λ l. slice_split (λ b. b == 47) l) (sym (e ∙ whole))

-- all but the last, by their number
pub take_front : (names : List (List ℕ)) → take (length names - 1) names ≡ front_of names
take_front [] = refl
take_front (x ∷ []) = refl
take_front (x ∷ y ∷ rest) = simp unary_clauses (ap (λ l. x ∷ l) (simp unary_clauses at (take_front (y ∷ rest))))

-- the last one, by its place
pub last_at : (names : List (List ℕ)) (d : List ℕ) → 1 ≤ length names → get_or names (length names - 1) d ≡ last_of names
last_at [] d h = absurd (omega (arith, h))
last_at (x ∷ []) d h = refl
last_at (x ∷ y ∷ rest) d h = simp unary_clauses (simp unary_clauses at (last_at (y ∷ rest) d (omega arith)))

-- where there are no more components, none lies under
pub under_short : (old new : List (List ℕ)) → length new ≤ length old → false ≡ is_under old new
under_short [] [] h = refl
under_short [] (name ∷ new) h = absurd (omega (arith, h))
under_short (name ∷ old) [] h = refl
under_short (name ∷ old) (other ∷ new) h = rw (← under_short old new (omega (arith, h))) (sym (and-false (is_same_name name other)))

-- where there are more, the first ones tell
pub under_long : (old new : List (List ℕ)) → length old < length new → starts_with bytes_eq new old ≡ is_under old new
under_long [] [] h = absurd (omega (arith, h))
under_long [] (name ∷ new) h = refl
under_long (name ∷ old) [] h = absurd (omega (arith, h))
under_long (name ∷ old) (other ∷ new) h = rw (is_eq-slice_cmp name other, ← under_long old new (omega (arith, h))) refl

front-append : (names : List (List ℕ)) (name : List ℕ) → front_of (names ++ name ∷ []) ≡ names
front-append [] name = refl
front-append (x ∷ []) name = refl
front-append (x ∷ y ∷ rest) name = ap (λ l. x ∷ l) (front-append (y ∷ rest) name)

last-append : (names : List (List ℕ)) (name : List ℕ) → last_of (names ++ name ∷ []) ≡ name
last-append [] name = refl
last-append (x ∷ []) name = refl
last-append (x ∷ y ∷ rest) name = last-append (y ∷ rest) name

-- what stays where the last one was taken off
pub popped_front : (old new : List (List ℕ)) (taken : Option (List ℕ)) (n m : ℕ) → old ≡ new ++ option_to_list taken → MatchOption taken ((n ≡ 0) × (m ≡ 0)) (λ _. m + 1 ≡ n) → length new ≡ m → new ≡ front_of old
popped_front old [] None n m e cases l = rw e refl
popped_front old (x ∷ new) None n m e cases l = absurd (omega (arith, cases.1, l))
popped_front old new (Some name) n m e cases l = rw e (sym (front-append new name))

-- what was taken off is the last one
pub popped_last : (old new : List (List ℕ)) (taken : Option (List ℕ)) → old ≡ new ++ option_to_list taken → IfSome taken (λ name. name ≡ last_of old)
popped_last old new None e = tt
popped_last old new (Some name) e = rw e (sym (last-append new name))
