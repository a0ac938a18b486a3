-- The last component of a path is a name.
use Rattle.std.proofs.Common.{◌≡◌, ℕ, Bool, true, false, cond, not, ◌&&◌, ◌||◌, List, [], ◌∷◌, length, refl, sym}
use Rattle.std.specs.Prelude.{◌==◌, nat_lt, nat_le}
use Rattle.std.specs.List.{list_all, list_any}
use Rattle.std.proofs.lemmas.Bool.{false≢true, and_parts, and_from, or_parts, ltb-false, le-leb}
use Rattle.fs_model.specs.Making.{is_name_path}
use Rattle.fs_model.specs.Path.{with_first, between_slashes, components, is_empty, is_absolute, is_dots, is_root, has_long_name, last_of}
use Rattle.fs_model.specs.Proper.{are_bytes, is_name}
use Rattle.fs_laws.specs.Maps.{all_weaken}

-- a byte below 256 that is neither zero nor a slash
abbrev is_letter : ℕ → Bool
is_letter b = nat_lt b 256 && (not (b == 0) && not (b == 47))

-- a byte below 256 that isn't zero
abbrev is_plain : ℕ → Bool
is_plain b = nat_lt b 256 && not (b == 0)

abbrev are_letters : List ℕ → Bool
are_letters name = list_all is_letter name

first_letters : (b : ℕ) (parts : List (List ℕ)) → is_letter b ≡ true → list_all are_letters parts ≡ true → list_all are_letters (with_first b parts) ≡ true
first_letters b [] l h = rw l refl
first_letters b (part ∷ parts) l h =
    let p = and_parts (are_letters part) (list_all are_letters parts) h in
    and_from (are_letters (b ∷ part)) (list_all are_letters parts) (and_from (is_letter b) (are_letters part) l p.0) p.1

slashes_letters : (bytes : List ℕ) → list_all is_plain bytes ≡ true → list_all are_letters (between_slashes bytes) ≡ true
slashes_letters [] h = refl
slashes_letters (b ∷ bytes) h =
    let p = and_parts (is_plain b) (list_all is_plain bytes) h in by (slashes_letters bytes p.1) p.0 (b == 47) refl
  where
    by : list_all are_letters (between_slashes bytes) ≡ true → is_plain b ≡ true → (s : Bool) → (b == 47) ≡ s → list_all are_letters (cond s ([] ∷ between_slashes bytes) (with_first b (between_slashes bytes))) ≡ true
    by rest plain true e = rest
    by rest plain false e =
        let q = and_parts (nat_lt b 256) (not (b == 0)) plain in
        first_letters b (between_slashes bytes) (and_from (nat_lt b 256) (not (b == 0) && not (b == 47)) q.0 (and_from (not (b == 0)) (not (b == 47)) q.1 (rw e refl))) rest

tail_plain : (path : List ℕ) → list_all is_plain path ≡ true → list_all are_letters (components path) ≡ true
tail_plain [] h = refl
tail_plain (slash ∷ []) h = refl
tail_plain (slash ∷ byte ∷ bytes) h = slashes_letters (byte ∷ bytes) (and_parts (is_plain slash) (list_all is_plain (byte ∷ bytes)) h).1

none_all : {X : Type 0} (f : X → Bool) (xs : List X) → list_any f xs ≡ false → list_all (λ x. not (f x)) xs ≡ true
none_all f [] h = refl
none_all f (x ∷ xs) h = let p = or_parts (f x) (list_any f xs) h in rw p.0 (none_all f xs p.1)

both_all : {X : Type 0} (f g : X → Bool) (xs : List X) → list_all f xs ≡ true → list_all g xs ≡ true → list_all (λ x. f x && g x) xs ≡ true
both_all f g [] h k = refl
both_all f g (x ∷ xs) h k =
    let p = and_parts (f x) (list_all f xs) h in let q = and_parts (g x) (list_all g xs) k in
    and_from (f x && g x) (list_all (λ y. f y && g y) xs) (and_from (f x) (g x) p.0 q.0) (both_all f g xs p.1 q.1)

last_all : (f : List ℕ → Bool) (parts : List (List ℕ)) → list_all f parts ≡ true → is_empty parts ≡ false → f (last_of parts) ≡ true
last_all f [] h e = absurd (false≢true (sym e))
last_all f (x ∷ []) h e = (and_parts (f x) true h).0
last_all f (x ∷ y ∷ rest) h e = last_all f (y ∷ rest) (and_parts (f x) (list_all f (y ∷ rest)) h).1 refl

-- a component that is a name
abbrev is_part : List ℕ → Bool
is_part c = are_letters c && (not (is_empty c || is_dots c) && not (nat_lt 255 (length c)))

not_or : (a b : Bool) → not (a || b) ≡ true → not a ≡ true
not_or true b h = h
not_or false b h = refl

name_of_part : (c : List ℕ) → is_part c ≡ true → is_name c ≡ true
name_of_part c h =
    let p = and_parts (are_letters c) (not (is_empty c || is_dots c) && not (nat_lt 255 (length c))) h in
    let q = and_parts (not (is_empty c || is_dots c)) (not (nat_lt 255 (length c))) p.1 in
    let full = not_or (is_empty c) (is_dots c) q.0 in
    let short = le-leb (length c) 255 (ltb-false 255 (length c) (turn (nat_lt 255 (length c)) q.1)) in
    let bytes = all_weaken is_letter (λ b. nat_lt b 256) (λ b t. (and_parts (nat_lt b 256) (not (b == 0) && not (b == 47)) t).0) c p.0 in
    let plain = all_weaken is_letter (λ b. not (b == 0) && not (b == 47)) (λ b t. (and_parts (nat_lt b 256) (not (b == 0) && not (b == 47)) t).1) c p.0 in
    and_from (not (is_empty c) && nat_le (length c) 255 && are_bytes c) (list_all (λ b. not (b == 0) && not (b == 47)) c)
    (and_from (not (is_empty c) && nat_le (length c) 255) (are_bytes c) (and_from (not (is_empty c)) (nat_le (length c) 255) full short) bytes) plain
  where
    turn : (b : Bool) → not b ≡ true → b ≡ false
    turn true t = sym t
    turn false t = refl

parts_of : (a b c d : Bool) → not ((a && not b && not c) && not d) ≡ false → (b ≡ false) × (c ≡ false) × (d ≡ false)
parts_of true false false false h = (refl, refl, refl)
parts_of true false false true h = absurd (false≢true (sym h))
parts_of true false true d h = absurd (false≢true (sym h))
parts_of true true c d h = absurd (false≢true (sym h))
parts_of false b c d h = absurd (false≢true (sym h))

-- the last component of a path of a name
pub last_is_name : (path : List ℕ) → are_bytes path ≡ true → not (is_name_path path) ≡ false → has_long_name path ≡ false → is_name (last_of (components path)) ≡ true
last_is_name path bytes good short =
    let p = parts_of (is_absolute path) (list_any (λ b. b == 0) path) (list_any (λ c. is_empty c || is_dots c) (components path)) (is_root path) good in
    let plain = both_all (λ b. nat_lt b 256) (λ b. not (b == 0)) path bytes (none_all (λ b. b == 0) path p.0) in
    let letters = tail_plain path plain in
    let full = none_all (λ c. is_empty c || is_dots c) (components path) p.1 in
    let few = none_all (λ c. nat_lt 255 (length c)) (components path) short in
    let all = both_all are_letters (λ c. not (is_empty c || is_dots c) && not (nat_lt 255 (length c))) (components path) letters (both_all (λ c. not (is_empty c || is_dots c)) (λ c. not (nat_lt 255 (length c))) (components path) full few) in
    name_of_part (last_of (components path)) (last_all is_part (components path) all p.2)
