-- Items of a list, put or read one behind another.
use Rattle.std.proofs.Common.{◌≡◌, ℕ, zero, suc, ◌+◌, ◌*◌, ◌/◌, ◌%◌, ◌^◌, ◌<◌, List, [], ◌∷◌, ◌++◌, length, take, get_or, refl, ap, sym, ◌∙◌, arith, subst, append_assoc, append-nil}
use Rattle.std.specs.List.{flat_map, AllByRecursion}
use Rattle.std.specs.Prelude.{Option, Some, None, IfNone}
use Rattle.media_lpt.specs.Packed.{Field, field, bits_len, bytes_number, IsPut, IsAt}
use Rattle.media_lpt.specs.PackedLaws.{IsPut-append, IsAt-append, IsAt-parts, flat_map-append, bits_len-flat_map}

flat_map_take : {X : Type 0} (f : X → List Field) (xs : List X) (i : ℕ) (d : X) → i < length xs → flat_map f (take (suc i) xs) ≡ flat_map f (take i xs) ++ f (get_or xs i d)
flat_map_take f [] i d h = absurd (omega arith)
flat_map_take f (x ∷ xs) zero d h = append-nil (f x)
flat_map_take f (x ∷ xs) (suc i) d h = ap (λ y. f x ++ y) (flat_map_take f xs i d (omega arith)) ∙ sym (append_assoc (f x) (flat_map f (take i xs)) (f (get_or xs i d)))

length_take : {X : Type 0} (xs : List X) (i : ℕ) → i < length xs → length (take i xs) ≡ i
length_take [] i h = absurd (omega arith)
length_take (x ∷ xs) zero h = refl
length_take (x ∷ xs) (suc i) h = let ih = length_take xs i (omega arith) in omega (arith, ih)

-- one item more
pub put_step : {X : Type 0} (f : X → List Field) (w : ℕ) (xs : List X) (i : ℕ) (d : X) (old out new : List ℕ) (bit at : ℕ) → ((x : X) → bits_len (f x) ≡ w)
    → i < length xs → at ≡ bit + i * w → IsPut old bit (flat_map f (take i xs)) out → IsPut out at (f (get_or xs i d)) new → IsPut old bit (flat_map f (take (i + 1) xs)) new
put_step f w xs i d old out new bit at wide h place before step =
    let len : bits_len (flat_map f (take i xs)) ≡ i * w = bits_len-flat_map f w (take i xs) wide ∙ ap (λ n. n * w) (length_take xs i h) in
    let e : at ≡ bit + bits_len (flat_map f (take i xs)) = omega (arith, place, len) in
    let P : ℕ → Type 0 = λ b. IsPut out b (f (get_or xs i d)) new in
    let Q : List Field → Type 0 = λ fs. IsPut old bit fs new in
    let next : flat_map f (take i xs) ++ f (get_or xs i d) ≡ flat_map f (take (i + 1) xs) = sym (flat_map_take f xs i d h) ∙ (let s : suc i ≡ i + 1 = omega arith in ap (λ n. flat_map f (take n xs)) s) in
    subst Q next (IsPut-append old out new bit (flat_map f (take i xs)) (f (get_or xs i d)) before (subst P e step))

-- an item in front of the others
pub IsAt-cons : (bytes : List ℕ) (bit width value : ℕ) (g : List Field) → value ≡ bytes_number bytes / 2 ^ bit % 2 ^ width → IsAt bytes (bit + width) g → IsAt bytes bit (field width value ∷ g)
unfolding IsAt
IsAt-cons bytes bit width value g h k = (h, k)

-- four items
pub four_at : {X : Type 0} (f : X → List Field) (w : ℕ) (bytes : List ℕ) (bit : ℕ) (a b c d : X) → ((x : X) → bits_len (f x) ≡ w)
    → IsAt bytes bit (f a) → IsAt bytes (bit + w) (f b) → IsAt bytes (bit + 2 * w) (f c) → IsAt bytes (bit + 3 * w) (f d) → IsAt bytes bit (flat_map f (a ∷ b ∷ c ∷ d ∷ []))
four_at f w bytes bit a b c d wide ha hb hc hd =
    let Q : List Field → Type 0 = λ fs. IsAt bytes (bit + 3 * w) fs in
    let P : ℕ → ℕ → List Field → Type 0 = λ from n fs. IsAt bytes (from + n) fs in
    let e2 : bit + 3 * w ≡ bit + 2 * w + bits_len (f c) = (let h = wide c in omega (arith, h)) in
    let e1 : bit + 2 * w ≡ bit + w + bits_len (f b) = (let h = wide b in omega (arith, h)) in
    let e0 : bit + w ≡ bit + bits_len (f a) = (let h = wide a in omega (arith, h)) in
    let S : List Field → ℕ → Type 0 = λ fs n. IsAt bytes n fs in
    let last = subst Q (sym (append-nil (f d))) hd in
    let third = IsAt-append bytes (bit + 2 * w) (f c) (f d ++ []) hc (subst (S (f d ++ [])) e2 last) in
    let second = IsAt-append bytes (bit + w) (f b) (f c ++ (f d ++ [])) hb (subst (S (f c ++ (f d ++ []))) e1 third) in
    IsAt-append bytes bit (f a) (f b ++ (f c ++ (f d ++ []))) ha (subst (S (f b ++ (f c ++ (f d ++ [])))) e0 second)

-- one item more that was read
pub at_step : {X : Type 0} (f : X → List Field) (w : ℕ) (bytes : List ℕ) (bit at : ℕ) (xs : List X) (x : X) → ((x : X) → bits_len (f x) ≡ w)
    → at ≡ bit + length xs * w → IsAt bytes bit (flat_map f xs) → IsAt bytes at (f x) → IsAt bytes bit (flat_map f (xs ++ x ∷ []))
at_step f w bytes bit at xs x wide place before step =
    let len = bits_len-flat_map f w xs wide in
    let e : at ≡ bit + bits_len (flat_map f xs) = omega (arith, place, len) in
    let P : ℕ → Type 0 = λ b. IsAt bytes b (f x ++ []) in
    let Q : List Field → Type 0 = λ fs. IsAt bytes at fs in
    let R : List Field → Type 0 = λ fs. IsAt bytes bit fs in
    subst R (sym (flat_map-append f xs (x ∷ []))) (IsAt-append bytes bit (flat_map f xs) (f x ++ []) before (subst P e (subst Q (sym (append-nil (f x))) step)))

pub next_place : (bit i w at : ℕ) → at ≡ bit + i * w → at + w ≡ bit + (i + 1) * w
next_place bit i w at h = omega (arith, h)

pub bits_len-four : {X : Type 0} (f : X → List Field) (w : ℕ) (xs : List X) → ((x : X) → bits_len (f x) ≡ w) → length xs ≡ 4 → bits_len (flat_map f xs) ≡ 4 * w
bits_len-four f w xs wide four = bits_len-flat_map f w xs wide ∙ ap (λ n. n * w) four

-- one item of those that are read
pub at_item : {X : Type 0} (f : X → List Field) (w : ℕ) (bytes : List ℕ) (bit : ℕ) (xs : List X) (i : ℕ) (d : X) → ((x : X) → bits_len (f x) ≡ w)
    → i < length xs → IsAt bytes bit (flat_map f xs) → IsAt bytes (bit + i * w) (f (get_or xs i d))
at_item f w bytes bit [] i d wide h at = absurd (omega arith)
at_item f w bytes bit (x ∷ xs) zero d wide h at =
    let P : ℕ → Type 0 = λ n. IsAt bytes n (f x) in
    let e : bit ≡ bit + 0 * w = omega arith in
    subst P e (IsAt-parts bytes bit (f x) (flat_map f xs) at).0
at_item f w bytes bit (x ∷ xs) (suc i) d wide h at =
    let P : ℕ → Type 0 = λ n. IsAt bytes n (f (get_or xs i d)) in
    let wx = wide x in
    let e : bit + bits_len (f x) + i * w ≡ bit + suc i * w = omega (arith, wx) in
    subst P e (at_item f w bytes (bit + bits_len (f x)) xs i d wide (omega arith) (IsAt-parts bytes bit (f x) (flat_map f xs) at).1)

pub all_item : {X : Type 0} (P : X → Type 0) (xs : List X) (i : ℕ) (d : X) → i < length xs → AllByRecursion P xs → P (get_or xs i d)
all_item P [] i d h all = absurd (omega arith)
all_item P (x ∷ xs) zero d h all = all.0
all_item P (x ∷ xs) (suc i) d h all = all_item P xs i d (omega arith) all.1

pub on_none : {X : Type 0} (o : Option X) (P : Type 0) → P → IfNone o P
on_none None P h = h
on_none (Some x) P h = tt
