-- A text is cut at the first of a byte in one way only.
use Rattle.std.proofs.Common.{◌≡◌, ℕ, ◌<◌, ◌^◌, List, [], ◌∷◌, ◌++◌, arith, sym, refl, subst}
use Rattle.std.specs.Fmt.{decimal}
use Rattle.std.specs.Str.Parse.{AllDigits, digits_value}
use Rattle.std.proofs.lemmas.Str.Parse.{IsNumeralModel, numerals_by_value, tells_digits}
use Rattle.std.proofs.lemmas.Fmt.{digits_decimal}
use Rattle.script_text.specs.Words.{Lacks}

pub lacks_append : (c : ℕ) (a b : List ℕ) → Lacks c a → Lacks c b → Lacks c (a ++ b)
lacks_append c [] b h k = k
lacks_append c (x ∷ a) b h k = (h.0, lacks_append c a b h.1 k)

pub lacks_more : (c : ℕ) (a : List ℕ) (x : ℕ) → Lacks c a → (x ≡ c → ⊥) → Lacks c (a ++ (x ∷ []))
lacks_more c a x h k = lacks_append c a (x ∷ []) h (k, tt)

-- what lacks a byte is not cut there
pub lacks_no_cut : (c : ℕ) (a b : List ℕ) → Lacks c (a ++ (c ∷ b)) → ⊥
lacks_no_cut c [] b h = h.0 refl
lacks_no_cut c (x ∷ a) b h = lacks_no_cut c a b h.1

pub not_cut : (c : ℕ) (s a b : List ℕ) → Lacks c s → s ≡ a ++ (c ∷ b) → ⊥
not_cut c s a b h e = let P : List ℕ → Type 0 = λ t. Lacks c t in lacks_no_cut c a b (subst P e h)

-- the first parts are the same, and so are the rests
pub cut_once : (c : ℕ) (a b x y : List ℕ) → Lacks c a → Lacks c x → a ++ (c ∷ b) ≡ x ++ (c ∷ y) → (a ≡ x) × (b ≡ y)
cut_once c [] b [] y h k e = (refl, cc)
cut_once c [] b (z ∷ x) y h k e = absurd (let s : c ≡ z = cc in k.0 (sym s))
cut_once c (z ∷ a) b [] y h k e = absurd (let s : z ≡ c = cc in h.0 s)
cut_once c (z ∷ a) b (w ∷ x) y h k e =
    let heads : z ≡ w = cc in
    let tails : a ++ (c ∷ b) ≡ x ++ (c ∷ y) = cc in
    let rest : (a ≡ x) × (b ≡ y) = cut_once c a b x y h.1 k.1 tails in
    let front : a ≡ x = rest.0 in (cc, rest.1)

lacks_digits : (c : ℕ) (ds : List ℕ) → c < 48 → AllDigits 10 ds → Lacks c ds
lacks_digits c [] low h = tt
lacks_digits c (d ∷ ds) low h =
    let p = tells_digits.parts d ds h in
    (λ e. omega (arith, e, p.0.0), lacks_digits c ds low p.1)

pub own : IsNumeralModel (AllDigits 10) (digits_value 10)
own = numerals_by_value (AllDigits 10) tells_digits

-- no space and no newline stands in a number
pub lacks_decimal : (c n : ℕ) → c < 48 → n < 2 ^ 64 → Lacks c (decimal n)
lacks_decimal c n low fits = lacks_digits c (decimal n) low (digits_decimal own n fits)
