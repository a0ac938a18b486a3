-- What a word spells is determined.
use Rattle.std.proofs.Common.{◌≡◌, ℕ, ◌<◌, ◌/◌, ◌%◌, Bool, true, List, [], ◌∷◌, ◌++◌, arith, sym, refl, ap, subst, ◌∙◌, inl, inr, append_assoc, append-nil}
use Rattle.std.specs.Prelude.{nat_lt, ◌==◌, length}
use Rattle.std.proofs.lemmas.Bool.{and_from, false≢true, lt-ltb}
use Rattle.std.proofs.lemmas.Bool.Decides.{Decides-eqb, nat_tests}
use Rattle.fs_model.specs.Proper.{are_bytes}
use Rattle.script_text.specs.Escapes.{hex_digit, is_printable}
use Rattle.script_text.specs.Words.{BeginsWithByte, IsWordSpelled}

pub hex_once : (m n : ℕ) → m < 16 → n < 16 → hex_digit m ≡ hex_digit n → m ≡ n
hex_once m n fm fn e = grind (arith, nat_tests)

byte_once : (b c : ℕ) → b < 256 → c < 256 → hex_digit (b / 16) ≡ hex_digit (c / 16) → hex_digit (b % 16) ≡ hex_digit (c % 16) → b ≡ c
byte_once b c fb fc high low =
    let h : b / 16 ≡ c / 16 = hex_once (b / 16) (c / 16) (omega arith) (omega arith) high in
    let l : b % 16 ≡ c % 16 = hex_once (b % 16) (c % 16) (omega arith) (omega arith) low in
    omega (arith, h, l)

percent : (b : ℕ) → is_printable b ≡ true → b ≡ 37 → ⊥
percent b h e = let P : ℕ → Type 0 = λ x. is_printable x ≡ true in false≢true (subst P e h)

pub begins_once : (text : List ℕ) (b c : ℕ) (x y : List ℕ) → BeginsWithByte text b x → BeginsWithByte text c y → (b ≡ c) × (x ≡ y)
begins_once text b c x y h k =
    elim h.1 [
      | inl s ↦ elim k.1 [
        | inl t ↦ let e : b ∷ x ≡ c ∷ y = sym s.1 ∙ t.1 in let heads : b ≡ c = cc in let tails : x ≡ y = cc in (heads, tails)
        | inr t ↦ absurd (let e : b ∷ x ≡ 37 ∷ hex_digit (c / 16) ∷ hex_digit (c % 16) ∷ y = sym s.1 ∙ t in let is : b ≡ 37 = cc in percent b s.0 is)
      ]
      | inr s ↦ elim k.1 [
        | inl t ↦ absurd (let e : c ∷ y ≡ 37 ∷ hex_digit (b / 16) ∷ hex_digit (b % 16) ∷ x = sym t.1 ∙ s in let is : c ≡ 37 = cc in percent c t.0 is)
        | inr t ↦
            let e : 37 ∷ hex_digit (b / 16) ∷ hex_digit (b % 16) ∷ x ≡ 37 ∷ hex_digit (c / 16) ∷ hex_digit (c % 16) ∷ y = sym s ∙ t in
            let high : hex_digit (b / 16) ≡ hex_digit (c / 16) = cc in
            let low : hex_digit (b % 16) ≡ hex_digit (c % 16) = cc in
            let tails : x ≡ y = cc in (byte_once b c h.0 k.0 high low, tails)
      ]
    ]

pub some_bytes : (byte : ℕ) (rest : List ℕ) → BeginsWithByte [] byte rest → ⊥
some_bytes byte rest h = elim h.1 [ inl s ↦ absurd (let e = s.1 in cc) | inr s ↦ absurd cc ]

-- one byte more
pub whole_more : (word rest more bytes : List ℕ) (byte : ℕ) → BeginsWithByte rest byte more
    → ((tail : List ℕ) → IsWordSpelled rest tail → IsWordSpelled word (bytes ++ tail))
    → (tail : List ℕ) → IsWordSpelled more tail → IsWordSpelled word ((bytes ++ (byte ∷ [])) ++ tail)
whole_more word rest more bytes byte begins whole tail h =
    let P : List ℕ → Type 0 = λ t. IsWordSpelled word t in
    subst P (sym (append_assoc bytes (byte ∷ []) tail)) (whole (byte ∷ tail) (more, begins, h))

pub only_more : (word rest more bytes : List ℕ) (byte : ℕ) → BeginsWithByte rest byte more
    → ((all : List ℕ) → IsWordSpelled word all → (tail : List ℕ) × IsWordSpelled rest tail × (all ≡ bytes ++ tail))
    → (all : List ℕ) → IsWordSpelled word all → (tail : List ℕ) × IsWordSpelled more tail × (all ≡ (bytes ++ (byte ∷ [])) ++ tail)
only_more word rest more bytes byte begins only all h = let o = only all h in by o.0 o.1 o.2
  where
    by : (tail : List ℕ) → IsWordSpelled rest tail → all ≡ bytes ++ tail → (tail : List ℕ) × IsWordSpelled more tail × (all ≡ (bytes ++ (byte ∷ [])) ++ tail)
    by [] k e = let P : List ℕ → Type 0 = λ t. BeginsWithByte t byte more in absurd (some_bytes byte more (subst P k begins))
    by (b ∷ tail) k e =
        let once = begins_once rest b byte k.0 more k.1 begins in
        let P : List ℕ → Type 0 = λ t. IsWordSpelled t tail in
        (tail, subst P once.1 k.2, e ∙ (ap (λ (x : ℕ). bytes ++ (x ∷ tail)) once.0 ∙ sym (append_assoc bytes (byte ∷ []) tail)))

-- no byte stands at a bad place
pub none_more : (word rest bytes : List ℕ) → (rest ≡ [] → ⊥) → ((byte : ℕ) (more : List ℕ) → BeginsWithByte rest byte more → ⊥)
    → ((all : List ℕ) → IsWordSpelled word all → (tail : List ℕ) × IsWordSpelled rest tail × (all ≡ bytes ++ tail))
    → (all : List ℕ) → IsWordSpelled word all → ⊥
none_more word rest bytes some none only all h = let o = only all h in by o.0 o.1
  where
    by : (tail : List ℕ) → IsWordSpelled rest tail → ⊥
    by [] k = some k
    by (b ∷ tail) k = none b k.0 k.1

pub nothing : (xs : List ℕ) (r : Bool) → r ≡ (length xs == 0) → r ≡ true → xs ≡ []
nothing [] r e h = refl
nothing (x ∷ xs) r e h = absurd (let none : length (x ∷ xs) ≡ 0 = (Decides-eqb (length (x ∷ xs)) 0).0 (sym e ∙ h) in omega (arith, none))

-- at the end
pub whole_end : (word rest bytes : List ℕ) → rest ≡ [] → ((tail : List ℕ) → IsWordSpelled rest tail → IsWordSpelled word (bytes ++ tail)) → IsWordSpelled word bytes
whole_end word rest bytes last whole = let P : List ℕ → Type 0 = λ t. IsWordSpelled word t in subst P (append-nil bytes) (whole [] last)

pub only_end : (word rest bytes : List ℕ) → rest ≡ [] → ((all : List ℕ) → IsWordSpelled word all → (tail : List ℕ) × IsWordSpelled rest tail × (all ≡ bytes ++ tail))
    → (all : List ℕ) → IsWordSpelled word all → bytes ≡ all
only_end word rest bytes last only all h = let o = only all h in by o.0 o.1 o.2
  where
    by : (tail : List ℕ) → IsWordSpelled rest tail → all ≡ bytes ++ tail → bytes ≡ all
    by [] k e = sym (e ∙ append-nil bytes)
    by (b ∷ tail) k e = let P : List ℕ → Type 0 = λ t. BeginsWithByte t b k.0 in absurd (some_bytes b k.0 (subst P last k.1))

-- what is spelled is bytes
pub spelled_bytes : (bytes word : List ℕ) → IsWordSpelled word bytes → are_bytes bytes ≡ true
spelled_bytes [] word h = refl
spelled_bytes (byte ∷ bytes) word h = and_from (nat_lt byte 256) (are_bytes bytes) (lt-ltb byte 256 h.1.0) (spelled_bytes bytes h.0 h.2)
