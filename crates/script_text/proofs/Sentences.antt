-- No word has a blank in it, so a line is cut into words in one way only.
use Rattle.std.proofs.Common.{◌≡◌, ℕ, ◌+◌, ◌<◌, ◌≤◌, ◌^◌, ◌/◌, ◌%◌, true, false, cond, List, [], ◌∷◌, ◌++◌, arith, sym, refl, ap, subst, ◌∙◌, inl, inr}
use Rattle.std.specs.Prelude.{◌⊎◌, nat_lt, nat_le}
use Rattle.std.specs.List.{list_all}
use Rattle.std.specs.Fmt.{decimal}
use Rattle.std.specs.Str.Parse.{AllDigits, digits_value}
use Rattle.std.proofs.lemmas.Bool.{and_parts, ltb-true}
use Rattle.std.proofs.lemmas.Bool.Decides.{nat_tests}
use Rattle.std.proofs.lemmas.Str.Parse.{IsNumeralModel, numerals_by_value, tells_digits}
use Rattle.std.proofs.lemmas.Fmt.{digits_decimal}
use Rattle.script_text.specs.Escapes.{hex_digit}
use Rattle.script_text.specs.Words.{Lacks, BeginsWithByte, IsWordSpelled, is_octal_digit, Word, Fixed, Number, Mode, Path, Target, FileName, IsWord, AreSpacedWords}
use Rattle.script_text.proofs.Cutting.{lacks_append, cut_once, not_cut}

-- each byte stands behind the blanks of ASCII
abbrev pub Tight : List ℕ → Type 0
Tight [] = Unit {0}
Tight (b ∷ bs) = (32 < b) × Tight bs

pub tight_lacks : (c : ℕ) (t : List ℕ) → c < 33 → Tight t → Lacks c t
tight_lacks c [] low h = tt
tight_lacks c (b ∷ bs) low h = ((λ e. omega (arith, low, h.0, e)), tight_lacks c bs low h.1)

pub tight_of : (t : List ℕ) → list_all (λ b. nat_lt 32 b) t ≡ true → Tight t
tight_of [] e = tt
tight_of (b ∷ bs) e = let p = and_parts (nat_lt 32 b) (list_all (λ x. nat_lt 32 x) bs) e in (ltb-true 32 b p.0, tight_of bs p.1)

tight_digits : (ds : List ℕ) → AllDigits 10 ds → Tight ds
tight_digits [] h = tt
tight_digits (d ∷ ds) h = let p = tells_digits.parts d ds h in (omega (arith, p.0.0), tight_digits ds p.1)

own : IsNumeralModel (AllDigits 10) (digits_value 10)
own = numerals_by_value (AllDigits 10) tells_digits

tight_octal : (ds : List ℕ) → list_all is_octal_digit ds ≡ true → Tight ds
tight_octal [] h = tt
tight_octal (d ∷ ds) h =
    let p = and_parts (is_octal_digit d) (list_all is_octal_digit ds) h in
    let least : 48 ≤ d = let q = and_parts (nat_le 48 d) (nat_lt d 56) p.0 in grind (arith, nat_tests, q.0) in
    (omega (arith, least), tight_octal ds p.1)

tight_hex : (n : ℕ) → 32 < hex_digit n
tight_hex n = elim (nat_lt n 10) as (λ t. 32 < cond t (48 + n) (87 + n)) [ true ↦ omega arith | false ↦ omega arith ]

tight_begin : (text : List ℕ) (byte : ℕ) (rest : List ℕ) → BeginsWithByte text byte rest → Tight rest → Tight text
tight_begin text byte rest h t = elim h.1 [
  | inl shown ↦ let above : 32 < byte = grind (arith, nat_tests, shown.0) in subst Tight (sym shown.1) (above, t)
  | inr hex ↦ subst Tight (sym hex) (omega arith, (tight_hex (byte / 16), (tight_hex (byte % 16), t)))
]

tight_spelled : (bytes word : List ℕ) → IsWordSpelled word bytes → Tight word
tight_spelled [] word h = subst Tight (sym h) tt
tight_spelled (byte ∷ bytes) word h = tight_begin word byte h.0 h.1 (tight_spelled bytes h.0 h.2)

-- a fixed word without blanks, or a number that has decimal digits
abbrev pub Bare : Word → Type 0
Bare (Fixed text) = Tight text
Bare (Number bits n) = 2 ^ bits ≤ 2 ^ 64
Bare (Mode mode) = Unit {0}
Bare (Path path) = Unit {0}
Bare (Target target) = Unit {0}
Bare (FileName name) = Unit {0}

abbrev pub AllBare : List Word → Type 0
AllBare [] = Unit {0}
AllBare (word ∷ words) = Bare word × AllBare words

-- a text without a space and without a newline
abbrev pub IsUnbroken : List ℕ → Type 0
IsUnbroken t = Lacks 32 t × Lacks 10 t

tight_unbroken : (t : List ℕ) → Tight t → IsUnbroken t
tight_unbroken t h = (tight_lacks 32 t (omega arith) h, tight_lacks 10 t (omega arith) h)

pub unbroken_word : (w : Word) (t : List ℕ) → Bare w → IsWord w t → IsUnbroken t
unbroken_word (Fixed text) t b h = tight_unbroken t (subst Tight (sym h) b)
unbroken_word (Number bits n) t b h = tight_unbroken t (subst Tight (sym h.1) (tight_digits (decimal n) (digits_decimal own n (omega (arith, b, h.0)))))
unbroken_word (Mode mode) t b h = tight_unbroken t (tight_octal t h.octal)
unbroken_word (Path path) t b h = tight_unbroken t (tight_spelled path t h.0)
unbroken_word (Target target) t b h = tight_unbroken t (tight_spelled target t h)
unbroken_word (FileName name) t b h = subst IsUnbroken (sym h.0) (h.1.no_space, h.1.no_newline)

-- what stands before the first space is the first word
pub split : (w v : Word) (ws : List Word) (text front rest : List ℕ) → Bare w → Lacks 32 front → text ≡ front ++ (32 ∷ rest) → AreSpacedWords (w ∷ v ∷ ws) text
    → IsWord w front × AreSpacedWords (v ∷ ws) rest
split w v ws text front rest b l e h =
    let p = cut_once 32 front rest h.0 h.1 l (unbroken_word w h.0 b h.2).0 (sym e ∙ h.4) in
    let P : List ℕ → Type 0 = λ t. IsWord w t in
    let Q : List ℕ → Type 0 = λ t. AreSpacedWords (v ∷ ws) t in
    (subst P (sym p.0) h.2, subst Q (sym p.1) h.3)

-- two words have a space between them
pub uncut : (w v : Word) (ws : List Word) (text : List ℕ) → Lacks 32 text → AreSpacedWords (w ∷ v ∷ ws) text → ⊥
uncut w v ws text l h = not_cut 32 text h.0 h.1 l h.4

-- a line of words has one newline, at its end
pub one_line : (ws : List Word) (text : List ℕ) → AllBare ws → AreSpacedWords ws text → Lacks 10 text
one_line [] text b h = let P : List ℕ → Type 0 = λ t. Lacks 10 t in subst P (sym h) tt
one_line (w ∷ []) text b h = (unbroken_word w text b.0 h).1
one_line (w ∷ v ∷ ws) text b h =
    let P : List ℕ → Type 0 = λ t. Lacks 10 t in
    subst P (sym h.4) (lacks_append 10 h.0 (32 ∷ h.1) (unbroken_word w h.0 b.0 h.2).1 ((λ e. omega (arith, e)), one_line (v ∷ ws) h.1 b.1 h.3))

-- what a fixed word begins
pub record Follows (name : List ℕ) (ws : List Word) (whole : List ℕ) : Type 0 where
  pub rest : List ℕ
  pub some : ws ≡ [] → ⊥
  pub words : AreSpacedWords ws rest
  pub text : whole ≡ name ++ (32 ∷ rest)

pub named : (name : List ℕ) (ws : List Word) (text : List ℕ) → AreSpacedWords (Fixed name ∷ ws) text → ((ws ≡ []) × (text ≡ name)) ⊎ Follows name ws text
named name [] text h = inl (refl, h)
named name (w ∷ ws) text h = inr (record { rest = h.1; some = λ e. absurd cc; words = h.3; text = h.4 ∙ ap (λ (t : List ℕ). t ++ (32 ∷ h.1)) h.2 })

pub begun : (name : List ℕ) (ws : List Word) (text rest : List ℕ) → (ws ≡ [] → ⊥) → AreSpacedWords ws rest → text ≡ name ++ (32 ∷ rest) → AreSpacedWords (Fixed name ∷ ws) text
begun name [] text rest some h e = absurd (some refl)
begun name (w ∷ ws) text rest some h e = (name, rest, refl, h, e)
