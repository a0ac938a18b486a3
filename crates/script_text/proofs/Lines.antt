-- The bytes of the lines, from left to right.
use Rattle.std.proofs.Common.{◌≡◌, ℕ, ◌<◌, ◌≤◌, ◌^◌, Bool, true, false, List, ◌∷◌, ◌++◌, arith, refl, sym, ap, ◌∙◌, append_assoc}
use Rattle.std.proofs.lemmas.List.{append_cancel_left}
use Rattle.std.specs.Prelude.{codes}
use Rattle.std.specs.Fmt.{decimal}
use Rattle.std.proofs.lemmas.Fmt.{decimal_injective}
use Rattle.script_text.specs.declared.manifest.Manifest.{Manifest}
use Rattle.script_text.specs.Words.{Lacks}
use Rattle.script_text.specs.Manifest.{packed_words, volume_end, volume_line}
use Rattle.text_lines.specs.Lines.{spaced}
use Rattle.script_text.proofs.Cutting.{lacks_append, lacks_decimal, cut_once, not_cut}

-- a number up to a byte that is no digit can be read in one way only
pub number_cut : (c m n : ℕ) (x y : List ℕ) → c < 48 → m < 2 ^ 64 → n < 2 ^ 64 → decimal m ++ (c ∷ x) ≡ decimal n ++ (c ∷ y) → (m ≡ n) × (x ≡ y)
number_cut c m n x y low fm fn e =
    let p = cut_once c (decimal m) x (decimal n) y (lacks_decimal c m low fm) (lacks_decimal c n low fn) e in
    (decimal_injective m n fm fn p.0, p.1)

-- `packed` stands behind one number and not behind the other
mixed_end : (m n : ℕ) (x y : List ℕ) → m < 2 ^ 64 → n < 2 ^ 64 → decimal m ++ volume_end true x ≡ decimal n ++ volume_end false y → ⊥
mixed_end m n x y fm fn e =
    let front : List ℕ = decimal m ++ (32 ∷ codes "packed") in
    let lacks : Lacks 10 front = lacks_append 10 (decimal m) (32 ∷ codes "packed") (lacks_decimal 10 m (omega arith) fm) ((λ d. omega (arith, d)), ((λ d. omega (arith, d)), ((λ d. omega (arith, d)), ((λ d. omega (arith, d)), ((λ d. omega (arith, d)), ((λ d. omega (arith, d)), ((λ d. omega (arith, d)), tt))))))) in
    let p = cut_once 10 front x (decimal n) y lacks (lacks_decimal 10 n (omega arith) fn) (append_assoc (decimal m) (32 ∷ codes "packed") (10 ∷ x) ∙ e) in
    not_cut 32 (decimal n) (decimal m) (codes "packed") (lacks_decimal 32 n (omega arith) fn) (sym p.0)

-- a fanout, and whether `packed` stands behind it, can be read in one way only
pub end_cut : (m n : ℕ) (p q : Bool) (x y : List ℕ) → m < 2 ^ 64 → n < 2 ^ 64 → decimal m ++ volume_end p x ≡ decimal n ++ volume_end q y → (m ≡ n) × (p ≡ q) × (x ≡ y)
end_cut m n true true x y fm fn e =
    let s = number_cut 32 m n (codes "packed" ++ (10 ∷ x)) (codes "packed" ++ (10 ∷ y)) (omega arith) fm fn e in (s.0, refl, append_cancel_left (codes "packed\n") x y s.1)
end_cut m n true false x y fm fn e = absurd (mixed_end m n x y fm fn e)
end_cut m n false true x y fm fn e = absurd (mixed_end n m y x fn fm (sym e))
end_cut m n false false x y fm fn e = let s = number_cut 10 m n x y (omega arith) fm fn e in (s.0, refl, s.1)

-- the line's last words, its end and what stands behind it
end_is : (packed : Bool) (rest : List ℕ) → spaced (packed_words packed) ++ (10 ∷ rest) ≡ volume_end packed rest
end_is true rest = refl
end_is false rest = refl

pub volume_bytes : (m : Manifest) (rest : List ℕ) → volume_line m ++ rest ≡ codes "volume " ++ (decimal m.leb_size ++ (32 ∷ (decimal m.min_io ++ (32 ∷ (decimal m.main ++ (32 ∷ (decimal m.fanout ++ volume_end m.packed rest)))))))
volume_bytes m rest = rw (sym (end_is m.packed rest)) (simp append_assoc)

-- what stands behind a number is determined
pub behind_number : (c m n : ℕ) (s x y : List ℕ) → c < 48 → m < 2 ^ 64 → n < 2 ^ 64 → s ≡ decimal m ++ (c ∷ x) → s ≡ decimal n ++ (c ∷ y) → x ≡ y
behind_number c m n s x y low fm fn e d = (number_cut c m n x y low fm fn (sym e ∙ d)).1

-- the line ends neither behind this number nor behind `packed`
pub no_end : (words more : List ℕ) (m n : ℕ) (packed : Bool) (rest : List ℕ) → ((k : ℕ) (x : List ℕ) → k ≤ 4294967295 → words ≡ decimal k ++ (10 ∷ x) → ⊥) → m ≤ 4294967295 → words ≡ decimal m ++ (32 ∷ more)
    → ((x : List ℕ) → more ≡ codes "packed\n" ++ x → ⊥) → n ≤ 4294967295 → words ≡ decimal n ++ volume_end packed rest → ⊥
no_end words more m n true rest plain low e none few d =
    none rest (behind_number 32 m n words more (codes "packed" ++ (10 ∷ rest)) (omega arith) (omega (arith, low)) (omega (arith, few)) e d)
no_end words more m n false rest plain low e none few d = plain n rest few d

-- what stands behind the word of a geometry's line
abbrev pub fanout_bytes : Manifest → List ℕ → List ℕ
fanout_bytes m rest = decimal m.fanout ++ volume_end m.packed rest

abbrev pub main_bytes : Manifest → List ℕ → List ℕ
main_bytes m rest = decimal m.main ++ (32 ∷ fanout_bytes m rest)

abbrev pub min_io_bytes : Manifest → List ℕ → List ℕ
min_io_bytes m rest = decimal m.min_io ++ (32 ∷ main_bytes m rest)

abbrev pub leb_size_bytes : Manifest → List ℕ → List ℕ
leb_size_bytes m rest = decimal m.leb_size ++ (32 ∷ min_io_bytes m rest)

pub behind_volume : (s v w : List ℕ) (m : Manifest) (rest : List ℕ) → v ≡ codes "volume " → s ≡ v ++ w → s ≡ volume_line m ++ rest → w ≡ leb_size_bytes m rest
behind_volume s v w m rest d e f =
    append_cancel_left (codes "volume ") w (leb_size_bytes m rest) (sym (e ∙ ap (λ (t : List ℕ). t ++ w) d) ∙ (f ∙ volume_bytes m rest))
