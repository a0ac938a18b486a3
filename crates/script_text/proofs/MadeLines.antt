-- The lines of a manifest, and how it ends.
use Rattle.std.proofs.Common.{◌≡◌, ℕ, ◌+◌, ◌<◌, ◌≤◌, Option, Some, None, List, [], ◌∷◌, ◌++◌, length, arith, sym, refl, ap, subst, ◌∙◌, append_assoc, append-nil, inl, inr}
use Rattle.std.specs.Prelude.{codes}
use Rattle.std.specs.List.{AllByRecursion}
use Rattle.std.proofs.lemmas.List.{append_cancel_left}
use Rattle.script_text.specs.declared.manifest.Manifest.{Manifest}
use Rattle.script_text.specs.declared.manifest_line.ManifestLine.{ManifestLine}
use Rattle.script_text.specs.ManifestLines.{AreManifestLines, AreManifestLinesOf, EndsManifest, IsGivenLine, IsListedManifest, IsManifestLineOf}
use Rattle.script_text.specs.Script.{end_line}
use Rattle.script_text.specs.Words.{Lacks}
use Rattle.text_lines.specs.Lines.{ended}
use Rattle.script_text.proofs.Cutting.{cut_once}
use Rattle.script_text.proofs.Made.{made_given, made_line, made_no_end, made_once}
use Rattle.script_text.proofs.ManifestLaws.{volume_once}
use Rattle.script_text.proofs.ScriptLines.{end_lacks, front_line, no_line}

-- the text is the lines so far, and then the rest
abbrev pub ReadsMade : List ℕ → List ManifestLine → List ℕ → Type 0
ReadsMade text lines rest = (good : List ℕ) × AreManifestLinesOf lines good × (text ≡ good ++ rest)

-- one line more
made_push : (ls : List ManifestLine) (l : ManifestLine) (good line : List ℕ) → AreManifestLinesOf ls good → IsManifestLineOf l line → AreManifestLinesOf (ls ++ (l ∷ [])) (good ++ ended line)
made_push [] l good line h k = (line, [], k, refl, ap (λ (t : List ℕ). t ++ ended line) h ∙ sym (append-nil (ended line)))
made_push (q ∷ ls) l good line h k =
    (h.0, h.1 ++ ended line, h.2, made_push ls l h.1 line h.3 k, ap (λ (t : List ℕ). t ++ ended line) h.4 ∙ append_assoc (ended h.0) h.1 (ended line))

pub reads_made : (ls : List ManifestLine) (l : ManifestLine) (text rest line more : List ℕ) → ReadsMade text ls rest → rest ≡ line ++ (10 ∷ more) → IsManifestLineOf l line → ReadsMade text (ls ++ (l ∷ [])) more
reads_made ls l text rest line more h d k = (
  h.0 ++ ended line,
  made_push ls l h.0 line h.1 k,
  h.2 ∙ (ap (λ (t : List ℕ). h.0 ++ t) (d ∙ sym (append_assoc line (10 ∷ []) more)) ∙ sym (append_assoc h.0 (ended line) more)),
)

-- the last line follows, and nothing behind it
pub listed_end : (text rest line more : List ℕ) (ls : List ManifestLine) → ReadsMade text ls rest → length ls + 1 < 100000 → rest ≡ line ++ (10 ∷ more) → line ≡ codes "end" → more ≡ [] → AreManifestLines 1 text ls None
unfolding EndsManifest
listed_end text rest line more ls h few cuts is none =
    record { good = h.0; rest = rest; are = h.1; text_is = h.2; ends = (omega (arith, few), cuts ∙ (ap (λ (t : List ℕ). t ++ (10 ∷ more)) is ∙ ap (λ (t : List ℕ). codes "end" ++ (10 ∷ t)) none)) }

-- something follows the last line
pub listed_late : (text rest line more : List ℕ) (ls : List ManifestLine) (n : ℕ) → ReadsMade text ls rest → length ls + 1 < 100000 → rest ≡ line ++ (10 ∷ more) → line ≡ codes "end" → (more ≡ [] → ⊥) → n ≡ length ls + 3 → AreManifestLines 1 text ls (Some n)
unfolding EndsManifest
listed_late text rest line more ls n h few cuts is some d =
    record { good = h.0; rest = rest; are = h.1; text_is = h.2; ends = inr (inr (omega (arith, few), (more, some, cuts ∙ ap (λ (t : List ℕ). t ++ (10 ∷ more)) is), omega (arith, d))) }

-- no newline follows
pub listed_open : (text rest : List ℕ) (ls : List ManifestLine) (n : ℕ) → ReadsMade text ls rest → length ls + 1 < 100000 → Lacks 10 rest → n ≡ length ls + 2 → AreManifestLines 1 text ls (Some n)
unfolding EndsManifest
listed_open text rest ls n h few short d = record {
  good = h.0;
  rest = rest;
  are = h.1;
  text_is = h.2;
  ends = inr (inl (omega (arith, few), (λ begins. no_line begins.1 rest begins.2 short begins.4), (λ begins. no_line (codes "end") rest begins.0 short begins.1), omega (arith, d)));
}

-- a line follows that is none
pub listed_bad : (text rest line more : List ℕ) (ls : List ManifestLine) (n : ℕ) → ReadsMade text ls rest → length ls + 1 < 100000 → rest ≡ line ++ (10 ∷ more) → Lacks 10 line
    → ((l : ManifestLine) → IsManifestLineOf l line → ⊥) → (line ≡ codes "end" → ⊥) → n ≡ length ls + 2 → AreManifestLines 1 text ls (Some n)
unfolding EndsManifest
listed_bad text rest line more ls n h few cuts short none other d = record {
  good = h.0;
  rest = rest;
  are = h.1;
  text_is = h.2;
  ends = inr (inl (
    omega (arith, few),
    (λ begins.
        let P : List ℕ → Type 0 = λ t. IsManifestLineOf begins.0 t in
        none begins.0 (subst P (sym (front_line begins.1 rest line more begins.2 (made_line begins.0 begins.1 begins.3) cuts short begins.4)) begins.3)),
    (λ begins. other (front_line (codes "end") rest line more begins.0 end_lacks cuts short begins.1)),
    omega (arith, d),
  ));
}

-- there are too many lines
pub listed_many : (text rest : List ℕ) (ls : List ManifestLine) (n : ℕ) → ReadsMade text ls rest → length ls + 1 ≡ 100000 → n ≡ 100001 → AreManifestLines 1 text ls (Some n)
unfolding EndsManifest
listed_many text rest ls n h many d = record { good = h.0; rest = rest; are = h.1; text_is = h.2; ends = inl (omega (arith, many), omega (arith, many, d)) }

-- where a line follows, only the limit ends the lines
ends_before_line : (k : ℕ) (rest : List ℕ) (bad : Option ℕ) (l : ManifestLine) (line x : List ℕ) → EndsManifest k rest bad → IsManifestLineOf l line → rest ≡ ended line ++ x → k ≡ 100000
unfolding EndsManifest
ends_before_line k rest None l line x ends a e =
    absurd (made_no_end l line a (sym (cut_once 10 (codes "end") [] line x end_lacks (made_line l line a) (sym ends.1 ∙ (e ∙ append_assoc line (10 ∷ []) x))).0))
ends_before_line k rest (Some n) l line x ends a e = elim ends [
  | inl limit ↦ limit.0
  | inr more ↦ elim more [
    | inl stands ↦ absurd (stands.1 (l, line, x, a, e))
    | inr late ↦ absurd (made_no_end l line a (sym (cut_once 10 (codes "end") late.1.0 line x end_lacks (made_line l line a) (sym late.1.2 ∙ (e ∙ append_assoc line (10 ∷ []) x))).0))
  ]
]

ends_within : (k : ℕ) (rest : List ℕ) (bad : Option ℕ) → EndsManifest k rest bad → k ≤ 100000
unfolding EndsManifest
ends_within k rest None ends = omega (arith, ends.0)
ends_within k rest (Some n) ends = elim ends [
  | inl limit ↦ omega (arith, limit.0)
  | inr more ↦ elim more [ inl stands ↦ omega (arith, stands.0) | inr late ↦ omega (arith, late.0) ]
]

-- a text ends in one way
ends_apart : (k : ℕ) (rest : List ℕ) (n : ℕ) → EndsManifest k rest None → EndsManifest k rest (Some n) → ⊥
unfolding EndsManifest
ends_apart k rest n h bad = elim bad [
  | inl limit ↦ omega (arith, h.0, limit.0)
  | inr more ↦ elim more [
    | inl stands ↦ stands.2 ([], h.1 ∙ sym (append-nil end_line))
    | inr late ↦ late.1.1 (append_cancel_left end_line late.1.0 [] (sym late.1.2 ∙ (h.1 ∙ sym (append-nil end_line))))
  ]
]

ends_once : (k : ℕ) (rest : List ℕ) (a b : Option ℕ) → EndsManifest k rest a → EndsManifest k rest b → a ≡ b
unfolding EndsManifest
ends_once k rest None None h g = refl
ends_once k rest None (Some n) h g = absurd (ends_apart k rest n h g)
ends_once k rest (Some m) None h g = absurd (ends_apart k rest m g h)
ends_once k rest (Some m) (Some n) h g = ap Some (by h g)
  where
    by : EndsManifest k rest (Some m) → EndsManifest k rest (Some n) → m ≡ n
    by x y = elim x [
      | inl limit ↦ elim y [
        | inl other ↦ limit.1 ∙ sym other.1
        | inr more ↦ elim more [ inl stands ↦ absurd (omega (arith, limit.0, stands.0)) | inr late ↦ absurd (omega (arith, limit.0, late.0)) ]
      ]
      | inr some ↦ elim some [
        | inl stands ↦ elim y [
          | inl other ↦ absurd (omega (arith, other.0, stands.0))
          | inr more ↦ elim more [ inl other ↦ stands.3 ∙ sym other.3 | inr late ↦ absurd (stands.2 (late.1.0, late.1.2)) ]
        ]
        | inr late ↦ elim y [
          | inl other ↦ absurd (omega (arith, other.0, late.0))
          | inr more ↦ elim more [ inl other ↦ absurd (other.2 (late.1.0, late.1.2)) | inr other ↦ late.2 ∙ sym other.2 ]
        ]
      ]
    ]

-- the first of good lines, and what stands behind it
first_front : (text good line rest x : List ℕ) → good ≡ ended line ++ rest → text ≡ good ++ x → text ≡ ended line ++ (rest ++ x)
first_front text good line rest x g e = e ∙ (ap (λ (t : List ℕ). t ++ x) g ∙ append_assoc (ended line) rest x)

nothing_front : (text good x : List ℕ) → good ≡ [] → text ≡ good ++ x → text ≡ x
nothing_front text good x g e = e ∙ ap (λ (t : List ℕ). t ++ x) g

-- a text is listed in one way, from some line on
lines_once : (ps qs : List ManifestLine) (before k l : ℕ) (text good x front y : List ℕ) (a b : Option ℕ) → AreManifestLinesOf ps good → text ≡ good ++ x → k ≡ before + length ps → EndsManifest k x a
    → AreManifestLinesOf qs front → text ≡ front ++ y → l ≡ before + length qs → EndsManifest l y b → (ps ≡ qs) × (a ≡ b)
lines_once [] [] before k l text good x front y a b gp ep kp bp aq eq kq bq =
    let P : ℕ → Type 0 = λ z. EndsManifest z y b in
    let Q : List ℕ → Type 0 = λ z. EndsManifest k z b in
    (refl, ends_once k x a b bp (subst Q (sym (nothing_front text front y aq eq) ∙ nothing_front text good x gp ep) (subst P (omega (arith, kp, kq)) bq)))
lines_once [] (q ∷ qs) before k l text good x front y a b gp ep kp bp aq eq kq bq =
    let full = ends_before_line k x a q aq.0 (aq.1 ++ y) bp aq.2 (sym (nothing_front text good x gp ep) ∙ first_front text front aq.0 aq.1 y aq.4 eq) in
    let few = ends_within l y b bq in absurd (omega (arith, full, few, kp, kq))
lines_once (p ∷ ps) [] before k l text good x front y a b gp ep kp bp aq eq kq bq =
    let full = ends_before_line l y b p gp.0 (gp.1 ++ x) bq gp.2 (sym (nothing_front text front y aq eq) ∙ first_front text good gp.0 gp.1 x gp.4 ep) in
    let few = ends_within k x a bp in absurd (omega (arith, full, few, kp, kq))
lines_once (p ∷ ps) (q ∷ qs) before k l text good x front y a b gp ep kp bp aq eq kq bq =
    let both = cut_once 10 gp.0 (gp.1 ++ x) aq.0 (aq.1 ++ y) (made_line p gp.0 gp.2) (made_line q aq.0 aq.2)
    (sym (append_assoc gp.0 (10 ∷ []) (gp.1 ++ x)) ∙ (sym (first_front text good gp.0 gp.1 x gp.4 ep) ∙ (first_front text front aq.0 aq.1 y aq.4 eq ∙ append_assoc aq.0 (10 ∷ []) (aq.1 ++ y)))) in
    let P : List ℕ → Type 0 = λ t. IsManifestLineOf q t in
    let here = made_once p q gp.0 gp.2 (subst P (sym both.0) aq.2) in
    let rest = lines_once ps qs (before + 1) k l (gp.1 ++ x) gp.1 x aq.1 y a b gp.3 refl (omega (arith, kp)) bp aq.3 both.1 (omega (arith, kq)) bq in
    (ap (λ (z : ManifestLine). z ∷ ps) here ∙ ap (λ (zs : List ManifestLine). q ∷ zs) rest.0, rest.1)

-- a text is one listing
pub listing_once : (text : List ℕ) (v w : Manifest) (ps qs : List ManifestLine) (a b : Option ℕ) → IsListedManifest text v ps a → IsListedManifest text w qs b → (v ≡ w) × (ps ≡ qs) × (a ≡ b)
listing_once text v w ps qs a b h k =
    let p = volume_once v w h.behind k.behind h.range k.range (sym h.text_is ∙ k.text_is) in
    let lines = lines_once ps qs 1 (1 + length ps) (1 + length qs) h.behind h.listed.good h.listed.rest k.listed.good k.listed.rest a b h.listed.are h.listed.text_is refl h.listed.ends
    k.listed.are (p.1 ∙ k.listed.text_is) refl k.listed.ends in
    (p.0, lines.0, lines.1)

lines_given : (ls : List ManifestLine) (good : List ℕ) → AreManifestLinesOf ls good → AllByRecursion IsGivenLine ls
lines_given [] good h = tt
lines_given (l ∷ ls) good h = (made_given l h.0 h.2, lines_given ls h.1 h.3)

pub listing_given : (text : List ℕ) (v : Manifest) (ls : List ManifestLine) (bad : Option ℕ) → IsListedManifest text v ls bad → AllByRecursion IsGivenLine ls
listing_given text v ls bad h = lines_given ls h.listed.good h.listed.are
