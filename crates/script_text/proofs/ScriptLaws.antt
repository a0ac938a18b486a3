-- A text is one script, or has one first bad line.
use Rattle.std.proofs.Common.{◌≡◌, ℕ, ◌+◌, ◌<◌, ◌≤◌, ◌^◌, Bool, get_or, List, [], ◌∷◌, ◌++◌, length, arith, sym, refl, ap, subst, ◌∙◌, append_assoc, append-nil, inl, inr}
use Rattle.std.specs.Prelude.{codes}
use Rattle.std.specs.Fmt.{decimal}
use Rattle.std.proofs.lemmas.Bool.{false≢true}
use Rattle.std.proofs.lemmas.List.{append_cancel_left}
use Rattle.std.proofs.lemmas.Fmt.{decimal_injective}
use Rattle.fs_model.specs.declared.op.Op.{Op}
use Rattle.script_text.specs.declared.part.Part.{Part}
use Rattle.script_text.specs.declared.part.Part.TheVariants.{Mount, Unmount, Now, Workers, Line}
use Rattle.script_text.specs.Script.{AreLinesOf, IsLineOf, MayStand, mounted_after, Leads, IsBadAfter, end_line, op_name, op_words}
use Rattle.script_text.specs.Words.{Fixed, AreSpacedWords}
use Rattle.script_text.proofs.OneReading.{op_once}
use Rattle.text_lines.specs.Lines.{ended}
use Rattle.script_text.proofs.Cutting.{cut_once}
use Rattle.script_text.proofs.Lines.{number_cut}
use Rattle.script_text.proofs.PartLines.{behind_caller, behind_name, first, first_is, letter, part_line}
use Rattle.script_text.proofs.ScriptLines.{end_lacks}

-- no part's line is the last line
no_end : (p : Part) (line : List ℕ) → IsLineOf p line → line ≡ codes "end" → ⊥
no_end p line h e = by p (sym (first_is p line h) ∙ ap (λ (t : List ℕ). letter (get_or t 0 0)) e)
  where
    by : (q : Part) → first q ≡ 101 → ⊥
    by Mount d = omega (arith, d)
    by Unmount d = omega (arith, d)
    by (Now now) d = omega (arith, d)
    by (Workers count) d = omega (arith, d)
    by (Line caller op) d = omega (arith, d)

-- parts of one line leave the same behind them
same_after : (m : Bool) (p q : Part) (line : List ℕ) → MayStand m p → MayStand m q → IsLineOf p line → IsLineOf q line → mounted_after m p ≡ mounted_after m q
same_after m p q line h k a b = by p q h k (sym (first_is p line a) ∙ first_is q line b)
  where
    by : (x y : Part) → MayStand m x → MayStand m y → first x ≡ first y → mounted_after m x ≡ mounted_after m y
    by Mount Mount s t e = refl
    by Mount Unmount s t e = absurd (false≢true (sym s ∙ t))
    by Mount (Now n) s t e = absurd (omega (arith, e))
    by Mount (Workers w) s t e = absurd (omega (arith, e))
    by Mount (Line c o) s t e = absurd (false≢true (sym s ∙ t))
    by Unmount Mount s t e = absurd (false≢true (sym t ∙ s))
    by Unmount Unmount s t e = refl
    by Unmount (Now n) s t e = absurd (omega (arith, e))
    by Unmount (Workers w) s t e = absurd (omega (arith, e))
    by Unmount (Line c o) s t e = absurd (omega (arith, e))
    by (Now n) Mount s t e = absurd (omega (arith, e))
    by (Now n) Unmount s t e = absurd (omega (arith, e))
    by (Now n) (Now l) s t e = refl
    by (Now n) (Workers w) s t e = refl
    by (Now n) (Line c o) s t e = refl
    by (Line c o) Mount s t e = absurd (false≢true (sym t ∙ s))
    by (Line c o) Unmount s t e = absurd (omega (arith, e))
    by (Line c o) (Now n) s t e = refl
    by (Line c o) (Workers w) s t e = refl
    by (Line c o) (Line d l) s t e = refl
    by (Workers w) Mount s t e = absurd (omega (arith, e))
    by (Workers w) Unmount s t e = absurd (omega (arith, e))
    by (Workers w) (Now n) s t e = refl
    by (Workers w) (Workers v) s t e = refl
    by (Workers w) (Line c o) s t e = refl

step_once : (m : Bool) (p q : Part) (line other x y : List ℕ) → MayStand m p → MayStand m q → IsLineOf p line → IsLineOf q other → ended line ++ x ≡ ended other ++ y
    → (mounted_after m p ≡ mounted_after m q) × (x ≡ y)
step_once m p q line other x y h k a b e =
    let both = cut_once 10 line x other y (part_line p line a) (part_line q other b) (sym (append_assoc line (10 ∷ []) x) ∙ (e ∙ append_assoc other (10 ∷ []) y)) in
    let P : List ℕ → Type 0 = λ t. IsLineOf q t in
    (same_after m p q line h k a (subst P (sym both.0) b), both.1)

-- a part's line doesn't begin as the last line does
no_end_front : (p : Part) (line x y : List ℕ) → IsLineOf p line → end_line ++ x ≡ ended line ++ y → ⊥
no_end_front p line x y a e =
    no_end p line a (sym (cut_once 10 (codes "end") x line y end_lacks (part_line p line a) (sym (append_assoc (codes "end") (10 ∷ []) x) ∙ (e ∙ append_assoc line (10 ∷ []) y))).0)

-- where a part may follow, the first bad line is only the one past the limit
bad_before_part : (m : Bool) (k : ℕ) (rest : List ℕ) (number : ℕ) (p : Part) (line x : List ℕ) → IsBadAfter m k rest number → MayStand m p → IsLineOf p line → rest ≡ ended line ++ x → k ≡ 100000
bad_before_part m k rest number p line x bad h a e = elim bad [
  | inl limit ↦ limit.0
  | inr more ↦ elim more [
    | inl stands ↦ absurd (stands.1 (p, line, x, h, a, e))
    | inr late ↦ absurd (no_end_front p line late.1.0 x a (sym late.1.2 ∙ e))
  ]
]

-- and not where `end` stands last
bad_at_end : (m : Bool) (k : ℕ) (rest : List ℕ) (number : ℕ) → IsBadAfter m k rest number → rest ≡ end_line → k ≡ 100000
bad_at_end m k rest number bad e = elim bad [
  | inl limit ↦ limit.0
  | inr more ↦ elim more [
    | inl stands ↦ absurd (stands.2 ([], e ∙ sym (append-nil end_line)))
    | inr late ↦ absurd (late.1.1 (append_cancel_left end_line late.1.0 [] (sym late.1.2 ∙ (e ∙ sym (append-nil end_line)))))
  ]
]

bad_few : (m : Bool) (k : ℕ) (rest : List ℕ) (number : ℕ) → IsBadAfter m k rest number → k < 100001
bad_few m k rest number bad = elim bad [
  | inl limit ↦ omega (arith, limit.0)
  | inr more ↦ elim more [ inl stands ↦ omega (arith, stands.0) | inr late ↦ omega (arith, late.0) ]
]

-- behind the same good lines there is one first bad line
bad_same : (m : Bool) (k : ℕ) (rest : List ℕ) (a b : ℕ) → IsBadAfter m k rest a → IsBadAfter m k rest b → a ≡ b
bad_same m k rest a b x y = elim x [
  | inl limit ↦ elim y [
    | inl other ↦ limit.1 ∙ sym other.1
    | inr more ↦ elim more [ inl stands ↦ absurd (omega (arith, limit.0, stands.0)) | inr late ↦ absurd (omega (arith, limit.0, late.0)) ]
  ]
  | inr some ↦ elim some [
    | inl stands ↦ elim y [
      | inl other ↦ absurd (omega (arith, other.0, stands.0))
      | inr more ↦ elim more [ inl other ↦ stands.3 ∙ sym other.3 | inr late ↦ absurd (stands.2 (late.1.0, late.1.2)) ]
    ]
    | inr late ↦ elim y [
      | inl other ↦ absurd (omega (arith, other.0, late.0))
      | inr more ↦ elim more [ inl other ↦ absurd (other.2 (late.1.0, late.1.2)) | inr other ↦ late.2 ∙ sym other.2 ]
    ]
  ]
]

-- the first of good lines, and what stands behind it
part_front : (text good line rest x : List ℕ) → good ≡ ended line ++ rest → text ≡ good ++ x → text ≡ ended line ++ (rest ++ x)
part_front text good line rest x g e = e ∙ (ap (λ (t : List ℕ). t ++ x) g ∙ append_assoc (ended line) rest x)

no_front : (text good x : List ℕ) → good ≡ [] → text ≡ good ++ x → text ≡ x
no_front text good x g e = e ∙ ap (λ (t : List ℕ). t ++ x) g

-- a script, from some line on, has no first bad line
pub script_no_bad : (ps qs : List Part) (m last t : Bool) (before k : ℕ) (text good front rest : List ℕ) (n : ℕ) → Leads m ps last → AreLinesOf ps good → text ≡ good ++ end_line → before + length ps < 100000
    → Leads m qs t → AreLinesOf qs front → text ≡ front ++ rest → k ≡ before + length qs → IsBadAfter t k rest n → ⊥
script_no_bad [] [] m last t before k text good front rest n lp gp ep few lq aq eq kq bad =
    let full = bad_at_end t k rest n bad (sym (no_front text front rest aq eq) ∙ no_front text good end_line gp ep) in omega (arith, full, kq, few)
script_no_bad [] (q ∷ qs) m last t before k text good front rest n lp gp ep few lq aq eq kq bad =
    no_end_front q aq.0 [] (aq.1 ++ rest) aq.2 (append-nil end_line ∙ (sym (no_front text good end_line gp ep) ∙ part_front text front aq.0 aq.1 rest aq.4 eq))
script_no_bad (p ∷ ps) [] m last t before k text good front rest n lp gp ep few lq aq eq kq bad =
    let P : Bool → Type 0 = λ x. MayStand x p in
    let full = bad_before_part t k rest n p gp.0 (gp.1 ++ end_line) bad (subst P lq lp.0) gp.2 (sym (no_front text front rest aq eq) ∙ part_front text good gp.0 gp.1 end_line gp.4 ep) in
    omega (arith, full, kq, few)
script_no_bad (p ∷ ps) (q ∷ qs) m last t before k text good front rest n lp gp ep few lq aq eq kq bad =
    let once = step_once m p q gp.0 aq.0 (gp.1 ++ end_line) (aq.1 ++ rest) lp.0 lq.0 gp.2 aq.2 (sym (part_front text good gp.0 gp.1 end_line gp.4 ep) ∙ part_front text front aq.0 aq.1 rest aq.4 eq) in
    let P : Bool → Type 0 = λ x. Leads x qs t in
    script_no_bad ps qs (mounted_after m p) last t (before + 1) k (gp.1 ++ end_line) gp.1 aq.1 rest n lp.1 gp.3 refl (omega (arith, few)) (subst P (sym once.0) lq.1) aq.3 once.1 (omega (arith, kq)) bad

-- a text has one first bad line, from some line on
pub bad_once : (ps qs : List Part) (m t u : Bool) (before k l : ℕ) (text good front x y : List ℕ) (a b : ℕ) → Leads m ps t → AreLinesOf ps good → text ≡ good ++ x → k ≡ before + length ps → IsBadAfter t k x a
    → Leads m qs u → AreLinesOf qs front → text ≡ front ++ y → l ≡ before + length qs → IsBadAfter u l y b → a ≡ b
bad_once [] [] m t u before k l text good front x y a b lp gp ep kp bp lq aq eq kq bq =
    let P : Bool → Type 0 = λ z. IsBadAfter z l y b in
    let b1 : IsBadAfter t l y b = subst P (sym lq ∙ lp) bq in
    let Q : ℕ → Type 0 = λ z. IsBadAfter t z y b in
    let b2 : IsBadAfter t k y b = subst Q (omega (arith, kp, kq)) b1 in
    let R : List ℕ → Type 0 = λ z. IsBadAfter t k z b in
    let b3 : IsBadAfter t k x b = subst R (sym (no_front text front y aq eq) ∙ no_front text good x gp ep) b2 in
    bad_same t k x a b bp b3
bad_once [] (q ∷ qs) m t u before k l text good front x y a b lp gp ep kp bp lq aq eq kq bq =
    let P : Bool → Type 0 = λ z. MayStand z q in
    let full = bad_before_part t k x a q aq.0 (aq.1 ++ y) bp (subst P lp lq.0) aq.2 (sym (no_front text good x gp ep) ∙ part_front text front aq.0 aq.1 y aq.4 eq) in
    let few = bad_few u l y b bq in absurd (omega (arith, full, few, kp, kq))
bad_once (p ∷ ps) [] m t u before k l text good front x y a b lp gp ep kp bp lq aq eq kq bq =
    let P : Bool → Type 0 = λ z. MayStand z p in
    let full = bad_before_part u l y b p gp.0 (gp.1 ++ x) bq (subst P lq lp.0) gp.2 (sym (no_front text front y aq eq) ∙ part_front text good gp.0 gp.1 x gp.4 ep) in
    let few = bad_few t k x a bp in absurd (omega (arith, full, few, kp, kq))
bad_once (p ∷ ps) (q ∷ qs) m t u before k l text good front x y a b lp gp ep kp bp lq aq eq kq bq =
    let once = step_once m p q gp.0 aq.0 (gp.1 ++ x) (aq.1 ++ y) lp.0 lq.0 gp.2 aq.2 (sym (part_front text good gp.0 gp.1 x gp.4 ep) ∙ part_front text front aq.0 aq.1 y aq.4 eq) in
    let P : Bool → Type 0 = λ z. Leads z qs u in
    bad_once ps qs (mounted_after m p) t u (before + 1) k l (gp.1 ++ x) gp.1 aq.1 x y a b lp.1 gp.3 refl (omega (arith, kp)) bp (subst P (sym once.0) lq.1) aq.3 once.1 (omega (arith, kq)) bq

-- one number stands behind such a word
behind_once : (name : List ℕ) (bits m n : ℕ) (line : List ℕ) → 2 ^ bits ≤ 2 ^ 64 → line ≡ name ++ decimal m → line ≡ name ++ decimal n → m < 2 ^ bits → n < 2 ^ bits → m ≡ n
behind_once name bits m n line few d e fm fn = decimal_injective m n (omega (arith, few, fm)) (omega (arith, few, fn)) (append_cancel_left name (decimal m) (decimal n) (sym d ∙ e))

-- a line is of one part
part_once : (m : Bool) (p q : Part) (line : List ℕ) → MayStand m p → MayStand m q → IsLineOf p line → IsLineOf q line → p ≡ q
part_once m p q line h k a b = by p q h k a b (sym (first_is p line a) ∙ first_is q line b)
  where
    by : (x y : Part) → MayStand m x → MayStand m y → IsLineOf x line → IsLineOf y line → first x ≡ first y → x ≡ y
    by Mount Mount s t a b e = refl
    by Mount Unmount s t a b e = absurd (false≢true (sym s ∙ t))
    by Mount (Now n) s t a b e = absurd (omega (arith, e))
    by Mount (Workers w) s t a b e = absurd (omega (arith, e))
    by Mount (Line c o) s t a b e = absurd (false≢true (sym s ∙ t))
    by Unmount Mount s t a b e = absurd (false≢true (sym t ∙ s))
    by Unmount Unmount s t a b e = refl
    by Unmount (Now n) s t a b e = absurd (omega (arith, e))
    by Unmount (Workers w) s t a b e = absurd (omega (arith, e))
    by Unmount (Line c o) s t a b e = absurd (omega (arith, e))
    by (Now n) Mount s t a b e = absurd (omega (arith, e))
    by (Now n) Unmount s t a b e = absurd (omega (arith, e))
    by (Now n) (Now l) s t a b e =
        ap Now (behind_once (codes "now ") 64 n l line (omega arith) (behind_name (codes "now") 64 n line a.words) (behind_name (codes "now") 64 l line b.words) a.words.3.0 b.words.3.0)
    by (Now n) (Workers w) s t a b e = absurd (omega (arith, e))
    by (Now n) (Line c o) s t a b e = absurd (omega (arith, e))
    by (Line c o) Mount s t a b e = absurd (false≢true (sym t ∙ s))
    by (Line c o) Unmount s t a b e = absurd (omega (arith, e))
    by (Line c o) (Now n) s t a b e = absurd (omega (arith, e))
    by (Line c o) (Workers w) s t a b e = absurd (omega (arith, e))
    by (Line c o) (Line d l) s t a b e =
        let both = number_cut 32 c d a.words.1 b.words.1 (omega arith) (omega (arith, a.allowed.1)) (omega (arith, b.allowed.1)) (sym (behind_caller c o line a) ∙ behind_caller d l line b) in
        let P : List ℕ → Type 0 = λ t. AreSpacedWords (Fixed (op_name l) ∷ op_words l) t in
        let ops = op_once o l a.words.1 a.words.3 (subst P (sym both.1) b.words.3) in
        ap (λ (x : ℕ). Line x o) both.0 ∙ ap (λ (x : Op). Line d x) ops
    by (Workers w) Mount s t a b e = absurd (omega (arith, e))
    by (Workers w) Unmount s t a b e = absurd (omega (arith, e))
    by (Workers w) (Now n) s t a b e = absurd (omega (arith, e))
    by (Workers w) (Workers v) s t a b e =
        ap Workers (behind_once (codes "workers ") 8 w v line (omega arith) (behind_name (codes "workers") 8 w line a.words) (behind_name (codes "workers") 8 v line b.words) a.words.3.0 b.words.3.0)
    by (Workers w) (Line c o) s t a b e = absurd (omega (arith, e))

-- a text is one script, from some line on
pub script_once : (ps qs : List Part) (m s t : Bool) (text good front : List ℕ) → Leads m ps s → AreLinesOf ps good → text ≡ good ++ end_line → Leads m qs t → AreLinesOf qs front → text ≡ front ++ end_line → ps ≡ qs
script_once [] [] m s t text good front lp gp ep lq aq eq = refl
script_once [] (q ∷ qs) m s t text good front lp gp ep lq aq eq =
    absurd (no_end_front q aq.0 [] (aq.1 ++ end_line) aq.2 (append-nil end_line ∙ (sym (no_front text good end_line gp ep) ∙ part_front text front aq.0 aq.1 end_line aq.4 eq)))
script_once (p ∷ ps) [] m s t text good front lp gp ep lq aq eq =
    absurd (no_end_front p gp.0 [] (gp.1 ++ end_line) gp.2 (append-nil end_line ∙ (sym (no_front text front end_line aq eq) ∙ part_front text good gp.0 gp.1 end_line gp.4 ep)))
script_once (p ∷ ps) (q ∷ qs) m s t text good front lp gp ep lq aq eq =
    let both = cut_once 10 gp.0 (gp.1 ++ end_line) aq.0 (aq.1 ++ end_line) (part_line p gp.0 gp.2) (part_line q aq.0 aq.2)
    (sym (append_assoc gp.0 (10 ∷ []) (gp.1 ++ end_line)) ∙ (sym (part_front text good gp.0 gp.1 end_line gp.4 ep) ∙ (part_front text front aq.0 aq.1 end_line aq.4 eq ∙ append_assoc aq.0 (10 ∷ []) (aq.1 ++ end_line)))) in
    let P : List ℕ → Type 0 = λ l. IsLineOf q l in
    let here = part_once m p q gp.0 lp.0 lq.0 gp.2 (subst P (sym both.0) aq.2) in
    let Q : Part → Type 0 = λ x. Leads (mounted_after m x) qs t in
    let rest = script_once ps qs (mounted_after m p) s t (gp.1 ++ end_line) gp.1 aq.1 lp.1 gp.3 refl (subst Q (sym here) lq.1) aq.3 both.1 in
    ap (λ (x : Part). x ∷ ps) here ∙ ap (λ (xs : List Part). q ∷ xs) rest
