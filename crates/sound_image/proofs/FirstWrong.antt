-- What is wrong first is one.
use Rattle.std.proofs.Common.{◌≡◌, ℕ, nat_lt, Bool, true, false, refl, ap, sym, ◌∙◌, inl, inr, arith}
use Rattle.std.specs.Prelude.{◌==◌, ◌&&◌, if◌then◌else◌}
use Rattle.std.proofs.lemmas.Bool.{eq-eqb, ltb-false, or_parts}
use Rattle.media_sys.specs.declared.feature.Feature.{Feature}
use Rattle.media_sys.specs.declared.feature.Feature.TheVariants.{KeyHash, KeyFmt, Version, Heads, DoubleHash, Encryption, Authentication, Flags, BigModel, Compressed, Attributes}
use Rattle.sound_image.specs.Wrong.{IsFirstOr, IsFirstWrong, Misfit, Wrong, comes_before, differs, feature_number, is_lesser, is_told_before, needs}

pub with_true : (a b : Bool) → a ≡ true → (a && b) ≡ false → b ≡ false
with_true true b e h = h
with_true false b e h = absurd cc

-- of two pairs one is lesser, or they are one
not_lesser : (a b c d : ℕ) → is_lesser (a, b) (c, d) ≡ false → is_lesser (c, d) (a, b) ≡ false → (a ≡ c) × (b ≡ d)
not_lesser a b c d h k =
    let x = or_parts (nat_lt a c) ((a == c) && nat_lt b d) h in
    let y = or_parts (nat_lt c a) ((c == a) && nat_lt d b) k in
    let p = ltb-false a c x.0 in
    let q = ltb-false c a y.0 in
    let e : a ≡ c = omega (arith, p, q) in
    let r = ltb-false b d (with_true (a == c) (nat_lt b d) (eq-eqb a c e) x.1) in
    let s = ltb-false d b (with_true (c == a) (nat_lt d b) (eq-eqb c a (sym e)) y.1) in
    (e, omega (arith, r, s))

-- ---- features
abbrev feature_of : ℕ → Feature
feature_of n =
    if n == 0 then KeyHash
    else if n == 1 then KeyFmt
    else if n == 2 then Version
    else if n == 3 then Heads
    else if n == 4 then DoubleHash
    else if n == 5 then Encryption
    else if n == 6 then Authentication
    else if n == 7 then Flags
    else if n == 8 then BigModel
    else if n == 9 then Compressed
    else Attributes

feature_again : (f : Feature) → feature_of (feature_number f) ≡ f
feature_again KeyHash = refl
feature_again KeyFmt = refl
feature_again Version = refl
feature_again Heads = refl
feature_again DoubleHash = refl
feature_again Encryption = refl
feature_again Authentication = refl
feature_again Flags = refl
feature_again BigModel = refl
feature_again Compressed = refl
feature_again Attributes = refl

one_feature : (a b : Feature) → feature_number a ≡ feature_number b → a ≡ b
one_feature a b h = sym (feature_again a) ∙ ap feature_of h ∙ feature_again b

-- ---- what is wrong
one_misfit : (a b : Misfit) → is_told_before a b ≡ false → is_told_before b a ≡ false → a ≡ b
one_misfit (needs a) (needs b) h k =
    let p = ltb-false (feature_number a) (feature_number b) h in
    let q = ltb-false (feature_number b) (feature_number a) k in
    ap needs (one_feature a b (omega (arith, p, q)))
one_misfit (needs a) (differs wanted found) h k = absurd cc
one_misfit (differs wanted found) (needs b) h k = absurd cc
one_misfit (differs wanted found) (differs other there) h k =
    let e = not_lesser wanted found other there h k in
    ap (λ (n : ℕ). differs n found) e.0 ∙ ap (differs other) e.1

wrong_same : (l m o p : ℕ) (x y : Misfit) → l ≡ m → o ≡ p → x ≡ y
    → let a : Wrong = record { lnum = l; offs = o; misfit = x } in
    let b : Wrong = record { lnum = m; offs = p; misfit = y } in
    a ≡ b
wrong_same l m o p x y e f g = rw (e, f, g) refl

pub one_wrong : (a b : Wrong) → comes_before a b ≡ false → comes_before b a ≡ false → a ≡ b
one_wrong a b h k =
    let x = or_parts (is_lesser (a.lnum, a.offs) (b.lnum, b.offs)) ((a.lnum == b.lnum) && ((a.offs == b.offs) && is_told_before a.misfit b.misfit)) h in
    let y = or_parts (is_lesser (b.lnum, b.offs) (a.lnum, a.offs)) ((b.lnum == a.lnum) && ((b.offs == a.offs) && is_told_before b.misfit a.misfit)) k in
    let e = not_lesser a.lnum a.offs b.lnum b.offs x.0 y.0 in
    let p = with_true (a.offs == b.offs) (is_told_before a.misfit b.misfit) (eq-eqb a.offs b.offs e.1) (with_true (a.lnum == b.lnum) ((a.offs == b.offs) && is_told_before a.misfit b.misfit) (eq-eqb a.lnum b.lnum e.0) x.1) in
    let q = with_true (b.offs == a.offs) (is_told_before b.misfit a.misfit) (eq-eqb b.offs a.offs (sym e.1)) (with_true (b.lnum == a.lnum) ((b.offs == a.offs) && is_told_before b.misfit a.misfit) (eq-eqb b.lnum a.lnum (sym e.0)) y.1) in
    wrong_same a.lnum b.lnum a.offs b.offs a.misfit b.misfit e.0 e.1 (one_misfit a.misfit b.misfit p q)

pub one_first : (P : Wrong → Type 0) (a b : Wrong) → IsFirstWrong P a → IsFirstWrong P b → a ≡ b
one_first P a b x y = one_wrong a b (y.least a x.wrong) (x.least b y.wrong)

pub one_first_or : (P Q : Wrong → Type 0) (a b : Wrong) → (Q a → Q b → a ≡ b) → IsFirstOr P Q a → IsFirstOr P Q b → a ≡ b
one_first_or P Q a b one (inl x) (inl y) = one_first P a b x y
one_first_or P Q a b one (inl x) (inr y) = absurd (y.0 a x.wrong)
one_first_or P Q a b one (inr x) (inl y) = absurd (x.0 b y.wrong)
one_first_or P Q a b one (inr x) (inr y) = one x.1 y.1
