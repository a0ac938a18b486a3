-- Marks of LEBs, made one by one.
use Rattle.std.proofs.Common.{◌≡◌, ℕ, ◌+◌, ◌<◌, Bool, List, [], ◌∷◌, length, set, get_or, refl, ap, sym, ◌∙◌, inl, inr, subst, arith}
use Rattle.std.specs.Prelude.{◌≢◌, ◌==◌, if◌then◌else◌, fold}
use Rattle.std.proofs.lemmas.Bool.{cases_eq, eq-eqb, ne_eqb}
use Rattle.std.proofs.lemmas.List.{get_or-set_same, get_or-set_other, length-set}
use Rattle.image_space.specs.Uses.{AreMarked, unused}
use Rattle.image_space.specs.declared.leb_use.LebUse.{LebUse}

-- ---- one LEB
-- the LEB of this number gets these marks, and no other
abbrev pub marked_at : ℕ → (LebUse → LebUse) → ℕ → LebUse → LebUse
marked_at n f lnum seen = if n == lnum then f seen else seen

pub marked_here : (n lnum : ℕ) (f : LebUse → LebUse) (seen : LebUse) → n ≡ lnum → marked_at n f lnum seen ≡ f seen
marked_here n lnum f seen same = let e = eq-eqb n lnum same in ap (λ (b : Bool). if b then f seen else seen) e

pub marked_elsewhere : (n lnum : ℕ) (f : LebUse → LebUse) (seen : LebUse) → n ≢ lnum → marked_at n f lnum seen ≡ seen
marked_elsewhere n lnum f seen other = let e = ne_eqb n lnum other in ap (λ (b : Bool). if b then f seen else seen) e

-- nothing is marked for what stands outside these LEBs
pub marked_none : (first n : ℕ) (f : LebUse → LebUse) (uses : List LebUse) → ((at : ℕ) → at < length uses → n ≡ first + at → ⊥) → AreMarked first (marked_at n f) uses uses
marked_none first n f uses other = record { len = refl; marks = λ at less. sym (marked_elsewhere n (first + at) f (get_or uses at unused) (other at less)) }

pub marked_one : (first n at : ℕ) (f : LebUse → LebUse) (uses : List LebUse) (own : LebUse) → at < length uses → n ≡ first + at → own ≡ f (get_or uses at unused) → AreMarked first (marked_at n f) uses (set uses at own)
marked_one first n at f uses own inside here is = record {
  len = length-set uses at own;
  marks = λ k less. elim (cases_eq k at) [
    | inl same ↦
        let P : ℕ → Type 0 = λ m. get_or (set uses at own) m unused ≡ marked_at n f (first + m) (get_or uses m unused) in
        subst P (sym same) (get_or-set_same uses at own unused inside ∙ is ∙ sym (marked_here n (first + at) f (get_or uses at unused) here))
    | inr other ↦ get_or-set_other uses at k own unused other ∙ sym (marked_elsewhere n (first + k) f (get_or uses k unused) (λ s. other (omega (arith, s, here))))
  ];
}

-- ---- one thing after another
-- what is left would make of the marks so far those of all
pub record MarkedSoFar {X : Type 0} (seen : ℕ → LebUse → X → LebUse) (first : ℕ) (old now : List LebUse) (left all : List X) : Type 0 where
  pub len : length now ≡ length old
  pub marks : (at : ℕ) → at < length old → fold (seen (first + at)) (get_or now at unused) left ≡ fold (seen (first + at)) (get_or old at unused) all

pub marked_start : {X : Type 0} (seen : ℕ → LebUse → X → LebUse) (first : ℕ) (uses : List LebUse) (all : List X) → MarkedSoFar seen first uses uses all all
marked_start seen first uses all = record { len = refl; marks = λ at less. refl }

pub marked_next : {X : Type 0} (seen : ℕ → LebUse → X → LebUse) (first : ℕ) (old now new : List LebUse) (x : X) (rest left all : List X) → left ≡ x ∷ rest → MarkedSoFar seen first old now left all → AreMarked first (λ lnum u. seen lnum u x) now new
    → MarkedSoFar seen first old new rest all
marked_next seen first old now new x rest left all cut before one = record {
  len = one.len ∙ before.len;
  marks = λ at less.
      let len = before.len in
      ap (λ u. fold (seen (first + at)) u rest) (one.marks at (omega (arith, len, less))) ∙ ap (fold (seen (first + at)) (get_or now at unused)) (sym cut) ∙ before.marks at less;
}

pub marked_end : {X : Type 0} (seen : ℕ → LebUse → X → LebUse) (first : ℕ) (old now : List LebUse) (left all : List X) → left ≡ [] → MarkedSoFar seen first old now left all → AreMarked first (λ lnum u. fold (seen lnum) u all) old now
marked_end seen first old now left all done before = record {
  len = before.len;
  marks = λ at less. sym (ap (fold (seen (first + at)) (get_or now at unused)) done) ∙ before.marks at less;
}

pub none : {X : Type 0} (xs : List X) → length xs ≡ 0 → xs ≡ []
none [] h = refl
none (x ∷ xs) h = absurd (omega (arith, h))
