-- What a cut leaves of LEBs whose unmappings may be undone.
use Rattle.std.proofs.Common.{rules, ◌≡◌, ◌≢◌, inl, inr, ℕ, zero, suc, ◌+◌, ◌<◌, ◌≤◌, Bool, true, false, List, [], length, Option, Some, None, refl, ap, subst, sym, ◌∙◌, arith}
use Rattle.std.specs.Option.{unwrap_or}
use Rattle.std.specs.Prelude.{IsTrue, slice_get, All, if◌then◌else◌, ◌==◌}
use Rattle.std.proofs.lemmas.Bool.{cases_lt, cases_eq}
use Rattle.std.proofs.lemmas.Option.{slice_get_past}
use Rattle.ubi_volume.specs.Lebs.{LebView, IsLeft, IsLeb, bytes_in, pending_in, view_of, views}
use Rattle.ubi_volume.specs.Patterns.{IsSettled, left_in, digits_at, digits_behind}
use Rattle.ubi_volume.specs.declared.leb.Leb.{Leb}

digits_at-zero : (digits : ℕ) (lebs : ℕ → LebView) → digits_at digits lebs zero ≡ digits
unfolding digits_at
digits_at-zero digits lebs = refl

-- each LEB takes from those digits that the one before left
digits_next : (digits : ℕ) (lebs : ℕ → LebView) (k : ℕ) → digits_at digits lebs (suc k) ≡ digits_behind (digits_at digits lebs k) (lebs k).pending
unfolding digits_at
digits_next digits lebs k = refl

-- the LEBs so far are settled, and the others are as they were
pub record SoFar (size unit digits : ℕ) (old now : List Leb) (n rest : ℕ) : Type 0 where
  pub len : length now ≡ length old
  pub sizes : All (IsLeb size) now
  pub digits_are : rest ≡ digits_at digits (views old) n
  pub settled : (k : ℕ) → k < n → IsSettled unit (digits_at digits (views old) k) (views old k) (views now k)
  pub others : (k : ℕ) → n ≤ k → slice_get now k ≡ slice_get old k

pub so_far_none : (size unit digits : ℕ) (lebs : List Leb) → All (IsLeb size) lebs → SoFar size unit digits lebs lebs 0 digits
so_far_none size unit digits lebs sizes = record {
  len = refl;
  sizes = sizes;
  digits_are = sym (digits_at-zero digits (views lebs));
  settled = λ k less. absurd (omega (arith, less));
  others = λ k le. refl;
}

pub so_far_more : (size unit digits : ℕ) (old a b : List Leb) (n rest left : ℕ) → SoFar size unit digits old a n rest
    → IsSettled unit rest (views a n) (views b n) → ((k : ℕ) → k ≢ n → slice_get b k ≡ slice_get a k) → length b ≡ length a → All (IsLeb size) b → left ≡ digits_behind rest (views a n).pending
    → SoFar size unit digits old b (n + 1) left
so_far_more size unit digits old a b n rest left before one apart len sizes next =
    let here = before.others n (omega arith) in
    let e : suc n ≡ n + 1 = omega arith in
    let D : ℕ → Type 0 = λ k. left ≡ digits_at digits (views old) k in
    let R : ℕ → Type 0 = λ r. left ≡ digits_behind r (views old n).pending in
    let S : Option Leb → Type 0 = λ o. left ≡ digits_behind rest (view_of o).pending in
    let O : Option Leb → Type 0 = λ o. IsSettled unit rest (view_of o) (views b n) in
    let Q : ℕ → Type 0 = λ r. IsSettled unit r (views old n) (views b n) in
    let now : IsSettled unit (digits_at digits (views old) n) (views old n) (views b n) = subst Q before.digits_are (subst O here one) in
    record {
      len = len ∙ before.len;
      sizes = sizes;
      digits_are = subst D e (subst R before.digits_are (subst S here next) ∙ sym (digits_next digits (views old) n));
      settled = λ k less. elim (cases_eq k n) [
        | inl same ↦
            let K : ℕ → Type 0 = λ m. IsSettled unit (digits_at digits (views old) m) (views old m) (views b m) in
            subst K (sym same) now
        | inr ne ↦
            let L : Option Leb → Type 0 = λ o. IsSettled unit (digits_at digits (views old) k) (views old k) (view_of o) in
            subst L (sym (apart k ne)) (before.settled k (omega (arith, less, ne)))
      ];
      others = λ k le. apart k (λ same. absurd (omega (arith, le, same))) ∙ before.others k (omega (arith, le));
    }

is_true : (b : Bool) → b ≡ true → IsTrue b
is_true b e = search (rules, e)

one_left : (leb : Leb) (undo stays : Bool) → leb.undo ≡ undo → IsLeft (Some leb) (if stays then leb.content.items else unwrap_or (if undo then Some leb.before.items else None) leb.content.items)
one_left leb true true e = inl refl
one_left leb true false e = inr (is_true leb.undo e, refl)
one_left leb false true e = inl refl
one_left leb false false e = inl refl

none_left : (stays : Bool) → IsLeft None (if stays then [] else unwrap_or None [])
none_left true = refl
none_left false = refl

-- what is left was one of the outcomes
pub left_in-left : (digit : ℕ) (leb : Option Leb) → IsLeft leb (left_in digit (view_of leb))
left_in-left digit None = none_left (digit == 0)
left_in-left digit (Some leb) = one_left leb leb.undo (digit == 0) refl

final_undo : (undo : Bool) (before : List ℕ) → (if undo then Some before else None) ≡ None → IsTrue undo → ⊥
final_undo true before e t = absurd (search (rules, e))
final_undo false before e t = absurd (search (rules, t))

-- of a LEB whose unmapping can't be undone a cut leaves nothing else
pub only_final : (leb : Option Leb) (c : List ℕ) → pending_in leb ≡ None → IsLeft leb c → c ≡ bytes_in leb
only_final None c final left = left
only_final (Some leb) c final (inl now) = now
only_final (Some leb) c final (inr (undo, was)) = absurd (final_undo leb.undo leb.before.items final undo)

-- and no unmapping can be undone afterwards
pub all_final : (unit digits : ℕ) (old new : List Leb) → length new ≡ length old → ((k : ℕ) → k < length old → IsSettled unit (digits_at digits (views old) k) (views old k) (views new k))
    → (k : ℕ) → pending_in (slice_get new k) ≡ None
all_final unit digits old new len settled k = elim (cases_lt k (length old)) [
  | inl inside ↦ (settled k inside).final
  | inr past ↦ ap pending_in (slice_get_past new k (omega (arith, len, past)))
]
