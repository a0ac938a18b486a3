-- Which of two places at which something is wrong in a bud comes first.
use Rattle.std.proofs.Common.{◌≡◌, ◌⊎◌, ℕ, Bool, false, subst, sym, inl, inr}
use Rattle.std.specs.Prelude.{◌==◌, ◌&&◌, if◌then◌else◌, Option, Some, None}
use Rattle.std.proofs.Math.Nat.{le_refl}
use Rattle.std.proofs.lemmas.Bool.{and_right, cases_Bool, le-ltb, or_from, or_parts}
use Rattle.media_sys.specs.declared.feature.Feature.{Feature}
use Rattle.sound_image.specs.Wrong.{Misfit, Wrong, comes_before, differs, feature_number, is_lesser, is_told_before, needs}
use Rattle.image_check.specs.FirstLaws.{before_not, not_before_itself, not_before_then}
use Rattle.bud_check.specs.Findings.{IsFirstFound, first_of_two, wrong_told}
use Rattle.bud_check.specs.declared.bud_wrong.BudWrong.{BudWrong}

-- at one place, what isn't told before another doesn't come before it
pub here_not : (lnum offs : ℕ) (m n : Misfit) → is_told_before m n ≡ false → comes_before (record { lnum = lnum; offs = offs; misfit = m }) (record { lnum = lnum; offs = offs; misfit = n }) ≡ false
here_not lnum offs m n told =
    let own = or_parts (is_lesser (lnum, offs) (lnum, offs)) ((lnum == lnum) && ((offs == offs) && is_told_before m m)) (not_before_itself (record { lnum = lnum; offs = offs; misfit = m })) in
    or_from (is_lesser (lnum, offs) (lnum, offs)) ((lnum == lnum) && ((offs == offs) && is_told_before m n)) own.0 (and_right (lnum == lnum) ((offs == offs) && is_told_before m n) (and_right (offs == offs) (is_told_before m n) told))

-- the same along equations: another that is wrong at this place, with this misfit
pub there_not : (other : Wrong) (lnum offs : ℕ) (m n : Misfit) → other.lnum ≡ lnum → other.offs ≡ offs → other.misfit ≡ m → is_told_before m n ≡ false → comes_before other (record { lnum = lnum; offs = offs; misfit = n }) ≡ false
there_not other lnum offs m n l o value told =
    let P : ℕ → Type 0 = λ k. comes_before (record { lnum = k; offs = other.offs; misfit = other.misfit }) (record { lnum = lnum; offs = offs; misfit = n }) ≡ false in
    let Q : ℕ → Type 0 = λ k. comes_before (record { lnum = lnum; offs = k; misfit = other.misfit }) (record { lnum = lnum; offs = offs; misfit = n }) ≡ false in
    let R : Misfit → Type 0 = λ x. comes_before (record { lnum = lnum; offs = offs; misfit = x }) (record { lnum = lnum; offs = offs; misfit = n }) ≡ false in
    subst P (sym l) (subst Q (sym o) (subst R (sym value) (here_not lnum offs m n told)))

pub feature_once : (what : Feature) → is_told_before (needs what) (needs what) ≡ false
feature_once what = le-ltb (feature_number what) (feature_number what) (le_refl (feature_number what))

pub type_once : (kind : ℕ) → is_told_before (differs 1 kind) (differs 1 kind) ≡ false
type_once kind = le-ltb kind kind (le_refl kind)

-- ---- the first of what is wrong
-- the same is wrong
pub first_same : (P Q : Wrong → Type 0) (o : Option BudWrong) → ((at : Wrong) → P at → Q at) → ((at : Wrong) → Q at → P at) → IsFirstFound P o → IsFirstFound Q o
first_same P Q None to from h = λ at wrong. h at (from at wrong)
first_same P Q (Some d) to from h = record { wrong = to (wrong_told d) h.wrong; least = λ other wrong. h.least other (from other wrong) }

-- this is wrong, or that
pub either_first : (P Q : Wrong → Type 0) (a b : Option BudWrong) → IsFirstFound P a → IsFirstFound Q b → IsFirstFound (λ at. P at ⊎ Q at) (first_of_two a b)
either_first P Q None None h k = λ at wrong. elim wrong [ inl p ↦ h at p | inr q ↦ k at q ]
either_first P Q None (Some b) h k = record { wrong = inr k.wrong; least = λ other wrong. elim wrong [ inl p ↦ absurd (h other p) | inr q ↦ k.least other q ] }
either_first P Q (Some a) None h k = record { wrong = inl h.wrong; least = λ other wrong. elim wrong [ inl p ↦ h.least other p | inr q ↦ absurd (k other q) ] }
either_first P Q (Some a) (Some b) h k =
    let R : Bool → Type 0 = λ t. IsFirstFound (λ at. P at ⊎ Q at) (if t then Some b else Some a) in
    elim (cases_Bool (comes_before (wrong_told b) (wrong_told a))) [
      | inl sooner ↦
          subst R (sym sooner) (record {
            wrong = inr k.wrong;
            least = λ other wrong. elim wrong [ inl p ↦ not_before_then (wrong_told b) (wrong_told a) other (before_not (wrong_told b) (wrong_told a) sooner) (h.least other p) | inr q ↦ k.least other q ];
          })
      | inr not ↦
          subst R (sym not) (record {
            wrong = inl h.wrong;
            least = λ other wrong. elim wrong [ inl p ↦ h.least other p | inr q ↦ not_before_then (wrong_told a) (wrong_told b) other not (k.least other q) ];
          })
    ]
