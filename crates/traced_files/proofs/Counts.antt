-- Modes and counts of faults, from one call to the next.
use Rattle.std.proofs.Common.{◌≡◌, ◌≢◌, ◌⊎◌, inl, inr, ℕ, ◌≤◌, ◌<◌, true, IsTrue, List, [], ◌∷◌, ◌++◌, refl, sym, subst, ◌∙◌, arith}
use Rattle.std.specs.Prelude.{nat_le, ◌&&◌, Bool}
use Rattle.std.specs.List.{list_all}
use Rattle.std.specs.Cmp.{nat_cmp_is}
use Rattle.std.specs.Ordering.{nat_cmp, is_lt}
use Rattle.std.specs.declared.cmp.Ordering.{Ordering}
use Rattle.std.specs.declared.cmp.Ordering.TheVariants.{Less}
use Rattle.std.proofs.lemmas.Bool.{le-leb}
use Rattle.ubifs_base.specs.Faults.{Rose, Rose-before}
use Rattle.fs_model.specs.declared.backing_answers.Mode.{Mode}
use Rattle.fs_model.specs.declared.backing_answers.Mode.TheVariants.{ReadWrite, ReadOnly}
use Rattle.fs_model.specs.declared.refusal.Cause.{Cause}
use Rattle.fs_model.specs.Backing.{BackingState, ModeGoes}
use Rattle.fs_model.specs.Legal.{Opening}
use Rattle.fs_model.specs.Proper.{ascends}
use Rattle.traced_files.specs.History.{IsModeAfter, Rise}
use Rattle.traced_files.proofs.Lines.{ModeTurns}

abbrev open_or_not : Mode → Type 0
open_or_not ReadWrite = Unit {0}
open_or_not (ReadOnly cause) = ⊥

pub not_open : (cause : Cause) → ReadOnly cause ≢ ReadWrite
not_open cause e = subst open_or_not (sym e) tt

-- a store that can be written is in the mode of its opening
pub open_since : (opening : Opening) (mode : Mode) (faults : ℕ) → IsModeAfter opening mode faults → mode ≡ ReadWrite → mode ≡ opening.mode
open_since opening mode faults (inl same) is = same
open_since opening mode faults (inr (first, inl lost)) is = absurd (not_open _ (sym lost.1 ∙ is))
open_since opening mode faults (inr (first, inr spent)) is = absurd (not_open _ (sym spent.2 ∙ is))

pub mode_turns : (opening : Opening) (old new : BackingState) → IsModeAfter opening old.mode old.faults → ModeGoes old new → ModeTurns opening old.mode new.mode
mode_turns opening old new since (inl same) = inl same
mode_turns opening old new since (inr lost) = inr (open_since opening old.mode old.faults since lost.0)

pub mode_after : (opening : Opening) (old new : BackingState) → IsModeAfter opening old.mode old.faults → ModeGoes old new → opening.faults ≤ old.faults → old.faults ≤ new.faults → IsModeAfter opening new.mode new.faults
mode_after opening old new (inl same) (inl stays) rose le = inl (stays ∙ same)
mode_after opening old new (inr (first, inl lost)) (inl stays) rose le = inr (first, inl (lost.0, stays ∙ lost.1, lost.2, omega (arith, lost.3, le)))
mode_after opening old new (inr (first, inr spent)) (inl stays) rose le = inr (first, inr (spent.0, spent.1, stays ∙ spent.2, spent.3))
mode_after opening old new since (inr (was, inl lost)) rose le =
    inr (sym (open_since opening old.mode old.faults since was) ∙ was, inl (lost.0, lost.1, Rose-before opening.faults old.faults lost.0 rose lost.2, lost.3))
mode_after opening old new since (inr (was, inr spent)) rose le = inr (sym (open_since opening old.mode old.faults since was) ∙ was, inr spent)

-- counts that rise don't fall, while the last one isn't at its end
pub rise_le : (before : ℕ) (counts : List ℕ) (faults : ℕ) → Rise before counts faults → (before ≤ faults) ⊎ (18446744073709551615 ≤ faults)
rise_le before [] faults rise = inl rise
rise_le before (count ∷ counts) faults rise = by rise.0 (rise_le count counts faults rise.1)
  where
    by : Rose before count → (count ≤ faults) ⊎ (18446744073709551615 ≤ faults) → (before ≤ faults) ⊎ (18446744073709551615 ≤ faults)
    by rose (inr end) = inr end
    by (inl less) (inl le) = inl (omega (arith, less, le))
    by (inr end) (inl le) = inr (omega (arith, end, le))

pub rise_later : (before : ℕ) (counts : List ℕ) (old new : ℕ) → Rise before counts old → old ≤ new → Rise before counts new
rise_later before [] old new rise le = omega (arith, rise, le)
rise_later before (count ∷ counts) old new rise le = (rise.0, rise_later count counts old new rise.1 le)

-- a count more
pub rise_on : (before : ℕ) (counts : List ℕ) (old count new : ℕ) → Rise before counts old → Rose old count → count ≤ new → Rise before (counts ++ count ∷ []) new
rise_on before [] old count new rise rose le = (Rose-before before old count rise rose, le)
rise_on before (x ∷ counts) old count new rise rose le = (rise.0, rise_on x counts old count new rise.1 rose le)

-- below the end each count is above the one before it
pub rise_ascends : (before : ℕ) (counts : List ℕ) (faults : ℕ) → Rise before counts faults → faults < 18446744073709551615 → IsTrue (ascends nat_cmp (before ∷ counts))
rise_ascends before [] faults rise below = refl
rise_ascends before (count ∷ counts) faults rise below = by rise.0 (rise_le count counts faults rise.1) (rise_ascends count counts faults rise.1 below)
  where
    by : Rose before count → (count ≤ faults) ⊎ (18446744073709551615 ≤ faults) → IsTrue (ascends nat_cmp (count ∷ counts)) → IsTrue (ascends nat_cmp (before ∷ count ∷ counts))
    by rose (inr end) more = absurd (omega (arith, end, below))
    by (inr end) (inl le) more = absurd (omega (arith, end, le, below))
    by (inl less) (inl le) more = first (sym (nat_cmp_is before count Less less)) more
      where
        first : nat_cmp before count ≡ Less → IsTrue (ascends nat_cmp (count ∷ counts)) → IsTrue (ascends nat_cmp (before ∷ count ∷ counts))
        first is more = subst (λ (o : Ordering). IsTrue (is_lt o && ascends nat_cmp (count ∷ counts))) (sym is) more

pub rise_bounds : (before : ℕ) (counts : List ℕ) (faults : ℕ) → Rise before counts faults → faults < 18446744073709551615 → IsTrue (list_all (λ count. nat_le count faults) (before ∷ counts))
rise_bounds before [] faults rise below = subst (λ (b : Bool). IsTrue (b && true)) (sym (le-leb before faults rise)) refl
rise_bounds before (count ∷ counts) faults rise below = by (rise_le before (count ∷ counts) faults rise) (rise_bounds count counts faults rise.1 below)
  where
    by : (before ≤ faults) ⊎ (18446744073709551615 ≤ faults) → IsTrue (list_all (λ count. nat_le count faults) (count ∷ counts)) → IsTrue (list_all (λ count. nat_le count faults) (before ∷ count ∷ counts))
    by (inr end) more = absurd (omega (arith, end, below))
    by (inl le) more = subst (λ (b : Bool). IsTrue (b && list_all (λ count. nat_le count faults) (count ∷ counts))) (sym (le-leb before faults le)) more
