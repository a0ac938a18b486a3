-- Lines of callers.
use Rattle.std.proofs.Common.{◌≡◌, ℕ, zero, suc, ◌<◌, ◌≤◌, false, List, [], ◌∷◌, length, get_or, All, drop, arith}
use Rattle.std.proofs.lemmas.List.Elements.{All-cons}
use Rattle.fs_model.specs.declared.trace.TraceLine.{TraceLine}
use Rattle.script_phase.specs.Phases.{is_memory}

-- a line of a caller up to this one, which wasn't refused for want of memory
abbrev pub IsToldOf : ℕ → TraceLine → Type 0
IsToldOf callers line = (0 < line.caller) × (line.caller ≤ callers) × (is_memory line.reply ≡ false)

-- what holds of one, and of all behind it, holds of all from it on
pub all_from : {A : Type 0} (P : A → Type 0) (xs : List A) (d : A) (i : ℕ) → i < length xs → P (get_or xs i d) → All P (drop (suc i) xs) → All P (drop i xs)
all_from P [] d i less one more = absurd (omega (arith, less))
all_from P (x ∷ xs) d zero less one more = All-cons P x xs one more
all_from P (x ∷ xs) d (suc i) less one more = all_from P xs d i (omega (arith, less)) one more
