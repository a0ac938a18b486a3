-- When a call may answer that something outside failed. A count of faults that reached 2^64 - 1 stays there.
use Rattle.std.specs.Prelude.{◌≡◌, ◌⊎◌, ℕ, ◌<◌, ◌≤◌}
use Rattle.std.proofs.Common.{inl, inr, arith}

-- the count of faults rose, or it stands at its end
abbrev pub Rose : ℕ → ℕ → Type 0
Rose before now = (before < now) ⊎ (18446744073709551615 ≤ now)

-- something failed, and this is its count of faults at the end
abbrev pub IsCause : ℕ → ℕ → ℕ → Type 0
IsCause before now count = (before ≤ now) × (Rose before now × (count ≡ now))

-- a count that was lower before rose too
pub Rose-before : (a b c : ℕ) → a ≤ b → Rose b c → Rose a c
Rose-before a b c le (inl less) = inl (omega (arith, le, less))
Rose-before a b c le (inr end) = inr end

-- a count that is higher afterwards rose too
pub Rose-after : (a b c : ℕ) → Rose a b → b ≤ c → Rose a c
Rose-after a b c (inl less) le = inl (omega (arith, le, less))
Rose-after a b c (inr end) le = inr (omega (arith, le, end))

pub IsCause-before : (a b c count : ℕ) → a ≤ b → IsCause b c count → IsCause a c count
IsCause-before a b c count le cause = (omega (arith, le, cause.0), (Rose-before a b c le cause.1.0, cause.1.1))
