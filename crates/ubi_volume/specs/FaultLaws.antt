-- Faults over one call after another.
use Rattle.std.specs.Prelude.{ℕ, ◌≤◌, Result, Err, Ok}
use Rattle.std.proofs.Common.{arith}
use Rattle.ubifs_base.specs.Faults.{IsCause-before}
use Rattle.ubi_volume.specs.Faults.{HasCause, HasAreaCause}
use Rattle.ubi_volume.specs.declared.fault.VolFault.{VolFault}
use Rattle.ubi_volume.specs.declared.fault.VolFault.TheVariants.{Failed}
use Rattle.ubi_volume.specs.declared.fault.AreaFault.{AreaFault}
use Rattle.ubi_volume.specs.declared.fault.AreaFault.TheVariants.{Memory, Volume}

-- a fault of the second of two calls is one of both
pub HasCause-before : {T : Type 0} (a b c : ℕ) (r : Result T VolFault) → a ≤ b → HasCause b c r → HasCause a c r
HasCause-before a b c (Ok x) le cause = omega (arith, le, cause)
HasCause-before a b c (Err (Failed count)) le cause = IsCause-before a b c count le cause

pub HasAreaCause-before : {T : Type 0} (a b c : ℕ) (r : Result T AreaFault) → a ≤ b → HasAreaCause b c r → HasAreaCause a c r
HasAreaCause-before a b c (Ok x) le cause = omega (arith, le, cause)
HasAreaCause-before a b c (Err Memory) le cause = omega (arith, le, cause)
HasAreaCause-before a b c (Err (Volume count)) le cause = IsCause-before a b c count le cause
