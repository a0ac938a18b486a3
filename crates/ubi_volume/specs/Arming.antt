-- When a volume in memory fails: from the step in which an armed cut falls until it is revived, and at the armed call.
use Rattle.std.specs.Prelude.{◌≡◌, ℕ, ◌+◌, ◌-◌, ◌%◌, ◌<◌, Bool, true, false, min, nat_lt, nat_le, ◌==◌, if◌then◌else◌}
use Rattle.ubifs_base.specs.Faults.{IsCause}
use Rattle.ubi_volume.specs.declared.arming.Arming.{Arming}
use Rattle.ubi_volume.specs.declared.arming.Fate.{Fate}
use Rattle.ubi_volume.specs.declared.arming.Fate.TheVariants.{Runs, Refused, Struck}

-- as at first: nothing is armed or counted, and no cut has struck
abbrev pub nothing_armed : Arming
nothing_armed = record { cut_step = 0; pattern = 0; is_cut = false; fail = 0; steps = 0; faults = 0 }

-- nothing is armed, and no cut has struck
pub record IsUnarmed (a : Arming) : Type 0 where
  pub cut : a.cut_step ≡ 0
  pub call : a.fail ≡ 0
  pub whole : a.is_cut ≡ false

-- the count of faults with one more, which stays at 2 ^ 64 - 1
abbrev pub one_more : ℕ → ℕ
one_more count = min (count + 1) 18446744073709551615

-- the call that begins answers Failed at once: a cut has struck, or it is the armed one
abbrev pub is_refused : Arming → Bool
is_refused a = if a.is_cut then true else (a.fail == 1)

-- the armed cut falls into one of the next n steps
abbrev pub falls_within : Arming → ℕ → Bool
falls_within a n = if nat_lt a.steps a.cut_step then nat_le (a.cut_step - a.steps) n else false

-- what becomes of a call of n steps
unfoldable pub fate_of : Arming → ℕ → Fate
fate_of a n =
    if is_refused a then Refused (one_more a.faults)
    else (if falls_within a n then Struck (a.cut_step - a.steps - 1) (a.pattern % 4) (one_more a.faults) else Runs)

-- and what is armed and counted afterwards
unfoldable pub after_call : Arming → ℕ → Arming
after_call a n =
    if is_refused a then record a { fail = a.fail - 1; faults = one_more a.faults }
    else (if falls_within a n then record a { fail = a.fail - 1; faults = one_more a.faults; steps = a.cut_step; is_cut = true }
    else record a { fail = a.fail - 1; steps = min (a.steps + n) 18446744073709551615 })

-- What that means: a call that runs counts no fault; one that is refused does, and strikes nothing; and a cut strikes in one of
-- the steps of a call. Neither comes where nothing is armed.
abbrev pub IsFate : Arming → Arming → ℕ → Fate → Type 0
IsFate old new n Runs = (new.faults ≡ old.faults) × (new.is_cut ≡ old.is_cut)
IsFate old new n (Refused count) = IsCause old.faults new.faults count × (new.is_cut ≡ old.is_cut) × (IsUnarmed old → ⊥)
IsFate old new n (Struck done digit count) = IsCause old.faults new.faults count × (new.is_cut ≡ true) × (IsUnarmed old → ⊥) × (done < n)
