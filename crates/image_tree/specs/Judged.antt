-- What is found, as a check answers it.
use Rattle.std.specs.Prelude.{◌≡◌, Option, Some, None, Result, Ok, Err}
use Rattle.sound_image.specs.declared.breach.Breach.TheVariants.{Damaged}
use Rattle.sound_image.specs.declared.rule.Rule.{Rule}
use Rattle.image_check.specs.declared.fault.CheckFault.{CheckFault}
use Rattle.image_check.specs.declared.fault.CheckFault.TheVariants.{Unsound}
use Rattle.image_check.specs.declared.wrong_value.WrongValue.{WrongValue}

-- nothing is found, and the rule is met; or what is found is told as its breach
abbrev pub IsJudged : {T : Type 0} → Rule → Option WrongValue → Result T CheckFault → Type 0
IsJudged rule found (Ok x) = found ≡ None
IsJudged rule found (Err fault) = (value : WrongValue) × (found ≡ Some value) × (fault ≡ Unsound (Damaged rule value.lnum value.offs value.wanted value.found))
