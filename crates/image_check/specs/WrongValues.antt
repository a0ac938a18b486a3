-- Places at which a value is another than is wanted, and the first of them.
use Rattle.std.specs.Prelude.{Option, Some, None, if◌then◌else◌}
use Rattle.sound_image.specs.Wrong.{IsFirstWrong, Wrong, comes_before, differs}
use Rattle.image_check.specs.declared.wrong_value.WrongValue.{WrongValue}

-- what is wrong there
abbrev pub wrong_at : WrongValue → Wrong
wrong_at d = record { lnum = d.lnum; offs = d.offs; misfit = differs d.wanted d.found }

-- this is wrong first; or there is none, and nothing is wrong
abbrev pub IsFirstOf : (Wrong → Type 0) → Option WrongValue → Type 0
IsFirstOf IsWrong None = (at : Wrong) → IsWrong at → ⊥
IsFirstOf IsWrong (Some d) = IsFirstWrong IsWrong (wrong_at d)

abbrev pub sooner_of_two : WrongValue → Option WrongValue → Option WrongValue
sooner_of_two a None = Some a
sooner_of_two a (Some b) = if comes_before (wrong_at b) (wrong_at a) then Some b else Some a

-- of two, if they are there, that which comes first
abbrev pub sooner_of : Option WrongValue → Option WrongValue → Option WrongValue
sooner_of None b = b
sooner_of (Some a) b = sooner_of_two a b
