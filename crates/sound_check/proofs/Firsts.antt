-- What breaks a rule breaks the first, if the rules before it are met.
use Rattle.std.proofs.Common.{◌≡◌, ℕ, List, Result, Ok, Err, subst}
use Rattle.std.specs.Prelude.{IfErr, IfOk}
use Rattle.sound_image.specs.Breaches.{IsBroken, IsFirstBreach}
use Rattle.sound_image.specs.Image.{Image}
use Rattle.sound_image.specs.Rules.{MeetsBefore}
use Rattle.sound_image.specs.declared.breach.Breach.{Breach}
use Rattle.sound_image.specs.declared.rule.Rule.{Rule}
use Rattle.image_check.specs.Told.{IsBreachOf, TellsBreach}
use Rattle.image_check.specs.declared.fault.CheckFault.{CheckFault}
use Rattle.image_check.specs.declared.fault.CheckFault.TheVariants.{Memory, Volume, Unsound}

-- the law of image_check on breaches
abbrev pub FirstLaw : Type 0
FirstLaw = (contents : ℕ → List ℕ) (image : Image) (rule : Rule) (breach : Breach) → MeetsBefore contents image rule → IsBreachOf rule (IsBroken contents image rule) breach → IsFirstBreach contents breach

-- what is told is first
pub first_told : FirstLaw → (contents : ℕ → List ℕ) (image : Image) (rule : Rule) → MeetsBefore contents image rule → (fault : CheckFault) → TellsBreach (IsBreachOf rule (IsBroken contents image rule)) fault → TellsBreach (IsFirstBreach contents) fault
first_told law contents image rule before Memory h = tt
first_told law contents image rule before (Volume count) h = tt
first_told law contents image rule before (Unsound breach) h = law contents image rule breach before h

-- what is told of the same contents
pub first_same : (old now : ℕ → List ℕ) → now ≡ old → (fault : CheckFault) → TellsBreach (IsFirstBreach now) fault → TellsBreach (IsFirstBreach old) fault
first_same old now same fault h = let P : (ℕ → List ℕ) → Type 0 = λ contents. TellsBreach (IsFirstBreach contents) fault in subst P same h

-- what is said of an answer is said of what it is
pub err_told : {T : Type 0} (P : CheckFault → Type 0) (r : Result T CheckFault) (fault : CheckFault) → r ≡ Err fault → IfErr r P → P fault
err_told {T = T} P r fault e h = let Q : Result T CheckFault → Type 0 = λ x. IfErr x P in subst Q e h

pub ok_told : {T : Type 0} (P : T → Type 0) (r : Result T CheckFault) (x : T) → r ≡ Ok x → IfOk r P → P x
ok_told {T = T} P r x e h = let Q : Result T CheckFault → Type 0 = λ y. IfOk y P in subst Q e h
