-- What is found, told as a breach.
use Rattle.std.proofs.Common.{◌≡◌, refl, sym, subst, Option, None, Result, Ok, Err}
use Rattle.std.specs.Prelude.{IfErr, IfNone, IfOk}
use Rattle.sound_image.specs.Wrong.{IsFirstWrong, Wrong}
use Rattle.sound_image.specs.declared.breach.Breach.TheVariants.{Super as InSuper, Feature as NeedsOne, NoMaster, Damaged}
use Rattle.sound_image.specs.declared.rule.Rule.{Rule}
use Rattle.image_check.specs.Told.{IsBreachOf, TellsBreach}
use Rattle.image_check.specs.WrongValues.{IsFirstOf}
use Rattle.image_check.specs.declared.fault.CheckFault.{CheckFault}
use Rattle.image_check.specs.declared.fault.CheckFault.TheVariants.{Memory, Volume, Unsound}
use Rattle.image_check.specs.declared.wrong_value.WrongValue.{WrongValue}
use Rattle.image_tree.specs.Judged.{IsJudged}

-- where nothing is found, the rule is met
pub judged_met : {T X : Type 0} (rule : Rule) (A : X → Type 0) (Is : X → Wrong → Type 0) (B : X → Type 0) (o : Option WrongValue) (r : Result T CheckFault) → IsJudged rule o r
    → ((x : X) → A x → IsFirstOf (Is x) o) → ((x : X) → IsFirstOf (Is x) None → B x) → IfOk r (λ _. (x : X) → A x → B x)
judged_met rule A Is B o (Ok y) none first right = λ x a. right x (subst (IsFirstOf (Is x)) none (first x a))
judged_met rule A Is B o (Err fault) judged first right = tt

-- and where something is, the breach is the first
pub judged_broken : {T X : Type 0} (rule : Rule) (A : X → Type 0) (Is : X → Wrong → Type 0) (o : Option WrongValue) (r : Result T CheckFault) → IsJudged rule o r
    → ((x : X) → A x → IsFirstOf (Is x) o) → IfErr r (λ fault. (x : X) → A x → TellsBreach (IsBreachOf rule (IsFirstWrong (Is x))) fault)
judged_broken rule A Is o (Ok y) none first = tt
judged_broken rule A Is o (Err fault) (value, some, is) first = λ x a.
    let P : CheckFault → Type 0 = λ f. TellsBreach (IsBreachOf rule (IsFirstWrong (Is x))) f in
    subst P (sym is) (refl, subst (IsFirstOf (Is x)) some (first x a))

-- the same of two premises, where what is answered says more
pub answered_met : {T X : Type 0} (rule : Rule) (A J : X → Type 0) (B : X → Type 0) (C : X → T → Type 0) (o : Option WrongValue) (r : Result T CheckFault) (shown : T) → IsJudged rule o r → IfOk r (λ t. t ≡ shown)
    → ((x : X) → A x → J x → IfNone o (B x)) → ((x : X) → A x → J x → C x shown) → IfOk r (λ t. (x : X) → A x → J x → B x × C x t)
answered_met rule A J B C o (Ok t) shown none e right shows = λ x a j. (subst (λ (p : Option WrongValue). IfNone p (B x)) none (right x a j), subst (C x) (sym e) (shows x a j))
answered_met rule A J B C o (Err fault) shown judged e right shows = tt

pub answered_broken : {T X : Type 0} (rule : Rule) (A J : X → Type 0) (Is : X → Wrong → Type 0) (o : Option WrongValue) (r : Result T CheckFault) → IsJudged rule o r
    → ((x : X) → A x → J x → IsFirstOf (Is x) o) → IfErr r (λ fault. (x : X) → A x → J x → TellsBreach (IsBreachOf rule (IsFirstWrong (Is x))) fault)
answered_broken rule A J Is o (Ok y) none first = tt
answered_broken rule A J Is o (Err fault) (value, some, is) first = λ x a j.
    let P : CheckFault → Type 0 = λ f. TellsBreach (IsBreachOf rule (IsFirstWrong (Is x))) f in
    subst P (sym is) (refl, subst (IsFirstOf (Is x)) some (first x a j))

-- a breach of what is wrong so is one of what is then wrong too
pub breach_more : (rule : Rule) (P Q : Wrong → Type 0) → ((at : Wrong) → P at → Q at) → (fault : CheckFault) → TellsBreach (IsBreachOf rule P) fault → TellsBreach (IsBreachOf rule Q) fault
breach_more rule P Q f Memory h = tt
breach_more rule P Q f (Volume count) h = tt
breach_more rule P Q f (Unsound (Damaged broken lnum offs wanted found)) h = (h.0, f _ h.1)
breach_more rule P Q f (Unsound (InSuper field)) h = absurd h
breach_more rule P Q f (Unsound (NeedsOne what lnum offs)) h = (h.0, f _ h.1)
breach_more rule P Q f (Unsound NoMaster) h = absurd h
