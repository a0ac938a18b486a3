-- What holds where nothing is wrong.
use Rattle.std.proofs.Common.{Bool, true, false, cond, List, [], ◌∷◌, ◌++◌, Option, Some, None}
use Rattle.std.specs.Prelude.{IfNone}
use Rattle.std.specs.List.{AllByRecursion}
use Rattle.sound_image.specs.Wrong.{comes_before}
use Rattle.image_check.specs.WrongValues.{sooner_of, wrong_at}
use Rattle.image_check.specs.declared.wrong_value.WrongValue.{WrongValue}

pub right_more : (o : Option WrongValue) (P Q : Type 0) → (P → Q) → IfNone o P → IfNone o Q
right_more None P Q f h = f h
right_more (Some d) P Q f h = tt

one_of_two : (b : Bool) (c d : WrongValue) (Q : Type 0) → IfNone (cond b (Some c) (Some d)) Q
one_of_two true c d Q = tt
one_of_two false c d Q = tt

-- where neither of two is wrong, both hold
pub right_both : (a b : Option WrongValue) (P R Q : Type 0) → (P → R → Q) → IfNone a P → IfNone b R → IfNone (sooner_of a b) Q
right_both None None P R Q f h k = f h k
right_both None (Some d) P R Q f h k = tt
right_both (Some c) None P R Q f h k = tt
right_both (Some c) (Some d) P R Q f h k = one_of_two (comes_before (wrong_at d) (wrong_at c)) d c Q

-- where one is wrong, something is
pub right_never : (a : Option WrongValue) (d : WrongValue) (Q : Type 0) → IfNone (sooner_of a (Some d)) Q
right_never None d Q = tt
right_never (Some c) d Q = one_of_two (comes_before (wrong_at d) (wrong_at c)) d c Q

pub all_end : {X : Type 0} (P : X → Type 0) (xs : List X) (x : X) → AllByRecursion P xs → P x → AllByRecursion P (xs ++ x ∷ [])
all_end P [] x h p = (p, tt)
all_end P (y ∷ xs) x h p = (h.0, all_end P xs x h.1 p)
