-- What holds of a plan through its refusals.
use Rattle.std.proofs.Common.{◌≡◌, Bool, true, false, Option, Some, None, Ok, Err, refl}
use Rattle.std.specs.Prelude.{Result}
use Rattle.fs_model.specs.declared.refusal.Refusal.{Refusal}
use Rattle.fs_model.specs.Outcome.{refuse, with_found, with_some}

pub refuse_to : {A : Type 0} (P : Result A Refusal → Type 0) (b : Bool) (refusal : Refusal) (next : Result A Refusal) → ((e : Refusal) → P (Err e)) → (b ≡ false → P next) → P (refuse b refusal next)
refuse_to P true refusal next bad good = bad refusal
refuse_to P false refusal next bad good = good refl

pub found_to : {A B : Type 0} (P : Result B Refusal → Type 0) (x : Result A Refusal) (next : A → Result B Refusal) → ((e : Refusal) → P (Err e)) → ((a : A) → x ≡ Ok a → P (next a)) → P (with_found x next)
found_to P (Err e) next bad good = bad e
found_to P (Ok a) next bad good = good a refl

pub some_to : {A B : Type 0} (P : Result B Refusal → Type 0) (x : Option A) (refusal : Refusal) (next : A → Result B Refusal) → ((e : Refusal) → P (Err e)) → ((a : A) → x ≡ Some a → P (next a)) → P (with_some x refusal next)
some_to P None refusal next bad good = bad refusal
some_to P (Some a) refusal next bad good = good a refl
