-- What holds of a result where the call succeeded, and where it didn't.
use Rattle.std.specs.Prelude.{Result, Ok, Err, OnOk, OnErr}

pub on_ok : {T E : Type 0} (r : Result T E) (A B : Type 0) → (A → B) → OnOk r A → OnOk r B
on_ok (Ok x) A B f h = f h
on_ok (Err e) A B f h = h

pub on_err : {T E : Type 0} (r : Result T E) (A B : Type 0) → (A → B) → OnErr r A → OnErr r B
on_err (Ok x) A B f h = h
on_err (Err e) A B f h = f h

-- what holds in both cases
pub in_both : {T E : Type 0} (r : Result T E) (A B C : Type 0) → (A → C) → (B → C) → OnOk r A → OnErr r B → C
in_both (Ok x) A B C f k h e = f h
in_both (Err e) A B C f k h b = k b
