use Rattle.std.proofs.Common.{subst, List, ℕ, sym}
use Rattle.std.specs.Str.{IsUtf8}
use Rattle.std.proofs.lemmas.Str.{IsUtf8-from_ascii}
use Rattle.std.proofs.lemmas.Fmt.{IsAscii-decimal}
use Rattle.script_text.proofs.number.any_number.Goals as goal

pub returns-in-Err-clause-none : goal.returns-in-Err-clause-none
returns-in-Err-clause-none c = λ n fits e. let P : List ℕ → Type 0 = λ t. IsUtf8 t in c.in-Err.ensures.cases.0 (subst P (sym e) (IsUtf8-from_ascii _ (IsAscii-decimal n fits)))
