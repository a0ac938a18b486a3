use Rattle.std.proofs.Common.{refl}
use Rattle.script_text.specs.Words.{IsPlainNumeral}
use Rattle.script_text.proofs.Decimals.{found_of, plain_decimal, ok_of}
use Rattle.script_text.proofs.number.number_of_text.Goals as goal

pub returns-then-is_plain-clause-found : goal.returns-then-is_plain-clause-found
returns-then-is_plain-clause-found c = found_of _ c.args.text.now c.in-Ok.n c.parse.result c.parse.ensures.value.0 c.in-Ok.is (rw (← c.as_bytes.ensures.value) (c.if-is_plain.ensures.0 refl))

pub returns-else-is_plain-clause-none : goal.returns-else-is_plain-clause-none
returns-else-is_plain-clause-none c = λ n fits e.
    let plain : IsPlainNumeral c.as_bytes.result.now = rw (c.as_bytes.ensures.value, e) (plain_decimal n fits) in
    let wrong = c.if-is_plain.ensures.1 plain in absurd cc

pub returns-in-Err-clause-none : goal.returns-in-Err-clause-none
returns-in-Err-clause-none c = λ n fits e. let ok = ok_of _ c.args.text.now n c.parse.result c.parse.ensures.value.0 fits e in let is = c.in-Err.is in absurd cc
