use Rattle.std.proofs.Common.{arith, sym, ◌∙◌}
use Rattle.std.proofs.lemmas.Fmt.{decimal_injective}
use Rattle.script_text.proofs.number.number.Goals as goal

pub returns-else-n-most-clause-none : goal.returns-else-n-most-clause-none
returns-else-n-most-clause-none c = λ n below e.
    let same = decimal_injective c.in-Some.n n (omega arith) (omega arith) (sym c.in-Some.ensures.found ∙ e) in omega (arith, same)
