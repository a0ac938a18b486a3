use Rattle.script_text.specs.declared.verb.Verb.TheVariants.{Truncate}
use Rattle.script_text.proofs.Naming.{of_verb, truncate_none}
use Rattle.script_text.proofs.operations.truncate.Goals as goal

pub returns-in_err-slot-clause-none : goal.returns-in_err-slot-clause-none
returns-in_err-slot-clause-none c = rw c.from_residual.ensures (λ op says. truncate_none c.args.words.now c.in_err-slot.ensures.none op (of_verb op Truncate says.0) says.1)
