use Rattle.script_text.specs.declared.verb.Verb.TheVariants.{Open}
use Rattle.script_text.proofs.Naming.{of_verb, open_none}
use Rattle.script_text.proofs.operations.open.Goals as goal

pub returns-in_default-clause-none : goal.returns-in_default-clause-none
returns-in_default-clause-none c =
    let none = rw c.in_default.is at c.in_ok-path.ensures.none in
    λ op says. open_none c.args.words.now none op (of_verb op Open says.0) says.1
