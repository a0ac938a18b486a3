use Rattle.script_text.specs.declared.verb.Verb.TheVariants.{Create}
use Rattle.script_text.proofs.Naming.{of_verb, create_none}
use Rattle.script_text.proofs.operations.create.Goals as goal

pub returns-in_default-clause-none : goal.returns-in_default-clause-none
returns-in_default-clause-none c =
    let none = rw c.in_default.is at c.in_ok-path.ensures.none in
    λ op says. create_none c.args.words.now none op (of_verb op Create says.0) says.1
