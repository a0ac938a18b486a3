use Rattle.script_text.specs.declared.verb.Verb.TheVariants.{Rename}
use Rattle.script_text.proofs.Naming.{of_verb, rename_none}
use Rattle.script_text.proofs.operations.rename.Goals as goal

pub returns-in_default-clause-none : goal.returns-in_default-clause-none
returns-in_default-clause-none c =
    let none = rw c.in_default.is at c.in_ok-old.ensures.none in
    λ op says. rename_none c.args.words.now none op (of_verb op Rename says.0) says.1
