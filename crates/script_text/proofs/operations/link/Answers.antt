use Rattle.script_text.specs.declared.verb.Verb.TheVariants.{Link}
use Rattle.script_text.proofs.Naming.{of_verb, link_none}
use Rattle.script_text.proofs.operations.link.Goals as goal

pub returns-in_default-clause-none : goal.returns-in_default-clause-none
returns-in_default-clause-none c =
    let none = rw c.in_default.is at c.in_ok-old.ensures.none in
    λ op says. link_none c.args.words.now none op (of_verb op Link says.0) says.1
