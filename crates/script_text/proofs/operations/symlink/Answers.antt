use Rattle.script_text.specs.declared.verb.Verb.TheVariants.{Symlink}
use Rattle.script_text.proofs.Naming.{of_verb, symlink_none}
use Rattle.script_text.proofs.operations.symlink.Goals as goal

pub returns-in_default-clause-none : goal.returns-in_default-clause-none
returns-in_default-clause-none c =
    let none = rw c.in_default.is at c.in_ok-path.ensures.none in
    λ op says. symlink_none c.args.words.now none op (of_verb op Symlink says.0) says.1
