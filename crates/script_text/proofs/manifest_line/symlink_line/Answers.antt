use Rattle.script_text.proofs.Made.{symlink_none}
use Rattle.script_text.proofs.manifest_line.symlink_line.Goals as goal

pub returns-in_default-clause-none : goal.returns-in_default-clause-none
returns-in_default-clause-none c =
    let none = rw c.in_default.is at c.in_ok-path.ensures.none in
    symlink_none c.args.words.now none
