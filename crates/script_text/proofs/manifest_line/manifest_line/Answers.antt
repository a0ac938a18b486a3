use Rattle.script_text.proofs.Made.{name_parts}
use Rattle.script_text.proofs.Naming.{if_none}
use Rattle.script_text.proofs.manifest_line.manifest_line.Goals as goal

pub returns-clause-none : goal.returns-clause-none
returns-clause-none c =
    if_none _ _ c.in_ok-found.found (λ none line h. none line (name_parts c.args.text.now c.in-Some.name.now c.in-Some.words.now c.in-Some.ensures.first c.in-Some.ensures.found line h)) c.in_ok-found.ensures.none
