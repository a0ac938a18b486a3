use Rattle.script_text.proofs.Naming.{verb_none, words_none, if_none}
use Rattle.script_text.proofs.operations.operation.Goals as goal

pub returns-in_default-verb_of-clause-none : goal.returns-in_default-verb_of-clause-none
returns-in_default-verb_of-clause-none c = verb_none c.args.words.now c.in-Some.name.now c.in-Some.rest.now c.in-Some.ensures.first c.in-Some.ensures.found c.in_default-verb_of.ensures.none

pub returns-clause-none : goal.returns-clause-none
returns-clause-none c =
    if_none _ _ c.in_ok-found.found (words_none c.args.words.now c.in-Some.name.now c.in-Some.rest.now c.in-Some-verb_of.verb c.in-Some.ensures.first c.in-Some.ensures.found c.in-Some-verb_of.ensures.found) c.in_ok-found.ensures.none
