use Rattle.std.proofs.Common.{sym, ◌∙◌}
use Rattle.std.specs.Fmt.{decimal}
use Rattle.std.proofs.lemmas.List.{append_cancel_left}
use Rattle.script_text.proofs.Naming.{if_none}
use Rattle.script_text.proofs.part.number_behind.Goals as goal

pub returns-clause-none : goal.returns-clause-none
returns-clause-none c =
    if_none _ _ c.number.result (λ only n few e. only n few (append_cancel_left c.args.front.now c.in_ok-word.word.now (decimal n) (sym c.in_ok-word.ensures.found ∙ e))) c.number.ensures.none
