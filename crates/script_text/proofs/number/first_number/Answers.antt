use Rattle.std.proofs.Common.{arith, sym, ◌∙◌, ◌≡◌}
use Rattle.std.specs.Fmt.{decimal}
use Rattle.script_text.proofs.Cutting.{cut_once, not_cut, lacks_decimal}
use Rattle.script_text.proofs.number.first_number.Goals as goal

pub returns-in-None-number-clause-none : goal.returns-in-None-number-clause-none
returns-in-None-number-clause-none c = λ n rest below e.
    let same : c.in-Some.word.now ≡ decimal n = (cut_once c.args.separator c.in-Some.word.now c.in-Some.rest.now (decimal n) rest c.in-Some.ensures.first (lacks_decimal c.args.separator n (omega arith) (omega arith)) (sym c.in-Some.ensures.found ∙ e)).0 in
    c.in-None-number.ensures.none n below same

pub returns-in-None-clause-none : goal.returns-in-None-clause-none
returns-in-None-clause-none c = λ n rest below e. not_cut c.args.separator c.args.bytes.now (decimal n) rest c.in-None.ensures.none e
