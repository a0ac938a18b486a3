use Rattle.script_text.proofs.Cutting.{not_cut}
use Rattle.script_text.proofs.cut.has_byte.Goals as goal

pub returns-in-Some-clause-found : goal.returns-in-Some-clause-found
returns-in-Some-clause-found c = λ is lacks. not_cut c.args.byte c.args.bytes.now _ _ lacks c.in-Some.ensures.found
