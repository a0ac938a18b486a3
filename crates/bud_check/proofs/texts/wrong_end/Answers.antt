use Rattle.std.proofs.Common.{Option, sym, subst}
use Rattle.bud_check.specs.Findings.{IsFirstFound, IsWrongEnd}
use Rattle.bud_check.specs.declared.bud_wrong.BudWrong.{BudWrong}
use Rattle.bud_check.proofs.TextFirsts.{end_fine, end_needs}
use Rattle.bud_check.proofs.texts.wrong_end.Goals as goal

pub returns : goal.returns
returns c = end_needs c.args.leb.now c.args.lnum c.args.end c.in_ok-what.what c.needed_feature.result c.in_ok-what.was c.in_ok-what.ensures.some c.needed_feature.ensures.only

pub returns-in_err-what : goal.returns-in_err-what
returns-in_err-what c =
    let P : Option BudWrong → Type 0 = λ o. IsFirstFound (IsWrongEnd c.args.leb.now c.args.lnum c.args.end) o in
    subst P (sym c.from_residual.ensures) (end_fine c.args.leb.now c.args.lnum c.args.end c.needed_feature.result c.in_err-what.was c.needed_feature.ensures.only)
