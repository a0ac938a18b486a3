use Rattle.std.proofs.Common.{◌≡◌, ◌<◌, ◌≤◌, length, arith, ap, sym, ◌∙◌}
use Rattle.std.proofs.lemmas.Bool.{false≢true}
use Rattle.std.proofs.lemmas.Bool.Decides.{nat_tests}
use Rattle.credit_pool.specs.States.{without}
use Rattle.credited_files.proofs.Others.{all_others, not_out}
use Rattle.credited_files.proofs.credited.is_served.Goals as goal

pub returns-then-seated-clause-yes : goal.returns-then-seated-clause-yes
returns-then-seated-clause-yes c =
    let less : length (without c.args.caller c.args.out.now.items) < c.args.callers = grind (arith, nat_tests, c.if-others-from.false, c.from.ensures, c.others_out-others.ensures) in
    λ yes. (less, λ no. absurd (false≢true (sym no ∙ c.if-seated.true)))

pub returns-clause-yes : goal.returns-clause-yes
returns-clause-yes c =
    let less : length (without c.args.caller c.args.out.now.items) < c.args.callers = grind (arith, nat_tests, c.if-others-from.false, c.from.ensures, c.others_out-others.ensures) in
    λ yes.
    let same : length (without c.args.caller c.args.out.now.items) ≡ length c.args.out.now.items = grind (arith, nat_tests, yes, c.others_out-others.ensures, c.len.ensures) in (less, λ no. not_out c.args.caller c.args.out.now.items same)

pub returns-then-others-from-clause-no : goal.returns-then-others-from-clause-no
returns-then-others-from-clause-no c = λ no both.
    let less = both.0 in
    let above : c.args.callers ≤ length (without c.args.caller c.args.out.now.items) = grind (arith, nat_tests, c.if-others-from.true, c.from.ensures, c.others_out-others.ensures) in
    absurd (omega (arith, less, above))

pub returns-then-seated-clause-no : goal.returns-then-seated-clause-no
returns-then-seated-clause-no c = λ no both. false≢true (sym no)

pub returns-clause-no : goal.returns-clause-no
returns-clause-no c = λ no both.
    let same = ap length (all_others c.args.caller c.args.out.now.items (both.1 c.if-seated.false)) in
    absurd (grind (arith, nat_tests, no, same, c.others_out-others.ensures, c.len.ensures))
