use Rattle.std.proofs.Common.{List, subst}
use Rattle.std.specs.List.{AllByRecursion}
use Rattle.journal_scan.specs.Journal.{IsReadable}
use Rattle.journal_scan.specs.declared.bud_text.BudText.{BudText}
use Rattle.bud_check.proofs.CleanBuds.{so_far_end, so_far_next, so_far_start, so_far_stop}
use Rattle.bud_check.proofs.TextFirsts.{no_left}
use Rattle.bud_check.proofs.clean.are_clean.Goals as goal

pub reading-init : goal.reading-init
reading-init c = (c.requires, so_far_start c.args.texts.now)

pub is_clean-requires : goal.is_clean-requires
is_clean-requires c =
    let R : List BudText → Type 0 = λ ts. AllByRecursion IsReadable ts in
    (subst R c.in-Some.ensures.cases.0 c.reading.invariant.0).0

pub reading-preserved : goal.reading-preserved
reading-preserved c =
    let i = c.reading.invariant in
    let cut = c.in-Some.ensures.cases.0 in
    let R : List BudText → Type 0 = λ ts. AllByRecursion IsReadable ts in
    ((subst R cut i.0).1, so_far_next c.reading.left.now c.args.texts.now c.in-Some.rest.now c.in-Some.text.now c.is_clean.result cut c.is_clean.ensures c.if-not-is_clean.false i.1)

pub returns-then-not-is_clean : goal.returns-then-not-is_clean
returns-then-not-is_clean c =
    so_far_stop c.reading.left.now c.args.texts.now c.in-Some.rest.now c.in-Some.text.now c.is_clean.result c.in-Some.ensures.cases.0 c.is_clean.ensures c.if-not-is_clean.true c.reading.invariant.1

pub returns : goal.returns
returns c = so_far_end c.reading.left.now c.args.texts.now (no_left c.reading.left.now c.in_default.ensures.cases) c.reading.invariant.1
