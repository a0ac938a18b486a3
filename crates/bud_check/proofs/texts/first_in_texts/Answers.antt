use Rattle.std.proofs.Common.{List, ◌++◌, ◌∷◌, [], sym, subst, ap, refl, ◌∙◌, append_assoc, append-nil}
use Rattle.std.specs.List.{AllByRecursion}
use Rattle.journal_scan.specs.Journal.{IsReadable}
use Rattle.journal_scan.specs.declared.bud_text.BudText.{BudText}
use Rattle.bud_check.specs.Findings.{IsFirstFound, IsWrongTexts}
use Rattle.bud_check.proofs.TextFirsts.{no_left, texts_next, texts_none}
use Rattle.bud_check.proofs.texts.first_in_texts.Goals as goal

pub reading-init : goal.reading-init
reading-init c = (c.requires, [], refl, texts_none)

pub first_in_text-requires : goal.first_in_text-requires
first_in_text-requires c =
    let R : List BudText → Type 0 = λ ts. AllByRecursion IsReadable ts in
    (subst R c.in-Some.ensures.cases.0 c.reading.invariant.0).0

pub reading-preserved : goal.reading-preserved
reading-preserved c =
    let i = c.reading.invariant in
    let cut = c.in-Some.ensures.cases.0 in
    let R : List BudText → Type 0 = λ ts. AllByRecursion IsReadable ts in
    let text = c.in-Some.text.now in
    let rest = c.in-Some.rest.now in (
      (subst R cut i.0).1,
      i.1 ++ text ∷ [],
      append_assoc i.1 (text ∷ []) rest ∙ ap (λ (ts : List BudText). i.1 ++ ts) (sym cut) ∙ i.2,
      texts_next i.1 text c.reading.first c.first_in_text.result c.first_wrong-first.result c.first_wrong-first.ensures i.3 c.first_in_text.ensures,
    )

pub returns : goal.returns
returns c =
    let i = c.reading.invariant in
    let P : List BudText → Type 0 = λ ts. IsFirstFound (IsWrongTexts ts) c.reading.first in
    subst P (sym (append-nil i.1) ∙ ap (λ (ts : List BudText). i.1 ++ ts) (sym (no_left c.reading.left.now c.in_default.ensures.cases)) ∙ i.2) i.3
