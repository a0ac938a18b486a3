use Rattle.std.proofs.Common.{List, ap, sym, subst, ◌∙◌}
use Rattle.std.specs.List.{AllZip}
use Rattle.leaf_check.specs.Committed.{IsAnswerTo}
use Rattle.leaf_check.specs.declared.leaf_answer.LeafAnswer.{LeafAnswer}
use Rattle.leaf_check.proofs.CommittedLeaves.{gathered, if_ok}
use Rattle.leaf_check.proofs.answers.answers_of.Goals as goal

pub returns : goal.returns
returns g c =
    let chain = c.in_ok-answers.ensures in
    let slice = ap (λ it. it.base.slice.now) c.map.ensures.base ∙ ap (λ it. it.slice.now) c.with_min_len.ensures.base ∙ c.par_iter.ensures in
    let P : List LeafAnswer → Type 0 = λ answers. AllZip IsAnswerTo c.args.reads.now answers in
    if_ok c.in_ok-answers.answers _ _ _ chain.2 (λ answers made. subst P (sym made.2) (gathered chain.1.0 c.args.reads.now chain.0 made.0 (chain.1.1 ∙ slice) chain.1.2 made.1))
