use Rattle.std.proofs.Common.{rules, tests, ap, sym, ◌∙◌}
use Rattle.std.specs.Prelude.{◌==◌}
use Rattle.std.proofs.lemmas.Iterator.Consumers.{YieldsList-end}
use Rattle.std.proofs.lemmas.Iterator.Splits.{YieldsList-from_slice_split}
use Rattle.op_groups.proofs.Parts.{slashes_split}
use Rattle.op_groups.proofs.paths.parts_of.Goals as goal

pub returns : goal.returns
returns c =
    let k = c.into_iter-name-iterator.ensures.into_iter_gives in
    let all = YieldsList-end (YieldsList-from_slice_split _ (λ b. b == 47) c.args.names.now (ap (λ s. s.rest.now) k ∙ c.split-name-items.ensures.rest) (ap (λ s. s.done) k ∙ c.split-name-items.ensures.done) (ap (λ s. s.pred) k ∙ c.split-name-items.ensures.closure) (λ x b q k. search (rules, tests))) c.loop-name.yielded _ c.loop-name.yielded_by c.next.result _ c.in-None.is c.next.ensures.steps in
    c.loop-name.invariant ∙ (all.0 ∙ sym (slashes_split c.args.names.now))
