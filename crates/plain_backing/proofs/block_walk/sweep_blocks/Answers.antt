use Rattle.std.proofs.Common.{rules, ◌∙◌}
use Rattle.plain_backing.proofs.Clearing.{walk_sweeps}
use Rattle.plain_backing.proofs.block_walk.sweep_blocks.Goals as goal

pub loop-cell-preserved : goal.loop-cell-preserved
loop-cell-preserved c =
    let steps = c.next.ensures.steps in
    (c.in-Some.ensures.goes.keeps, steps.0 ∙ c.loop-cell.invariant.1, walk_sweeps _ _ _ (λ f k v b w g t. search rules) (λ range. tt) _ _ _ _ _ steps.2 ∙ c.loop-cell.invariant.2)

pub returns : goal.returns
returns c =
    let steps = c.next.ensures.steps in
    let named = steps.0 ∙ c.loop-cell.invariant.1 in
    let told = walk_sweeps _ _ _ (λ f k v b w g t. search rules) (λ range. tt) _ _ _ _ _ steps.2 ∙ c.loop-cell.invariant.2 in
    record { same = search (rules, named, told) }
