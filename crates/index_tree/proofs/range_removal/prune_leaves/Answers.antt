use Rattle.std.proofs.Common.{rules, ◌≡◌, ap, arith, length, not}
use Rattle.std.proofs.lemmas.Fn.{filter_same}
use Rattle.index_tree.specs.RangeRemoval.{in_range, outside_range}
use Rattle.index_tree.proofs.Pruning.{range-parts}
use Rattle.index_tree.proofs.range_removal.prune_leaves.Goals as goal

pub returns-clause-left : goal.returns-clause-left
returns-clause-left c =
    let xs = c.args.leaves.now.items in
    let is : c.retain.new.self.items ≡ outside_range c.args.from c.args.to xs = filter_same _ (λ x. not (in_range c.args.from c.args.to x)) _ (λ x b f' k. search rules) _ _ c.retain.ensures.filtered in
    is

pub returns-clause-answer : goal.returns-clause-answer
returns-clause-answer c =
    let xs = c.args.leaves.now.items in
    let is : c.retain.new.self.items ≡ outside_range c.args.from c.args.to xs = filter_same _ (λ x. not (in_range c.args.from c.args.to x)) _ (λ x b f' k. search rules) _ _ c.retain.ensures.filtered in
    let many = ap length is in
    omega (arith, many, range-parts c.args.from c.args.to xs, c.len-before.ensures, c.len.ensures, c.args.leaves.now.ok.0, c.retain.new.self.ok.0)
