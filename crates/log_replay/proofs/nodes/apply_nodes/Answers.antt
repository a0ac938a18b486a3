use Rattle.std.proofs.Common.{◌≡◌, ℕ, ◌+◌, ◌≤◌, length, ap, subst, ◌∙◌, arith}
use Rattle.std.specs.List.{AllByRecursion}
use Rattle.index_tree.specs.Shape.{Shape, shape_weight}
use Rattle.index_tree.specs.Tree.{shape}
use Rattle.leaf_map.specs.Recovered.{leaves_after}
use Rattle.log_replay.specs.Changes.{HasBlockKey}
use Rattle.log_replay.proofs.Rounds.{Leads, lead_on}
use Rattle.log_replay.proofs.nodes.apply_nodes.Goals as goal

weighs : (f g : ℕ) (s t : Shape) (before after most : ℕ) → g ≡ f → before ≡ after + 1 → shape_weight f s + before ≤ most → shape_weight g t ≤ shape_weight g s + 1 → shape_weight f t + after ≤ most
weighs f g s t before after most e b h w =
    let v : shape_weight f t ≤ shape_weight f s + 1 = subst (λ (n : ℕ). shape_weight n t ≤ shape_weight n s + 1) e w in
    omega (arith, b, h, v)

pub loop-node-preserved : goal.loop-node-preserved
loop-node-preserved c =
    let split = c.in-Some.ensures.steps.0 in
    let s = c.loop-node.standing in
    let t = c.apply_node.new.standing in
    let rest = c.next.new.self.rest.items in
    let heavier = c.in_ok-apply_node.ensures.weight in
    let one : length c.loop-node.node-iterator.rest.items ≡ length c.next.new.self.rest.items + 1 = ap length split ∙ omega arith in
    record {
      keys = (subst (AllByRecursion HasBlockKey) split c.loop-node.invariant.keys).1;
      stands = λ kept placed nodes stands. lead_on (leaves_after kept placed) s t c.in-Some.node rest (subst (Leads (leaves_after kept placed) s) split (c.loop-node.invariant.stands kept placed nodes stands)) c.in_ok-apply_node.ensures.stands;
      fanout = heavier.fanout ∙ c.loop-node.invariant.fanout;
      weight = weighs c.args.standing.now.index.fanout s.index.fanout (shape s.index.root) (shape t.index.root) (length c.loop-node.node-iterator.rest.items) (length rest) _ c.loop-node.invariant.fanout one c.loop-node.invariant.weight heavier.weight;
    }
