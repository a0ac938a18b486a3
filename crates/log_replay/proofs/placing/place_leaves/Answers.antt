use Rattle.std.proofs.Common.{arith}
use Rattle.log_replay.proofs.FromLast.{lighter_on, none_left, place_end, place_on}
use Rattle.log_replay.proofs.placing.place_leaves.Goals as goal

pub placing-preserved : goal.placing-preserved
placing-preserved c = record {
  placing = λ found settled. place_on found c.placing.left.items c.pop.new.self.items c.in-Some.read c.placing.standing c.place_leaf.new.standing c.in-Some.ensures.items (c.placing.invariant.placing found settled) c.in_ok-place_leaf.ensures.places;
  weight = lighter_on c.args.standing.now c.placing.standing c.place_leaf.new.standing c.placing.invariant.weight c.place_leaf.ensures.weight;
}

pub returns-clause-placed : goal.returns-clause-placed
returns-clause-placed c found settled = place_end found c.placing.left.items c.placing.standing (none_left c.placing.left.items (omega (arith, c.in_default.ensures.cases.0))) (c.placing.invariant.placing found settled)
