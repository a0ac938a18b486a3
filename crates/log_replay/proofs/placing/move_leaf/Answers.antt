use Rattle.std.proofs.Common.{rules, sym, ◌∙◌}
use Rattle.log_replay.specs.Standing.{leaves_in}
use Rattle.log_replay.proofs.Swaps.{moved_itself}
use Rattle.log_replay.proofs.placing.move_leaf.Goals as goal

pub returns-else-ne-clause-leaves : goal.returns-else-ne-clause-leaves
returns-else-ne-clause-leaves c =
    moved_itself c.args.place c.args.leaf.now (leaves_in c.args.standing.now) (sym c.at_place.ensures ∙ search (rules, c.if-ne.false)) (λ e. c.is_key.ensures.fits c.if-not-is_key.false) c.args.standing.now.index.keyed
