use Rattle.std.proofs.Common.{◌∙◌}
use Rattle.index_tree.specs.Shape.{contents}
use Rattle.index_tree.specs.Tree.{shape}
use Rattle.log_replay.proofs.Swaps.{swapped_itself}
use Rattle.log_replay.proofs.index_calls.stands.Goals as goal

pub returns-then-is_key-clause-leaves : goal.returns-then-is_key-clause-leaves
returns-then-is_key-clause-leaves c =
    c.replace.ensures.contents ∙ swapped_itself c.args.leaf.now (contents (shape c.args.index.now.root)) (c.is_key.ensures.fits c.if-is_key.true) c.args.index.now.keyed
