use Rattle.std.proofs.Common.{rules}
use Rattle.plain_backing.specs.BlockWalk.{is_block_cut}
use Rattle.plain_backing.proofs.Clearing.{cut_within, walk_empties}
use Rattle.plain_backing.proofs.block_walk.empty_cells.Goals as goal

pub returns : goal.returns
returns c =
    let walk = c.extract_if-walk.ensures in
    let told = walk_empties _ _ _ (is_block_cut c.args.ino c.args.size) _ (cut_within c.args.ino c.args.size c.first_block.result c.blocks_end.result c.first_block.ensures c.blocks_end.ensures)
    _ (λ k v b w g t. search rules) _ tt c.args.map.now _ _ _ _ _ walk.unchanged walk.holds (walk.rest tt) c.next.ensures.steps.2 in
    search (rules, told)
