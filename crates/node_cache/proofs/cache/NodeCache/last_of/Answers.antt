use Rattle.std.proofs.Common.{ap, sym, ◌∙◌}
use Rattle.index_tree.specs.LastBlock.{last_block}
use Rattle.index_tree.specs.Shape.{contents}
use Rattle.index_media.specs.PlacedRow.{plain}
use Rattle.node_cache.proofs.Entered.{entered, root_said}
use Rattle.node_cache.specs.LastBlockLaws.{block_found, block_missing, none_up_to}
use Rattle.node_cache.proofs.LastBlocks.{row_ascends}
use Rattle.node_cache.proofs.cache.NodeCache.last_of.Goals as goal

pub level_at-requires : goal.level_at-requires
level_at-requires g c =
    let own = c.requires.index in
    let p = root_said (g.V.Volume.state c.args.volume.now) own.0 c.args.root.now own.1 own.2 in
    record { lnum = p.0; node = (p.1, p.2); kept = c.requires.kept }

pub last_below-requires : goal.last_below-requires
last_below-requires g c =
    let a = g.V.Volume.state c.args.volume.now in
    let b = g.V.Volume.state c.level_at.new.volume in
    let own = c.requires.index in
    let e = entered a b own.0 _ c.args.root.now own.1 own.2 c.level_at.ensures.reads.keeps c.level_at.ensures.reads.shape c.in_ok-level.ensures.level in
    record { row = (own.0, e.children, e.on); kept = c.level_at.ensures.kept }

pub returns-in-None-clause-found : goal.returns-in-None-clause-found
returns-in-None-clause-found g c = λ fanout placed on.
    let a = g.V.Volume.state c.args.volume.now in
    let b = g.V.Volume.state c.level_at.new.volume in
    let e = entered a b fanout _ c.args.root.now placed on c.level_at.ensures.reads.keeps c.level_at.ensures.reads.shape c.in_ok-level.ensures.level in
    let leaves = contents (plain e.children) in
    let found = c.in_ok-last_below.ensures.found fanout e.children e.on in
    none_up_to c.args.ino c.last_rank.result leaves (row_ascends b fanout _ e.children e.row) c.last_rank.ensures (sym c.in-None.is ∙ found) ∙ ap (last_block c.args.ino) (sym e.leaves)

pub returns-then-is_block_of-clause-found : goal.returns-then-is_block_of-clause-found
returns-then-is_block_of-clause-found g c = λ fanout placed on.
    let a = g.V.Volume.state c.args.volume.now in
    let b = g.V.Volume.state c.level_at.new.volume in
    let e = entered a b fanout _ c.args.root.now placed on c.level_at.ensures.reads.keeps c.level_at.ensures.reads.shape c.in_ok-level.ensures.level in
    let leaves = contents (plain e.children) in
    let found = c.in_ok-last_below.ensures.found fanout e.children e.on in
    block_found c.args.ino c.last_rank.result leaves c.in-Some.leaf (row_ascends b fanout _ e.children e.row) c.last_rank.ensures (sym c.in-Some.is ∙ found) (sym c.is_block_of.ensures ∙ c.if-is_block_of.true) ∙ ap (last_block c.args.ino) (sym e.leaves)

pub returns-else-is_block_of-clause-found : goal.returns-else-is_block_of-clause-found
returns-else-is_block_of-clause-found g c = λ fanout placed on.
    let a = g.V.Volume.state c.args.volume.now in
    let b = g.V.Volume.state c.level_at.new.volume in
    let e = entered a b fanout _ c.args.root.now placed on c.level_at.ensures.reads.keeps c.level_at.ensures.reads.shape c.in_ok-level.ensures.level in
    let leaves = contents (plain e.children) in
    let found = c.in_ok-last_below.ensures.found fanout e.children e.on in
    block_missing c.args.ino c.last_rank.result leaves c.in-Some.leaf (row_ascends b fanout _ e.children e.row) c.last_rank.ensures (sym c.in-Some.is ∙ found) (sym c.is_block_of.ensures ∙ c.if-is_block_of.false) ∙ ap (last_block c.args.ino) (sym e.leaves)
