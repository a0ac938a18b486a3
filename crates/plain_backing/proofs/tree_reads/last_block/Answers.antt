use Rattle.std.proofs.Common.{sym, ◌∙◌, refl}
use Rattle.plain_backing.proofs.Listing.{forward, last_begins, last_found, last_passed, and_none, and_other}
use Rattle.plain_backing.proofs.Orders.{pair_cmp-total}
use Rattle.plain_backing.proofs.tree_reads.last_block.Goals.{else-key-ino-via-then-key-ino+else-is_some, else-key-ino-via-else-key-ino}
use Rattle.plain_backing.proofs.tree_reads.last_block.Goals as goal

pub range-left-requires : goal.range-left-requires
range-left-requires c = forward pair_cmp-total (c.args.ino, 0) c.blocks_end.result (c.blocks_end.ensures (c.args.ino, 0) refl)

pub loop-key-init : goal.loop-key-init
loop-key-init c = last_begins c.args.ino c.blocks_end.result c.args.map.now.entries c.range-left.result c.blocks_end.ensures c.range-left.ensures.ordered (c.range-left.ensures.between tt)

pub returns-then-is_some : goal.returns-then-is_some
returns-then-is_some c = last_found c.args.map.now.entries c.loop-key.left c.next_back.new.self c.args.ino c.in-Some.key.now c.in-Some.cell.now c.loop-key.invariant c.in-Some.ensures.steps c.if-key-ino.true (sym c.is_some.ensures ∙ c.if-is_some.true)

pub loop-key-preserved : goal.loop-key-preserved
loop-key-preserved c = elim c.else-key-ino.branch [
  | else-key-ino-via-then-key-ino+else-is_some w ↦ last_passed c.args.map.now.entries c.loop-key.left c.next_back.new.self c.args.ino c.in-Some.key.now c.in-Some.cell.now c.loop-key.invariant c.in-Some.ensures.steps (and_none _ c.in-Some.cell.now (sym w.is_some.ensures ∙ w.if-is_some.false))
  | else-key-ino-via-else-key-ino w ↦ last_passed c.args.map.now.entries c.loop-key.left c.next_back.new.self c.args.ino c.in-Some.key.now c.in-Some.cell.now c.loop-key.invariant c.in-Some.ensures.steps (and_other _ _ _ w.if-key-ino.false)
]
