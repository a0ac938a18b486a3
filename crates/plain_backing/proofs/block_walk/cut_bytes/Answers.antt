use Rattle.std.proofs.Common.{◌≡◌, refl, ap, ◌∙◌, arith}
use Rattle.std.specs.BTreeMap.Range.{range_contains}
use Rattle.std.specs.declared.ops.Bound.TheVariants.{Included}
use Rattle.fs_model.specs.Files.{pair_cmp}
use Rattle.plain_backing.proofs.Clearing.{cut_sum, cut_within, cut_in_range, cut_and_kept, cut_fits}
use Rattle.plain_backing.proofs.Listing.{forward}
use Rattle.plain_backing.proofs.Orders.{pair_cmp-total}
use Rattle.plain_backing.proofs.block_walk.cut_bytes.Goals as goal

pub range-left-requires : goal.range-left-requires
range-left-requires c = forward pair_cmp-total (c.args.ino, c.first_block.result) c.blocks_end.result (c.blocks_end.ensures (c.args.ino, c.first_block.result) refl)

pub loop-key-init : goal.loop-key-init
loop-key-init c =
    let within = cut_within c.args.ino c.args.size c.first_block.result c.blocks_end.result c.first_block.ensures c.blocks_end.ensures in
    let all : cut_sum c.args.ino c.args.size c.range-left.result ≡ cut_sum c.args.ino c.args.size c.args.map.now.entries =
    ap (cut_sum c.args.ino c.args.size) (c.range-left.ensures.between tt) ∙ cut_in_range c.args.ino c.args.size (range_contains pair_cmp (Included (c.args.ino, c.first_block.result)) c.blocks_end.result) within c.args.map.now.entries in
    omega (arith, all)

pub overflow_add-total : goal.overflow_add-total
overflow_add-total c =
    let few = cut_fits c.args.map.now.entries c.loop-key.left c.next.new.self c.args.ino c.args.size c.loop-key.total c.freed_block-total.result c.in-Some.key.now c.in-Some.cell.now c.is_cut.result c.loop-key.invariant c.in-Some.ensures.steps c.is_cut.ensures c.if-is_cut.true c.freed_block-total.ensures c.requires in
    omega (arith, few)

pub returns : goal.returns
returns c =
    let none : cut_sum c.args.ino c.args.size c.loop-key.left ≡ 0 = ap (cut_sum c.args.ino c.args.size) c.in_default.ensures.steps.0 in
    let all = cut_and_kept c.args.map.now.entries c.args.ino c.args.size in
    let so = c.loop-key.invariant in
    omega (arith, none, all, so)
