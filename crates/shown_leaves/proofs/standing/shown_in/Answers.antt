use Rattle.std.proofs.Common.{arith, refl, slice_index}
use Rattle.group_nodes.specs.LengthLaws.{leaf_length}
use Rattle.shown_leaves.proofs.Stored.{ok_map}
use Rattle.shown_leaves.proofs.StandingNodes.{of_block, of_entry, of_inode, of_none, of_truncation}
use Rattle.shown_leaves.proofs.standing.shown_in.Goals as goal

pub returns-then-bytes-le-TYPE_PLACE : goal.returns-then-bytes-le-TYPE_PLACE
returns-then-bytes-le-TYPE_PLACE c = λ sqnum group node h.
    let long = (leaf_length c.args.bytes.now sqnum group node h).0 in
    let short = c.if-bytes-le-TYPE_PLACE.true in
    absurd (omega (arith, long, short))

pub returns-in-0 : goal.returns-in-0
returns-in-0 c = of_inode c.args.bytes.now (λ i. omega (arith, c.type_inv.bytes i)) (slice_index c.args.bytes.now 20) refl c.inode_in.result c.in-0.is c.inode_in.ensures

pub returns-in-1 : goal.returns-in-1
returns-in-1 c = of_block c.args.bytes.now (λ i. omega (arith, c.type_inv.bytes i)) (slice_index c.args.bytes.now 20) refl c.block_in.result c.in-1.is c.block_in.ensures

pub returns-in-2 : goal.returns-in-2
returns-in-2 c = ok_map c.entry_in.result _ _ (λ s told. of_entry c.args.bytes.now (λ i. omega (arith, c.type_inv.bytes i)) (slice_index c.args.bytes.now 20) refl s c.in-2.is told) c.entry_in.ensures

pub returns-in-4 : goal.returns-in-4
returns-in-4 c = ok_map c.truncation_in.result _ _ (λ s told. of_truncation c.args.bytes.now (λ i. omega (arith, c.type_inv.bytes i)) (slice_index c.args.bytes.now 20) refl s c.in-4.is told) c.truncation_in.ensures

pub returns-in_default : goal.returns-in_default
returns-in_default c =
    of_none c.args.bytes.now (λ i. omega (arith, c.type_inv.bytes i)) (slice_index c.args.bytes.now 20) refl
    (λ e. omega (arith, e)) (λ e. omega (arith, e)) (λ e. omega (arith, e)) (λ e. omega (arith, e))
