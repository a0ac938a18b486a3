use Rattle.std.proofs.Common.{refl, rules}
use Rattle.ubifs_base.specs.RawOf.{raw_of}
use Rattle.image_check.specs.PropertyWalk.{lpt_leb_in, nnodes}
use Rattle.image_check.proofs.WalkedRows.{row_end, row_next, row_start}
use Rattle.image_check.proofs.property_rows.nnode_row.Goals as goal

pub reading-init : goal.reading-init
reading-init c = row_start (nnodes (raw_of c.args.geo.now)) c.args.root (lpt_leb_in (raw_of c.args.geo.now) c.args.area.now) c.args.row.now c.args.row.now c.args.first _ c.new-all.ensures.items refl

pub reading-preserved : goal.reading-preserved
reading-preserved c =
    row_next (nnodes (raw_of c.args.geo.now)) c.args.root (lpt_leb_in (raw_of c.args.geo.now) c.args.area.now) c.args.row.now c.reading.left.now c.in-Some.rest.now c.in-Some.place.now c.args.first c.reading.now c.nnode_at-next.result.1 c.reading.all.items c.nnode_at-next.result.0 c.extend_from_slice.new.self.items c.reading.invariant c.in-Some.ensures.cases.0
    c.nnode_at-next.ensures (search (rules, c.in_ok-extend_from_slice.ensures.items))

pub returns : goal.returns
returns c = row_end (nnodes (raw_of c.args.geo.now)) c.args.root (lpt_leb_in (raw_of c.args.geo.now) c.args.area.now) c.args.row.now c.reading.left.now c.args.first c.reading.now c.reading.all.items c.reading.invariant c.in_default.ensures.cases
