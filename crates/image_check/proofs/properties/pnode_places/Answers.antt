use Rattle.std.proofs.Common.{List, [], ◌∷◌, ◌++◌, ◌-◌, ◌∙◌, ap, arith, subst}
use Rattle.ubifs_base.specs.RawOf.{raw_of}
use Rattle.media_lpt.specs.declared.nnode.LptPlace.{LptPlace}
use Rattle.sound_image.specs.Properties.{lpt_root}
use Rattle.image_check.specs.PropertyWalk.{IsRowRead, lpt_leb_in, nnodes}
use Rattle.image_check.proofs.AreaLebs.{held_bytes}
use Rattle.image_check.proofs.WholeWalks.{root_in_area, walk_on, walk_start}
use Rattle.image_check.proofs.properties.pnode_places.Goals as goal

pub loop-level-init : goal.loop-level-init
loop-level-init c =
    walk_start (raw_of c.args.geo.now) c.args.master.now (lpt_leb_in (raw_of c.args.geo.now) c.args.area.now) c.tree_height-level.result c.push.new.self.items c.args.geo.now.in_range c.tree_height-level.ensures.number
    (c.in_ok-push.ensures.items ∙ ap (λ (xs : List LptPlace). xs ++ lpt_root c.args.master.now ∷ []) c.new-row.ensures.items)

pub loop-level-preserved : goal.loop-level-preserved
loop-level-preserved c =
    let area = (root_in_area (raw_of c.args.geo.now) c.args.master.now c.requires).0 in
    let more = c.loop-level-test.true in
    let W : List LptPlace → Type 0 = λ row. IsRowRead (nnodes (raw_of c.args.geo.now)) c.args.master.now.lpt_lnum (lpt_leb_in (raw_of c.args.geo.now) c.args.area.now) row c.loop-level.read.first c.in_ok-below.below.all.items c.in_ok-below.below.first in
    walk_on c.one_node.ensures.nnode (raw_of c.args.geo.now) c.args.master.now (lpt_leb_in (raw_of c.args.geo.now) c.args.area.now) c.loop-level.level (c.loop-level.level - 1) c.loop-level.read.all.items c.truncate.new.self.items c.loop-level.read.first c.in_ok-below.below.all.items c.in_ok-below.below.first
    c.row_len.result (held_bytes (raw_of c.args.geo.now) c.args.area.now c.args.master.now.lpt_lnum (λ i. omega (arith, c.type_inv.area i))) (omega (arith, area)) (omega (arith, more)) c.loop-level.invariant (subst W c.deref.ensures.value c.in_ok-below.ensures) c.row_len.ensures c.truncate.ensures.items
