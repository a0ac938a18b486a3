use Rattle.std.proofs.Common.{◌∙◌, arith}
use Rattle.ubifs_base.specs.RawOf.{raw_of}
use Rattle.image_check.proofs.AreaLebs.{behind_next, held_at}
use Rattle.image_check.proofs.property_rows.leb_at.Goals as goal

pub loop-before-preserved : goal.loop-before-preserved
loop-before-preserved c =
    let more = c.loop-before-test.true in
    behind_next c.args.geo.now.leb_size c.loop-before._before c.args.lnum c.loop-before.rest.now c.part_from-rest.result.now more c.part_from-rest.ensures ∙ c.loop-before.invariant

pub returns : goal.returns
returns c =
    let done = c.loop-before-test.false in
    held_at (raw_of c.args.geo.now) c.args.area.now c.loop-before.rest.now c.part.result.now c.loop-before._before c.args.lnum (omega (arith, done)) c.loop-before.invariant c.part.ensures
