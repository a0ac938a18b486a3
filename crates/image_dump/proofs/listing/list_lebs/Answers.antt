use Rattle.std.proofs.Common.{rules, length-take, length-append, length-drop}
use Rattle.ubifs_base.specs.RawOf.{raw_of}
use Rattle.lpt_area.specs.KeptLaws.{kept_next, sure_of_area}
use Rattle.image_dump.proofs.Listed.{listing_next}
use Rattle.image_dump.proofs.listing.list_lebs.Goals as goal

pub loop-lnum-preserved : goal.loop-lnum-preserved
loop-lnum-preserved g c =
    let old = g.V.Volume.state c.args.volume.now in
    let now = g.V.Volume.state c.loop-lnum.volume in
    let new = g.V.Volume.state c.list_leb.new.volume in
    let before = c.loop-lnum.invariant in
    let listed = c.in_ok-list_leb.ensures.listed in
    record {
      listing = listing_next (raw_of c.args.geometry.now) old now c.loop-lnum.lnum c.loop-lnum.text.items c.list_leb.new.text.items listed.0 before.listing before.kept.keeps listed.1 listed.2;
      kept = kept_next old now new before.kept c.list_leb.ensures.keeps c.list_leb.ensures.shape c.in_ok-list_leb.ensures.cause (sure_of_area now new c.list_leb.result c.list_leb.ensures.sure);
      len = search (rules, length-take, length-append, length-drop);
    }
