use Rattle.ubifs_base.specs.RawOf.{raw_of}
use Rattle.sound_image.specs.Breaches.{IsNoOrphan}
use Rattle.sound_image.specs.OrphanLists.{HasOrphanLists}
use Rattle.sound_image.specs.Wrong.{IsFirstWrong}
use Rattle.sound_image.specs.declared.rule.Rule.TheVariants as rules
use Rattle.image_check.specs.Told.{IsBreachOf}
use Rattle.image_check.proofs.Answered.{told_broken, told_cause, told_met, told_sure}
use Rattle.image_check.proofs.orphan_lists.check_orphans.Goals as goal

pub returns-clause-met : goal.returns-clause-met
returns-clause-met g c = told_met (λ _. HasOrphanLists (g.V.Volume.state c.args.volume.now).holds (raw_of c.args.geometry.now)) c.read_area.result c.told.result c.told.ensures c.read_area.ensures.met

pub returns-clause-broken : goal.returns-clause-broken
returns-clause-broken g c = told_broken (IsBreachOf rules.Orphans (IsFirstWrong (IsNoOrphan (g.V.Volume.state c.args.volume.now).holds (raw_of c.args.geometry.now)))) c.read_area.result c.told.result c.told.ensures c.read_area.ensures.broken

pub returns-clause-cause : goal.returns-clause-cause
returns-clause-cause g c = told_cause (g.V.Volume.state c.args.volume.now).faults (g.V.Volume.state c.read_area.new.volume).faults c.read_area.result c.told.result c.told.ensures c.read_area.ensures.cause

pub returns-clause-sure : goal.returns-clause-sure
returns-clause-sure g c = told_sure (g.V.Volume.state c.args.volume.now) (g.V.Volume.state c.read_area.new.volume) c.read_area.result c.told.result c.told.ensures c.read_area.ensures.sure
