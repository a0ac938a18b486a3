use Rattle.ubifs_base.specs.RawOf.{raw_of}
use Rattle.sound_image.specs.Breaches.{IsFirstBreach}
use Rattle.sound_image.specs.Masters.{HasMasters}
use Rattle.image_check.proofs.Answered.{told_broken, told_cause, told_met, told_sure}
use Rattle.image_check.proofs.masters.check_masters.Goals as goal

pub returns-clause-met : goal.returns-clause-met
returns-clause-met g c = told_met (HasMasters (g.V.Volume.state c.args.volume.now).holds (raw_of c.args.geometry.now)) c.read_masters.result c.told.result c.told.ensures c.read_masters.ensures.met

pub returns-clause-broken : goal.returns-clause-broken
returns-clause-broken g c = told_broken (IsFirstBreach (g.V.Volume.state c.args.volume.now).holds) c.read_masters.result c.told.result c.told.ensures c.read_masters.ensures.broken

pub returns-clause-cause : goal.returns-clause-cause
returns-clause-cause g c = told_cause (g.V.Volume.state c.args.volume.now).faults (g.V.Volume.state c.read_masters.new.volume).faults c.read_masters.result c.told.result c.told.ensures c.read_masters.ensures.cause

pub returns-clause-sure : goal.returns-clause-sure
returns-clause-sure g c = told_sure (g.V.Volume.state c.args.volume.now) (g.V.Volume.state c.read_masters.new.volume) c.read_masters.result c.told.result c.told.ensures c.read_masters.ensures.sure
