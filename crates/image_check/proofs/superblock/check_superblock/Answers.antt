use Rattle.ubifs_base.specs.RawOf.{raw_of}
use Rattle.ubifs_base.specs.declared.geometry.Geometry.{Geometry}
use Rattle.sound_image.specs.Breaches.{IsFirstBreach}
use Rattle.sound_image.specs.Superblock.{HasSuperblock}
use Rattle.image_check.proofs.Answered.{told_broken, told_cause, told_met, told_sure}
use Rattle.image_check.proofs.superblock.check_superblock.Goals as goal

pub returns-clause-met : goal.returns-clause-met
returns-clause-met g c = told_met (λ (geometry : Geometry). HasSuperblock (g.V.Volume.state c.args.volume.now).holds (raw_of geometry)) c.read_superblock.result c.told.result c.told.ensures c.read_superblock.ensures.met

pub returns-clause-broken : goal.returns-clause-broken
returns-clause-broken g c = told_broken (IsFirstBreach (g.V.Volume.state c.args.volume.now).holds) c.read_superblock.result c.told.result c.told.ensures c.read_superblock.ensures.broken

pub returns-clause-cause : goal.returns-clause-cause
returns-clause-cause g c = told_cause (g.V.Volume.state c.args.volume.now).faults (g.V.Volume.state c.read_superblock.new.volume).faults c.read_superblock.result c.told.result c.told.ensures c.read_superblock.ensures.cause

pub returns-clause-sure : goal.returns-clause-sure
returns-clause-sure g c = told_sure (g.V.Volume.state c.args.volume.now) (g.V.Volume.state c.read_superblock.new.volume) c.read_superblock.result c.told.result c.told.ensures c.read_superblock.ensures.sure
