use Rattle.ubifs_base.specs.RawOf.{raw_of}
use Rattle.volume_format.proofs.Areas.{areas_laid}
use Rattle.volume_format.proofs.formatting.lay_areas.Goals as goal

pub returns-clause-laid : goal.returns-clause-laid
returns-clause-laid g c =
    areas_laid (raw_of c.args.geometry.now) (g.V.Volume.state c.args.volume.now) (g.V.Volume.state c.start_log.new.volume) (g.V.Volume.state c.put_masters.new.volume) c.args.at.now c.put_masters.result
    c.in_ok-start_log.ensures.done c.start_log.ensures.works c.put_masters.ensures.latest c.put_masters.ensures.others
