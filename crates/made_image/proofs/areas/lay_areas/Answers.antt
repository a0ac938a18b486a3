use Rattle.ubifs_base.specs.RawOf.{raw_of}
use Rattle.ubi_volume.specs.FrameLaws.{IsSameLeb-then, IsSameLeb-works}
use Rattle.made_image.proofs.Copies.{areas_laid}
use Rattle.made_image.proofs.areas.lay_areas.Goals as goal

pub returns-clause-laid : goal.returns-clause-laid
returns-clause-laid g c =
    areas_laid c.one_text.ensures (raw_of c.args.geometry.now) (g.V.Volume.state c.args.volume.now) (g.V.Volume.state c.start_log.new.volume) (g.V.Volume.state c.put_masters.new.volume) c.args.sqnum c.args.master.now c.put_masters.result
    c.requires.geometry.leb_size c.start_log.ensures.shape.leb_size c.requires.blank c.in_ok-start_log.ensures.done c.start_log.ensures.works c.put_masters.ensures.copied c.put_masters.ensures.others

pub returns-clause-others : goal.returns-clause-others
returns-clause-others g c lnum other none =
    let a = g.V.Volume.state c.args.volume.now in
    let b = g.V.Volume.state c.start_log.new.volume in
    let d = g.V.Volume.state c.put_masters.new.volume in
    IsSameLeb-then a b d lnum (IsSameLeb-works a b 3 lnum _ other c.start_log.ensures.works) (c.put_masters.ensures.others lnum none)
