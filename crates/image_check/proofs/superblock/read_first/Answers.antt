use Rattle.image_check.proofs.Supers.{broken_at, met_at}
use Rattle.image_check.proofs.superblock.read_first.Goals as goal

pub returns-clause-met : goal.returns-clause-met
returns-clause-met g c = met_at (g.V.Volume.state c.args.volume.now).holds c.read_leb.new.out c.geometry_in.result c.in_ok-read_leb.ensures.read c.geometry_in.ensures.met

pub returns-clause-broken : goal.returns-clause-broken
returns-clause-broken g c = broken_at (g.V.Volume.state c.args.volume.now).holds c.read_leb.new.out c.geometry_in.result c.in_ok-read_leb.ensures.read c.geometry_in.ensures.broken
