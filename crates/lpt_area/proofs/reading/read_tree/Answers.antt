use Rattle.ubifs_base.specs.RawOf.{raw_of}
use Rattle.lpt_area.proofs.Counts.{tree_count, if_some}
use Rattle.lpt_area.proofs.reading.read_tree.Goals as goal

pub returns-clause-count : goal.returns-clause-count
returns-clause-count g c =
    if_some c.read_below.result _ _ (λ props h. tree_count (raw_of c.args.geo.now) (g.V.Volume.state c.args.volume.now).holds c.root-root.result props.items c.args.geo.now.in_range h) c.read_below.ensures.found
