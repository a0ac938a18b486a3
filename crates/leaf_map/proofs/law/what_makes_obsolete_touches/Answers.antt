use Rattle.leaf_map.specs.Kept.{shown_by}
use Rattle.leaf_map.proofs.Touches.{goes_touched}
use Rattle.leaf_map.proofs.law.what_makes_obsolete_touches.Goals as goal

pub returns : goal.returns
returns c changes tree x sorted has shows h = goes_touched changes tree (shown_by x) sorted has shows h
