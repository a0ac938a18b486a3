use Rattle.lpt_area.proofs.Growing.{tree_among}
use Rattle.lpt_area.proofs.laws.still_there.Goals as goal

pub returns : goal.returns
returns c geo holds lnum leb root props = tree_among geo lnum leb holds root props
