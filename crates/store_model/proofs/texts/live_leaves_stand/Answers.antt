use Rattle.store_model.proofs.StandEvents.{each_stands}
use Rattle.store_model.proofs.texts.live_leaves_stand.Goals as goal

pub returns : goal.returns
returns c = each_stands
