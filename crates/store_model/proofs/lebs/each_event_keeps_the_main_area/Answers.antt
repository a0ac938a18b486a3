use Rattle.store_model.proofs.MainArea.{each_geo, each_main}
use Rattle.store_model.proofs.lebs.each_event_keeps_the_main_area.Goals as goal

pub returns-clause-geometry : goal.returns-clause-geometry
returns-clause-geometry c = each_geo

pub returns-clause-lebs : goal.returns-clause-lebs
returns-clause-lebs c = each_main
