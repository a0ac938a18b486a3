use Rattle.script_run.proofs.RoomLaws.{full_takes_none}
use Rattle.script_run.proofs.law.what_names_fill_takes_no_more.Goals as goal

pub returns : goal.returns
returns c = full_takes_none
