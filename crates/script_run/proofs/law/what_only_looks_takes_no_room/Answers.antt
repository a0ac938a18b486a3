use Rattle.script_run.proofs.RoomLaws.{looks_take_none}
use Rattle.script_run.proofs.law.what_only_looks_takes_no_room.Goals as goal

pub returns : goal.returns
returns c = looks_take_none
