use Rattle.script_run.proofs.FirstBeside.{first_text_beside}
use Rattle.script_run.proofs.law.a_first_file_is_made_beside_a_worker.Goals as goal

pub returns : goal.returns
returns c = first_text_beside
