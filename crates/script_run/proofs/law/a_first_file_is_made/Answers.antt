use Rattle.script_run.proofs.FirstFile.{first_text}
use Rattle.script_run.proofs.law.a_first_file_is_made.Goals as goal

pub returns : goal.returns
returns c = first_text
