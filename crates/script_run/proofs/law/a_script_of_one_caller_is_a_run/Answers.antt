use Rattle.script_run.proofs.OneCaller.{run_of_one}
use Rattle.script_run.proofs.law.a_script_of_one_caller_is_a_run.Goals as goal

pub returns : goal.returns
returns c = run_of_one
