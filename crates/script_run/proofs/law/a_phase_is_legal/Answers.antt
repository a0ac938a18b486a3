use Rattle.script_run.proofs.LegalPhase.{legal_phase}
use Rattle.script_run.proofs.law.a_phase_is_legal.Goals as goal

pub returns : goal.returns
returns c = legal_phase
