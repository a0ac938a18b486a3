use Rattle.fs_laws.proofs.Grants.{need_modest}
use Rattle.fs_laws.proofs.law.an_operation_asks_for_little.Goals as goal

pub returns : goal.returns
returns c files caller now op = need_modest files caller now op
