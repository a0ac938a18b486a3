use Rattle.laid_index.proofs.Few.{few_lebs}
use Rattle.laid_index.proofs.law.an_index_takes_few_lebs.Goals as goal

pub returns : goal.returns
returns c = λ geo leaves weight ranges some le. few_lebs geo ranges leaves weight some le
