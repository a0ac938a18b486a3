use Rattle.journal_check.proofs.Added.{beginning_of}
use Rattle.journal_check.proofs.reading.read_first.Goals as goal

pub returns-clause-begins : goal.returns-clause-begins
returns-clause-begins g c = beginning_of c.read_leb.new.out c.see-seen.result c.see-seen.ensures
