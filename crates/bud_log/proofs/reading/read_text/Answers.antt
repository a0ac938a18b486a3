use Rattle.bud_log.specs.References.{seen_begins}
use Rattle.bud_log.proofs.reading.read_text.Goals as goal

pub returns-clause-begins : goal.returns-clause-begins
returns-clause-begins g c = seen_begins c.read_leb.new.out c.see-seen.result c.see-seen.ensures
