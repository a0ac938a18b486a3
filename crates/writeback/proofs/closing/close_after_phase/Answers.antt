use Rattle.std.proofs.Common.{rules}
use Rattle.writeback.proofs.JobLines.{all_closed, all_of_word}
use Rattle.writeback.proofs.closing.close_after_phase.Goals as goal

pub close-requires : goal.close-requires
close-requires g c = (search rules, all_of_word g.J.Site.word g.J.Site.pool c.args.jobs.items c.in-Ok.passes.items c.requires.jobs c.in-Ok.ensures.ran)

pub returns-in-Ok-clause-lines : goal.returns-in-Ok-clause-lines
returns-in-Ok-clause-lines g c = all_closed c.close.result.trace.items c.args.jobs.items c.in-Ok.passes.items c.in-Ok.ensures.ran c.close.ensures.passes
