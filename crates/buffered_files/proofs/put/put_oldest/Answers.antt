use Rattle.std.proofs.Common.{sym, ◌∙◌}
use Rattle.buffered_files.specs.CutLaws.{Puts-none}
use Rattle.buffered_files.proofs.Putting.{oldest_put, oldest_left, none_dirty}
use Rattle.buffered_files.proofs.put.put_oldest.Goals as goal

pub returns-in-Some-clause-put : goal.returns-in-Some-clause-put
returns-in-Some-clause-put g c =
    oldest_put c.put_ticket.result c.args.kept.now.pages c.put_ticket.new.kept.pages c.in-Some.ticket (sym c.oldest.ensures ∙ c.in-Some.is) c.put_ticket.ensures.put

pub returns-in-Some-clause-pages : goal.returns-in-Some-clause-pages
returns-in-Some-clause-pages g c =
    oldest_left c.put_ticket.result c.args.kept.now.pages c.put_ticket.new.kept.pages c.in-Some.ticket (sym c.oldest.ensures ∙ c.in-Some.is) c.put_ticket.ensures.put c.put_ticket.ensures.pages

pub returns-in-None-clause-put : goal.returns-in-None-clause-put
returns-in-None-clause-put g c = none_dirty c.args.kept.now.pages (sym c.oldest.ensures ∙ c.in-None.is)

pub returns-in-None-clause-cut : goal.returns-in-None-clause-cut
returns-in-None-clause-cut g c = Puts-none _ (g.B.Backing.state c.args.backing.now).journal
