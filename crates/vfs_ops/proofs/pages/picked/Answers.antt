use Rattle.std.proofs.Common.{Some, sym, ap, ◌∙◌}
use Rattle.page_cache.specs.declared.ticket.Ticket.{Ticket}
use Rattle.vfs_ops.proofs.Picking.{none_dirty, shown}
use Rattle.vfs_ops.proofs.pages.picked.Goals as goal

pub returns-in-None : goal.returns-in-None
returns-in-None c = none_dirty c.args.kept.now.pages (sym c.in-None.ensures)

pub returns-in-Ok : goal.returns-in-Ok
returns-in-Ok c = (sym c.in-Some.ensures ∙ ap (λ (t : Ticket). Some t) c.in-Ok.ensures.ticket, c.in-Ok.ensures.page)

pub returns-in-Err : goal.returns-in-Err
returns-in-Err c = (shown c.args.kept.now c.requires c.in-Some.ticket (sym c.in-Some.ensures)).some
