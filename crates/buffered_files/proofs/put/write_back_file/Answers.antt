use Rattle.std.proofs.Common.{Bool, List, rules, subst, ◌∙◌, arith}
use Rattle.page_cache.specs.declared.ticket.Ticket.{Ticket}
use Rattle.buffered_files.specs.CutLaws.{Puts-none}
use Rattle.buffered_files.proofs.Cutting.{seen_then}
use Rattle.buffered_files.proofs.Growing.{failed_on}
use Rattle.buffered_files.proofs.Filing.{Filing, filing_begins, filing_more, filing_more_within, filing_ends}
use Rattle.buffered_files.proofs.put.write_back_file.Goals as goal

pub loop-ticket-init : goal.loop-ticket-init
loop-ticket-init g c =
    filing_begins (g.B.Backing.outlook c.args.backing.now) (g.B.Backing.state c.args.backing.now) c.args.kept.now c.args.ino c.into_iter-ticket-iterator.result.rest.items
    c.requires.kept c.requires.paid (c.into_iter-ticket-iterator.ensures.into_iter_gives.0 ∙ c.in_ok-tickets.ensures)

pub loop-ticket-preserved : goal.loop-ticket-preserved
loop-ticket-preserved g c =
    let old = g.B.Backing.state c.args.backing.now in
    let now = g.B.Backing.state c.loop-ticket.backing in
    let x = g.B.Backing.outlook c.args.backing.now in
    let y = g.B.Backing.outlook c.loop-ticket.backing in
    let P : List Ticket → Type 0 = λ left. Filing x y old now c.args.kept.now c.loop-ticket.kept c.args.ino left in
    filing_more x y (g.B.Backing.outlook c.put_ticket.new.backing) old now (g.B.Backing.state c.put_ticket.new.backing) c.args.kept.now c.loop-ticket.kept c.put_ticket.new.kept c.args.ino c.in-Some.ticket c.next.new.self.rest.items c.in_ok-put_ticket.field-0 c.requires.kept
    (subst P c.in-Some.ensures.steps.0 c.loop-ticket.invariant)
    c.put_ticket.ensures.kept c.put_ticket.ensures.same c.put_ticket.ensures.paid c.put_ticket.ensures.issued c.in_ok-put_ticket.ensures.put c.in_ok-put_ticket.ensures.pages c.put_ticket.ensures.inodes c.put_ticket.ensures.handles c.put_ticket.ensures.goes c.in_ok-put_ticket.ensures.grows c.put_ticket.ensures.closed c.put_ticket.ensures.cut c.put_ticket.ensures.sure

pub returns-in_err-put_ticket-clause-goes : goal.returns-in_err-put_ticket-clause-goes
returns-in_err-put_ticket-clause-goes g c =
    let old = g.B.Backing.state c.args.backing.now in
    let now = g.B.Backing.state c.loop-ticket.backing in
    let x = g.B.Backing.outlook c.args.backing.now in
    let y = g.B.Backing.outlook c.loop-ticket.backing in
    let P : List Ticket → Type 0 = λ left. Filing x y old now c.args.kept.now c.loop-ticket.kept c.args.ino left in
    filing_more_within x y old now (g.B.Backing.state c.put_ticket.new.backing) c.args.kept.now c.loop-ticket.kept c.args.ino c.in-Some.ticket c.next.new.self.rest.items
    (subst P c.in-Some.ensures.steps.0 c.loop-ticket.invariant) c.put_ticket.ensures.goes

pub returns-clause-pages : goal.returns-clause-pages
returns-clause-pages g c =
    let none = c.in-None.ensures.steps.0 in
    filing_ends (g.B.Backing.outlook c.args.backing.now) (g.B.Backing.outlook c.loop-ticket.backing) (g.B.Backing.state c.args.backing.now) (g.B.Backing.state c.loop-ticket.backing) c.args.kept.now c.loop-ticket.kept c.args.ino _ c.loop-ticket.invariant (omega (arith, none))

pub returns-in_err-put_ticket-clause-grows : goal.returns-in_err-put_ticket-clause-grows
returns-in_err-put_ticket-clause-grows g c =
    let f = failed_on Bool (Unit {0}) c.in_err-put_ticket.field-0.0 (g.B.Backing.state c.args.backing.now) (g.B.Backing.state c.loop-ticket.backing) (g.B.Backing.state c.put_ticket.new.backing) c.args.kept.now c.loop-ticket.kept c.put_ticket.new.kept c.loop-ticket.invariant.grows c.in_err-put_ticket.ensures.grows in
    search (rules, f)

pub returns-in_err-put_ticket-clause-closed : goal.returns-in_err-put_ticket-clause-closed
returns-in_err-put_ticket-clause-closed g c = let before = c.loop-ticket.invariant.closed in let more = c.put_ticket.ensures.closed in omega (arith, before, more)

pub returns-clause-grows : goal.returns-clause-grows
returns-clause-grows g c = c.loop-ticket.invariant.grows

pub returns-clause-closed : goal.returns-clause-closed
returns-clause-closed g c = c.loop-ticket.invariant.closed

pub returns-in_err-tickets-clause-cut : goal.returns-in_err-tickets-clause-cut
returns-in_err-tickets-clause-cut g c = Puts-none _ (g.B.Backing.state c.args.backing.now).journal

pub returns-in_err-put_ticket-clause-cut : goal.returns-in_err-put_ticket-clause-cut
returns-in_err-put_ticket-clause-cut g c =
    let w = c.loop-ticket.invariant in
    seen_then (g.B.Backing.state c.args.backing.now) (g.B.Backing.state c.loop-ticket.backing) (g.B.Backing.state c.put_ticket.new.backing) c.args.kept.now c.loop-ticket.kept c.requires.kept w.fits w.same w.cut c.put_ticket.ensures.cut

pub returns-clause-cut : goal.returns-clause-cut
returns-clause-cut g c = c.loop-ticket.invariant.cut
