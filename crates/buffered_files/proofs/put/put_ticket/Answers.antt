use Rattle.std.proofs.Common.{◌≡◌, Bool, is_some, ap, sym, subst, ◌∙◌}
use Rattle.fs_model.specs.Backing.{page_group}
use Rattle.page_cache.specs.Pages.{without_dirty}
use Rattle.buffered_files.specs.CallLaws.{Goes-put}
use Rattle.buffered_files.proofs.Growing.{page_done, page_failed}
use Rattle.buffered_files.proofs.PagePuts.{put_done, put_failed, same_node}
use Rattle.buffered_files.proofs.TicketCut.{ticket_cut}
use Rattle.buffered_files.proofs.Putting.{at_ticket, putting_of, AfterPut, after_put, is_file_page}
use Rattle.buffered_files.proofs.Taking.{taken, marked, beside, given_back, AfterFault, after_fault, grows_back}
use Rattle.buffered_files.proofs.put.put_ticket.Given.{Over}
use Rattle.buffered_files.proofs.put.put_ticket.Goals as goal

pub taken_page-requires : goal.taken_page-requires
taken_page-requires g c current =
    let o = at_ticket c.args.kept.now.pages c.args.ticket.now current in
    ap is_some (putting_of (g.B.Backing.state c.args.backing.now).tree c.args.kept.now c.args.ticket.now o c.requires.kept).found

pub put_page-requires-clause-fits : goal.put_page-requires-clause-fits
put_page-requires-clause-fits g c proper =
    let kept = c.args.kept.now in
    let ticket = c.args.ticket.now in
    let tree = (g.B.Backing.state c.args.backing.now).tree in
    let e = c.in_ok-page.ensures in
    let t = taken kept c.taken_page.new.kept ticket c.in-Some.page c.in-Some.len c.in_ok-page.field-0 c.in-Some.is e.some e.page e.len e.left in
    let o = at_ticket kept.pages ticket t.current in
    let p = putting_of tree kept ticket o c.requires.kept in
    c.a_page_keeps_trees_proper.ensures tree c.in-Some.page c.requires.kept.proper (is_file_page tree kept ticket c.in-Some.page o p (sym (same_node kept ticket o p.inode p.found c.in-Some.page t.at)))

pub put_page-requires-clause-revives_none : goal.put_page-requires-clause-revives_none
put_page-requires-clause-revives_none g c = (put_page-requires-clause-fits g c c.requires.kept.proper).revives_none

new_pages : (g : Over) (c : goal.After-drop-page-in-Ok-1 g) → c.mark_clean.new.self ≡ without_dirty c.args.kept.now.pages c.args.ticket.now.ino c.args.ticket.now.block
new_pages g c =
    let e = c.in_ok-page.ensures in
    let t = taken c.args.kept.now c.taken_page.new.kept c.args.ticket.now c.in-Some.page c.in-Some.len c.in_ok-page.field-0 c.in-Some.is e.some e.page e.len e.left in
    marked c.args.kept.now c.taken_page.new.kept c.args.ticket.now c.in-Some.page c.in-Some.len t c.mark_clean.new.self c.mark_clean.result c.mark_clean.ensures.current c.mark_clean.ensures.pages

made : (g : Over) (c : goal.After-drop-page-in-Ok-1 g) → AfterPut (g.B.Backing.state c.args.backing.now) (g.B.Backing.state c.put_page.new.self) c.args.kept.now (record c.taken_page.new.kept { pages = c.mark_clean.new.self })
made g c =
    let kept = c.args.kept.now in
    let ticket = c.args.ticket.now in
    let old = g.B.Backing.state c.args.backing.now in
    let new = g.B.Backing.state c.put_page.new.self in
    let e = c.in_ok-page.ensures in
    let t = taken kept c.taken_page.new.kept ticket c.in-Some.page c.in-Some.len c.in_ok-page.field-0 c.in-Some.is e.some e.page e.len e.left in
    let o = at_ticket kept.pages ticket t.current in
    let p = putting_of old.tree kept ticket o c.requires.kept in
    let shown = sym (same_node kept ticket o p.inode p.found c.in-Some.page t.at) in
    let whole = c.a_page_keeps_trees_proper.ensures old.tree c.in-Some.page c.requires.kept.proper (is_file_page old.tree kept ticket c.in-Some.page o p shown) in
    subst (AfterPut old new kept) (beside kept c.taken_page.new.kept ticket c.in-Some.page c.in-Some.len t c.mark_clean.new.self)
    (after_put old new kept c.mark_clean.new.self ticket c.in-Some.page o p c.requires.kept c.dirty-dirty.ensures.cache.apart c.dirty-dirty.ensures.cache.dirty_once shown c.in-Ok.ensures.ok whole.proper (new_pages g c))

pub returns-in-Ok-clause-kept : goal.returns-in-Ok-clause-kept
returns-in-Ok-clause-kept g c = (made g c).fits

pub returns-in-Ok-clause-paid : goal.returns-in-Ok-clause-paid
returns-in-Ok-clause-paid g c = (made g c).paid c.requires.paid

pub returns-in-Ok-clause-same : goal.returns-in-Ok-clause-same
returns-in-Ok-clause-same g c = (made g c).same

pub returns-in-Ok-clause-issued : goal.returns-in-Ok-clause-issued
returns-in-Ok-clause-issued g c = (made g c).issued

pub returns-in-Ok-clause-pages : goal.returns-in-Ok-clause-pages
returns-in-Ok-clause-pages g c = new_pages g c

pub returns-in-Ok-clause-placed : goal.returns-in-Ok-clause-placed
returns-in-Ok-clause-placed g c current page at =
    let kept = c.args.kept.now in
    let ticket = c.args.ticket.now in
    let old = g.B.Backing.state c.args.backing.now in
    let a = c.in_ok-page.ensures in
    let t = taken kept c.taken_page.new.kept ticket c.in-Some.page c.in-Some.len c.in_ok-page.field-0 c.in-Some.is a.some a.page a.len a.left in
    let o = at_ticket kept.pages ticket current in
    let p = putting_of old.tree kept ticket o c.requires.kept in
    let shown = sym (same_node kept ticket o p.inode p.found c.in-Some.page t.at) in
    let e = c.in-Ok.ensures in
    put_done (Unit {0}) Bool old (g.B.Backing.state c.put_page.new.self) c.in-Some.page page tt _ (shown ∙ same_node kept ticket o p.inode p.found page at) e.ok e.mode e.goes e.cut

pub returns-in-Ok-clause-grows : goal.returns-in-Ok-clause-grows
returns-in-Ok-clause-grows g c =
    page_done (g.B.Backing.state c.args.backing.now) (g.B.Backing.state c.put_page.new.self) c.args.kept.now (record c.taken_page.new.kept { pages = c.mark_clean.new.self }) c.in-Ok.ensures.goes c.in-Ok.ensures.ok.credits (made g c).issued

pub returns-in-Ok-clause-cut : goal.returns-in-Ok-clause-cut
returns-in-Ok-clause-cut g c =
    let kept = c.args.kept.now in
    let ticket = c.args.ticket.now in
    let old = g.B.Backing.state c.args.backing.now in
    let e = c.in_ok-page.ensures in
    let t = taken kept c.taken_page.new.kept ticket c.in-Some.page c.in-Some.len c.in_ok-page.field-0 c.in-Some.is e.some e.page e.len e.left in
    let o = at_ticket kept.pages ticket t.current in
    let p = putting_of old.tree kept ticket o c.requires.kept in
    ticket_cut old (g.B.Backing.state c.put_page.new.self) kept ticket c.in-Some.page c.put_page.result o p c.requires.kept c.dirty-dirty.ensures.cache.dirty_once (sym (same_node kept ticket o p.inode p.found c.in-Some.page t.at)) c.put_page.ensures.cut

back : (g : Over) (c : goal.After-drop-page-in-Err-1 g) → c.give_back.new.kept ≡ c.args.kept.now
back g c =
    let e = c.in_ok-page.ensures in
    let t = taken c.args.kept.now c.taken_page.new.kept c.args.ticket.now c.in-Some.page c.in-Some.len c.in_ok-page.field-0 c.in-Some.is e.some e.page e.len e.left in
    given_back c.args.kept.now c.taken_page.new.kept c.args.ticket.now c.in-Some.page c.in-Some.len t c.into_vec.result.items c.into_vec.ensures c.give_back.new.kept c.give_back.ensures

still : (g : Over) (c : goal.After-drop-page-in-Err-1 g) → AfterFault (g.B.Backing.state c.args.backing.now) (g.B.Backing.state c.put_page.new.self) c.args.kept.now c.give_back.new.kept
still g c = after_fault (g.B.Backing.state c.args.backing.now) (g.B.Backing.state c.put_page.new.self) c.args.kept.now c.give_back.new.kept (back g c) c.in-Err.ensures.err c.requires.kept c.requires.paid

pub returns-in-Err-clause-kept : goal.returns-in-Err-clause-kept
returns-in-Err-clause-kept g c = (still g c).fits

pub returns-in-Err-clause-paid : goal.returns-in-Err-clause-paid
returns-in-Err-clause-paid g c = (still g c).paid

pub returns-in-Err-clause-same : goal.returns-in-Err-clause-same
returns-in-Err-clause-same g c = (still g c).same

pub returns-in-Err-clause-issued : goal.returns-in-Err-clause-issued
returns-in-Err-clause-issued g c = (still g c).issued

pub returns-in-Err-clause-err : goal.returns-in-Err-clause-err
returns-in-Err-clause-err g c = back g c

pub returns-in-Err-clause-placed : goal.returns-in-Err-clause-placed
returns-in-Err-clause-placed g c current page at =
    let kept = c.args.kept.now in
    let ticket = c.args.ticket.now in
    let old = g.B.Backing.state c.args.backing.now in
    let a = c.in_ok-page.ensures in
    let t = taken kept c.taken_page.new.kept ticket c.in-Some.page c.in-Some.len c.in_ok-page.field-0 c.in-Some.is a.some a.page a.len a.left in
    let o = at_ticket kept.pages ticket current in
    let p = putting_of old.tree kept ticket o c.requires.kept in
    let shown = sym (same_node kept ticket o p.inode p.found c.in-Some.page t.at) in
    let e = c.in-Err.ensures in
    put_failed (Unit {0}) Bool old (g.B.Backing.state c.put_page.new.self) c.in-Some.page page c.in-Err.fault (shown ∙ same_node kept ticket o p.inode p.found page at) e.err e.mode e.goes e.cut

pub returns-in-Err-clause-goes : goal.returns-in-Err-clause-goes
returns-in-Err-clause-goes g c = Goes-put c.put_page.result (page_group c.in-Some.page) (g.B.Backing.state c.args.backing.now) (g.B.Backing.state c.put_page.new.self) c.put_page.ensures.goes

pub returns-in-Err-clause-grows : goal.returns-in-Err-clause-grows
returns-in-Err-clause-grows g c =
    let old = g.B.Backing.state c.args.backing.now in
    let new = g.B.Backing.state c.put_page.new.self in
    grows_back _ old new c.args.kept.now c.give_back.new.kept (back g c) (page_failed (Unit {0}) Bool c.in-Err.fault c.in-Some.page old new c.args.kept.now c.in-Err.ensures.goes)

pub returns-in-Err-clause-cut : goal.returns-in-Err-clause-cut
returns-in-Err-clause-cut g c =
    let kept = c.args.kept.now in
    let ticket = c.args.ticket.now in
    let old = g.B.Backing.state c.args.backing.now in
    let e = c.in_ok-page.ensures in
    let t = taken kept c.taken_page.new.kept ticket c.in-Some.page c.in-Some.len c.in_ok-page.field-0 c.in-Some.is e.some e.page e.len e.left in
    let o = at_ticket kept.pages ticket t.current in
    let p = putting_of old.tree kept ticket o c.requires.kept in
    ticket_cut old (g.B.Backing.state c.put_page.new.self) kept ticket c.in-Some.page c.put_page.result o p c.requires.kept c.dirty-dirty.ensures.cache.dirty_once (sym (same_node kept ticket o p.inode p.found c.in-Some.page t.at)) c.put_page.ensures.cut
