-- A dirty page that is put has the values that callers see.
use Rattle.std.proofs.Common.{◌≡◌, ◌-◌, ap, sym, subst, ◌∙◌, length}
use Rattle.std.specs.Prelude.{Result}
use Rattle.std.specs.List.{IsDistinct}
use Rattle.std.specs.Map.{keys_of}
use Rattle.fs_model.specs.declared.backing_answers.StoreFault.{StoreFault}
use Rattle.fs_model.specs.declared.page_node.PageNode.{PageNode}
use Rattle.fs_model.specs.Backing.{BackingState, page_puts, put_by}
use Rattle.fs_model.specs.Journal.{Leaves}
use Rattle.fs_model.specs.Same.{trimmed}
use Rattle.page_cache.specs.declared.ticket.Ticket.{Ticket}
use Rattle.page_cache.specs.Pages.{is_page}
use Rattle.buffered_files.specs.declared.kept.Kept.{Kept}
use Rattle.buffered_files.specs.Cuts.{PutsSeen}
use Rattle.buffered_files.specs.Present.{IsKept, bytes_before_end, page_of, present}
use Rattle.buffered_files.proofs.PlaceValues.{page_cut, present_ordered}
use Rattle.buffered_files.proofs.Putting.{IsAt, Putting, trimmed-filled}
use Rattle.buffered_files.proofs.Reading.{seen_kept, seen_page}

pub ticket_cut : {T : Type 0} (old new : BackingState) (kept : Kept) (ticket : Ticket) (page : PageNode) (result : Result T StoreFault) (o : IsAt kept.pages ticket) (p : Putting old.tree kept ticket o) → IsKept old.tree kept → IsDistinct is_page (keys_of kept.pages.dirty)
    → page ≡ page_of ((ticket.ino, ticket.block), o.page) p.inode → Leaves old.journal new.journal (put_by result (page_puts page)) → PutsSeen old new kept
ticket_cut {T} old new kept ticket page result o p is once shown cut =
    let node = page_of ((ticket.ino, ticket.block), o.page) p.inode in
    let P : PageNode → Type 0 = λ q. Leaves old.journal new.journal (put_by result (page_puts q)) in
    let bytes = trimmed-filled o.page.bytes (bytes_before_end p.inode.size ticket.block - length o.page.bytes) in
    page_cut (present old.tree kept).tree node old.journal new.journal result (present_ordered old.tree kept is) (seen_kept old.tree kept ticket.ino p.inode is p.found)
    (bytes ∙ ap trimmed (sym (seen_page old.tree kept ticket.ino ticket.block o.page once o.found))) (subst P shown cut)
