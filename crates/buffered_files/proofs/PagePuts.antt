-- What the put of one dirty page says of the page as it stands in memory.
use Rattle.std.proofs.Common.{◌≡◌, inl, inr, Some, length, refl, sym, ap, subst, ◌∙◌, arith}
use Rattle.std.specs.Prelude.{Ok, Err, Option, None}
use Rattle.std.specs.Option.{option_map, option_map_or}
use Rattle.std.specs.BTreeMap.{is_at}
use Rattle.std.specs.Map.{lookup}
use Rattle.std.specs.Ordering.{nat_cmp}
use Rattle.fs_model.specs.declared.backing_answers.Mode.{Mode}
use Rattle.fs_model.specs.declared.backing_answers.Mode.TheVariants.{ReadWrite, ReadOnly}
use Rattle.fs_model.specs.declared.backing_answers.StoreFault.{StoreFault}
use Rattle.fs_model.specs.declared.backing_answers.StoreFault.TheVariants.{Memory, Volume, ReadOnly as IsReadOnly}
use Rattle.fs_model.specs.declared.inode.Inode.{Inode}
use Rattle.fs_model.specs.declared.page_node.PageNode.{PageNode}
use Rattle.fs_model.specs.Backing.{BackingState, Goes, HasMode, IsPagePut, KeepsFiles, page_group, page_puts, put_by}
use Rattle.fs_model.specs.Journal.{Leaves}
use Rattle.fs_model.specs.JournalLaws.{Leaves-none}
use Rattle.page_cache.specs.declared.dirty_page.DirtyPage.{DirtyPage}
use Rattle.page_cache.specs.declared.ticket.Ticket.{Ticket}
use Rattle.buffered_files.specs.declared.kept.Kept.{Kept}
use Rattle.buffered_files.specs.CallLaws.{Goes-none}
use Rattle.buffered_files.specs.PagePut.{IsPutOrKept, page_at}
use Rattle.buffered_files.specs.Present.{page_of}
use Rattle.buffered_files.proofs.Putting.{IsAt}

mode_ok : (T U : Type 0) (mode : Mode) (x : T) (y : U) → HasMode {T = T} mode (Ok x) → HasMode {T = U} mode (Ok y)
mode_ok T U ReadWrite x y h = tt
mode_ok T U (ReadOnly cause) x y (inl e) = absurd cc
mode_ok T U (ReadOnly cause) x y (inr e) = absurd cc

mode_err : (T U : Type 0) (mode : Mode) (fault : StoreFault) → HasMode {T = T} mode (Err fault) → HasMode {T = U} mode (Err fault)
mode_err T U ReadWrite Memory h = tt
mode_err T U ReadWrite (Volume count) h = tt
mode_err T U ReadWrite (IsReadOnly cause) h = h
mode_err T U (ReadOnly cause) fault (inl e) = let same : fault ≡ IsReadOnly cause = cc e in inl (ap (λ f. Err f) same)
mode_err T U (ReadOnly cause) fault (inr e) = let same : fault ≡ Memory = cc e in inr (ap (λ f. Err f) same)

mode_memory : (T : Type 0) (mode : Mode) → HasMode {T = T} mode (Err Memory)
mode_memory T ReadWrite = tt
mode_memory T (ReadOnly cause) = inr refl

-- the page that is put is that of its block
pub same_node : (kept : Kept) (ticket : Ticket) (o : IsAt kept.pages ticket) (inode : Inode) → lookup (is_at (nat_cmp ticket.ino)) kept.inodes ≡ Some inode → (page : PageNode) → page_at kept ticket.ino ticket.block ≡ Some page
    → page_of ((ticket.ino, ticket.block), o.page) inode ≡ page
same_node kept ticket o inode found page h =
    let at = ap (λ (p : Option DirtyPage). option_map_or (λ dirty. option_map (page_of ((ticket.ino, ticket.block), dirty)) (lookup (is_at (nat_cmp ticket.ino)) kept.inodes)) p None) o.found in
    let one : Some (page_of ((ticket.ino, ticket.block), o.page) inode) ≡ Some page = sym (at ∙ ap (λ p. option_map (page_of ((ticket.ino, ticket.block), o.page)) p) found) ∙ h in
    cc one

pub put_none : (T : Type 0) (old : BackingState) (page : PageNode) → IsPutOrKept {T = T} old old page (Err Memory)
put_none T old page = record {
  done = tt;
  files = record { tree = refl; credits = refl; grant = refl; held = omega arith; closed = omega arith };
  mode = mode_memory T old.mode;
  goes = Goes-none old;
  cut = Leaves-none old.journal;
}

pub put_failed : (T U : Type 0) (old new : BackingState) (made page : PageNode) (fault : StoreFault) → made ≡ page → KeepsFiles old new → HasMode {T = T} old.mode (Err fault) → Goes (length (put_by {T = T} (Err fault) (page_group made))) old new
    → Leaves old.journal new.journal (put_by {T = T} (Err fault) (page_puts made)) → IsPutOrKept {T = U} old new page (Err fault)
put_failed T U old new made page fault same files mode goes cut = record {
  done = tt;
  files = files;
  mode = mode_err T U old.mode fault mode;
  goes = by fault goes;
  cut = left fault (subst (λ p. Leaves old.journal new.journal (put_by {T = T} (Err fault) (page_puts p))) same cut);
}
  where
    by : (f : StoreFault) → Goes (length (put_by {T = T} (Err f) (page_group made))) old new → Goes (length (put_by {T = U} (Err f) (page_group page))) old new
    by Memory h = h
    by (Volume count) h = h
    by (IsReadOnly cause) h = h

    left : (f : StoreFault) → Leaves old.journal new.journal (put_by {T = T} (Err f) (page_puts page)) → Leaves old.journal new.journal (put_by {T = U} (Err f) (page_puts page))
    left Memory h = h
    left (Volume count) h = h
    left (IsReadOnly cause) h = h

pub put_done : (T U : Type 0) (old new : BackingState) (made page : PageNode) (x : T) (y : U) → made ≡ page → IsPagePut old new made → HasMode {T = T} old.mode (Ok x) → Goes 2 old new → Leaves old.journal new.journal (page_puts made) → IsPutOrKept {T = U} old new page (Ok y)
put_done T U old new made page x y same put mode goes cut = record {
  done = subst (λ p. IsPagePut old new p) same put;
  files = tt;
  mode = mode_ok T U old.mode x y mode;
  goes = goes;
  cut = subst (λ p. Leaves old.journal new.journal (page_puts p)) same cut;
}
