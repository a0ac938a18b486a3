-- The pages of one file are put, one after another.
use Rattle.std.proofs.Common.{◌≡◌, ℕ, ◌+◌, ◌*◌, ◌≤◌, Bool, true, false, cond, List, [], ◌∷◌, length, map, refl, sym, ap, subst, ◌∙◌, arith}
use Rattle.std.specs.Prelude.{◌==◌}
use Rattle.std.specs.Option.{option_map_or}
use Rattle.std.specs.Map.{lookup, remove_entry}
use Rattle.std.proofs.lemmas.Bool.Decides.{nat_tests}
use Rattle.fs_model.specs.Backing.{BackingState, Outlook, Goes}
use Rattle.page_cache.specs.declared.dirty_page.DirtyPage.{DirtyPage}
use Rattle.page_cache.specs.declared.ticket.Ticket.{Ticket}
use Rattle.page_cache.specs.Pages.{Pages, is_page, is_current, pages_of, ticket_of, tickets_of, without_dirty}
use Rattle.buffered_files.specs.declared.kept.Kept.{Kept}
use Rattle.buffered_files.specs.Alike.{IsAlike}
use Rattle.buffered_files.specs.Calls.{GrowsBy, SureGoes}
use Rattle.buffered_files.specs.CutLaws.{Puts-none}
use Rattle.buffered_files.specs.Cuts.{PutsSeen, ValuesOf}
use Rattle.buffered_files.proofs.Cutting.{seen_then}
use Rattle.buffered_files.specs.CallLaws.{Goes-none, Goes-then, Goes-within, Sure-none, Sure-then}
use Rattle.buffered_files.specs.Present.{DirtyPages, IsKept, present, has_dirty, dirty_of_others}
use Rattle.buffered_files.proofs.Putting.{same-none, same-then}

same_name : (k : ℕ × ℕ) → is_page k k ≡ true
same_name k = grind (arith, nat_tests)

same_number : (n : ℕ) → (n == n) ≡ true
same_number n = grind (arith, nat_tests)

-- the first page of an inode, where its tickets are these
pub record FirstOf (dirty : DirtyPages) (ino : ℕ) (ticket : Ticket) (rest : List Ticket) : Type 0 where
  pub current : option_map_or (λ (page : DirtyPage). page.version == ticket.version) (lookup (is_page (ticket.ino, ticket.block)) dirty) false ≡ true
  pub own : (ticket.ino == ino) ≡ true
  pub left : map ticket_of (pages_of (remove_entry (is_page (ticket.ino, ticket.block)) dirty) ino) ≡ rest
  pub others : dirty_of_others (remove_entry (is_page (ticket.ino, ticket.block)) dirty) ino ≡ dirty_of_others dirty ino

pub first_of : (dirty : DirtyPages) (ino : ℕ) (ticket : Ticket) (rest : List Ticket) → map ticket_of (pages_of dirty ino) ≡ ticket ∷ rest → FirstOf dirty ino ticket rest
first_of [] ino ticket rest is = absurd cc
first_of (e ∷ dirty) ino ticket rest is = by (λ there. first_of dirty ino ticket rest there) (e.0.0 == ino) refl
  where
    by : (map ticket_of (pages_of dirty ino) ≡ ticket ∷ rest → FirstOf dirty ino ticket rest) → (b : Bool) → (e.0.0 == ino) ≡ b → FirstOf (e ∷ dirty) ino ticket rest
    by more true t =
        let all : ticket_of e ∷ map ticket_of (pages_of dirty ino) ≡ ticket ∷ rest = rw t at is in
        let same : ticket_of e ≡ ticket = cc all in
        let left : map ticket_of (pages_of dirty ino) ≡ rest = cc all in
        subst (λ k. FirstOf (e ∷ dirty) ino k rest) same record {
          current = rw (same_name e.0) (same_number e.1.version);
          own = t;
          left = rw (same_name e.0) left;
          others = rw (same_name e.0, t) refl;
        }
    by more false t =
        let it = more (rw t at is) in
        let own = it.own in
        let other : is_page (ticket.ino, ticket.block) e.0 ≡ false = apart ticket.ino ticket.block e.0 own t in
        record {
          current = rw other it.current;
          own = own;
          left = rw (other, t) it.left;
          others = rw (other, t) (ap (λ es. e ∷ es) it.others);
        }
      where
        apart : (i block : ℕ) (k : ℕ × ℕ) → (i == ino) ≡ true → (k.0 == ino) ≡ false → is_page (i, block) k ≡ false
        apart i block k own two = grind (arith, nat_tests)

-- an inode without a ticket has no dirty page
pub none_of : (dirty : DirtyPages) (ino : ℕ) → map ticket_of (pages_of dirty ino) ≡ [] → has_dirty dirty ino ≡ false
none_of [] ino is = refl
none_of (e ∷ dirty) ino is = by (λ none. none_of dirty ino none) (e.0.0 == ino) refl
  where
    by : (map ticket_of (pages_of dirty ino) ≡ [] → has_dirty dirty ino ≡ false) → (b : Bool) → (e.0.0 == ino) ≡ b → has_dirty (e ∷ dirty) ino ≡ false
    by more true t = let all : ticket_of e ∷ map ticket_of (pages_of dirty ino) ≡ [] = rw t at is in absurd cc
    by more false t = rw t (more (rw t at is))

-- what holds while the pages of an inode are put, with these tickets left
pub record Filing (x y : Outlook) (old now : BackingState) (kept still : Kept) (ino : ℕ) (left : List Ticket) : Type 0 where
  pub fits : IsKept now.tree still
  pub same : IsAlike (present old.tree kept) (present now.tree still)
  pub paid : length still.pages.dirty ≤ now.space.credits
  pub issued : now.space.credits + length kept.pages.dirty ≡ old.space.credits + length still.pages.dirty
  pub tickets : tickets_of still.pages ino ≡ left
  pub others : dirty_of_others still.pages.dirty ino ≡ dirty_of_others kept.pages.dirty ino
  pub inodes : still.inodes ≡ kept.inodes
  pub handles : still.handles ≡ kept.handles
  pub done : ℕ
  pub count : done + length left ≡ length (pages_of kept.pages.dirty ino)
  pub goes : Goes (2 * done) old now
  pub grows : GrowsBy 0 old now kept still
  pub closed : now.closed ≤ old.closed
  pub cut : PutsSeen old now kept
  pub sure : SureGoes x y old now

tickets_count : (es : DirtyPages) → length (map ticket_of es) ≡ length es
tickets_count [] = refl
tickets_count (e ∷ es) = let n = tickets_count es in omega (arith, n)

pub filing_begins : (x : Outlook) (old : BackingState) (kept : Kept) (ino : ℕ) (left : List Ticket) → IsKept old.tree kept → length kept.pages.dirty ≤ old.space.credits → left ≡ tickets_of kept.pages ino → Filing x x old old kept kept ino left
filing_begins x old kept ino left is paid all = record {
  fits = is;
  same = same-none (present old.tree kept);
  paid = paid;
  issued = refl;
  tickets = sym all;
  others = refl;
  inodes = refl;
  handles = refl;
  done = 0;
  count = let n = ap (λ (ts : List Ticket). length ts) all ∙ tickets_count (pages_of kept.pages.dirty ino) in omega (arith, n);
  goes = Goes-none old;
  grows = omega arith;
  closed = omega arith;
  cut = Puts-none (ValuesOf (present old.tree kept).tree) old.journal;
  sure = Sure-none x old;
}

-- one page more was put
pub filing_more : (x y z : Outlook) (old now new : BackingState) (kept still after : Kept) (ino : ℕ) (ticket : Ticket) (rest : List Ticket) (put : Bool) → IsKept old.tree kept → Filing x y old now kept still ino (ticket ∷ rest)
    → IsKept new.tree after → IsAlike (present now.tree still) (present new.tree after) → length after.pages.dirty ≤ new.space.credits → new.space.credits + length still.pages.dirty ≡ now.space.credits + length after.pages.dirty
    → put ≡ is_current still.pages ticket → after.pages ≡ cond put (without_dirty still.pages ticket.ino ticket.block) still.pages → after.inodes ≡ still.inodes → after.handles ≡ still.handles
    → Goes 2 now new → GrowsBy 0 now new still after → new.closed ≤ now.closed → PutsSeen now new still → SureGoes y z now new → Filing x z old new kept after ino rest
filing_more x y z old now new kept still after ino ticket rest put is w fits same paid issued current pages inodes handles goes grows closed cut sure =
    let first = first_of still.pages.dirty ino ticket rest w.tickets in
    let was : put ≡ true = current ∙ first.current in
    let left : after.pages ≡ without_dirty still.pages ticket.ino ticket.block = rw was at pages in
    let count = w.count in
    record {
      fits = fits;
      same = same-then (present old.tree kept) (present now.tree still) (present new.tree after) w.same same;
      paid = paid;
      issued = let before = w.issued in omega (arith, before, issued);
      tickets = ap (λ (p : Pages). tickets_of p ino) left ∙ first.left;
      others = ap (λ (p : Pages). dirty_of_others p.dirty ino) left ∙ first.others ∙ w.others;
      inodes = inodes ∙ w.inodes;
      handles = handles ∙ w.handles;
      done = w.done + 1;
      count = omega (arith, count);
      goes = let more : 2 * w.done + 2 ≡ 2 * (w.done + 1) = omega arith in subst (λ k. Goes k old new) more (Goes-then (2 * w.done) 2 old now new w.goes goes);
      grows = let before = w.grows in omega (arith, before, grows);
      closed = let before = w.closed in omega (arith, before, closed);
      cut = seen_then old now new kept still is w.fits w.same w.cut cut;
      sure = Sure-then x y z old now new w.sure sure;
    }

-- what was put so far is within all
pub filing_within : (x y : Outlook) (old now : BackingState) (kept still : Kept) (ino : ℕ) (left : List Ticket) → Filing x y old now kept still ino left → Goes (2 * length (pages_of kept.pages.dirty ino)) old now
filing_within x y old now kept still ino left w = let count = w.count in Goes-within (2 * w.done) (2 * length (pages_of kept.pages.dirty ino)) old now (omega (arith, count)) w.goes

-- also where one more is put, and fails
pub filing_more_within : (x y : Outlook) (old now new : BackingState) (kept still : Kept) (ino : ℕ) (ticket : Ticket) (rest : List Ticket) → Filing x y old now kept still ino (ticket ∷ rest) → Goes 2 now new → Goes (2 * length (pages_of kept.pages.dirty ino)) old new
filing_more_within x y old now new kept still ino ticket rest w goes =
    let count = w.count in
    Goes-within (2 * w.done + 2) (2 * length (pages_of kept.pages.dirty ino)) old new (omega (arith, count)) (Goes-then (2 * w.done) 2 old now new w.goes goes)

-- all were put
pub filing_ends : (x y : Outlook) (old now : BackingState) (kept still : Kept) (ino : ℕ) (left : List Ticket) → Filing x y old now kept still ino left → length left ≡ 0 → has_dirty still.pages.dirty ino ≡ false
filing_ends x y old now kept still ino [] w none = none_of still.pages.dirty ino w.tickets
filing_ends x y old now kept still ino (ticket ∷ left) w none = absurd (omega (arith, none))
