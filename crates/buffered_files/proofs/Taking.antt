-- A page whose bytes were taken out for a put, and given back after a fault.
use Rattle.std.proofs.Common.{◌≡◌, ℕ, ◌+◌, ◌≤◌, Bool, true, false, cond, List, [], length, take, Option, Some, None, is_some, IfSome, refl, sym, ap, subst, ◌∙◌, arith}
use Rattle.std.specs.Option.{option_map}
use Rattle.fs_model.specs.declared.page_node.PageNode.{PageNode}
use Rattle.fs_model.specs.Backing.{BackingState, KeepsFiles}
use Rattle.fs_model.specs.Files.{Tree}
use Rattle.page_cache.specs.declared.dirty_page.DirtyPage.{DirtyPage}
use Rattle.page_cache.specs.declared.ticket.Ticket.{Ticket}
use Rattle.page_cache.specs.Pages.{Pages, dirty_at, is_current, with_bytes, without_dirty}
use Rattle.page_cache.specs.PageLaws.{exchanged_back, exchanged_is_current, exchanged_without}
use Rattle.buffered_files.specs.declared.kept.Kept.{Kept}
use Rattle.buffered_files.specs.Alike.{IsAlike}
use Rattle.buffered_files.specs.Calls.{GrowsBy}
use Rattle.buffered_files.specs.PagePut.{page_at}
use Rattle.buffered_files.specs.Present.{IsKept, present}
use Rattle.buffered_files.proofs.Putting.{cleaned}

-- the bytes of a ticket's page
abbrev pub own_bytes : Pages → Ticket → Option (List ℕ)
own_bytes pages ticket = option_map (λ (page : DirtyPage). page.bytes) (dirty_at pages ticket.ino ticket.block)

-- a page that is current was taken out, and no byte is in its place
pub record Taken (kept now : Kept) (ticket : Ticket) (page : PageNode) (len : ℕ) : Type 0 where
  pub current : is_current kept.pages ticket ≡ true
  pub at : page_at kept ticket.ino ticket.block ≡ Some page
  pub own : own_bytes kept.pages ticket ≡ Some (take len page.bytes)
  pub left : now ≡ record kept { pages = with_bytes kept.pages ticket [] }

pub taken : (kept now : Kept) (ticket : Ticket) (page : PageNode) (len : ℕ) (o : Option (PageNode × ℕ)) → o ≡ Some (page, len) → is_some o ≡ is_current kept.pages ticket
    → IfSome o (λ t. page_at kept ticket.ino ticket.block ≡ Some t.0) → IfSome o (λ t. own_bytes kept.pages ticket ≡ Some (take t.1 t.0.bytes))
    → now ≡ cond (is_current kept.pages ticket) (record kept { pages = with_bytes kept.pages ticket [] }) kept → Taken kept now ticket page len
taken kept now ticket page len o is some at own left =
    let current : is_current kept.pages ticket ≡ true = sym some ∙ ap is_some is in
    record {
      current = current;
      at = subst (λ p. IfSome p (λ t. page_at kept ticket.ino ticket.block ≡ Some t.0)) is at;
      own = subst (λ p. IfSome p (λ t. own_bytes kept.pages ticket ≡ Some (take t.1 t.0.bytes))) is own;
      left = left ∙ ap (λ b. cond b (record kept { pages = with_bytes kept.pages ticket [] }) kept) current;
    }

-- a page has its own bytes again
module _ (kept : Kept) (ticket : Ticket) (given own : List ℕ) (current : is_current kept.pages ticket ≡ true) (has : own_bytes kept.pages ticket ≡ Some own) where
  restored : (now : Kept) → now ≡ record kept { pages = with_bytes kept.pages ticket given } → (bytes : List ℕ) → bytes ≡ own → (back : Kept)
      → back ≡ cond (is_current now.pages ticket) (record now { pages = with_bytes now.pages ticket bytes }) now → back ≡ kept
  restored now left bytes same back is =
      let still : is_current now.pages ticket ≡ true = ap (λ (k : Kept). is_current k.pages ticket) left ∙ exchanged_is_current kept.pages ticket given current in
      is
      ∙ (ap (λ b. cond b (record now { pages = with_bytes now.pages ticket bytes }) now) still
      ∙ (ap (λ bs. record now { pages = with_bytes now.pages ticket bs }) same
      ∙ (ap (λ (k : Kept). record k { pages = with_bytes k.pages ticket own }) left
      ∙ ap (λ (p : Pages). record kept { pages = p }) (exchanged_back kept.pages ticket given own current has))))

module _ (kept now : Kept) (ticket : Ticket) (page : PageNode) (len : ℕ) (t : Taken kept now ticket page len) where
  pub given_back : (bytes : List ℕ) → bytes ≡ page.bytes → (back : Kept) → back ≡ cond (is_current now.pages ticket) (record now { pages = with_bytes now.pages ticket (take len bytes) }) now → back ≡ kept
  given_back bytes same back is = restored kept ticket [] (take len page.bytes) t.current t.own now t.left (take len bytes) (ap (take len) same) back is

  -- the page was put, and is dirty no longer
  pub marked : (new : Pages) (result : Bool) → result ≡ is_current now.pages ticket → new ≡ cond result (without_dirty now.pages ticket.ino ticket.block) now.pages → new ≡ without_dirty kept.pages ticket.ino ticket.block
  marked new result r is =
      let still : is_current now.pages ticket ≡ true = ap (λ (k : Kept). is_current k.pages ticket) t.left ∙ exchanged_is_current kept.pages ticket [] t.current in
      cleaned now.pages new ticket result still r is
      ∙ (ap (λ (k : Kept). without_dirty k.pages ticket.ino ticket.block) t.left ∙ exchanged_without kept.pages ticket [])

  -- what holds beside the pages is the same
  pub beside : (pages : Pages) → record kept { pages = pages } ≡ record now { pages = pages }
  beside pages = sym (ap (λ (k : Kept). record k { pages = pages }) t.left)

-- no zeros could be filled in
of_current : (b : Bool) (o : Option (List ℕ)) (own : List ℕ) → Some own ≡ cond b o None → (b ≡ true) × (o ≡ Some own)
of_current true o own is = (refl, sym is)
of_current false o own is = absurd cc

pub not_filled : (kept : Kept) (ticket : Ticket) (given own : List ℕ) (held : Pages) (answer : Option (List ℕ)) → answer ≡ Some own → answer ≡ cond (is_current kept.pages ticket) (own_bytes kept.pages ticket) None
    → held ≡ cond (is_current kept.pages ticket) (with_bytes kept.pages ticket given) kept.pages → (bytes : List ℕ) → bytes ≡ own → (back : Kept)
    → back ≡ cond (is_current held ticket) (record kept { pages = with_bytes held ticket bytes }) (record kept { pages = held }) → back ≡ kept
not_filled kept ticket given own held answer some told left bytes same back is =
    let both = of_current (is_current kept.pages ticket) (own_bytes kept.pages ticket) own (sym some ∙ told) in
    let out = left ∙ ap (λ b. cond b (with_bytes kept.pages ticket given) kept.pages) both.0 in
    restored kept ticket given own both.0 both.1 (record kept { pages = held }) (ap (λ (p : Pages). record kept { pages = p }) out) bytes same back is

-- after a fault all is as it was
pub record AfterFault (old new : BackingState) (kept after : Kept) : Type 0 where
  pub fits : IsKept new.tree after
  pub same : IsAlike (present old.tree kept) (present new.tree after)
  pub paid : length after.pages.dirty ≤ new.space.credits
  pub issued : new.space.credits + length kept.pages.dirty ≡ old.space.credits + length after.pages.dirty

pub after_fault : (old new : BackingState) (kept after : Kept) → after ≡ kept → KeepsFiles old new → IsKept old.tree kept → length kept.pages.dirty ≤ old.space.credits → AfterFault old new kept after
after_fault old new kept after back files fits paid =
    let credits = files.credits in
    subst (AfterFault old new kept) (sym back) (record {
      fits = subst (λ (tree : Tree). IsKept tree kept) (sym files.tree) fits;
      same = subst (λ (tree : Tree). IsAlike (present old.tree kept) (present tree kept)) (sym files.tree) (record { inodes = refl; blocks = refl; entries = refl; highest = refl; handles = refl; sizes = λ ino inode at file. refl });
      paid = omega (arith, credits, paid);
      issued = ap (λ n. n + length kept.pages.dirty) credits;
    })

pub grows_back : (n : ℕ) (old new : BackingState) (kept after : Kept) → after ≡ kept → GrowsBy n old new kept kept → GrowsBy n old new kept after
grows_back n old new kept after back grows = subst (GrowsBy n old new kept) (sym back) grows
