-- Dirty pages as they are picked.
use Rattle.std.proofs.Common.{◌≡◌, ℕ, ◌<◌, true, false, List, [], ◌∷◌, length, Some, refl, sym, ap, subst, ◌∙◌, arith}
use Rattle.std.specs.Prelude.{◌==◌, Option, None, slice_get}
use Rattle.std.specs.List.{AllByRecursion}
use Rattle.std.specs.Option.{option_map, option_map_or}
use Rattle.std.specs.BTreeMap.{is_at}
use Rattle.std.specs.Map.{lookup}
use Rattle.std.specs.Ordering.{nat_cmp}
use Rattle.std.proofs.lemmas.Bool.{eq-eqb}
use Rattle.std.proofs.lemmas.Bool.Decides.{nat_tests}
use Rattle.fs_model.specs.declared.page_node.PageNode.{PageNode}
use Rattle.page_cache.specs.Pages.{Pages, dirty_at, is_current, is_page, oldest_of, ticket_of}
use Rattle.page_cache.specs.declared.dirty_page.DirtyPage.{DirtyPage}
use Rattle.page_cache.specs.declared.ticket.Ticket.{Ticket}
use Rattle.buffered_files.specs.declared.kept.Kept.{Kept}
use Rattle.buffered_files.specs.PagePut.{page_at}
use Rattle.buffered_files.specs.Present.{DirtyPages, FitsPages, page_of}
use Rattle.vfs_ops.specs.declared.event.Encoded.{Encoded}
use Rattle.vfs_ops.specs.Background.{encoded, encoded_at, version_at}

same_page : (a : ℕ × ℕ) → is_page a a ≡ true
same_page a = grind (arith, nat_tests)

-- the page of a ticket, which is dirty and has the ticket's version
pub record IsShown (kept : Kept) (ticket : Ticket) : Type 0 where
  pub node : PageNode
  pub found : page_at kept ticket.ino ticket.block ≡ Some node
  pub version : version_at kept ticket.ino ticket.block ≡ ticket.version
  pub some : 0 < length kept.pages.dirty

shown_first : (kept : Kept) (d : (ℕ × ℕ) × DirtyPage) (dirty : DirtyPages) → kept.pages.dirty ≡ d ∷ dirty → FitsPages kept.inodes d → IsShown kept (ticket_of d)
shown_first kept d dirty e fits =
    let one : lookup (is_page d.0) (d ∷ dirty) ≡ Some d.1 = rw (same_page d.0) refl in
    let at : dirty_at kept.pages d.0.0 d.0.1 ≡ Some d.1 = ap (λ (l : DirtyPages). lookup (is_page d.0) l) e ∙ one in
    let found = fits.1 in
    let n : length kept.pages.dirty ≡ length (d ∷ dirty) = ap (λ (l : DirtyPages). length l) e in
    record {
      node = page_of (d.0, d.1) fits.0;
      found = ap (λ (o : Option DirtyPage). option_map_or (λ page. option_map (page_of (d.0, page)) (lookup (is_at (nat_cmp d.0.0)) kept.inodes)) o None) at ∙ ap (λ o. option_map (page_of (d.0, d.1)) o) found;
      version = ap (λ (o : Option DirtyPage). option_map_or (λ page. page.version) o 0) at;
      some = omega (arith, n);
    }

-- the first of these pages
abbrev first_of : DirtyPages → Option Ticket
first_of dirty = option_map ticket_of (slice_get dirty 0)

-- the page that became dirty first is shown
pub shown : (kept : Kept) → AllByRecursion (FitsPages kept.inodes) kept.pages.dirty → (ticket : Ticket) → oldest_of kept.pages ≡ Some ticket → IsShown kept ticket
shown kept fits ticket is = by kept.pages.dirty refl
  where
    by : (dirty : DirtyPages) → kept.pages.dirty ≡ dirty → IsShown kept ticket
    by [] e = let none : first_of [] ≡ Some ticket = subst (λ (l : DirtyPages). first_of l ≡ Some ticket) e is in absurd cc
    by (d ∷ dirty) e =
        let one : first_of (d ∷ dirty) ≡ Some ticket = subst (λ (l : DirtyPages). first_of l ≡ Some ticket) e is in
        let same : ticket_of d ≡ ticket = cc one in
        let all : AllByRecursion (FitsPages kept.inodes) (d ∷ dirty) = subst (λ (l : DirtyPages). AllByRecursion (FitsPages kept.inodes) l) e fits in
        subst (λ (t : Ticket). IsShown kept t) same (shown_first kept d dirty e all.0)

-- where none became dirty first, none is dirty
pub none_dirty : (pages : Pages) → oldest_of pages ≡ None → pages.dirty ≡ []
none_dirty pages is = by pages.dirty refl
  where
    by : (dirty : DirtyPages) → pages.dirty ≡ dirty → pages.dirty ≡ []
    by [] e = e
    by (d ∷ dirty) e = let some : first_of (d ∷ dirty) ≡ None = subst (λ (l : DirtyPages). first_of l ≡ None) e is in absurd cc

-- a page of this version and these bytes is what a pick gives
pub encoded_yes : (o : Option PageNode) (page : Encoded) (version : ℕ) → version ≡ page.version → option_map (λ node. node.bytes) o ≡ Some page.bytes → option_map (encoded page.ino page.block version) o ≡ Some page
encoded_yes None page version e h = absurd cc
encoded_yes (Some made) page version e h =
    let bytes : made.bytes ≡ page.bytes = cc h in
    ap (λ n. Some (encoded page.ino page.block n made)) e ∙ ap (λ (b : List ℕ). Some (record page { bytes = b })) bytes

pub encoded_version : (o : Option PageNode) (page : Encoded) (version : ℕ) → option_map (encoded page.ino page.block version) o ≡ Some page → version ≡ page.version
encoded_version None page version h = absurd cc
encoded_version (Some made) page version h = let same : encoded page.ino page.block version made ≡ page = cc h in ap (λ (q : Encoded). q.version) same

pub encoded_bytes : (o : Option PageNode) (page : Encoded) (version : ℕ) → option_map (encoded page.ino page.block version) o ≡ Some page → option_map (λ node. node.bytes) o ≡ Some page.bytes
encoded_bytes None page version h = absurd cc
encoded_bytes (Some made) page version h = let same : encoded page.ino page.block version made ≡ page = cc h in ap (λ (q : Encoded). Some q.bytes) same

-- a page that is still as it was picked: it is there, at that version
pub record IsThere (kept : Kept) (page : Encoded) : Type 0 where
  pub node : PageNode
  pub found : page_at kept page.ino page.block ≡ Some node
  pub current : is_current kept.pages (record { ino = page.ino; block = page.block; version = page.version }) ≡ true

pub there : (kept : Kept) (page : Encoded) → encoded_at kept page.ino page.block ≡ Some page → IsThere kept page
there kept page h = by (page_at kept page.ino page.block) refl
  where
    version : version_at kept page.ino page.block ≡ page.version
    version = encoded_version (page_at kept page.ino page.block) page (version_at kept page.ino page.block) h

    now : (made : PageNode) → page_at kept page.ino page.block ≡ Some made → (o : Option DirtyPage) → dirty_at kept.pages page.ino page.block ≡ o → is_current kept.pages (record { ino = page.ino; block = page.block; version = page.version }) ≡ true
    now made found None e =
        let none : None ≡ Some made = sym (ap (λ (o : Option DirtyPage). option_map_or (λ d. option_map (page_of ((page.ino, page.block), d)) (lookup (is_at (nat_cmp page.ino)) kept.inodes)) o None) e) ∙ found in
        absurd cc
    now made found (Some d) e =
        let v : d.version ≡ page.version = sym (ap (λ (o : Option DirtyPage). option_map_or (λ q. q.version) o 0) e) ∙ version in
        ap (λ (o : Option DirtyPage). option_map_or (λ q. q.version == page.version) o false) e ∙ eq-eqb d.version page.version v

    by : (o : Option PageNode) → page_at kept page.ino page.block ≡ o → IsThere kept page
    by None e =
        let none : option_map (encoded page.ino page.block (version_at kept page.ino page.block)) None ≡ Some page = sym (ap (λ (o : Option PageNode). option_map (encoded page.ino page.block (version_at kept page.ino page.block)) o) e) ∙ h in
        absurd cc
    by (Some made) e = record { node = made; found = e; current = now made e (dirty_at kept.pages page.ino page.block) refl }

-- what a pick of the page of a ticket gives
pub shown_page : (kept : Kept) (ticket : Ticket) → IsShown kept ticket → (bytes : List ℕ) → Some bytes ≡ option_map (λ made. made.bytes) (page_at kept ticket.ino ticket.block)
    → encoded_at kept ticket.ino ticket.block ≡ Some (record { ino = ticket.ino; block = ticket.block; version = ticket.version; bytes = bytes })
shown_page kept ticket s bytes h =
    encoded_yes (page_at kept ticket.ino ticket.block) (record { ino = ticket.ino; block = ticket.block; version = ticket.version; bytes = bytes }) (version_at kept ticket.ino ticket.block) s.version (sym h)
