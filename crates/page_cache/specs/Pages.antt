-- The pages of a cache. A page is named by its inode and its block's number.
use Rattle.std.specs.Prelude.{◌≡◌, ℕ, ◌+◌, ◌-◌, ◌^◌, ◌≤◌, ◌==◌, ◌&&◌, nat_le, Bool, false, not, if◌then◌else◌, min, List, [], ◌∷◌, ◌++◌, All, filter, fold, length, map, slice_get, is_some, Some, IsSome, IsNone}
use Rattle.std.specs.declared.option.Option.{Option}
use Rattle.std.specs.List.{IsDistinct}
use Rattle.std.specs.Option.{option_map, option_map_or}
use Rattle.std.specs.Map.{keys_of, values_of, lookup, remove_entry, set_value}
use Rattle.lru.specs.LruCache.{LruCache}
pub use Rattle.lru.specs.LruCache.{lru_cache, promoted, put_entries}
use Rattle.page_cache.specs.declared.dirty_page.DirtyPage.{DirtyPage}
use Rattle.page_cache.specs.declared.ticket.Ticket.{Ticket}

-- The dirty pages in the order in which they became dirty. The clean ones, the one used last first. How many clean ones are kept, and how often a
-- page was put as dirty.
pub record Pages : Type 0 where
  pub dirty : List ((ℕ × ℕ) × DirtyPage)
  pub clean : List ((ℕ × ℕ) × List ℕ)
  pub most : ℕ
  pub calls : ℕ

-- whether two names name one page
abbrev pub is_page : ℕ × ℕ → ℕ × ℕ → Bool
is_page a b = (a.0 == b.0) && (a.1 == b.1)

-- the dirty page of an inode's block, where there is one
abbrev pub dirty_at : Pages → ℕ → ℕ → Option DirtyPage
dirty_at pages ino block = lookup (is_page (ino, block)) pages.dirty

-- the bytes of the clean page of an inode's block, where there is one
abbrev pub clean_at : Pages → ℕ → ℕ → Option (List ℕ)
clean_at pages ino block = lookup (is_page (ino, block)) pages.clean

-- the bytes that are read: the dirty page's, else the clean one's
abbrev pub bytes_at : Pages → ℕ → ℕ → Option (List ℕ)
bytes_at pages ino block = option_map_or (λ page. Some page.bytes) (dirty_at pages ino block) (clean_at pages ino block)

-- no page of one list is in the other
abbrev pub AreApart : List ((ℕ × ℕ) × DirtyPage) → List ((ℕ × ℕ) × List ℕ) → Type 0
AreApart dirty clean = (ino block : ℕ) → IsSome (lookup (is_page (ino, block)) dirty) → IsNone (lookup (is_page (ino, block)) clean)

-- no dirty page has a version past this count of calls
abbrev pub AreCounted : ℕ → List ((ℕ × ℕ) × DirtyPage) → Type 0
AreCounted calls dirty = All (λ page. page.version ≤ calls) (values_of dirty)

-- What holds of the pages of every cache. No page stands twice in a list, and none stands in both. The next version is that of no page until the
-- count stands at its end. There are no more clean pages than are kept.
pub record IsCache (pages : Pages) : Type 0 where
  pub dirty_once : IsDistinct is_page (keys_of pages.dirty)
  pub clean_once : IsDistinct is_page (keys_of pages.clean)
  pub apart : AreApart pages.dirty pages.clean
  pub counted : AreCounted pages.calls pages.dirty
  pub few : length pages.clean ≤ pages.most

-- What a cache keeps of its two lists.
pub record IsKept (dirty : List ((ℕ × ℕ) × DirtyPage)) (clean : LruCache (ℕ × ℕ) (List ℕ)) (calls : ℕ) : Type 0 where
  pub apart : AreApart dirty clean.entries
  pub counted : AreCounted calls dirty

-- a count after one more, which stays at its end
abbrev pub counted : ℕ → ℕ
counted calls = min (calls + 1) (2 ^ 64 - 1)

-- a page was put: one that is there keeps its place, another goes last
abbrev pub put_last : {V : Type 0} → List ((ℕ × ℕ) × V) → ℕ × ℕ → V → List ((ℕ × ℕ) × V)
put_last list name page = if is_some (lookup (is_page name) list) then set_value (is_page name) list page else list ++ (name, page) ∷ []

-- after a page was put as dirty
abbrev pub with_dirty : Pages → ℕ → ℕ → List ℕ → Pages
with_dirty pages ino block bytes =
    record {
      dirty = put_last pages.dirty (ino, block) (record { bytes = bytes; version = counted pages.calls });
      clean = remove_entry (is_page (ino, block)) pages.clean;
      most = pages.most;
      calls = counted pages.calls;
    }

-- after pages of an inode were put as dirty, one after another
abbrev pub with_all_dirty : Pages → ℕ → List (ℕ × List ℕ) → Pages
with_all_dirty pages ino new = fold (λ held page. with_dirty held ino page.0 page.1) pages new

-- those of an inode's pages that aren't dirty, and those that are
abbrev pub new_pages : Pages → ℕ → List (ℕ × List ℕ) → List (ℕ × List ℕ)
new_pages pages ino put = filter (λ page. not (is_some (dirty_at pages ino page.0))) put

abbrev pub old_pages : Pages → ℕ → List (ℕ × List ℕ) → List (ℕ × List ℕ)
old_pages pages ino put = filter (λ page. is_some (dirty_at pages ino page.0)) put

-- Where there was no memory for all of an inode's pages: the first of those that weren't dirty were put as dirty, and taken back. The dirty pages are as they were, and of the clean ones those are gone.
pub record IsTakenBack (old new : Pages) (ino : ℕ) (put : List (ℕ × List ℕ)) : Type 0 where
  pub first : List (ℕ × List ℕ)
  pub rest : List (ℕ × List ℕ)
  pub split : first ++ rest ≡ new_pages old ino put
  pub made : new ≡ record (with_all_dirty old ino first) { dirty = old.dirty }

-- After a page was put as clean, which is nothing where it is dirty. It was used last. Where the clean ones were as many as are kept, the one that
-- wasn't used for the longest time is gone.
abbrev pub with_clean : Pages → ℕ → ℕ → List ℕ → Pages
with_clean pages ino block bytes =
    if is_some (dirty_at pages ino block) then pages
    else record {
      dirty = pages.dirty;
      clean = put_entries is_page (lru_cache pages.clean pages.most) (ino, block) bytes;
      most = pages.most;
      calls = pages.calls;
    }

-- after a page was read: a clean one was used last
abbrev pub with_used : Pages → ℕ → ℕ → Pages
with_used pages ino block =
    if is_some (dirty_at pages ino block) then pages
    else record { dirty = pages.dirty; clean = promoted (is_page (ino, block)) pages.clean; most = pages.most; calls = pages.calls }

-- the ticket of a dirty page as it is now
abbrev pub ticket_of : (ℕ × ℕ) × DirtyPage → Ticket
ticket_of e = record { ino = e.0.0; block = e.0.1; version = e.1.version }

-- the page that became dirty first
abbrev pub oldest_of : Pages → Option Ticket
oldest_of pages = option_map ticket_of (slice_get pages.dirty 0)

-- an inode's entries, in their order
abbrev pub pages_of : {V : Type 0} → List ((ℕ × ℕ) × V) → ℕ → List ((ℕ × ℕ) × V)
pages_of list ino = filter (λ e. e.0.0 == ino) list

-- the page of an inode that became dirty first
abbrev pub next_of : Pages → ℕ → Option Ticket
next_of pages ino = option_map ticket_of (slice_get (pages_of pages.dirty ino) 0)

-- whether a ticket's page is dirty and has the ticket's version
abbrev pub is_current : Pages → Ticket → Bool
is_current pages ticket = option_map_or (λ page. page.version == ticket.version) (dirty_at pages ticket.ino ticket.block) false

-- the tickets of an inode's dirty pages, in the order in which they became dirty
abbrev pub tickets_of : Pages → ℕ → List Ticket
tickets_of pages ino = map ticket_of (pages_of pages.dirty ino)

-- without a page among the dirty ones
abbrev pub without_dirty : Pages → ℕ → ℕ → Pages
without_dirty pages ino block =
    record { dirty = remove_entry (is_page (ino, block)) pages.dirty; clean = pages.clean; most = pages.most; calls = pages.calls }

-- with these bytes of a ticket's page, which has its place and the ticket's version
abbrev pub with_bytes : Pages → Ticket → List ℕ → Pages
with_bytes pages ticket bytes =
    record {
      dirty = set_value (is_page (ticket.ino, ticket.block)) pages.dirty (record { bytes = bytes; version = ticket.version });
      clean = pages.clean;
      most = pages.most;
      calls = pages.calls;
    }

-- whether a page is of this inode and has this block's number or a greater one
abbrev pub is_cut : ℕ → ℕ → ℕ × ℕ → Bool
is_cut ino from name = (name.0 == ino) && nat_le from name.1

-- without the pages of an inode from a block on
abbrev pub cut_list : {V : Type 0} → List ((ℕ × ℕ) × V) → ℕ → ℕ → List ((ℕ × ℕ) × V)
cut_list list ino from = filter (λ e. not (is_cut ino from e.0)) list

abbrev pub without_cut : Pages → ℕ → ℕ → Pages
without_cut pages ino from =
    record { dirty = cut_list pages.dirty ino from; clean = cut_list pages.clean ino from; most = pages.most; calls = pages.calls }

-- how many pages a cut takes
abbrev pub cut_count : {V : Type 0} → List ((ℕ × ℕ) × V) → ℕ → ℕ → ℕ
cut_count list ino from = length (filter (λ e. is_cut ino from e.0) list)
