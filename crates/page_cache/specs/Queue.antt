-- Dirty pages by name, each with the number of the place that it took, and the places in the order in which they were taken. A page
-- that is clean again leaves its place behind, and takes another one when it becomes dirty again.
use Rattle.std.specs.Prelude.{◌≡◌, ℕ, ◌+◌, ◌*◌, ◌<◌, ◌≤◌, ◌==◌, if◌then◌else◌, List, [], ◌∷◌, length, Some, None}
use Rattle.std.specs.declared.option.Option.{Option}
use Rattle.std.specs.List.{AllByRecursion, IsDistinct}
use Rattle.std.specs.Option.{option_map, option_map_or}
use Rattle.std.specs.Map.{keys_of, lookup}
use Rattle.page_cache.specs.declared.dirty_page.DirtyPage.{DirtyPage}
use Rattle.page_cache.specs.declared.place.Placed.{Placed}
use Rattle.page_cache.specs.declared.place.Place.{Place}
use Rattle.page_cache.specs.Pages.{is_page}

-- the page of a place, unless it left the place
abbrev pub page_placed : List ((ℕ × ℕ) × Placed) → Place → Option DirtyPage
page_placed pages place = option_map_or (λ placed. if placed.place == place.number then Some placed.page else None) (lookup (is_page place.name) pages) None

-- the pages in the order of their places
abbrev pub pages_by_place : List ((ℕ × ℕ) × Placed) → List Place → List ((ℕ × ℕ) × DirtyPage)
pages_by_place pages [] = []
pages_by_place pages (p ∷ places) = option_map_or (λ page. (p.name, page) ∷ pages_by_place pages places) (page_placed pages p) (pages_by_place pages places)

-- the pages are the same, but for this name's
abbrev pub IsChangedAt : ℕ × ℕ → Option Placed → List ((ℕ × ℕ) × Placed) → List ((ℕ × ℕ) × Placed) → Type 0
IsChangedAt name value old new = (other : ℕ × ℕ) → lookup (is_page other) new ≡ (if is_page name other then value else lookup (is_page other) old)

-- each place has a number below this one
abbrev pub ArePlacesBelow : ℕ → List Place → Type 0
ArePlacesBelow next places = AllByRecursion (λ place. place.number < next) places

-- Pages are in the order of their places: each page has a place, none stands twice in the order, and the next place is a new one.
pub record IsOrdered (pages : List ((ℕ × ℕ) × Placed)) (places : List Place) (next : ℕ) : Type 0 where
  pub placed : (name : ℕ × ℕ) → lookup (is_page name) (pages_by_place pages places) ≡ option_map (λ placed. placed.page) (lookup (is_page name) pages)
  pub once : IsDistinct is_page (keys_of (pages_by_place pages places))
  pub below : ArePlacesBelow next places

-- What holds of pages and places: the pages are in order, and places that were left are no more than the others and one.
pub record IsQueue (pages : List ((ℕ × ℕ) × Placed)) (places : List Place) (next : ℕ) : Type 0 where
  pub ordered : IsOrdered pages places next
  pub few : length places ≤ 2 * length (pages_by_place pages places) + 1
