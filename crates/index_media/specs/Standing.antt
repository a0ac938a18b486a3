-- What stands in contents of a row some nodes of which are clean.
use Rattle.std.specs.Prelude.{◌≡◌, ℕ, true, List, Option, None, Some, ⊤}
use Rattle.ubifs_base.specs.declared.key.Key.{Key}
use Rattle.index_tree.specs.Levels.{levelled}
use Rattle.index_media.specs.Clean.{is_clean_row, node_branch, placed_of}
use Rattle.index_media.specs.KeyedRow.{KeyedRow, no_more, leaf_in, node_in, bare}
use Rattle.index_media.specs.PlacedRow.{Stretch, branches_of}
use Rattle.index_media.specs.Stored.{IsIndexNodeAt}

-- it holds of a node if the node is clean, by its branch's key, its place and the row of its children
abbrev pub OfClean : (Key → Stretch → KeyedRow → Type 0) → Key → Option Stretch → KeyedRow → Type 0
OfClean P key None children = ⊤
OfClean P key (Some place) children = P key place children

-- it holds of each clean node of a row, and of each below it
abbrev pub OfCleanNodes : (Key → Stretch → KeyedRow → Type 0) → KeyedRow → Type 0
OfCleanNodes P no_more = ⊤
OfCleanNodes P (leaf_in x rest) = OfCleanNodes P rest
OfCleanNodes P (node_in key place children rest) = OfClean P key place children × OfCleanNodes P children × OfCleanNodes P rest

-- A node stands at its place: an index node of the medium, which says its level, and the branches to its children. All of them are
-- clean. It holds of its place, of the sequence number that it has there, and of its group
pub record StandsAs (contents : ℕ → List ℕ) (P : Stretch → ℕ → ℕ → Type 0) (key : Key) (place : Stretch) (children : KeyedRow) : Type 0 where
  pub clean : is_clean_row children ≡ true
  pub level : ℕ
  pub levels : levelled level (bare children) ≡ true
  pub node : IsIndexNodeAt contents (node_branch key (Some place)) (record { level = level; branches = branches_of (placed_of children) })
  pub holds : P place node.sqnum node.group

-- each clean node of a row stands in contents so
abbrev pub AreStandingAs : (ℕ → List ℕ) → (Stretch → ℕ → ℕ → Type 0) → KeyedRow → Type 0
AreStandingAs contents P row = OfCleanNodes (StandsAs contents P) row
