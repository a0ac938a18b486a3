-- What it means that an index stands in contents: bytes by LEB.
use Rattle.std.specs.Prelude.{◌≡◌, ℕ, ◌+◌, ◌-◌, ◌<◌, ◌≤◌, None, IsTrue, List, length, take, drop, ⊤}
use Rattle.index_tree.specs.Shape.{fits}
use Rattle.media_sys.specs.Index.{Index}
use Rattle.media_sys.specs.SystemNode.{index, IsSystemNode}
use Rattle.media_sys.specs.declared.branch.Branch.{Branch}
use Rattle.index_media.specs.Keys.{AreBounded}
use Rattle.index_media.specs.PlacedRow.{PlacedRow, ended, leaf_at, node_at, plain, branches_of, node_end, Stretch}

-- where a branch leads, an intact index node of its length stands, which says this
pub record IsIndexNodeAt (contents : ℕ → List ℕ) (branch : Branch) (said : Index) : Type 0 where
  pub sqnum : ℕ
  pub group : ℕ
  pub room : branch.offs + branch.len ≤ length (contents branch.lnum)
  pub is : IsSystemNode (take branch.len (drop branch.offs (contents branch.lnum))) sqnum group (index said)

-- Each node of a row stands where its branch leads, and says its children's branches and its level. A row of so many
-- levels has leaves where that is 0, and else nodes of the level below, whose children's rows have one level less
unfoldable pub AreStored : (ℕ → List ℕ) → ℕ → PlacedRow → Type 0
AreStored contents levels ended = ⊤
AreStored contents levels (leaf_at x rest) = (levels ≡ 0) × AreStored contents levels rest
AreStored contents levels (node_at branch children rest) =
    (0 < levels) × IsIndexNodeAt contents branch (record { level = levels - 1; branches = branches_of children })
    × AreStored contents (levels - 1) children
    × AreStored contents levels rest

-- An index of nodes with at most fanout children stands in the contents, from the root's branch on.
pub record IsStoredIndex (contents : ℕ → List ℕ) (fanout : ℕ) (root : Branch) (placed : PlacedRow) : Type 0 where
  pub children : PlacedRow
  pub whole : placed ≡ node_at root children ended
  pub levels : ℕ
  pub stored : AreStored contents levels placed
  pub fits : IsTrue (fits fanout (plain placed))
  pub bounded : AreBounded 0 None placed

-- Contents changed in a stretch of a LEB, and up to the next multiple of 8 behind it, and nowhere else.
pub record AreChangedAt (old new : ℕ → List ℕ) (place : Stretch) : Type 0 where
  pub others : (k : ℕ) → (k ≡ place.lnum → ⊥) → new k ≡ old k
  pub before : take place.offs (new place.lnum) ≡ take place.offs (old place.lnum)
  pub behind : drop (node_end (place.offs + place.len)) (new place.lnum) ≡ drop (node_end (place.offs + place.len)) (old place.lnum)
