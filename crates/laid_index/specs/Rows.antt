-- Rows of nodes over a row of siblings, so many in each.
use Rattle.std.specs.Prelude.{◌≡◌, ℕ, zero, suc, ◌-◌, ◌<◌, ◌≤◌, List, [], ◌∷◌, length, map, take, drop, ⊤, IsTrue, None}
use Rattle.std.specs.List.{AllByRecursion}
use Rattle.ubifs_base.specs.Key.{IsKey}
use Rattle.media_sys.specs.Index.{in_order}
use Rattle.media_sys.specs.declared.branch.Branch.{Branch}
use Rattle.index_media.specs.PlacedRow.{PlacedRow, ended, leaf_at, node_at, branches_of}
use Rattle.index_media.specs.Stored.{IsIndexNodeAt}

-- the first n of a row
abbrev pub row_front : ℕ → PlacedRow → PlacedRow
row_front n ended = ended
row_front zero (leaf_at x rest) = ended
row_front (suc n) (leaf_at x rest) = leaf_at x (row_front n rest)
row_front zero (node_at b c rest) = ended
row_front (suc n) (node_at b c rest) = node_at b c (row_front n rest)

-- the row behind its first n
abbrev pub row_back : ℕ → PlacedRow → PlacedRow
row_back n ended = ended
row_back zero (leaf_at x rest) = leaf_at x rest
row_back (suc n) (leaf_at x rest) = row_back n rest
row_back zero (node_at b c rest) = node_at b c rest
row_back (suc n) (node_at b c rest) = row_back n rest

-- the nodes to which these branches lead, over the siblings of a row, so many in each
abbrev pub parents : ℕ → List Branch → PlacedRow → PlacedRow
parents fanout [] row = ended
parents fanout (b ∷ bs) row = node_at b (row_front fanout row) (parents fanout bs (row_back fanout row))

-- a branch has the key of the first of these
abbrev pub HasFirstKey : Branch → List Branch → Type 0
HasFirstKey b children = map (λ (branch : Branch). branch.key) (take 1 children) ≡ b.key ∷ []

-- Branches to nodes over some siblings, so many in each, with the key of the first; these siblings are left.
abbrev pub AreOver : ℕ → List Branch → List Branch → List Branch → Type 0
AreOver fanout children [] left = children ≡ left
AreOver fanout children (b ∷ bs) left = HasFirstKey b children × AreOver fanout (drop fanout children) bs left

-- they stand in contents, and say this level and the branches to their siblings
abbrev pub StandOver : (ℕ → List ℕ) → ℕ → ℕ → List Branch → List Branch → Type 0
StandOver contents fanout level children [] = ⊤
StandOver contents fanout level children (b ∷ bs) =
    IsIndexNodeAt contents b (record { level = level; branches = take fanout children }) × StandOver contents fanout level (drop fanout children) bs

-- Each node of a row of so many levels stands where its branch leads, and says its level and the branches to its children, at most so many; its branch has the
-- first one's key
abbrev pub IsGrown : (ℕ → List ℕ) → ℕ → ℕ → PlacedRow → Type 0
IsGrown contents fanout levels ended = ⊤
IsGrown contents fanout levels (leaf_at x rest) = (levels ≡ 0) × IsGrown contents fanout levels rest
IsGrown contents fanout levels (node_at b c rest) =
    (0 < levels) × IsIndexNodeAt contents b (record { level = levels - 1; branches = branches_of c })
    × HasFirstKey b (branches_of c) × (length (branches_of c) ≤ fanout)
    × IsGrown contents fanout (levels - 1) c × IsGrown contents fanout levels rest

-- the keys of siblings are keys, and may follow one another in a node
pub record AreInOrder (siblings : List Branch) : Type 0 where
  pub keys : AllByRecursion (λ (branch : Branch). IsKey branch.key) siblings
  pub order : IsTrue (in_order None siblings)
