-- The keys of a placed row: they ascend, and what is below a branch lies between its key and the next one's.
use Rattle.std.specs.Prelude.{ℕ, ◌≤◌, Option, Some, None, ⊤}
use Rattle.index_tree.specs.Order.{key_rank, leaf_rank}
use Rattle.media_sys.specs.declared.branch.Branch.{Branch}
use Rattle.index_media.specs.PlacedRow.{PlacedRow, ended, leaf_at, node_at}

-- a branch's place in the order is its key's
abbrev pub branch_rank : Branch → ℕ
branch_rank branch = key_rank branch.key

-- no rank is above none
abbrev pub IsAtMost : ℕ → Option ℕ → Type 0
IsAtMost rank None = ⊤
IsAtMost rank (Some most) = rank ≤ most

-- what bounds the keys in front of a row: its first key, or what bounds the row where it has none
abbrev pub bound_before : PlacedRow → Option ℕ → Option ℕ
bound_before ended most = most
bound_before (leaf_at x rest) most = Some (leaf_rank x)
bound_before (node_at branch children rest) most = Some (branch_rank branch)

-- the keys of a row ascend from the least to the most, and those below a branch from its key to the next one's
abbrev pub AreBounded : ℕ → Option ℕ → PlacedRow → Type 0
AreBounded least most ended = ⊤
AreBounded least most (leaf_at x rest) = (least ≤ leaf_rank x) × IsAtMost (leaf_rank x) most × AreBounded (leaf_rank x) most rest
AreBounded least most (node_at branch children rest) =
    (least ≤ branch_rank branch) × IsAtMost (branch_rank branch) most
    × AreBounded (branch_rank branch) (bound_before rest most) children
    × AreBounded (branch_rank branch) most rest
