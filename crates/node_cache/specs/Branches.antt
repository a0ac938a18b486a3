-- The branches of an index node, by their keys.
use Rattle.std.specs.Prelude.{◌≡◌, ℕ, ◌+◌, Bool, false, nat_le, List, [], ◌∷◌, Some, length, slice_get}
use Rattle.index_tree.specs.declared.leaf.Leaf.{Leaf}
use Rattle.media_sys.specs.declared.branch.Branch.{Branch}
use Rattle.index_media.specs.Keys.{branch_rank}
use Rattle.node_cache.specs.declared.nth.Nth.{Nth}
use Rattle.node_cache.specs.declared.nth.Nth.TheVariants.{Found, Fewer}

-- whether there is a first branch, of this rank or a lower one
abbrev pub branches_begin : ℕ → List Branch → Bool
branches_begin rank [] = false
branches_begin rank (branch ∷ rest) = nat_le (branch_rank branch) rank

-- of some leaves the one behind nth others, or how many of nth they leave where they are too few
abbrev pub IsNth : List Leaf → ℕ → Nth → Type 0
IsNth xs nth (Found x) = slice_get xs nth ≡ Some x
IsNth xs nth (Fewer left) = nth ≡ length xs + left
