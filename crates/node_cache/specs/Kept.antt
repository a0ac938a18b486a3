-- Index nodes that are kept of a volume.
use Rattle.std.specs.Prelude.{◌≡◌, ◌==◌, ℕ, if◌then◌else◌, not, List, [], ◌∷◌, Option, None, Some, Contains, filter}
use Rattle.ubifs_base.specs.declared.key.Key.TheVariants.{Ino}
use Rattle.media_sys.specs.Index.{Index, index_of}
use Rattle.media_sys.specs.declared.branch.Branch.{Branch}
use Rattle.media_sys.specs.declared.idx_node.IdxNode.{IdxNode}
use Rattle.index_media.specs.Stored.{IsIndexNodeAt}
use Rattle.node_cache.specs.declared.cache.NodeCache.{NodeCache}

-- where a branch leads: the LEB, the offset and the length
abbrev pub branch_place : Branch → ℕ × ℕ × ℕ
branch_place branch = (branch.lnum, branch.offs, branch.len)

-- a branch to a place, with some key
abbrev pub to_place : ℕ × ℕ × ℕ → Branch
to_place place = record { lnum = place.0; offs = place.1; len = place.2; key = Ino 0 }

-- an index node that stands at this place says what this one says
abbrev pub IsIndexNodeOf : (ℕ → List ℕ) → ℕ × ℕ × ℕ → IdxNode → Type 0
IsIndexNodeOf contents place node = (said : Index) → IsIndexNodeAt contents (to_place place) said → index_of node ≡ said

-- each node that is kept is that of its place
abbrev pub AreKept : (ℕ → List ℕ) → NodeCache → Type 0
AreKept contents cache = (place : ℕ × ℕ × ℕ) (node : IdxNode) → Contains cache.nodes.entries (place, node) → IsIndexNodeOf contents place node

-- the nodes that are kept of other LEBs
abbrev pub beside_leb : ℕ → List ((ℕ × ℕ × ℕ) × IdxNode) → List ((ℕ × ℕ × ℕ) × IdxNode)
beside_leb lnum entries = filter (λ entry. not (entry.0.0 == lnum)) entries

-- the first place in a LEB of which a node is kept
abbrev pub kept_in : ℕ → List ((ℕ × ℕ × ℕ) × IdxNode) → Option (ℕ × ℕ × ℕ)
kept_in lnum [] = None
kept_in lnum (entry ∷ entries) = if entry.0.0 == lnum then Some entry.0 else kept_in lnum entries
