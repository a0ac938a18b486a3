-- What lists of leaves and of nodes of an index tell of bytes and of weight.
use Rattle.std.specs.Prelude.{ℕ, ◌+◌, ◌*◌, nat_le, if◌then◌else◌, List, sum_by}
use Rattle.fs_model.specs.Cover.{round_8}
use Rattle.media_sys.specs.declared.branch.Branch.{Branch}
use Rattle.index_tree.specs.declared.leaf.Leaf.{Leaf}

-- the bytes that a leaf takes
abbrev pub bytes_of_leaf : Leaf → ℕ
bytes_of_leaf leaf = round_8 leaf.len

-- 2 for a node as long as one with as many branches as it may have, and else 1: after 28 bytes a branch has 20
abbrev pub node_weight : ℕ → Branch → ℕ
node_weight fanout node = if nat_le (28 + 20 * fanout) node.len then 2 else 1

-- the weight of nodes
abbrev pub weight_by_lengths : ℕ → List Branch → ℕ
weight_by_lengths fanout nodes = sum_by (node_weight fanout) nodes
