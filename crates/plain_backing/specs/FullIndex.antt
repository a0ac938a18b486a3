-- What an index of full nodes weighs: its nodes, and the full ones.
use Rattle.std.specs.Prelude.{ℕ, zero, suc, ◌+◌, ◌/◌, nat_le, if◌then◌else◌}
use Rattle.std.specs.Int.{div_ceil}

-- the weight of the nodes over so many siblings and of all above them up to the root, of so many levels at most: each is full but for the last of a level
unfoldable pub weight_above : ℕ → ℕ → ℕ → ℕ
weight_above zero fanout n = 1
weight_above (suc levels) fanout n = if nat_le n fanout then 1 + n / fanout else div_ceil n fanout + n / fanout + weight_above levels fanout (div_ceil n fanout)

-- the weight of an index over so many leaves
abbrev pub full_index_weight : ℕ → ℕ → ℕ
full_index_weight fanout leaves = weight_above leaves fanout leaves
