use Rattle.std.proofs.Common.{◌≡◌, ◌≤◌, ◌-◌, ◌*◌, [], length, take}
use Rattle.index_commit.specs.LebTexts.{index_bytes, nodes_written}
use Rattle.index_commit.specs.Written.{AreNodesLaid}
use Rattle.index_commit.proofs.laying.lay_nodes.Given as goal

-- nodes are laid up to the bytes that are used
abbrev pub invariant-loop-used : goal.invariant-loop-used
invariant-loop-used l =
    AreNodesLaid l.lnum l.room (record { index = l.fn.index; sqnum = l.fn.sqnum; bytes = [] }) (record { index = l.index; sqnum = l.sqnum; bytes = take l.used l.leb })
    × (l.used ≤ length l.leb) × (length l.leb ≡ length l.fn.leb) × (l.live ≡ index_bytes (nodes_written l.fn.index l.index (l.sqnum - l.fn.sqnum))) × (l.live ≤ 2 * l.used)

abbrev pub decreases-loop-used : goal.decreases-loop-used
decreases-loop-used l = length l.leb - l.used
