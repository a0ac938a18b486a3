use Rattle.std.proofs.Common.{◌≡◌, length}
use Rattle.node_cache.specs.Kept.{beside_leb}
use Rattle.node_cache.proofs.forgetting.let_go.Given as goal

-- those of other LEBs are there still
abbrev pub invariant-loop-place : goal.invariant-loop-place
invariant-loop-place l = record { rest : beside_leb l.lnum l.nodes.entries ≡ beside_leb l.lnum l.fn.nodes.entries; capacity : l.nodes.cap ≡ l.fn.nodes.cap }

abbrev pub decreases-loop-place : goal.decreases-loop-place
decreases-loop-place l = length l.nodes.entries
