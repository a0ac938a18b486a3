use Rattle.std.proofs.Common.{◌≡◌}
use Rattle.node_cache.specs.Kept.{kept_in}
use Rattle.node_cache.proofs.forgetting.place_in.Given as goal

-- the first one is that of those that are left
abbrev pub invariant-loop-place : goal.invariant-loop-place
invariant-loop-place l = kept_in l.lnum l.place-iterator ≡ kept_in l.lnum l.nodes.entries
