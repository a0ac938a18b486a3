use Rattle.std.proofs.Common.{◌≡◌, ◌^◌, ◌≤◌, ℕ, List, ◌++◌}
use Rattle.ubifs_base.specs.RawOf.{raw_of}
use Rattle.laid_index.specs.Counted.{lebs_after}
use Rattle.laid_index.specs.Packing.{level_lens}
use Rattle.laid_index.proofs.packing.LebCount.take_level.Given as goal

-- what is left and what comes then takes as many LEBs as all
abbrev pub invariant-taking : goal.invariant-taking
invariant-taking l =
    ((lens : List ℕ) → lebs_after (raw_of l.geometry) l.self (level_lens l.geometry.fanout l.left ++ lens) ≡ lebs_after (raw_of l.geometry) l.fn.self (level_lens l.geometry.fanout l.fn.n ++ lens))
    × (l.self.taken ≤ 2 ^ 22)

abbrev pub decreases-taking : goal.decreases-taking
decreases-taking l = l.left
