use Rattle.std.proofs.Common.{◌≡◌, ℕ, max, fold, drop}
use Rattle.ubifs_base.specs.Key.{key_words}
use Rattle.log_replay.specs.declared.committed_leaf.CommittedLeaf.{CommittedLeaf}
use Rattle.log_replay.specs.Replay.{highest_of}
use Rattle.log_replay.proofs.recovery.highest_of.Given as goal

-- the greatest of those so far, and then of the others
abbrev pub invariant-loop-leaf : goal.invariant-loop-leaf
invariant-loop-leaf l = fold (λ (n : ℕ) (x : CommittedLeaf). max n (key_words x.leaf.key).0) l.most (drop l.leaf-index l.leaves) ≡ highest_of l.leaves
