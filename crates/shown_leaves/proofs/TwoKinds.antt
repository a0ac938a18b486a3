-- What is wrong with nodes is of two kinds.
use Rattle.std.proofs.Common.{◌⊎◌, inl, inr}
use Rattle.leaf_map.specs.Parts.{Parts}
use Rattle.sound_image.specs.Breaches.{IsWrongNode}
use Rattle.sound_image.specs.Wrong.{Wrong}
use Rattle.shown_leaves.specs.FalseNodes.{IsFalseCopy, IsUnchanging}

pub kinds_of : (parts : Parts) (at : Wrong) → IsWrongNode parts at → IsUnchanging parts.nodes at ⊎ IsFalseCopy parts at
kinds_of parts at (x, inl (one, none), is) = inl (x, one, none, is)
kinds_of parts at (x, inr (one, other), is) = inr (x, one, other, is)

pub of_kinds : (parts : Parts) (at : Wrong) → IsUnchanging parts.nodes at ⊎ IsFalseCopy parts at → IsWrongNode parts at
of_kinds parts at (inl (x, one, none, is)) = (x, inl (one, none), is)
of_kinds parts at (inr (x, one, other, is)) = (x, inr (one, other), is)
