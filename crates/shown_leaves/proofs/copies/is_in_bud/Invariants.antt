use Rattle.std.proofs.Common.{◌≡◌, drop, map}
use Rattle.leaf_map.specs.Parts.{in_bud}
use Rattle.sound_image.specs.Image.{named_by_ref_node}
use Rattle.shown_leaves.proofs.copies.is_in_bud.Given as goal

abbrev pub invariant-loop-reference : goal.invariant-loop-reference
invariant-loop-reference l = in_bud (map named_by_ref_node (drop l.reference-index l.references)) l.leaf ≡ in_bud (map named_by_ref_node l.references) l.leaf
