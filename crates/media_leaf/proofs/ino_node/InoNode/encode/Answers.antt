use Rattle.std.proofs.Common.{ℕ, List, ap, ◌∙◌}
use Rattle.media_leaf.specs.LeafNode.{written, inode}
use Rattle.media_leaf.proofs.ino_node.InoNode.encode.Goals as goal

pub returns-clause-spelling : goal.returns-clause-spelling
returns-clause-spelling c = c.encode_with.ensures.spelling ∙ ap (λ (b : List ℕ). written c.args.sqnum c.args.group (inode (record c.args.self.now { bytes = b }))) c.as_slice.ensures
