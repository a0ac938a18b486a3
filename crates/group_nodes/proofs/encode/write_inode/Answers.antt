use Rattle.std.proofs.Common.{ℕ, ◌+◌, List, ap, ◌∙◌}
use Rattle.media_leaf.specs.LeafNode.{written, inode}
use Rattle.media_leaf.specs.declared.ino_node.InoNode.{InoNode}
use Rattle.group_nodes.specs.Nodes.{inode_node}
use Rattle.group_nodes.proofs.encode.write_inode.Goals as goal

pub returns : goal.returns
returns c =
    let node : InoNode = inode_node c.args.ino c.args.inode.now in
    c.encode_with.ensures.spelling
    ∙ ap (λ (b : List ℕ). written c.args.sqnum c.args.group (inode (record node { mode = c.type_bits.result + c.args.inode.now.mode; bytes = b }))) c.as_slice.ensures
    ∙ ap (λ (bits : ℕ). written c.args.sqnum c.args.group (inode (record node { mode = bits + c.args.inode.now.mode }))) c.type_bits.ensures.bits
