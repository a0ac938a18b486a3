use Rattle.std.proofs.Common.{ℕ, List, subst, sym, arith}
use Rattle.media_leaf.specs.LeafNode.{leaf_form, IsLeafNode, inode}
use Rattle.node_fields.specs.FormLaws.{framed-written, written_is}
use Rattle.media_leaf.proofs.ino_node.InoNode.encode_with.Goals as goal

pub returns-clause-spelling : goal.returns-clause-spelling
returns-clause-spelling c =
    framed-written leaf_form c.args.sqnum c.args.group (inode (record c.args.self.now { bytes = c.args.bytes.now })) c.frame.new.node c.split_at_mut.result.0.now c.write_body.new.body
    c.frame.ensures c.split_at_mut.ensures.front_len c.write_body.ensures.spelling

pub returns-clause-grammar : goal.returns-clause-grammar
returns-clause-grammar c =
    let node = inode (record c.args.self.now { bytes = c.args.bytes.now }) in
    let P : List ℕ → Type 0 = λ b. IsLeafNode b c.args.sqnum c.args.group node in
    subst P (sym (returns-clause-spelling c)) (written_is leaf_form c.args.sqnum c.args.group node (omega arith) c.requires.group (omega arith) c.write_body.ensures.fits (omega arith) c.requires.node)
