use Rattle.std.proofs.Common.{ℕ, ◌∷◌, [], ◌++◌, List, ap, ◌∙◌, drop, length-append, subst, sym, arith}
use Rattle.ubifs_base.specs.Node.{node_bytes}
use Rattle.media_leaf.specs.LeafNode.{leaf_form, IsLeafNode, entry}
use Rattle.node_fields.specs.FormLaws.{framed-written, written_is}
use Rattle.media_leaf.proofs.dent_node.DentNode.encode_with.Goals as goal

pub returns-clause-spelling : goal.returns-clause-spelling
returns-clause-spelling c =
    framed-written leaf_form c.args.sqnum c.args.group (entry (record c.args.self.now { name = c.args.name.now })) c.frame.new.node c.split_at_mut.result.0.now c.write_body.new.body
    (c.frame.ensures ∙ ap (λ (k : ℕ). node_bytes c.args.sqnum k c.args.group (0 ∷ 0 ∷ []) (drop 24 (c.split_at_mut.result.0.now ++ c.write_body.new.body))) c.kind_of-kind.ensures) c.split_at_mut.ensures.front_len c.write_body.ensures.spelling

pub returns-clause-grammar : goal.returns-clause-grammar
returns-clause-grammar c =
    let node = entry (record c.args.self.now { name = c.args.name.now }) in
    let P : List ℕ → Type 0 = λ b. IsLeafNode b c.args.sqnum c.args.group node in
    let wide = length-append c.args.name.now (0 ∷ []) in
    subst P (sym (returns-clause-spelling c)) (written_is leaf_form c.args.sqnum c.args.group node (omega arith) c.requires.group (omega (arith, c.kind_of-kind.ensures)) c.write_body.ensures.fits (omega (arith, wide)) c.requires.node)
