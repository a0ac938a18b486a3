use Rattle.std.proofs.Common.{List, ℕ, take, drop, ap, sym, ◌∙◌, subst}
use Rattle.media_leaf.specs.LeafNode.{IsLeafNode}
use Rattle.journal_scan.specs.declared.journal_node.JournalNode.{JournalNode}
use Rattle.journal_scan.specs.declared.node_content.NodeContent.{NodeContent}
use Rattle.journal_scan.proofs.Found.{leaf_there}
use Rattle.journal_scan.proofs.leaves.leaf_at.Goals as goal

pub returns-clause-some : goal.returns-clause-some
returns-clause-some c =
    let f = c.args.found in
    let there = leaf_there c.args.bud.now.bytes f c.requires (sym c.is_leaf.ensures ∙ c.if-not-is_leaf.false) in
    let slice = c.split_at-2.ensures.front ∙ ap (take f.len) (c.split_at.ensures.back ∙ ap (drop f.offs) c.as_slice.ensures) in
    let P : List ℕ → Type 0 = λ bytes. IsLeafNode bytes f.sqnum f.group there.0 in
    let content = c.in_ok-content.ensures f.sqnum f.group there.0 (subst P (sym slice) there.1.is) there.1.kind in
    let at : NodeContent → JournalNode = λ x. record { content = x; sqnum = f.sqnum; lnum = c.args.bud.now.lnum; offs = f.offs; len = f.len } in
    (there.0, there.1, ap at content)
