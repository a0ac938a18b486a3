use Rattle.std.proofs.Common.{◌∙◌, List, ℕ, subst, sym}
use Rattle.media_leaf.specs.LeafNode.{IsLeafNode}
use Rattle.shown_leaves.proofs.StandingNodes.{bytes_read, placed_there}
use Rattle.shown_leaves.proofs.standing.read_standing.Goals as goal

pub returns-clause-shown : goal.returns-clause-shown
returns-clause-shown g c = λ node from placed.
    let contents = (g.V.Volume.state c.args.volume.now).holds in
    let source = c.args.source in
    let bytes = c.in_ok-read.ensures.read ∙ bytes_read (contents source.lnum) source.offs _ source.len c.split_at_mut-bytes.ensures.front_len in
    let P : List ℕ → Type 0 = λ b. IsLeafNode b node.sqnum node.group node.node in
    c.in_ok-shown.ensures node.sqnum node.group node.node (subst P (sym bytes) (placed_there contents source node from placed))
