use Rattle.std.proofs.Common.{ℕ, arith}
use Rattle.media_leaf.specs.LeafNode.{IsLeafNode, truncation}
use Rattle.shown_leaves.proofs.StandingNodes.{shown_one, some_is}
use Rattle.shown_leaves.proofs.Stored.{none_is}
use Rattle.shown_leaves.proofs.standing.truncation_in.Goals as goal

pub returns-in_default : goal.returns-in_default
returns-in_default c = λ sqnum group node h. absurd (none_is c.in_ok-node.field-0 _ c.in_default.is c.in_ok-node.ensures.none sqnum group node h)

pub returns : goal.returns
returns c = λ sqnum group node h.
    let is = some_is c.in_ok-node.field-0 c.in-Some.node (λ n. (t : ℕ) × (k : ℕ) × IsLeafNode c.args.bytes.now t k (truncation n)) c.in-Some.is c.in_ok-node.ensures.found in
    shown_one c.one_node.ensures c.args.bytes.now (λ i. omega (arith, c.type_inv.bytes i)) (truncation c.in-Some.node) c.truncation_shown.result is c.truncation_shown.ensures sqnum group (truncation node) h
