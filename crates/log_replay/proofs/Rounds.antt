-- Nodes one after another lead to the leaves after all of them.
use Rattle.std.proofs.Common.{◌≡◌, List, [], ◌∷◌, map, subst}
use Rattle.media_leaf.specs.LeafNode.{IsLeaf}
use Rattle.leaf_map.specs.After.{kept_after}
use Rattle.leaf_map.specs.Kept.{Kept, Placed}
use Rattle.leaf_map.specs.Recovered.{leaves_after}
use Rattle.journal_scan.specs.Content.{told}
use Rattle.journal_scan.specs.declared.journal_node.JournalNode.{JournalNode}
use Rattle.log_replay.specs.declared.standing.Standing.{Standing}
use Rattle.log_replay.specs.Standing.{IsFreshPlace, StandsForLeaves}
use Rattle.log_replay.specs.Told.{AreNodesOf}

-- the nodes that are left lead to these leaves
pub record Leads (last : List Kept) (s : Standing) (items : List JournalNode) : Type 0 where
  pub kept : List Kept
  pub placed : List Placed
  pub stands : StandsForLeaves kept s
  pub nodes : AreNodesOf kept placed items
  pub leads : leaves_after kept placed ≡ last

pub lead_on : (last : List Kept) (s t : Standing) (x : JournalNode) (rest : List JournalNode) → Leads last s (x ∷ rest)
    → ((kept : List Kept) (new : Placed) → x ≡ told new → IsLeaf new.node → IsFreshPlace kept new → StandsForLeaves kept s → StandsForLeaves (kept_after kept new) t) → Leads last t rest
lead_on last s t x rest l step = by l.placed l.nodes l.leads
  where
    by : (placed : List Placed) → AreNodesOf l.kept placed (x ∷ rest) → leaves_after l.kept placed ≡ last → Leads last t rest
    by [] n e = let no : x ∷ rest ≡ [] = n.of_nodes in absurd cc
    by (new ∷ placed) n e =
        let all : x ∷ rest ≡ told new ∷ map told placed = n.of_nodes in
        let head : x ≡ told new = cc in
        let tail : rest ≡ map told placed = cc in
        record {
          kept = kept_after l.kept new;
          placed = placed;
          stands = step l.kept new head n.leaf_nodes.0 n.fresh.0 l.stands;
          nodes = record { of_nodes = tail; leaf_nodes = n.leaf_nodes.1; fresh = n.fresh.1 };
          leads = e;
        }

pub lead_end : (last : List Kept) (s : Standing) → Leads last s [] → StandsForLeaves last s
lead_end last s l = by l.placed l.nodes l.leads
  where
    by : (placed : List Placed) → AreNodesOf l.kept placed [] → leaves_after l.kept placed ≡ last → StandsForLeaves last s
    by [] n e = subst (λ (ks : List Kept). StandsForLeaves ks s) e l.stands
    by (new ∷ placed) n e = let no : [] ≡ told new ∷ map told placed = n.of_nodes in absurd cc
