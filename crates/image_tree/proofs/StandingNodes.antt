-- What the law says of nodes that were read of buds: they stand in their LEBs, and are of the grammar.
use Rattle.std.proofs.Common.{ℕ, List}
use Rattle.std.specs.List.{AllByRecursion}
use Rattle.bud_log.specs.declared.head_at.HeadAt.{HeadAt}
use Rattle.media_leaf.specs.LeafNode.{IsLeaf}
use Rattle.leaf_map.specs.Kept.{Placed}
use Rattle.journal_scan.specs.Journal.{BudRead, copies_in, journal_nodes_in}
use Rattle.sound_image.specs.Buds.{HasBuds}
use Rattle.sound_image.specs.Leaves.{IsPlacedIn}

pub record StandingLaws : Type 0 where
  pub nodes : (contents : ℕ → List ℕ) (buds : List HeadAt) (reads : List BudRead) → HasBuds contents buds reads → AllByRecursion (IsPlacedIn contents) (journal_nodes_in reads)
  pub copies : (contents : ℕ → List ℕ) (buds : List HeadAt) (reads : List BudRead) → HasBuds contents buds reads → AllByRecursion (IsPlacedIn contents) (copies_in reads)
  pub grammar : (contents : ℕ → List ℕ) (nodes : List Placed) → AllByRecursion (IsPlacedIn contents) nodes → AllByRecursion (λ (x : Placed). IsLeaf x.node) nodes
