-- What is answered of an index.
use Rattle.std.specs.Prelude.{◌≡◌}
use Rattle.index_tree.specs.Shape.{contents as leaves_in}
use Rattle.index_media.specs.PlacedRow.{PlacedRow, all_nodes, plain}
use Rattle.index_check.specs.declared.index_found.IndexFound.{IndexFound}

-- these are its leaves from left to right, and the branches to its nodes, each before those below it
pub record IsFoundIndex (placed : PlacedRow) (found : IndexFound) : Type 0 where
  pub leaves : found.leaves.items ≡ leaves_in (plain placed)
  pub nodes : found.nodes.items ≡ all_nodes placed
