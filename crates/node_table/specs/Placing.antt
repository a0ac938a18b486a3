-- A node is given a place.
use Rattle.std.specs.Prelude.{◌≡◌, ◌⊎◌, ◌==◌, not, ℕ, zero, suc, List, [], ◌∷◌, Option, None, Some, filter}
use Rattle.index_media.specs.KeyedRow.{KeyedRow, no_more, leaf_in, node_in}
use Rattle.index_media.specs.PlacedRow.{Stretch}
use Rattle.table_nodes.specs.NodeView.{stretch_at}
use Rattle.table_nodes.specs.declared.node.NodePlace.{NodePlace}
use Rattle.table_nodes.specs.declared.node.TableNode.{TableNode}

-- a table in which the node of this number stands at a place, and all else is as it was
abbrev pub with_place : ℕ → NodePlace → List TableNode → List TableNode
with_place number place [] = []
with_place zero place (node ∷ nodes) = record node { place = Some place } ∷ nodes
with_place (suc number) place (node ∷ nodes) = node ∷ with_place number place nodes

-- A row in which some nodes were given this place: they were dirty, and this stands below them. All other nodes are as they
-- were, with their keys and their places
abbrev pub IsPlacedRow : NodePlace → KeyedRow → KeyedRow → KeyedRow → Type 0
IsPlacedRow place below no_more new = new ≡ no_more
IsPlacedRow place below (leaf_in x rest) new = (rest' : KeyedRow) × (new ≡ leaf_in x rest') × IsPlacedRow place below rest rest'
IsPlacedRow place below (node_in key old children rest) new =
    (now : Option Stretch) × (children' rest' : KeyedRow) × (new ≡ node_in key now children' rest')
    × ((now ≡ old) ⊎ ((old ≡ None) × (now ≡ stretch_at (Some place)) × (children ≡ below)))
    × IsPlacedRow place below children children'
    × IsPlacedRow place below rest rest'

-- a row as it was, but that some nodes that were dirty have places
abbrev pub KeepsPlaces : KeyedRow → KeyedRow → Type 0
KeepsPlaces no_more new = new ≡ no_more
KeepsPlaces (leaf_in x rest) new = (rest' : KeyedRow) × (new ≡ leaf_in x rest') × KeepsPlaces rest rest'
KeepsPlaces (node_in key old children rest) new =
    (now : Option Stretch) × (children' rest' : KeyedRow) × (new ≡ node_in key now children' rest')
    × ((now ≡ old) ⊎ (old ≡ None))
    × KeepsPlaces children children'
    × KeepsPlaces rest rest'

-- numbers without one of them
abbrev pub without_number : ℕ → List ℕ → List ℕ
without_number number numbers = filter (λ n. not (n == number)) numbers
