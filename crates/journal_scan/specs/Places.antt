-- Where the nodes of a journal stand: no two at one place, and each in a LEB from the offset on that the log names.
use Rattle.std.specs.Prelude.{◌≡◌, ◌==◌, ◌&&◌, Bool, true, false, List, [], ◌∷◌}
use Rattle.std.specs.List.{AllByRecursion}
use Rattle.ubifs_base.specs.JournalHead.{head_number}
use Rattle.media_leaf.specs.LeafNode.{IsLeaf}
use Rattle.leaf_map.specs.Kept.{Placed, kept_at}
use Rattle.leaf_map.specs.Parts.{Named, in_bud}
use Rattle.journal_scan.specs.declared.bud_text.BudText.{BudText}

-- whether two nodes stand at one place
abbrev pub at_one_place : Placed → Placed → Bool
at_one_place x y = (y.lnum == x.lnum) && (y.offs == x.offs)

-- none of these nodes stands at the place of this one
abbrev pub IsElsewhere : Placed → List Placed → Type 0
IsElsewhere x nodes = AllByRecursion (λ y. at_one_place x y ≡ false) nodes

-- no two of these nodes stand at one place
abbrev pub StandApart : List Placed → Type 0
StandApart [] = Unit {0}
StandApart (x ∷ nodes) = IsElsewhere x nodes × StandApart nodes

-- the log names the place of a node
abbrev pub HasNamedPlace : List Named → Placed → Type 0
HasNamedPlace named x = in_bud named (kept_at x).leaf ≡ true

-- Copies and other nodes stand at places that the log names, each at its own, and the nodes are of the grammar.
pub record HavePlaces (named : List Named) (copies nodes : List Placed) : Type 0 where
  pub copies_apart : StandApart copies
  pub nodes_apart : StandApart nodes
  pub beside : AllByRecursion (λ x. IsElsewhere x nodes) copies
  pub copies_named : AllByRecursion (HasNamedPlace named) copies
  pub nodes_named : AllByRecursion (HasNamedPlace named) nodes
  pub leaf_nodes : AllByRecursion (λ x. IsLeaf x.node) nodes

-- a LEB as the log names it
abbrev pub named_by : BudText → Named
named_by bud = record { head = head_number bud.head; lnum = bud.lnum; from = bud.from }

-- each LEB is told once
abbrev pub AreToldOnce : List BudText → Type 0
AreToldOnce [] = Unit {0}
AreToldOnce (bud ∷ buds) = AllByRecursion (λ (other : BudText). (other.lnum == bud.lnum) ≡ false) buds × AreToldOnce buds
