-- The rule on the orphan area (`kill_orphans` of Linux fs/ubifs).
use Rattle.std.specs.Prelude.{◌≡◌, ◌⊎◌, ℕ, ◌<◌, ◌≤◌, List, All}
use Rattle.ubifs_base.specs.Areas.{orph_first, main_first}
use Rattle.ubifs_base.specs.declared.node_type.NodeType.TheVariants as types
use Rattle.ubifs_base.specs.declared.raw_geometry.RawGeometry.{RawGeometry}
use Rattle.leb_scan.specs.Text.{IsText, nodes_of}
use Rattle.leb_scan.specs.declared.found.Found.{Found}
use Rattle.leb_scan.specs.declared.item.Item.{Item}
use Rattle.leb_scan.specs.declared.tail.Tail.TheVariants.{Clean}

-- a LEB has orphan nodes of the grammar and padding, and nothing else is written in it
pub record HasOrphanNodes (leb : List ℕ) : Type 0 where
  pub items : List Item
  pub end : ℕ
  pub is_text : IsText leb 0 items end Clean
  pub kinds : All (λ (found : Found). (found.kind ≡ types.Orphans) ⊎ (found.kind ≡ types.Padding)) (nodes_of items)

-- Each LEB of the orphan area has orphan nodes of the grammar, padding, and nothing else.
abbrev pub HasOrphanLists : (ℕ → List ℕ) → RawGeometry → Type 0
HasOrphanLists contents geo = (lnum : ℕ) → orph_first geo ≤ lnum → lnum < main_first geo → HasOrphanNodes (contents lnum)
