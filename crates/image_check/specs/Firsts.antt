-- What is wrong first in one LEB, and what is wrong with a superblock.
use Rattle.std.specs.Prelude.{◌≡◌, ◌≢◌, ◌⊎◌, ℕ, ◌≤◌, Bool, true, false, if◌then◌else◌, List, Option, Some, None}
use Rattle.ubifs_base.specs.NodeType.{type_number}
use Rattle.ubifs_base.specs.declared.node_type.NodeType.TheVariants as types
use Rattle.ubifs_base.specs.declared.node_type.NodeType.{NodeType}
use Rattle.leb_scan.specs.Text.{IsText, nodes_of}
use Rattle.leb_scan.specs.declared.found.Found.{Found}
use Rattle.leb_scan.specs.declared.item.Item.{Item}
use Rattle.leb_scan.specs.declared.tail.Tail.{Tail}
use Rattle.leb_scan.specs.declared.tail.Tail.TheVariants.{Clean, Torn}
use Rattle.sound_image.specs.Breaches.{IsWrongField, SuperNeeds}
use Rattle.sound_image.specs.Wrong.{IsOneOf, needs, type_byte}
use Rattle.image_check.specs.declared.orphan_lists.Foreign.{Foreign}
use Rattle.sound_image.specs.declared.breach.Breach.{Breach}
use Rattle.sound_image.specs.declared.breach.Breach.TheVariants.{Super as InSuper, Feature as NeedsOne, NoMaster, Damaged}

-- what is wrong with a LEB that has to begin with a superblock
abbrev pub IsWrongSuper : List ℕ → Breach → Type 0
IsWrongSuper leb (InSuper field) = IsWrongField leb field
IsWrongSuper leb (NeedsOne what lnum offs) = SuperNeeds leb what (record { lnum = lnum; offs = offs; misfit = needs what })
IsWrongSuper leb NoMaster = ⊥
IsWrongSuper leb (Damaged rule lnum offs wanted found) = ⊥

-- at this offset of a LEB a node of this type stands that is neither an orphan node nor padding, or a torn tail with this byte for a type
pub record IsForeign (leb : List ℕ) (offs type : ℕ) : Type 0 where
  pub items : List Item
  pub end : ℕ
  pub tail : Tail
  pub is_text : IsText leb 0 items end tail
  pub wrong : ((found : Found) × IsOneOf found (nodes_of items) × (found.kind ≢ types.Orphans) × (found.kind ≢ types.Padding) × (offs ≡ found.offs) × (type ≡ type_number found.kind))
      ⊎ ((tail ≡ Torn) × (offs ≡ end) × (type ≡ type_byte leb end))

-- and none stands before it
pub record IsFirstForeign (leb : List ℕ) (offs type : ℕ) : Type 0 where
  pub is : IsForeign leb offs type
  pub least : (other kind : ℕ) → IsForeign leb other kind → (offs ≤ other) × (other ≡ offs → kind ≡ type)

-- whether a node of this type may stand in the orphan area
abbrev pub is_orphan_or_padding : NodeType → Bool
is_orphan_or_padding types.Orphans = true
is_orphan_or_padding types.Padding = true
is_orphan_or_padding other = false

-- what was found first, or the next node, if it is neither an orphan node nor padding
abbrev pub first_foreign_of : Option Foreign → Found → Option Foreign
first_foreign_of (Some foreign) found = Some foreign
first_foreign_of None found = if is_orphan_or_padding found.kind then None else Some (record { offs = found.offs; kind = type_number found.kind })

-- what was found first, or a torn tail that ends here
abbrev pub foreign_or_tail : List ℕ → Option Foreign → ℕ → Tail → Option Foreign
foreign_or_tail leb (Some foreign) end tail = Some foreign
foreign_or_tail leb None end Clean = None
foreign_or_tail leb None end Torn = Some (record { offs = end; kind = type_byte leb end })
