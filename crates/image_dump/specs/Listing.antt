-- The listing of a volume: for each LEB what stands in it.
use Rattle.std.specs.Prelude.{◌≡◌, ◌⊎◌, ℕ, ◌<◌, ◌≤◌, suc, zero, IsTrue, IsFalse, List, [], ◌∷◌, ◌++◌, codes}
use Rattle.std.specs.Fmt.{decimal}
use Rattle.ubifs_base.specs.Areas.{lpt_first, orph_first}
use Rattle.ubifs_base.specs.declared.node_type.NodeType.{NodeType}
use Rattle.ubifs_base.specs.declared.node_type.NodeType.TheVariants.{Inode, Data, Entry, Attribute, Truncation, Padding, Superblock, Master, Reference, Index, CommitStart, Orphans}
use Rattle.ubifs_base.specs.declared.raw_geometry.RawGeometry.{RawGeometry}
use Rattle.text_lines.specs.Lines.{line_of}
use Rattle.leb_scan.specs.Text.{IsText, nodes_of, is_blank}
use Rattle.leb_scan.specs.declared.found.Found.{Found}
use Rattle.leb_scan.specs.declared.item.Item.{Item}
use Rattle.leb_scan.specs.declared.tail.Tail.{Tail}
use Rattle.leb_scan.specs.declared.tail.Tail.TheVariants.{Clean, Torn}

-- the word for a node type
abbrev pub kind_word : NodeType → List ℕ
kind_word Inode = codes "ino"
kind_word Data = codes "data"
kind_word Entry = codes "dent"
kind_word Attribute = codes "xent"
kind_word Truncation = codes "trun"
kind_word Padding = codes "pad"
kind_word Superblock = codes "sb"
kind_word Master = codes "mst"
kind_word Reference = codes "ref"
kind_word Index = codes "idx"
kind_word CommitStart = codes "cs"
kind_word Orphans = codes "orph"

-- a node: its place, its type, its length and its sequence number
abbrev pub node_line : Found → List ℕ
node_line found = line_of (decimal found.offs ∷ kind_word found.kind ∷ decimal found.len ∷ decimal found.sqnum ∷ [])

-- a line for each node
abbrev pub node_lines : List Found → List ℕ
node_lines [] = []
node_lines (found ∷ nodes) = node_line found ++ node_lines nodes

-- how a text ends, and where
abbrev pub tail_word : Tail → List ℕ
tail_word Clean = codes "clean"
tail_word Torn = codes "torn"

abbrev pub tail_line : Tail → ℕ → List ℕ
tail_line tail end = line_of (codes "tail" ∷ tail_word tail ∷ decimal end ∷ [])

-- the line with which a LEB begins, and one that says all of a LEB
abbrev pub leb_line : ℕ → List ℕ
leb_line lnum = line_of (codes "leb" ∷ decimal lnum ∷ [])

abbrev pub whole_leb_line : ℕ → List ℕ → List ℕ
whole_leb_line lnum word = line_of (codes "leb" ∷ decimal lnum ∷ word ∷ [])

-- a LEB of the properties area
abbrev pub IsProperties : RawGeometry → ℕ → Type 0
IsProperties geo lnum = (lpt_first geo ≤ lnum) × (lnum < orph_first geo)

-- what stands in a LEB: its nodes, and how its text ends
pub record IsTextListing (lnum : ℕ) (leb : List ℕ) (text : List ℕ) : Type 0 where
  pub items : List Item
  pub end : ℕ
  pub tail : Tail
  pub is_text : IsText leb 0 items end tail
  pub lines : text ≡ leb_line lnum ++ node_lines (nodes_of items) ++ tail_line tail end

-- what is listed of a LEB: that it has properties, or that nothing is written in it, or what stands in it
abbrev pub IsLebListing : RawGeometry → ℕ → List ℕ → List ℕ → Type 0
IsLebListing geo lnum leb text =
    (IsProperties geo lnum × (text ≡ whole_leb_line lnum (codes "lpt")))
    ⊎ ((IsProperties geo lnum → ⊥) × IsTrue (is_blank leb) × (text ≡ whole_leb_line lnum (codes "empty")))
    ⊎ ((IsProperties geo lnum → ⊥) × IsFalse (is_blank leb) × IsTextListing lnum leb text)

-- the listing of the first n LEBs
abbrev pub IsListing : RawGeometry → (ℕ → List ℕ) → ℕ → List ℕ → Type 0
IsListing geo holds zero text = text ≡ []
IsListing geo holds (suc n) text = (front : List ℕ) × (last : List ℕ) × IsListing geo holds n front × IsLebListing geo n (holds n) last × (text ≡ front ++ last)
