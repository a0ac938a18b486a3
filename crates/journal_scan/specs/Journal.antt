-- What the LEBs that a log names say (Hunter 2008, "The journal"; the replay of Linux fs/ubifs).
use Rattle.std.specs.Prelude.{◌≡◌, ℕ, ◌%◌, ◌^◌, ◌<◌, ◌≤◌, ◌==◌, Bool, if◌then◌else◌, length, max, fold, List, [], ◌∷◌, ◌++◌, map}
use Rattle.std.specs.List.{AllByRecursion, list_all}
use Rattle.ubifs_base.specs.declared.journal_head.JournalHead.{JournalHead}
use Rattle.ubifs_base.specs.declared.journal_head.JournalHead.TheVariants.{Collector, Base, Data}
use Rattle.media_leaf.specs.LeafNode.{LeafNode}
use Rattle.media_sys.specs.SystemNode.{SystemNode}
use Rattle.leb_scan.specs.Text.{IsText, StandsAt, leaf, system, nodes_of}
use Rattle.leb_scan.specs.declared.found.Found.{Found}
use Rattle.leb_scan.specs.declared.item.Item.{Item}
use Rattle.leb_scan.specs.declared.tail.Tail.{Tail}
use Rattle.leaf_map.specs.Kept.{Placed, node_key}
use Rattle.leaf_map.specs.Recovered.{highest_key, nodes_in_order}
use Rattle.journal_scan.specs.Content.{told}
use Rattle.journal_scan.specs.declared.bud_text.BudText.{BudText}
use Rattle.journal_scan.specs.declared.journal_read.JournalRead.{JournalRead}

-- a LEB that can be read: the offset is a multiple of 8 and inside it, and each place in it has a number of 32 bits
pub record IsReadable (bud : BudText) : Type 0 where
  pub multiple : bud.from % 8 ≡ 0
  pub place : bud.from ≤ length bud.bytes
  pub len : length bud.bytes < 2 ^ 32

-- ---- the leaf nodes of a text
-- a leaf node that was found in a LEB, where it stands
abbrev pub placed_at : BudText → Found → LeafNode → Placed
placed_at bud found node = record { node = node; sqnum = found.sqnum; group = found.group; lnum = bud.lnum; offs = found.offs; len = found.len }

-- what a node that was found gives: itself if it is a leaf node, and nothing if it is another, as a padding node
abbrev pub IsLeafAt : BudText → Found → List Placed → Type 0
IsLeafAt bud found [] = (node : SystemNode) × StandsAt bud.bytes found.offs found (system node)
IsLeafAt bud found (x ∷ []) = StandsAt bud.bytes found.offs found (leaf x.node) × (x ≡ placed_at bud found x.node)
IsLeafAt bud found (x ∷ y ∷ more) = ⊥

-- the leaf nodes among those that were found, in order
abbrev pub AreLeaves : BudText → List Found → List Placed → Type 0
AreLeaves bud [] nodes = nodes ≡ []
AreLeaves bud (found ∷ founds) nodes = (own : List Placed) × (rest : List Placed) × IsLeafAt bud found own × AreLeaves bud founds rest × (nodes ≡ own ++ rest)

-- the greatest sequence number of nodes of any kind, or 0
abbrev pub greatest_number_found : List Found → ℕ
greatest_number_found founds = fold (λ n x. max n x.sqnum) 0 founds

-- a LEB that the log names, with the leaf nodes of its text, the greatest number of all its nodes, and its tail
pub record BudRead : Type 0 where
  pub bud : BudText
  pub nodes : List Placed
  pub sqnum : ℕ
  pub tail : Tail

-- They are those of the LEB's text from the offset on that the log names.
pub record IsBudRead (read : BudRead) : Type 0 where
  pub items : List Item
  pub end : ℕ
  pub text : IsText read.bud.bytes read.bud.from items end read.tail
  pub leaves : AreLeaves read.bud (nodes_of items) read.nodes
  pub sqnum : read.sqnum ≡ greatest_number_found (nodes_of items)

-- ---- whole groups
-- whether no node of these is the last of a group, or a group by itself
abbrev pub is_unfinished : List Placed → Bool
is_unfinished nodes = list_all (λ x. x.group == 1) nodes

-- the nodes of whole groups: all but those of the group at the end of which no node is the last
abbrev pub whole_groups : List Placed → List Placed
whole_groups [] = []
whole_groups (x ∷ nodes) = if is_unfinished (x ∷ nodes) then [] else x ∷ whole_groups nodes

-- the nodes that a mount takes of a head's text: in the collector's each node stands by itself
abbrev pub nodes_taken_of : JournalHead → List Placed → List Placed
nodes_taken_of Collector nodes = nodes
nodes_taken_of Base nodes = whole_groups nodes
nodes_taken_of Data nodes = whole_groups nodes

-- ---- all texts
-- what stands in a text of the collector's head, and what in one of another head
abbrev pub if_copies : JournalHead → List Placed → List Placed
if_copies Collector nodes = nodes
if_copies Base nodes = []
if_copies Data nodes = []

abbrev pub if_changes : JournalHead → List Placed → List Placed
if_changes Collector nodes = []
if_changes Base nodes = nodes
if_changes Data nodes = nodes

-- the copies that the collector made, in order of the log
abbrev pub copies_in : List BudRead → List Placed
copies_in [] = []
copies_in (x ∷ reads) = if_copies x.bud.head (nodes_taken_of x.bud.head x.nodes) ++ copies_in reads

-- the nodes of whole groups of the other heads, in order of the log
abbrev pub journal_nodes_in : List BudRead → List Placed
journal_nodes_in [] = []
journal_nodes_in (x ∷ reads) = if_changes x.bud.head (nodes_taken_of x.bud.head x.nodes) ++ journal_nodes_in reads

-- the greatest sequence number of all nodes of texts, also of those that are dropped, or the one beside them
abbrev pub greatest_in : ℕ → List BudRead → ℕ
greatest_in low reads = fold (λ n x. max n x.sqnum) low reads

-- This is what these LEBs say. The nodes are told in order of number; those of one number stay in order of the log, and in one LEB in that of their offsets.
pub record IsJournalRead (buds : List BudText) (read : JournalRead) : Type 0 where
  pub reads : List BudRead
  pub of_buds : map (λ x. x.bud) reads ≡ buds
  pub texts : AllByRecursion IsBudRead reads
  pub nodes : read.nodes.items ≡ map told (nodes_in_order (journal_nodes_in reads))
  pub copies : read.copies.items ≡ map told (copies_in reads)
  pub highest : read.highest ≡ highest_key 0 (map (λ x. node_key x.node) (nodes_in_order (journal_nodes_in reads)))
  pub sqnum : read.sqnum ≡ greatest_in 0 reads
  pub tails : read.tails.items ≡ map (λ x. x.tail) reads
