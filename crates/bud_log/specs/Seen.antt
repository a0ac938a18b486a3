-- What is seen of a log LEB while the log is read.
use Rattle.std.specs.Prelude.{◌≡◌, ⊤, ◌+◌, ◌≤◌, length, ℕ, IsFalse, Option, Some, None, List, fold}
use Rattle.ubifs_base.specs.declared.node_type.NodeType.TheVariants as types
use Rattle.media_sys.specs.declared.commit_start.CommitStart.{CommitStart}
use Rattle.media_sys.specs.declared.ref_node.RefNode.{RefNode}
use Rattle.leb_scan.specs.Text.{IsText, nodes_of}
use Rattle.leb_scan.specs.declared.found.Found.{Found}
use Rattle.leb_scan.specs.declared.item.Item.{Item}
use Rattle.leb_scan.specs.declared.tail.Tail.{Tail}
use Rattle.ubifs_base.specs.declared.raw_geometry.RawGeometry.{RawGeometry}
use Rattle.bud_log.specs.Buds.{named_also}
use Rattle.bud_log.specs.Log.{next_leb, Run, Stops, references_of, greatest_of, log_end_of}
use Rattle.bud_log.specs.LogText.{LogText, IsStartAt, Refer, IsLogTextOf, begins_with, is_later, greatest_found, is_start_alone}
use Rattle.bud_log.specs.declared.head_at.HeadAt.{HeadAt}
use Rattle.bud_log.specs.declared.read_to.ReadTo.{ReadTo}
use Rattle.bud_log.specs.declared.seen.Seen.{Seen}

-- the first node, once another is found
abbrev pub earlier_of : Option Found → Found → Option Found
earlier_of None found = Some found
earlier_of (Some first) found = Some first

-- the node with which a LEB begins is inside of it, and is a commit start if its type says so
abbrev pub HasBeginning : List ℕ → Option Found → Type 0
HasBeginning leb None = ⊤
HasBeginning leb (Some found) = (found.offs + found.len ≤ length leb) × (found.kind ≡ types.CommitStart → (node : CommitStart) × IsStartAt leb found node)

-- with what a text begins, whether it is a commit start alone, its greatest number, and how it ends
pub record IsSeen (leb : List ℕ) (seen : Seen) : Type 0 where
  pub items : List Item
  pub is_text : IsText leb 0 items seen.offs seen.tail
  pub begins : seen.begins ≡ begins_with (nodes_of items)
  pub alone : seen.alone ≡ is_start_alone (nodes_of items)
  pub sqnum : seen.sqnum ≡ greatest_found (nodes_of items)

-- the references of a text were named behind others
pub record AreNamed (leb : List ℕ) (old new : List HeadAt) : Type 0 where
  pub items : List Item
  pub offs : ℕ
  pub tail : Tail
  pub is_text : IsText leb 0 items offs tail
  pub references : List RefNode
  pub refer : Refer leb (nodes_of items) references
  pub named_are : new ≡ fold named_also old references

-- both of one text
pub record IsTaken (leb : List ℕ) (lnum : ℕ) (old new : List HeadAt) (seen : Seen) : Type 0 where
  pub text : LogText
  pub is_text : IsLogTextOf leb lnum text
  pub begins : seen.begins ≡ begins_with text.nodes
  pub alone : seen.alone ≡ is_start_alone text.nodes
  pub sqnum : seen.sqnum ≡ greatest_found text.nodes
  pub offs : seen.offs ≡ text.ends.offs
  pub tail : seen.tail ≡ text.ends.tail
  pub named_are : new ≡ fold named_also old text.references

-- a LEB that doesn't begin with a greater number
pub record IsPassed (leb : List ℕ) (lnum number : ℕ) : Type 0 where
  pub text : LogText
  pub is_text : IsLogTextOf leb lnum text
  pub not_later : IsFalse (is_later number (begins_with text.nodes))

-- what was read behind the first LEB, which was read up to there
pub record IsReadOn (contents : ℕ → List ℕ) (geo : RawGeometry) (from number : ℕ) (first : ReadTo) (old new : List HeadAt) (read : ReadTo) : Type 0 where
  pub more : List LogText
  pub past : ℕ
  pub run : Run contents geo from number (next_leb geo from) more past
  pub stops : Stops contents from number past
  pub named_are : new ≡ fold named_also old (references_of more)
  pub sqnum_is : read.sqnum ≡ greatest_of first.sqnum more
  pub end_is : read.end ≡ log_end_of first.end more
