-- What was read of an image, and what is recovered of it.
use Rattle.std.specs.Prelude.{◌≡◌, ℕ, IsTrue, All, List, [], ◌++◌, map}
use Rattle.std.specs.List.{AllByRecursion}
use Rattle.ubifs_base.specs.Areas.{orph_first}
use Rattle.ubifs_base.specs.declared.raw_geometry.RawGeometry.{RawGeometry}
use Rattle.media_lpt.specs.declared.lprop.Lprop.{Lprop}
use Rattle.media_sys.specs.declared.ref_node.RefNode.{RefNode}
use Rattle.small_areas.specs.Orphans.{AreOrphans}
use Rattle.bud_log.specs.Buds.{buds_of}
use Rattle.bud_log.specs.Log.{references_of}
use Rattle.index_tree.specs.Shape.{contents as leaves_in}
use Rattle.index_tree.specs.declared.leaf.Leaf.{Leaf}
use Rattle.index_media.specs.PlacedRow.{are_disjoint, branch_to, plain}
use Rattle.journal_scan.specs.Journal.{IsJournalRead}
use Rattle.journal_scan.specs.declared.journal_read.JournalRead.{JournalRead}
use Rattle.leaf_map.specs.Parts.{Committed, Parts}
use Rattle.log_replay.specs.Replay.{told_committed}
use Rattle.log_replay.specs.Settling.{HasGrammar}
use Rattle.leaf_recovery.specs.Told.{AreTold, IsRecoveredFrom}
use Rattle.leaf_recovery.specs.declared.recovered_leaf.RecoveredLeaves.{RecoveredLeaves}
use Rattle.sound_image.specs.Buds.{HasBuds, bud_text}
use Rattle.sound_image.specs.Image.{Image, parts_of}
use Rattle.sound_image.specs.Leaves.{AreCommitted, HasLeaves, IsSoundLeaf}
use Rattle.image_tree.specs.declared.tree_read.TreeRead.{TreeRead}

-- what the checks before have answered: the geometry, the properties, the leaves of the committed index, the references of the log, and what its buds say
pub record ReadBefore : Type 0 where
  pub geo : RawGeometry
  pub props : List Lprop
  pub leaves : List Leaf
  pub references : List RefNode
  pub journal : JournalRead

-- the leaves of the index, the references and what the buds say are those of this image, whose buds meet their rule
pub record IsJournalOfImage (contents : ℕ → List ℕ) (leaves : List Leaf) (references : List RefNode) (journal : JournalRead) (image : Image) : Type 0 where
  pub leaves_are : leaves ≡ leaves_in (plain image.placed)
  pub references_are : references ≡ references_of image.log
  pub rule : HasBuds contents (buds_of references) image.buds
  pub read : IsJournalRead (map (bud_text contents) (buds_of references)) journal
  pub buds : read.reads ≡ image.buds

-- the checks before have answered this of this image
pub record IsImageReadSoFar (contents : ℕ → List ℕ) (before : ReadBefore) (image : Image) : Type 0 where
  pub geo : image.geo ≡ before.geo
  pub props : image.props ≡ before.props
  pub said : IsJournalOfImage contents before.leaves before.references before.journal image

-- an image with these committed leaves and this list of orphans
abbrev pub with_leaves : Image → List Committed → List ℕ → Image
with_leaves image committed listed = record image { committed = committed; listed = listed }

-- This was read of an image that meets the rule on leaves, and recovered of its parts.
pub record IsTreeReadOf (contents : ℕ → List ℕ) (image : Image) (read : TreeRead) : Type 0 where
  pub told : read.committed.items ≡ map told_committed image.committed
  pub listed : read.listed.items ≡ image.listed
  pub rule : HasLeaves contents image
  pub recovered : IsRecoveredFrom (parts_of image) read.recovered

-- it was read of this image, with some committed leaves; the checks before have read the same
abbrev pub IsReadOfSome : (ℕ → List ℕ) → ReadBefore → Image → TreeRead → Type 0
IsReadOfSome contents before image read =
    (committed : List Committed) × IsImageReadSoFar contents before (with_leaves image committed read.listed.items) × IsTreeReadOf contents (with_leaves image committed read.listed.items) read

-- these committed leaves and orphans were read, and this is recovered of all parts of which they and the journal are told
pub record IsTreeTold (contents : ℕ → List ℕ) (geo : RawGeometry) (leaves : List Leaf) (references : List RefNode) (journal : JournalRead) (read : TreeRead) : Type 0 where
  pub committed : List Committed
  pub are_committed : AreCommitted contents leaves committed
  pub grammar : AllByRecursion HasGrammar committed
  pub told : read.committed.items ≡ map told_committed committed
  pub listed : AreOrphans contents (orph_first geo) geo.orph_lebs read.listed.items
  pub recovered : (parts : Parts) → AreTold parts read.committed.items references journal.nodes.items journal.copies.items read.listed.items → IsRecoveredFrom parts read.recovered

-- the leaves of the index after recovery, by what is told
abbrev pub leaves_told : RecoveredLeaves → List Leaf
leaves_told made = map (λ x. x.leaf) made.kept.items ++ made.empty.items

-- these leaves meet their rule, and none is missing
abbrev pub AreLeavesMet : (ℕ → List ℕ) → RawGeometry → List Lprop → List Leaf → List Leaf → Type 0
AreLeavesMet contents geo props missing leaves = All (λ (leaf : Leaf). IsSoundLeaf contents geo props leaf) leaves × (missing ≡ []) × IsTrue (are_disjoint (map branch_to leaves))
