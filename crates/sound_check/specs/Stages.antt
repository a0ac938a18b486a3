-- What has been read of an image, stage by stage.
use Rattle.std.specs.Prelude.{◌≡◌, ℕ, List, length}
use Rattle.ubifs_base.specs.Areas.{main_lebs}
use Rattle.ubifs_base.specs.RawOf.{raw_of}
use Rattle.index_media.specs.PlacedRow.{PlacedRow}
use Rattle.sound_image.specs.Image.{Image}
use Rattle.sound_image.specs.Index.{HasIndex}
use Rattle.sound_image.specs.Masters.{HasMasters}
use Rattle.sound_image.specs.Properties.{HasProperties}
use Rattle.sound_image.specs.Rules.{MeetsBefore}
use Rattle.sound_image.specs.Summary.{is_clean}
use Rattle.sound_image.specs.Superblock.{HasSuperblock}
use Rattle.sound_image.specs.declared.rule.Rule.{Rule}
use Rattle.index_check.specs.FoundIndex.{IsFoundIndex}
use Rattle.image_tree.specs.Reads.{IsJournalOfImage, IsTreeReadOf}
use Rattle.sound_check.specs.declared.areas.Areas.{Areas}
use Rattle.sound_check.specs.declared.begun.Begun.{Begun}
use Rattle.sound_check.specs.declared.journal.FoundJournal.{FoundJournal}
use Rattle.sound_check.specs.declared.leaves.FoundLeaves.{FoundLeaves}

-- the contents meet the rules on the superblock and on masters, and say this geometry and this master
pub record HasSoundBeginning (contents : ℕ → List ℕ) (begun : Begun) : Type 0 where
  pub superblock : HasSuperblock contents (raw_of begun.geometry)
  pub masters : HasMasters contents (raw_of begun.geometry) begun.latest

-- and the rules on properties, of all main LEBs, and on the index, of which this was found
pub record HasAreas (contents : ℕ → List ℕ) (areas : Areas) (placed : PlacedRow) : Type 0 where
  pub begun : HasSoundBeginning contents areas.begun
  pub properties : HasProperties contents (raw_of areas.begun.geometry) areas.begun.latest.master areas.props.items
  pub count : length areas.props.items ≡ main_lebs (raw_of areas.begun.geometry)
  pub index : HasIndex contents (raw_of areas.begun.geometry) areas.begun.latest.master areas.props.items placed
  pub found : IsFoundIndex placed areas.index

-- An image meets all rules before this one, and its geometry, its master, its properties, its index and its journal were read so.
pub record IsImageUpTo (rule : Rule) (contents : ℕ → List ℕ) (journal : FoundJournal) (image : Image) : Type 0 where
  pub rules : MeetsBefore contents image rule
  pub geo : image.geo ≡ raw_of journal.areas.begun.geometry
  pub latest : image.latest ≡ journal.areas.begun.latest
  pub props : image.props ≡ journal.areas.props.items
  pub count : length journal.areas.props.items ≡ main_lebs (raw_of journal.areas.begun.geometry)
  pub index : IsFoundIndex image.placed journal.areas.index
  pub said : IsJournalOfImage contents journal.areas.index.leaves.items journal.log.references.items journal.buds.read image
  pub clean : journal.buds.clean ≡ is_clean image

-- and this was recovered of it
pub record HasRecovered (rule : Rule) (contents : ℕ → List ℕ) (recovered : FoundLeaves) (image : Image) : Type 0 where
  pub before : IsImageUpTo rule contents recovered.journal image
  pub tree : IsTreeReadOf contents image recovered.tree
