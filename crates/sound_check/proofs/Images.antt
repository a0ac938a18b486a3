-- One image more by each stage.
use Rattle.std.proofs.Common.{◌≡◌, ◌∙◌, ◌<◌, ℕ, List, [], refl, sym, subst, arith}
use Rattle.ubifs_base.specs.RawOf.{raw_of}
use Rattle.media_lpt.specs.declared.lprop.Lprop.{Lprop}
use Rattle.media_sys.specs.declared.ref_node.RefNode.{RefNode}
use Rattle.index_tree.specs.declared.leaf.Leaf.{Leaf}
use Rattle.index_media.specs.PlacedRow.{PlacedRow, ended}
use Rattle.bud_log.specs.Buds.{buds_of}
use Rattle.bud_log.specs.Log.{references_of}
use Rattle.bud_log.specs.LogText.{LogText}
use Rattle.journal_scan.specs.Journal.{BudRead}
use Rattle.leaf_map.specs.Parts.{Committed}
use Rattle.sound_image.specs.Breaches.{IsBrokenLeaf, IsFirstBreach, IsWrongInBuds}
use Rattle.sound_image.specs.Buds.{HasBuds}
use Rattle.sound_image.specs.Image.{Image}
use Rattle.sound_image.specs.IndexBreaches.{IsWrongIndex}
use Rattle.sound_image.specs.Log.{HasLog}
use Rattle.sound_image.specs.LogBreaches.{IsBrokenLog}
use Rattle.sound_image.specs.Properties.{HasProperties}
use Rattle.sound_image.specs.PropertyBreaches.{IsWrongProperty}
use Rattle.sound_image.specs.Rules.{MeetsRule, MeetsBefore, rule_number}
use Rattle.sound_image.specs.Wrong.{IsFirstWrong}
use Rattle.sound_image.specs.declared.rule.Rule.{Rule}
use Rattle.sound_image.specs.declared.rule.Rule.TheVariants as rules
use Rattle.image_check.specs.Told.{IsBreachOf, TellsBreach}
use Rattle.image_check.specs.declared.fault.CheckFault.{CheckFault}
use Rattle.bud_check.specs.Found.{AreFoundBuds}
use Rattle.bud_check.specs.declared.buds_found.BudsFound.{BudsFound}
use Rattle.journal_check.specs.declared.log_found.LogFound.{LogFound}
use Rattle.image_tree.specs.Reads.{IsJournalOfImage, IsReadOfSome, IsImageReadSoFar, ReadBefore, with_leaves}
use Rattle.image_tree.specs.declared.tree_read.TreeRead.{TreeRead}
use Rattle.sound_check.specs.Stages.{HasAreas, HasSoundBeginning, IsImageUpTo, HasRecovered}
use Rattle.sound_check.specs.declared.areas.Areas.{Areas}
use Rattle.sound_check.specs.declared.begun.Begun.{Begun}
use Rattle.sound_check.specs.declared.journal.FoundJournal.{FoundJournal}
use Rattle.sound_check.proofs.Firsts.{FirstLaw, first_told}
use Rattle.sound_check.proofs.Order.{meets_next, meets_start}

-- an image of which no leaf was read yet
abbrev pub image_of : Begun → List Lprop → PlacedRow → List LogText → List BudRead → Image
image_of begun props placed log buds = record {
  geo = raw_of begun.geometry;
  latest = begun.latest;
  props = props;
  placed = placed;
  log = log;
  buds = buds;
  committed = [];
  listed = [];
}

module _ (contents : ℕ → List ℕ) (begun : Begun) (h : HasSoundBeginning contents begun) where
  begun_meets : (props : List Lprop) (placed : PlacedRow) (log : List LogText) (buds : List BudRead) → MeetsBefore contents (image_of begun props placed log buds) rules.Properties
  begun_meets props placed log buds =
      let image = image_of begun props placed log buds in
      meets_next contents image rules.Masters rules.Properties refl (meets_next contents image rules.Superblock rules.Masters refl (meets_start contents image) h.superblock) h.masters

  props_meet : (props : List Lprop) (placed : PlacedRow) (log : List LogText) (buds : List BudRead) → HasProperties contents (raw_of begun.geometry) begun.latest.master props
      → MeetsBefore contents (image_of begun props placed log buds) rules.Index
  props_meet props placed log buds is = meets_next contents (image_of begun props placed log buds) rules.Properties rules.Index refl (begun_meets props placed log buds) is

  -- a breach of the rule on properties, and of that on the index
  pub first_of_properties : FirstLaw → (fault : CheckFault) → TellsBreach (IsBreachOf rules.Properties (IsFirstWrong (IsWrongProperty contents (raw_of begun.geometry) begun.latest.master))) fault → TellsBreach (IsFirstBreach contents) fault
  first_of_properties law fault told = first_told law contents (image_of begun [] ended [] []) rules.Properties (begun_meets [] ended [] []) fault told

  pub first_of_index : FirstLaw → (props : List Lprop) → HasProperties contents (raw_of begun.geometry) begun.latest.master props → (fault : CheckFault)
      → TellsBreach (IsBreachOf rules.Index (IsFirstWrong (IsWrongIndex contents (raw_of begun.geometry) begun.latest.master props))) fault → TellsBreach (IsFirstBreach contents) fault
  first_of_index law props is fault told = first_told law contents (image_of begun props ended [] []) rules.Index (props_meet props ended [] [] is) fault told

module _ (contents : ℕ → List ℕ) (areas : Areas) (placed : PlacedRow) (h : HasAreas contents areas placed) where
  areas_meet : (log : List LogText) (buds : List BudRead) → MeetsBefore contents (image_of areas.begun areas.props.items placed log buds) rules.Log
  areas_meet log buds =
      let image = image_of areas.begun areas.props.items placed log buds in
      meets_next contents image rules.Index rules.Log refl (props_meet contents areas.begun h.begun areas.props.items placed log buds h.properties) h.index

  log_meets : (log : List LogText) (buds : List BudRead) → HasLog contents (raw_of areas.begun.geometry) areas.begun.latest.master log
      → MeetsBefore contents (image_of areas.begun areas.props.items placed log buds) rules.Buds
  log_meets log buds is = meets_next contents (image_of areas.begun areas.props.items placed log buds) rules.Log rules.Buds refl (areas_meet log buds) is

  -- a breach of the rule on the log, and of that on buds
  pub first_of_log : FirstLaw → (fault : CheckFault) → TellsBreach (IsBreachOf rules.Log (IsBrokenLog contents (raw_of areas.begun.geometry) areas.begun.latest.master)) fault → TellsBreach (IsFirstBreach contents) fault
  first_of_log law fault told = first_told law contents (image_of areas.begun areas.props.items placed [] []) rules.Log (areas_meet [] []) fault told

  pub first_of_buds : FirstLaw → (log : List LogText) (references : List RefNode) → HasLog contents (raw_of areas.begun.geometry) areas.begun.latest.master log → references ≡ references_of log → (fault : CheckFault)
      → TellsBreach (IsBreachOf rules.Buds (IsFirstWrong (IsWrongInBuds contents (buds_of references)))) fault → TellsBreach (IsFirstBreach contents) fault
  first_of_buds law log references is same fault told =
      let P : List RefNode → Type 0 = λ refs. TellsBreach (IsBreachOf rules.Buds (IsFirstWrong (IsWrongInBuds contents (buds_of refs)))) fault in
      first_told law contents (image_of areas.begun areas.props.items placed log []) rules.Buds (log_meets log [] is) fault (subst P same told)

  -- the image of which all was read but leaves
  pub journal_read : (log_found : LogFound) (buds : BudsFound) (log : List LogText) → HasLog contents (raw_of areas.begun.geometry) areas.begun.latest.master log → log_found.references.items ≡ references_of log
      → (found : AreFoundBuds contents (buds_of log_found.references.items) buds)
      → IsImageUpTo rules.Leaves contents (record { areas = areas; log = log_found; buds = buds }) (image_of areas.begun areas.props.items placed log found.journal.reads)
  journal_read log_found buds log is same found =
      let reads = found.journal.reads in
      let image = image_of areas.begun areas.props.items placed log reads in
      let P : List RefNode → Type 0 = λ refs. HasBuds contents (buds_of refs) reads in
      record {
        rules = meets_next contents image rules.Buds rules.Leaves refl (log_meets log reads is) (subst P same found.rule);
        geo = refl;
        latest = refl;
        props = refl;
        count = h.count;
        index = h.found;
        said = record { leaves_are = h.found.leaves; references_are = same; rule = found.rule; read = found.journal; buds = refl };
        clean = found.clean;
      }

-- ---- leaves
-- what of an image is known whatever its leaves are
keep_leaves : (contents : ℕ → List ℕ) (image : Image) (committed : List Committed) (listed : List ℕ) → MeetsBefore contents image rules.Leaves → (other : Rule) → rule_number other < rule_number rules.Leaves → MeetsRule contents (with_leaves image committed listed) other
keep_leaves contents image committed listed before rules.Superblock less = before rules.Superblock less
keep_leaves contents image committed listed before rules.Masters less = before rules.Masters less
keep_leaves contents image committed listed before rules.Properties less = before rules.Properties less
keep_leaves contents image committed listed before rules.Index less = before rules.Index less
keep_leaves contents image committed listed before rules.Log less = before rules.Log less
keep_leaves contents image committed listed before rules.Buds less = before rules.Buds less
keep_leaves contents image committed listed before other less = absurd (omega (arith, less))

module _ (contents : ℕ → List ℕ) (journal : FoundJournal) (image : Image) (h : IsImageUpTo rules.Leaves contents journal image) where
  -- what the check of leaves asks
  pub so_far : (props : List Lprop) (leaves : List Leaf) (references : List RefNode) → props ≡ journal.areas.props.items → leaves ≡ journal.areas.index.leaves.items → references ≡ journal.log.references.items
      → IsImageReadSoFar contents (record { geo = raw_of journal.areas.begun.geometry; props = props; leaves = leaves; references = references; journal = journal.buds.read }) image
  so_far props leaves references of_props of_leaves of_references =
      let P : List RefNode → Type 0 = λ refs. IsJournalOfImage contents journal.areas.index.leaves.items refs journal.buds.read image in
      let Q : List Leaf → Type 0 = λ ls. IsJournalOfImage contents ls references journal.buds.read image in
      record { geo = h.geo; props = h.props ∙ sym of_props; said = subst Q (sym of_leaves) (subst P (sym of_references) h.said) }

  pub first_of_leaves : FirstLaw → (fault : CheckFault) → TellsBreach (IsBreachOf rules.Leaves (IsBrokenLeaf contents image)) fault → TellsBreach (IsFirstBreach contents) fault
  first_of_leaves law fault told = first_told law contents image rules.Leaves h.rules fault told

  pub leaves_read : (tree : TreeRead) (before : ReadBefore) → IsReadOfSome contents before image tree → (other : Image) × HasRecovered rules.Sums contents (record { journal = journal; tree = tree }) other
  leaves_read tree before (committed, so, of) =
      let other = with_leaves image committed tree.listed.items in (
        other,
        record {
          before = record {
            rules = meets_next contents other rules.Leaves rules.Sums refl (keep_leaves contents image committed tree.listed.items h.rules) of.rule;
            geo = h.geo;
            latest = h.latest;
            props = h.props;
            count = h.count;
            index = h.index;
            said = record { leaves_are = h.said.leaves_are; references_are = h.said.references_are; rule = h.said.rule; read = h.said.read; buds = h.said.buds };
            clean = h.clean;
          };
          tree = of;
        },
      )
