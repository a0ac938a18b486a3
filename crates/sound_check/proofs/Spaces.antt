-- The rules on space, on the orphan area, on the tree and on links.
use Rattle.std.proofs.Common.{◌≡◌, ◌∙◌, ℕ, suc, List, Result, Ok, refl, sym, subst, arith}
use Rattle.std.proofs.lemmas.List.Sorted.{IsPermutation-refl}
use Rattle.std.specs.Prelude.{IfOk, IsPermutation}
use Rattle.ubifs_base.specs.RawOf.{raw_of}
use Rattle.ubifs_base.specs.declared.raw_geometry.RawGeometry.{RawGeometry}
use Rattle.media_lpt.specs.declared.lprop.Lprop.{Lprop}
use Rattle.media_sys.specs.declared.branch.Branch.{Branch}
use Rattle.media_sys.specs.declared.master.Master.{Master}
use Rattle.media_sys.specs.declared.ref_node.RefNode.{RefNode}
use Rattle.small_areas.specs.declared.placed_master.PlacedMaster.{PlacedMaster}
use Rattle.index_tree.specs.declared.leaf.Leaf.{Leaf}
use Rattle.index_media.specs.PlacedRow.{PlacedRow}
use Rattle.leaf_map.specs.Recovered.{tree_found}
use Rattle.sound_image.specs.Breaches.{IsFirstBreach, IsNoOrphan, IsWrittenEnd, IsWrongInTree, IsWrongLink, IsWrongSum}
use Rattle.sound_image.specs.Image.{Image, parts_of}
use Rattle.sound_image.specs.OrphanLists.{HasOrphanLists}
use Rattle.sound_image.specs.Rules.{MeetsRule, MeetsBefore, rule_number}
use Rattle.sound_image.specs.Sound.{SoundImage}
use Rattle.sound_image.specs.Space.{HasErasedEnds, HasSums}
use Rattle.sound_image.specs.Tree.{HasLinks}
use Rattle.sound_image.specs.Wrong.{IsFirstWrong}
use Rattle.sound_image.specs.declared.rule.Rule.{Rule}
use Rattle.sound_image.specs.declared.rule.Rule.TheVariants as rules
use Rattle.image_check.specs.Told.{IsBreachOf, TellsBreach}
use Rattle.image_check.specs.declared.fault.CheckFault.{CheckFault}
use Rattle.index_check.specs.FoundIndex.{IsFoundIndex}
use Rattle.index_check.specs.declared.index_found.IndexFound.{IndexFound}
use Rattle.image_tree.specs.Reads.{IsJournalOfImage}
use Rattle.space_check.specs.Sums.{ListsIndex}
use Rattle.sound_check.specs.Stages.{IsImageUpTo}
use Rattle.sound_check.specs.declared.journal.FoundJournal.{FoundJournal}
use Rattle.sound_check.proofs.Firsts.{FirstLaw, first_told, ok_told}
use Rattle.sound_check.proofs.Order.{meets_next}
use Rattle.sound_check.proofs.Stages.{up_to_same}

-- one rule more
pub advance : (contents : ℕ → List ℕ) (journal : FoundJournal) (image : Image) (rule next : Rule) → rule_number next ≡ suc (rule_number rule) → IsImageUpTo rule contents journal image → MeetsRule contents image rule → IsImageUpTo next contents journal image
advance contents journal image rule next behind h here = record {
  rules = meets_next contents image rule next behind h.rules here;
  geo = h.geo;
  latest = h.latest;
  props = h.props;
  count = h.count;
  index = h.index;
  said = h.said;
  clean = h.clean;
}

-- what is said of what was read holds of what the image says
of_image : {rule : Rule} (contents : ℕ → List ℕ) (journal : FoundJournal) (image : Image) (props : List Lprop) → props ≡ journal.areas.props.items → IsImageUpTo rule contents journal image
    → (P : RawGeometry → PlacedMaster → List Lprop → Type 0) → P (raw_of journal.areas.begun.geometry) journal.areas.begun.latest props → P image.geo image.latest image.props
of_image contents journal image props same h P is =
    let A : RawGeometry → Type 0 = λ geo. P geo journal.areas.begun.latest props in
    let B : PlacedMaster → Type 0 = λ latest. P image.geo latest props in
    let C : List Lprop → Type 0 = λ ps. P image.geo image.latest ps in
    subst C (same ∙ sym h.props) (subst B (sym h.latest) (subst A (sym h.geo) is))

-- the lists that were found of an index
pub lists_found : (placed : PlacedRow) (found : IndexFound) (leaves : List Leaf) (nodes : List Branch) → IsFoundIndex placed found → leaves ≡ found.leaves.items → nodes ≡ found.nodes.items → ListsIndex placed leaves nodes
lists_found placed found leaves nodes is of_leaves of_nodes =
    let P : List Branch → Type 0 = λ ns. IsPermutation ns nodes in
    record { leaves_are = of_leaves ∙ is.leaves; nodes_are = subst P (of_nodes ∙ is.nodes) (IsPermutation-refl nodes) }

module _ (contents : ℕ → List ℕ) (journal : FoundJournal) (image : Image) (props : List Lprop) (same : props ≡ journal.areas.props.items) where
  abbrev geo : RawGeometry
  geo = raw_of journal.areas.begun.geometry

  abbrev master : Master
  master = journal.areas.begun.latest.master

  -- ---- sums
  pub first_of_sums : FirstLaw → IsImageUpTo rules.Sums contents journal image → (fault : CheckFault) → TellsBreach (IsBreachOf rules.Sums (IsFirstWrong (IsWrongSum geo props image.placed))) fault → TellsBreach (IsFirstBreach contents) fault
  first_of_sums law h fault told =
      first_told law contents image rules.Sums h.rules fault (of_image contents journal image props same h (λ g latest ps. TellsBreach (IsBreachOf rules.Sums (IsFirstWrong (IsWrongSum g ps image.placed))) fault) told)

  pub sums_met : IsImageUpTo rules.Sums contents journal image → HasSums geo props image.placed → IsImageUpTo rules.Ends contents journal image
  sums_met h met = advance contents journal image rules.Sums rules.Ends refl h (of_image contents journal image props same h (λ g latest ps. HasSums g ps image.placed) met)

  -- ---- erased ends
  pub first_of_ends : FirstLaw → IsImageUpTo rules.Ends contents journal image → (fault : CheckFault) → TellsBreach (IsBreachOf rules.Ends (IsFirstWrong (IsWrittenEnd contents geo master props image.log))) fault → TellsBreach (IsFirstBreach contents) fault
  first_of_ends law h fault told =
      first_told law contents image rules.Ends h.rules fault (of_image contents journal image props same h (λ g latest ps. TellsBreach (IsBreachOf rules.Ends (IsFirstWrong (IsWrittenEnd contents g latest.master ps image.log))) fault) told)

  pub ends_met : IsImageUpTo rules.Ends contents journal image → HasErasedEnds contents geo master props image.log → IsImageUpTo rules.Orphans contents journal image
  ends_met h met = advance contents journal image rules.Ends rules.Orphans refl h (of_image contents journal image props same h (λ g latest ps. HasErasedEnds contents g latest.master ps image.log) met)

-- what was tested, of contents that are the same
pub sums_here : (old now : ℕ → List ℕ) (journal : FoundJournal) (image : Image) (r : Result (Unit {0}) CheckFault) (x : Unit {0}) → r ≡ Ok x → IfOk r (λ y. HasSums (raw_of journal.areas.begun.geometry) journal.areas.props.items image.placed) → now ≡ old
    → IsImageUpTo rules.Sums old journal image → IsImageUpTo rules.Ends now journal image
sums_here old now journal image r x e met same h =
    up_to_same rules.Ends old now journal image (sym same)
    (sums_met old journal image journal.areas.props.items refl h (ok_told (λ y. HasSums (raw_of journal.areas.begun.geometry) journal.areas.props.items image.placed) r x e met))

pub ends_here : (old now : ℕ → List ℕ) (journal : FoundJournal) (image : Image) (props : List Lprop) (same : props ≡ journal.areas.props.items) (r : Result (Unit {0}) CheckFault) (x : Unit {0}) → r ≡ Ok x
    → IfOk r (λ y. HasErasedEnds old (raw_of journal.areas.begun.geometry) journal.areas.begun.latest.master props image.log) → now ≡ old → IsImageUpTo rules.Ends old journal image → IsImageUpTo rules.Orphans now journal image
ends_here old now journal image props same r x e met kept h =
    up_to_same rules.Orphans old now journal image (sym kept)
    (ends_met old journal image props same h (ok_told (λ y. HasErasedEnds old (raw_of journal.areas.begun.geometry) journal.areas.begun.latest.master props image.log) r x e met))

module _ (contents : ℕ → List ℕ) (journal : FoundJournal) (image : Image) where
  -- ---- the orphan area
  pub first_of_orphans : FirstLaw → IsImageUpTo rules.Orphans contents journal image → (fault : CheckFault) → TellsBreach (IsBreachOf rules.Orphans (IsFirstWrong (IsNoOrphan contents (raw_of journal.areas.begun.geometry)))) fault → TellsBreach (IsFirstBreach contents) fault
  first_of_orphans law h fault told =
      first_told law contents image rules.Orphans h.rules fault (of_image contents journal image journal.areas.props.items refl h (λ g latest ps. TellsBreach (IsBreachOf rules.Orphans (IsFirstWrong (IsNoOrphan contents g))) fault) told)

  pub orphans_met : IsImageUpTo rules.Orphans contents journal image → HasOrphanLists contents (raw_of journal.areas.begun.geometry) → IsImageUpTo rules.Tree contents journal image
  orphans_met h met = advance contents journal image rules.Orphans rules.Tree refl h (of_image contents journal image journal.areas.props.items refl h (λ g latest ps. HasOrphanLists contents g) met)

  -- ---- the tree and links
  pub journal_of : {rule : Rule} (leaves : List Leaf) (references : List RefNode) → leaves ≡ journal.areas.index.leaves.items → references ≡ journal.log.references.items → IsImageUpTo rule contents journal image
      → IsJournalOfImage contents leaves references journal.buds.read image
  journal_of leaves references of_leaves of_references h =
      let P : List RefNode → Type 0 = λ refs. IsJournalOfImage contents journal.areas.index.leaves.items refs journal.buds.read image in
      let Q : List Leaf → Type 0 = λ ls. IsJournalOfImage contents ls references journal.buds.read image in
      subst Q (sym of_leaves) (subst P (sym of_references) h.said)

  pub first_of_tree : FirstLaw → IsImageUpTo rules.Tree contents journal image → (fault : CheckFault) → TellsBreach (IsBreachOf rules.Tree (IsFirstWrong (IsWrongInTree contents journal.areas.begun.latest.master (parts_of image)))) fault → TellsBreach (IsFirstBreach contents) fault
  first_of_tree law h fault told =
      first_told law contents image rules.Tree h.rules fault
      (of_image contents journal image journal.areas.props.items refl h (λ g latest ps. TellsBreach (IsBreachOf rules.Tree (IsFirstWrong (IsWrongInTree contents latest.master (parts_of image)))) fault) told)

  pub first_of_links : FirstLaw → IsImageUpTo rules.Tree contents journal image → MeetsRule contents image rules.Tree → (fault : CheckFault) → TellsBreach (IsBreachOf rules.Links (IsFirstWrong (IsWrongLink (parts_of image)))) fault → TellsBreach (IsFirstBreach contents) fault
  first_of_links law h tree fault told = first_told law contents image rules.Links (meets_next contents image rules.Tree rules.Links refl h.rules tree) fault told

  pub sound_of : IsImageUpTo rules.Tree contents journal image → MeetsRule contents image rules.Tree → HasLinks (tree_found (parts_of image)) → SoundImage contents image
  sound_of h tree links =
      let before : MeetsBefore contents image rules.Tree = h.rules in
      record {
        superblock = before rules.Superblock (omega arith);
        masters = before rules.Masters (omega arith);
        properties = before rules.Properties (omega arith);
        index = before rules.Index (omega arith);
        log = before rules.Log (omega arith);
        buds = before rules.Buds (omega arith);
        leaves = before rules.Leaves (omega arith);
        sums = before rules.Sums (omega arith);
        ends = before rules.Ends (omega arith);
        orphans = before rules.Orphans (omega arith);
        tree = tree;
        links = links;
      }
