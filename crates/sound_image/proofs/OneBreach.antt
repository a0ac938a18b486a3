-- What is wrong first is one, and where something is, the contents aren't a sound image.
use Rattle.std.proofs.Common.{◌≡◌, ℕ, ◌<◌, List, [], ◌∷◌, Option, Some, None, refl, ap, sym, ◌∙◌, subst, inl, inr, arith}
use Rattle.std.specs.Prelude.{◌⊎◌, ◌==◌, if◌then◌else◌}
use Rattle.std.proofs.lemmas.Bool.{cases_eq, cases_lt, ltb-true}
use Rattle.ubifs_base.specs.Areas.{orph_first}
use Rattle.ubifs_base.specs.Geometry.{IsGeometry}
use Rattle.ubifs_base.specs.GeometryFaults.{IsFirstOut, tested_fields}
use Rattle.ubifs_base.specs.NodeLaws.{IsBytes}
use Rattle.ubifs_base.specs.declared.raw_geometry.GeomFault.{GeomFault}
use Rattle.ubifs_base.specs.declared.raw_geometry.GeomField.{GeomField}
use Rattle.ubifs_base.specs.declared.raw_geometry.RawGeometry.{RawGeometry}
use Rattle.media_lpt.specs.declared.lprop.Lprop.{Lprop}
use Rattle.media_lpt.specs.declared.nnode.LptPlace.{LptPlace}
use Rattle.lpt_area.specs.Tree.{IsTree, IsTreeIn}
use Rattle.media_sys.specs.Features.{features_of, first_of, geometry_of}
use Rattle.media_sys.specs.declared.feature.Feature.{Feature}
use Rattle.media_sys.specs.declared.master.Master.{Master}
use Rattle.media_sys.specs.declared.super_field.SuperField.{SuperField}
use Rattle.media_sys.specs.declared.super_node.Super.{Super}
use Rattle.small_areas.specs.MasterLaws.{OneNode, OneText, latest_or_none, one_latest}
use Rattle.small_areas.specs.Masters.{HasNoMaster, IsLatest}
use Rattle.small_areas.specs.Orphans.{AreOrphans}
use Rattle.small_areas.specs.declared.placed_master.PlacedMaster.{PlacedMaster}
use Rattle.bud_log.specs.Buds.{buds_of}
use Rattle.bud_log.specs.Log.{references_of}
use Rattle.bud_log.specs.LogText.{LogText}
use Rattle.journal_scan.specs.Journal.{BudRead}
use Rattle.index_media.specs.PlacedRow.{PlacedRow, plain}
use Rattle.index_tree.specs.Shape.{contents as leaves_in}
use Rattle.leaf_map.specs.Parts.{Committed, Parts}
use Rattle.sound_image.specs.Buds.{HasBuds}
use Rattle.sound_image.specs.Breaches.{IsBroken, IsFirstBreach, IsFirstBroken, IsMisplaced, IsNoOrphan, IsWrittenEnd, IsWrongField, IsWrongInBuds, IsWrongInTree, IsWrongLink, IsWrongSum, SuperNeeds, super_field_of}
use Rattle.sound_image.specs.Image.{Image, parts_of}
use Rattle.sound_image.specs.Index.{HasIndex}
use Rattle.sound_image.specs.IndexBreaches.{IsWrongIndex}
use Rattle.sound_image.specs.LeafBreaches.{IsWrongLeaf}
use Rattle.sound_image.specs.Leaves.{AreCommitted}
use Rattle.sound_image.specs.Log.{HasLog}
use Rattle.sound_image.specs.LogBreaches.{IsBrokenLog}
use Rattle.sound_image.specs.Properties.{HasProperties, lpt_root}
use Rattle.sound_image.specs.PropertyBreaches.{IsWrongProperty}
use Rattle.sound_image.specs.Rules.{MeetsRule, MeetsBefore, rule_number}
use Rattle.sound_image.specs.Sound.{SoundImage}
use Rattle.sound_image.specs.Superblock.{BeginsWithSuper, HasSuperblock}
use Rattle.sound_image.specs.Wrong.{IsFirstWrong, Wrong, differs, needs}
use Rattle.sound_image.specs.declared.breach.Breach.{Breach}
use Rattle.sound_image.specs.declared.breach.Breach.TheVariants.{Super as InSuper, Feature as NeedsOne, NoMaster, Damaged}
use Rattle.sound_image.specs.declared.rule.Rule.{Rule}
use Rattle.sound_image.specs.declared.rule.Rule.TheVariants.{Superblock, Masters, Properties, Index, Log, Buds, Leaves, Sums, Ends, Orphans, Tree, Links}
use Rattle.sound_image.proofs.Broken.{ends_broken, masters_broken, orphans_broken, sums_broken}
use Rattle.sound_image.proofs.BrokenBuds.{buds_broken}
use Rattle.sound_image.proofs.BrokenIndex.{index_broken}
use Rattle.sound_image.proofs.BrokenLeaves.{leaves_broken}
use Rattle.sound_image.proofs.BrokenLog.{log_broken, one_broken_log, reading_of}
use Rattle.sound_image.proofs.BrokenProperties.{OneNnode, properties_broken}
use Rattle.sound_image.proofs.BrokenTree.{links_broken, tree_broken}
use Rattle.sound_image.proofs.FirstWrong.{one_first}
use Rattle.sound_image.proofs.Hanging.{meets_each}
use Rattle.sound_image.proofs.OneImage.{OneIndex, one_geometry, one_placed, one_super}
use Rattle.sound_image.proofs.OneJournal.{one_journal}
use Rattle.sound_image.proofs.OneLog.{one_reading}
use Rattle.sound_image.proofs.OneReads.{OneLeaf, one_committed, one_list_of_orphans}

-- the laws on which this stands: bytes are one node, a LEB has one text, a root leads to one index and one list of properties
abbrev pub OneProperties : Type 0
OneProperties = (contents : ℕ → List ℕ) (geo : RawGeometry) (master : Master) (a b : List Lprop) → ((k : ℕ) → IsBytes (contents k)) → HasProperties contents geo master a → HasProperties contents geo master b → a ≡ b

pub record Laws : Type 0 where
  pub node : OneNode
  pub leaf : OneLeaf
  pub nnode : OneNnode
  pub text : OneText
  pub index : OneIndex
  pub properties : OneProperties

pub laws_of : OneNode → OneLeaf → OneNnode → OneText → OneIndex
    → ((geo : RawGeometry) (holds : ℕ → List ℕ) (root : LptPlace) (a b : List Lprop) → ((lnum : ℕ) → IsBytes (holds lnum)) → IsTree geo holds root a → IsTree geo holds root b → a ≡ b)
    → ((geo : RawGeometry) (holds : ℕ → List ℕ) (lnum : ℕ) (leb : List ℕ) (root : LptPlace) (props : List Lprop) → holds lnum ≡ leb → IsTreeIn geo lnum leb root props → IsTree geo holds root props)
    → Laws
laws_of node leaf nnode text index list there = record {
  node = node;
  leaf = leaf;
  nnode = nnode;
  text = text;
  index = index;
  properties = λ contents geo master a b fits x y.
      let leb = contents master.lpt_lnum in
      list geo contents (lpt_root master) a b fits (there geo contents master.lpt_lnum leb (lpt_root master) a refl x) (there geo contents master.lpt_lnum leb (lpt_root master) b refl y);
}

-- ---- what is wrong by a rule breaks it
pub broken_rule : Laws → (contents : ℕ → List ℕ) (image : Image) (rule : Rule) (at : Wrong) → ((k : ℕ) → IsBytes (contents k)) → IsBroken contents image rule at → MeetsRule contents image rule → ⊥
broken_rule laws contents image Superblock at fits broken h = broken
broken_rule laws contents image Masters at fits broken h = masters_broken laws.node laws.text contents image.geo image.latest at fits broken.wrong h
broken_rule laws contents image Properties at fits broken h = properties_broken laws.nnode contents image.geo image.latest.master image.props at (fits image.latest.master.lpt_lnum) broken.wrong h
broken_rule laws contents image Index at fits broken h = index_broken laws.node contents image.geo image.latest.master image.props image.placed at fits broken.wrong h
broken_rule laws contents image Log at fits broken h = log_broken laws.node laws.text contents image.geo image.latest.master image.log at fits broken h
broken_rule laws contents image Buds at fits broken h = buds_broken laws.text contents (buds_of (references_of image.log)) image.buds at fits broken.wrong h
broken_rule laws contents image Leaves at fits broken h = leaves_broken laws.node laws.text laws.leaf contents image at fits broken h
broken_rule laws contents image Sums at fits broken h = sums_broken image.geo image.props image.placed at broken.wrong h
broken_rule laws contents image Ends at fits broken h = ends_broken contents image.geo image.latest.master image.props image.log at broken.wrong h
broken_rule laws contents image Orphans at fits broken h = orphans_broken laws.text contents image.geo at fits broken.wrong h
broken_rule laws contents image Tree at fits broken h = tree_broken contents image.latest.master (parts_of image) at broken.wrong h
broken_rule laws contents image Links at fits broken h = links_broken (parts_of image) at broken.wrong h

-- ---- contents say one of each, as far as they meet the rules
pub record Agree (contents : ℕ → List ℕ) (a b : Image) (n : ℕ) : Type 0 where
  pub geo : 1 < n → a.geo ≡ b.geo
  pub master : 2 < n → a.latest.master ≡ b.latest.master
  pub props : 3 < n → a.props ≡ b.props
  pub placed : 4 < n → a.placed ≡ b.placed
  pub log : 5 < n → a.log ≡ b.log
  pub buds : 6 < n → a.buds ≡ b.buds
  pub committed : 7 < n → a.committed ≡ b.committed
  pub listed : 7 < n → a.listed ≡ b.listed

agree : Laws → (contents : ℕ → List ℕ) (a b : Image) (rule : Rule) → ((k : ℕ) → IsBytes (contents k)) → MeetsBefore contents a rule → MeetsBefore contents b rule → Agree contents a b (rule_number rule)
agree laws contents a b rule fits x y = record {
  geo = one_geo;
  master = one_master;
  props = one_props;
  placed = one_row;
  log = one_log;
  buds = one_buds;
  committed = λ n. one_committed laws.leaf contents (leaves_in (plain b.placed)) a.committed b.committed fits (subst (λ (row : PlacedRow). AreCommitted contents (leaves_in (plain row)) a.committed) (one_row (omega (arith, n))) (x Leaves n).committed) (y Leaves n).committed;
  listed = λ n. one_list_of_orphans laws.node laws.text contents (orph_first b.geo) b.geo.orph_lebs a.listed b.listed fits (subst (λ (geo : RawGeometry). AreOrphans contents (orph_first geo) geo.orph_lebs a.listed) (one_geo (omega (arith, n))) (x Leaves n).listed) (y Leaves n).listed;
}
  where
    one_geo : 1 < rule_number rule → a.geo ≡ b.geo
    one_geo n = one_geometry laws.node contents a.geo b.geo (fits 0) (x Superblock n) (y Superblock n)

    one_master : 2 < rule_number rule → a.latest.master ≡ b.latest.master
    one_master n = one_latest laws.node laws.text (contents 1) (contents 2) a.latest b.latest (fits 1) (fits 2) (x Masters n).is_latest (y Masters n).is_latest

    one_props : 3 < rule_number rule → a.props ≡ b.props
    one_props n =
        let P : RawGeometry → Type 0 = λ geo. HasProperties contents geo a.latest.master a.props in
        let Q : Master → Type 0 = λ master. HasProperties contents b.geo master a.props in
        laws.properties contents b.geo b.latest.master a.props b.props fits (subst Q (one_master (omega (arith, n))) (subst P (one_geo (omega (arith, n))) (x Properties n))) (y Properties n)

    one_row : 4 < rule_number rule → a.placed ≡ b.placed
    one_row n =
        let P : RawGeometry → Type 0 = λ geo. HasIndex contents geo a.latest.master a.props a.placed in
        let Q : Master → Type 0 = λ master. HasIndex contents b.geo master a.props a.placed in
        let R : List Lprop → Type 0 = λ props. HasIndex contents b.geo b.latest.master props a.placed in
        one_placed laws.node laws.index contents b.geo b.latest.master b.props a.placed b.placed fits
        (subst R (one_props (omega (arith, n))) (subst Q (one_master (omega (arith, n))) (subst P (one_geo (omega (arith, n))) (x Index n)))) (y Index n)

    one_log : 5 < rule_number rule → a.log ≡ b.log
    one_log n =
        let P : RawGeometry → Type 0 = λ geo. HasLog contents geo a.latest.master a.log in
        let Q : Master → Type 0 = λ master. HasLog contents b.geo master a.log in
        let own : HasLog contents b.geo b.latest.master a.log = subst Q (one_master (omega (arith, n))) (subst P (one_geo (omega (arith, n))) (x Log n)) in
        let other : HasLog contents b.geo b.latest.master b.log = y Log n in
        (one_reading laws.node laws.text contents b.geo b.latest.master.log_lnum own.start other.start a.log b.log fits (reading_of contents b.geo b.latest.master a.log own) (reading_of contents b.geo b.latest.master b.log other)).1

    one_buds : 6 < rule_number rule → a.buds ≡ b.buds
    one_buds n =
        let P : List LogText → Type 0 = λ log. HasBuds contents (buds_of (references_of log)) a.buds in
        one_journal laws.text laws.leaf contents (buds_of (references_of b.log)) a.buds b.buds fits (subst P (one_log (omega (arith, n))) (x Buds n)) (y Buds n)

-- what a mount has read of both
parts_same : (a b : Image) (c d : List Committed) (l m : List ℕ) → a.latest.master ≡ b.latest.master → a.log ≡ b.log → a.buds ≡ b.buds → c ≡ d → l ≡ m
    → parts_of (record a { committed = c; listed = l }) ≡ parts_of (record b { committed = d; listed = m })
parts_same a b c d l m master log buds e f = rw (master, log, buds, e, f) refl

all_parts_same : (a b : Image) → a.latest.master ≡ b.latest.master → a.log ≡ b.log → a.buds ≡ b.buds → a.committed ≡ b.committed → a.listed ≡ b.listed → parts_of a ≡ parts_of b
all_parts_same a b master log buds e f = rw (master, log, buds, e, f) refl

-- what breaks a rule of one breaks that of the other
moved : (contents : ℕ → List ℕ) (a b : Image) (rule : Rule) (at : Wrong) → Agree contents a b (rule_number rule) → IsBroken contents a rule at → IsBroken contents b rule at
moved contents a b Superblock at h broken = broken
moved contents a b Masters at h broken = let P : RawGeometry → Type 0 = λ geo. IsFirstWrong (IsMisplaced contents geo) at in subst P (h.geo (ltb-true 1 2 refl)) broken
moved contents a b Properties at h broken =
    let P : RawGeometry → Type 0 = λ geo. IsFirstWrong (IsWrongProperty contents geo a.latest.master) at in
    let Q : Master → Type 0 = λ master. IsFirstWrong (IsWrongProperty contents b.geo master) at in
    subst Q (h.master (ltb-true 2 3 refl)) (subst P (h.geo (ltb-true 1 3 refl)) broken)
moved contents a b Index at h broken =
    let P : RawGeometry → Type 0 = λ geo. IsFirstWrong (IsWrongIndex contents geo a.latest.master a.props) at in
    let Q : Master → Type 0 = λ master. IsFirstWrong (IsWrongIndex contents b.geo master a.props) at in
    let R : List Lprop → Type 0 = λ props. IsFirstWrong (IsWrongIndex contents b.geo b.latest.master props) at in
    subst R (h.props (ltb-true 3 4 refl)) (subst Q (h.master (ltb-true 2 4 refl)) (subst P (h.geo (ltb-true 1 4 refl)) broken))
moved contents a b Log at h broken =
    let P : RawGeometry → Type 0 = λ geo. IsBrokenLog contents geo a.latest.master at in
    let Q : Master → Type 0 = λ master. IsBrokenLog contents b.geo master at in
    subst Q (h.master (ltb-true 2 5 refl)) (subst P (h.geo (ltb-true 1 5 refl)) broken)
moved contents a b Buds at h broken = let P : List LogText → Type 0 = λ log. IsFirstWrong (IsWrongInBuds contents (buds_of (references_of log))) at in subst P (h.log (ltb-true 5 6 refl)) broken
moved contents a b Leaves at h broken =
    let P : PlacedRow → Type 0 = λ row. AreCommitted contents (leaves_in (plain row)) broken.committed in
    let Q : RawGeometry → Type 0 = λ geo. AreOrphans contents (orph_first geo) geo.orph_lebs broken.listed in
    let R : RawGeometry → Type 0 = λ geo. IsFirstWrong (IsWrongLeaf contents geo a.props (parts_of (record a { committed = broken.committed; listed = broken.listed }))) at in
    let S : List Lprop → Type 0 = λ props. IsFirstWrong (IsWrongLeaf contents b.geo props (parts_of (record a { committed = broken.committed; listed = broken.listed }))) at in
    let T : Parts → Type 0 = λ parts. IsFirstWrong (IsWrongLeaf contents b.geo b.props parts) at in
    let parts = parts_same a b broken.committed broken.committed broken.listed broken.listed (h.master (ltb-true 2 7 refl)) (h.log (ltb-true 5 7 refl)) (h.buds (ltb-true 6 7 refl)) refl refl in
    record {
      committed = broken.committed;
      listed = broken.listed;
      are_committed = subst P (h.placed (ltb-true 4 7 refl)) broken.are_committed;
      are_listed = subst Q (h.geo (ltb-true 1 7 refl)) broken.are_listed;
      first = subst T parts (subst S (h.props (ltb-true 3 7 refl)) (subst R (h.geo (ltb-true 1 7 refl)) broken.first));
    }
moved contents a b Sums at h broken =
    let P : RawGeometry → Type 0 = λ geo. IsFirstWrong (IsWrongSum geo a.props a.placed) at in
    let Q : List Lprop → Type 0 = λ props. IsFirstWrong (IsWrongSum b.geo props a.placed) at in
    let R : PlacedRow → Type 0 = λ row. IsFirstWrong (IsWrongSum b.geo b.props row) at in
    subst R (h.placed (ltb-true 4 8 refl)) (subst Q (h.props (ltb-true 3 8 refl)) (subst P (h.geo (ltb-true 1 8 refl)) broken))
moved contents a b Ends at h broken =
    let P : RawGeometry → Type 0 = λ geo. IsFirstWrong (IsWrittenEnd contents geo a.latest.master a.props a.log) at in
    let Q : Master → Type 0 = λ master. IsFirstWrong (IsWrittenEnd contents b.geo master a.props a.log) at in
    let R : List Lprop → Type 0 = λ props. IsFirstWrong (IsWrittenEnd contents b.geo b.latest.master props a.log) at in
    let S : List LogText → Type 0 = λ log. IsFirstWrong (IsWrittenEnd contents b.geo b.latest.master b.props log) at in
    subst S (h.log (ltb-true 5 9 refl)) (subst R (h.props (ltb-true 3 9 refl)) (subst Q (h.master (ltb-true 2 9 refl)) (subst P (h.geo (ltb-true 1 9 refl)) broken)))
moved contents a b Orphans at h broken = let P : RawGeometry → Type 0 = λ geo. IsFirstWrong (IsNoOrphan contents geo) at in subst P (h.geo (ltb-true 1 10 refl)) broken
moved contents a b Tree at h broken =
    let P : Master → Type 0 = λ master. IsFirstWrong (IsWrongInTree contents master (parts_of a)) at in
    let Q : Parts → Type 0 = λ parts. IsFirstWrong (IsWrongInTree contents b.latest.master parts) at in
    let parts = all_parts_same a b (h.master (ltb-true 2 11 refl)) (h.log (ltb-true 5 11 refl)) (h.buds (ltb-true 6 11 refl)) (h.committed (ltb-true 7 11 refl)) (h.listed (ltb-true 7 11 refl)) in
    subst Q parts (subst P (h.master (ltb-true 2 11 refl)) broken)
moved contents a b Links at h broken =
    let Q : Parts → Type 0 = λ parts. IsFirstWrong (IsWrongLink parts) at in
    subst Q (all_parts_same a b (h.master (ltb-true 2 12 refl)) (h.log (ltb-true 5 12 refl)) (h.buds (ltb-true 6 12 refl)) (h.committed (ltb-true 7 12 refl)) (h.listed (ltb-true 7 12 refl))) broken

-- ---- one rule is broken first, at one place
-- of one image
one_of_rule : Laws → (contents : ℕ → List ℕ) (image : Image) (rule : Rule) (p q : Wrong) → ((k : ℕ) → IsBytes (contents k)) → IsBroken contents image rule p → IsBroken contents image rule q → p ≡ q
one_of_rule laws contents image Superblock p q fits x y = absurd x
one_of_rule laws contents image Masters p q fits x y = one_first (IsMisplaced contents image.geo) p q x y
one_of_rule laws contents image Properties p q fits x y = one_first (IsWrongProperty contents image.geo image.latest.master) p q x y
one_of_rule laws contents image Index p q fits x y = one_first (IsWrongIndex contents image.geo image.latest.master image.props) p q x y
one_of_rule laws contents image Log p q fits x y = one_broken_log laws.node laws.text contents image.geo image.latest.master p q fits x y
one_of_rule laws contents image Buds p q fits x y = one_first (IsWrongInBuds contents (buds_of (references_of image.log))) p q x y
one_of_rule laws contents image Leaves p q fits x y =
    let committed = one_committed laws.leaf contents (leaves_in (plain image.placed)) x.committed y.committed fits x.are_committed y.are_committed in
    let listed = one_list_of_orphans laws.node laws.text contents (orph_first image.geo) image.geo.orph_lebs x.listed y.listed fits x.are_listed y.are_listed in
    let parts = parts_same image image x.committed y.committed x.listed y.listed refl refl refl committed listed in
    let P : Parts → Type 0 = λ z. IsFirstWrong (IsWrongLeaf contents image.geo image.props z) p in
    one_first (IsWrongLeaf contents image.geo image.props (parts_of (record image { committed = y.committed; listed = y.listed }))) p q (subst P parts x.first) y.first
one_of_rule laws contents image Sums p q fits x y = one_first (IsWrongSum image.geo image.props image.placed) p q x y
one_of_rule laws contents image Ends p q fits x y = one_first (IsWrittenEnd contents image.geo image.latest.master image.props image.log) p q x y
one_of_rule laws contents image Orphans p q fits x y = one_first (IsNoOrphan contents image.geo) p q x y
one_of_rule laws contents image Tree p q fits x y = one_first (IsWrongInTree contents image.latest.master (parts_of image)) p q x y
one_of_rule laws contents image Links p q fits x y = one_first (IsWrongLink (parts_of image)) p q x y

abbrev rule_of : ℕ → Rule
rule_of n =
    if n == 1 then Superblock
    else if n == 2 then Masters
    else if n == 3 then Properties
    else if n == 4 then Index
    else if n == 5 then Log
    else if n == 6 then Buds
    else if n == 7 then Leaves
    else if n == 8 then Sums
    else if n == 9 then Ends
    else if n == 10 then Orphans
    else if n == 11 then Tree
    else Links

rule_again : (rule : Rule) → rule_of (rule_number rule) ≡ rule
rule_again Superblock = refl
rule_again Masters = refl
rule_again Properties = refl
rule_again Index = refl
rule_again Log = refl
rule_again Buds = refl
rule_again Leaves = refl
rule_again Sums = refl
rule_again Ends = refl
rule_again Orphans = refl
rule_again Tree = refl
rule_again Links = refl

-- a rule that is broken isn't met by what the contents say
not_met : Laws → (contents : ℕ → List ℕ) (rule : Rule) (at : Wrong) (b : Image) → ((k : ℕ) → IsBytes (contents k)) → IsFirstBroken contents rule at → MeetsBefore contents b rule → MeetsRule contents b rule → ⊥
not_met laws contents rule at b fits (a, before, broken) there met = broken_rule laws contents b rule at fits (moved contents a b rule at (agree laws contents a b rule fits before there) broken) met

-- a lower rule than one that is broken is not broken
not_lower : Laws → (contents : ℕ → List ℕ) (low high : Rule) (p q : Wrong) → ((k : ℕ) → IsBytes (contents k)) → rule_number low < rule_number high → IsFirstBroken contents low p → IsFirstBroken contents high q → ⊥
not_lower laws contents low high p q fits less x (b, before, broken) = not_met laws contents low p b fits x (λ other n. before other (omega (arith, n, less))) (before low less)

pub one_broken : Laws → (contents : ℕ → List ℕ) (r s : Rule) (p q : Wrong) → ((k : ℕ) → IsBytes (contents k)) → IsFirstBroken contents r p → IsFirstBroken contents s q → (r ≡ s) × (p ≡ q)
one_broken laws contents r s p q fits x y = elim (cases_lt (rule_number r) (rule_number s)) [
  | inl less ↦ absurd (not_lower laws contents r s p q fits less x y)
  | inr high ↦ elim (cases_eq (rule_number r) (rule_number s)) [
    | inl same ↦
        let e : r ≡ s = sym (rule_again r) ∙ ap rule_of same ∙ rule_again s in
        let P : Rule → Type 0 = λ rule. IsFirstBroken contents rule p in
        let (a, before, broken) = subst P e x in
        let (b, there, also) = y in
        (e, one_of_rule laws contents b s p q fits (moved contents a b s p (agree laws contents a b s fits before there) broken) also)
    | inr other ↦ absurd (not_lower laws contents s r q p fits (omega (arith, high, other)) y x)
  ]
]

-- ---- the superblock
-- a geometry in range has no field that is out of its range
none_out : (geo : RawGeometry) (out : GeomFault) → IsGeometry geo → IsFirstOut geo tested_fields out → ⊥
none_out geo out h (inl a) = a.0 h.min_io
none_out geo out h (inr (_, inl a)) = a.0 h.leb_size
none_out geo out h (inr (_, inr (_, inl a))) = a.0 h.log_lebs
none_out geo out h (inr (_, inr (_, inr (_, inl a)))) = a.0 h.lpt_lebs
none_out geo out h (inr (_, inr (_, inr (_, inr (_, inl a))))) = a.0 h.orph_lebs
none_out geo out h (inr (_, inr (_, inr (_, inr (_, inr (_, inl a)))))) = a.0 h.leb_cnt
none_out geo out h (inr (_, inr (_, inr (_, inr (_, inr (_, inr (_, inl a))))))) = a.0 (h.max_leb_cnt, h.one_leb)
none_out geo out h (inr (_, inr (_, inr (_, inr (_, inr (_, inr (_, inr (_, inl a)))))))) = a.0 h.fanout
none_out geo out h (inr (_, inr (_, inr (_, inr (_, inr (_, inr (_, inr (_, inr (_, never))))))))) = never

no_field : (leb : List ℕ) (node : Super) (field : SuperField) → OneNode → IsBytes leb → BeginsWithSuper leb node → IsGeometry (geometry_of node) → IsWrongField leb field → ⊥
no_field leb node field one fits begins range (inl (none, is)) = none node begins
no_field leb node field one fits begins range (inr (other, also, known, (out, first, is))) =
    let P : Super → Type 0 = λ n. IsFirstOut (geometry_of n) tested_fields out in
    none_out (geometry_of node) out range (subst P (one_super one leb other node fits also begins) first)

-- one field is the first that is out of its range
one_out : (geo : RawGeometry) (fields : List GeomField) (a b : GeomFault) → IsFirstOut geo fields a → IsFirstOut geo fields b → a ≡ b
one_out geo [] a b x y = absurd x
one_out geo (field ∷ fields) a b (inl x) (inl y) = x.1 ∙ sym y.1
one_out geo (field ∷ fields) a b (inl x) (inr y) = absurd (x.0 y.0)
one_out geo (field ∷ fields) a b (inr x) (inl y) = absurd (y.0 x.0)
one_out geo (field ∷ fields) a b (inr x) (inr y) = one_out geo fields a b x.1 y.1

one_field : OneNode → (leb : List ℕ) (a b : SuperField) → IsBytes leb → IsWrongField leb a → IsWrongField leb b → a ≡ b
one_field one leb a b fits (inl (none, is)) (inl (also, other)) = is ∙ sym other
one_field one leb a b fits (inl (none, is)) (inr (node, begins, known, (out, first, other))) = absurd (none node begins)
one_field one leb a b fits (inr (node, begins, known, (out, first, is))) (inl (none, other)) = absurd (none node begins)
one_field one leb a b fits (inr (m, begins, known, (out, first, is))) (inr (n, also, unknown, (fault, again, other))) =
    let P : Super → Type 0 = λ x. IsFirstOut (geometry_of x) tested_fields out in
    is ∙ ap (λ (x : GeomFault). super_field_of x.field) (one_out (geometry_of n) tested_fields out fault (subst P (one_super one leb m n fits begins also) first) again) ∙ sym other

some_feature : (a b : Feature) → Some a ≡ Some b → a ≡ b
some_feature a b h = cc

super_needs_one : OneNode → (leb : List ℕ) (m n : Super) (what : Option Feature) (other : Option Feature) → IsBytes leb → BeginsWithSuper leb m → BeginsWithSuper leb n → first_of (features_of m) ≡ what → first_of (features_of n) ≡ other → what ≡ other
super_needs_one one leb m n what other fits x y e f = sym e ∙ ap (λ (s : Super). first_of (features_of s)) (one_super one leb m n fits x y) ∙ f

-- where the superblock is sound nothing is wrong with it
no_super_field : OneNode → (contents : ℕ → List ℕ) (geo : RawGeometry) (field : SuperField) → IsBytes (contents 0) → HasSuperblock contents geo → IsWrongField (contents 0) field → ⊥
no_super_field one contents geo field fits h wrong = let P : RawGeometry → Type 0 = λ g. IsGeometry g in no_field (contents 0) h.node field one fits h.begins (subst P h.geometry h.in_range) wrong

no_super_need : OneNode → (contents : ℕ → List ℕ) (geo : RawGeometry) (what : Feature) (at : Wrong) → IsBytes (contents 0) → HasSuperblock contents geo → SuperNeeds (contents 0) what at → ⊥
no_super_need one contents geo what at fits h (node, begins, first, is) = let e = super_needs_one one (contents 0) h.node node None (Some what) fits h.begins begins h.known first in absurd cc

field_or_need : OneNode → (leb : List ℕ) (field : SuperField) (what : Feature) (at : Wrong) → IsBytes leb → IsWrongField leb field → SuperNeeds leb what at → ⊥
field_or_need one leb field what at fits (inl (none, is)) (node, begins, first, e) = none node begins
field_or_need one leb field what at fits (inr (m, also, known, (out, range, is))) (node, begins, first, e) = let f = super_needs_one one leb m node None (Some what) fits also begins known first in absurd cc

-- what is broken by a rule but the first has a superblock, and by one but the first two a master
has_super : (contents : ℕ → List ℕ) (rule : Rule) (at : Wrong) → (broken : IsFirstBroken contents rule at) → HasSuperblock contents broken.0.geo
has_super contents Superblock at (a, before, broken) = absurd broken
has_super contents Masters at (a, before, broken) = before Superblock (ltb-true 1 2 refl)
has_super contents Properties at (a, before, broken) = before Superblock (ltb-true 1 3 refl)
has_super contents Index at (a, before, broken) = before Superblock (ltb-true 1 4 refl)
has_super contents Log at (a, before, broken) = before Superblock (ltb-true 1 5 refl)
has_super contents Buds at (a, before, broken) = before Superblock (ltb-true 1 6 refl)
has_super contents Leaves at (a, before, broken) = before Superblock (ltb-true 1 7 refl)
has_super contents Sums at (a, before, broken) = before Superblock (ltb-true 1 8 refl)
has_super contents Ends at (a, before, broken) = before Superblock (ltb-true 1 9 refl)
has_super contents Orphans at (a, before, broken) = before Superblock (ltb-true 1 10 refl)
has_super contents Tree at (a, before, broken) = before Superblock (ltb-true 1 11 refl)
has_super contents Links at (a, before, broken) = before Superblock (ltb-true 1 12 refl)

no_master : OneText → (contents : ℕ → List ℕ) (latest : PlacedMaster) → ((k : ℕ) → IsBytes (contents k)) → HasNoMaster (contents 1) → HasNoMaster (contents 2) → IsLatest (contents 1) (contents 2) latest → ⊥
no_master text contents latest fits one two is = latest_or_none text (contents 1) (contents 2) latest (fits 1) (fits 2) is one two

has_master : OneText → (contents : ℕ → List ℕ) (rule : Rule) (at : Wrong) → ((k : ℕ) → IsBytes (contents k)) → HasNoMaster (contents 1) → HasNoMaster (contents 2) → IsFirstBroken contents rule at → ⊥
has_master text contents Superblock at fits one two (a, before, broken) = broken
has_master text contents Masters at fits one two (a, before, broken) = no_master text contents broken.wrong.latest fits one two broken.wrong.is_latest
has_master text contents Properties at fits one two (a, before, broken) = no_master text contents a.latest fits one two (before Masters (ltb-true 2 3 refl)).is_latest
has_master text contents Index at fits one two (a, before, broken) = no_master text contents a.latest fits one two (before Masters (ltb-true 2 4 refl)).is_latest
has_master text contents Log at fits one two (a, before, broken) = no_master text contents a.latest fits one two (before Masters (ltb-true 2 5 refl)).is_latest
has_master text contents Buds at fits one two (a, before, broken) = no_master text contents a.latest fits one two (before Masters (ltb-true 2 6 refl)).is_latest
has_master text contents Leaves at fits one two (a, before, broken) = no_master text contents a.latest fits one two (before Masters (ltb-true 2 7 refl)).is_latest
has_master text contents Sums at fits one two (a, before, broken) = no_master text contents a.latest fits one two (before Masters (ltb-true 2 8 refl)).is_latest
has_master text contents Ends at fits one two (a, before, broken) = no_master text contents a.latest fits one two (before Masters (ltb-true 2 9 refl)).is_latest
has_master text contents Orphans at fits one two (a, before, broken) = no_master text contents a.latest fits one two (before Masters (ltb-true 2 10 refl)).is_latest
has_master text contents Tree at fits one two (a, before, broken) = no_master text contents a.latest fits one two (before Masters (ltb-true 2 11 refl)).is_latest
has_master text contents Links at fits one two (a, before, broken) = no_master text contents a.latest fits one two (before Masters (ltb-true 2 12 refl)).is_latest

-- ---- what is wrong first
abbrev at_need : Feature → ℕ → ℕ → Wrong
at_need what lnum offs = record { lnum = lnum; offs = offs; misfit = needs what }

abbrev at_values : ℕ → ℕ → ℕ → ℕ → Wrong
at_values lnum offs wanted found = record { lnum = lnum; offs = offs; misfit = differs wanted found }

need_is : (w v : Feature) → needs w ≡ needs v → w ≡ v
need_is w v h = cc

values_are : (w v f g : ℕ) → differs w f ≡ differs v g → (w ≡ v) × (f ≡ g)
values_are w v f g h = (cc, cc)

need_or_values : (what : Feature) (w f : ℕ) → needs what ≡ differs w f → ⊥
need_or_values what w f h = absurd cc

need_same : (w v : Feature) (l m o p : ℕ) → at_need w l o ≡ at_need v m p → NeedsOne w l o ≡ NeedsOne v m p
need_same w v l m o p h =
    let what = need_is w v (ap (λ (at : Wrong). at.misfit) h) in
    let lnum : l ≡ m = ap (λ (at : Wrong). at.lnum) h in
    let offs : o ≡ p = ap (λ (at : Wrong). at.offs) h in
    rw (what, lnum, offs) refl

values_same : (r s : Rule) (l m o p w v f g : ℕ) → r ≡ s → at_values l o w f ≡ at_values m p v g → Damaged r l o w f ≡ Damaged s m p v g
values_same r s l m o p w v f g e h =
    let values = values_are w v f g (ap (λ (at : Wrong). at.misfit) h) in
    let lnum : l ≡ m = ap (λ (at : Wrong). at.lnum) h in
    let offs : o ≡ p = ap (λ (at : Wrong). at.offs) h in
    let wanted = values.0 in
    let found = values.1 in
    rw (e, lnum, offs, wanted, found) refl

-- a feature is needed by the superblock, or breaks a rule
by_rule : (contents : ℕ → List ℕ) (what : Feature) (at : Wrong) → SuperNeeds (contents 0) what at ⊎ (IsFirstBroken contents Buds at ⊎ IsFirstBroken contents Leaves at)
    → SuperNeeds (contents 0) what at ⊎ ((rule : Rule) × IsFirstBroken contents rule at)
by_rule contents what at (inl h) = inl h
by_rule contents what at (inr (inl h)) = inr (Buds, h)
by_rule contents what at (inr (inr h)) = inr (Leaves, h)

field_alone : Laws → (contents : ℕ → List ℕ) (field : SuperField) (b : Breach) → ((k : ℕ) → IsBytes (contents k)) → IsWrongField (contents 0) field → IsFirstBreach contents b → InSuper field ≡ b
field_alone laws contents field (InSuper other) fits x y = ap InSuper (one_field laws.node (contents 0) field other (fits 0) x y)
field_alone laws contents field (NeedsOne what lnum offs) fits x y = elim (by_rule contents what (at_need what lnum offs) y) [
  | inl need ↦ absurd (field_or_need laws.node (contents 0) field what (at_need what lnum offs) (fits 0) x need)
  | inr (rule, broken) ↦ absurd (no_super_field laws.node contents broken.0.geo field (fits 0) (has_super contents rule (at_need what lnum offs) broken) x)
]
field_alone laws contents field NoMaster fits x (geo, super, one, two) = absurd (no_super_field laws.node contents geo field (fits 0) super x)
field_alone laws contents field (Damaged rule lnum offs wanted found) fits x y = absurd (no_super_field laws.node contents y.0.geo field (fits 0) (has_super contents rule (at_values lnum offs wanted found) y) x)

super_alone : Laws → (contents : ℕ → List ℕ) (what : Feature) (lnum offs : ℕ) (b : Breach) → ((k : ℕ) → IsBytes (contents k)) → SuperNeeds (contents 0) what (at_need what lnum offs) → IsFirstBreach contents b → NeedsOne what lnum offs ≡ b
super_alone laws contents what lnum offs (InSuper field) fits x y = absurd (field_or_need laws.node (contents 0) field what (at_need what lnum offs) (fits 0) y x)
super_alone laws contents what lnum offs (NeedsOne other m p) fits x y = elim (by_rule contents other (at_need other m p) y) [
  | inl (n, also, again, there) ↦
      let (node, begins, first, here) = x in
      let same = some_feature what other (super_needs_one laws.node (contents 0) node n (Some what) (Some other) (fits 0) begins also first again) in
      need_same what other lnum m offs p (here ∙ ap (λ (w : Feature). at_need w 0 0) same ∙ sym there)
  | inr (rule, broken) ↦ absurd (no_super_need laws.node contents broken.0.geo what (at_need what lnum offs) (fits 0) (has_super contents rule (at_need other m p) broken) x)
]
super_alone laws contents what lnum offs NoMaster fits x (geo, super, one, two) = absurd (no_super_need laws.node contents geo what (at_need what lnum offs) (fits 0) super x)
super_alone laws contents what lnum offs (Damaged rule m p wanted found) fits x y = absurd (no_super_need laws.node contents y.0.geo what (at_need what lnum offs) (fits 0) (has_super contents rule (at_values m p wanted found) y) x)

needs_no_values : (what : Feature) (l m o p w f : ℕ) → at_need what l o ≡ at_values m p w f → ⊥
needs_no_values what l m o p w f h = need_or_values what w f (ap (λ (at : Wrong). at.misfit) h)

rule_alone : Laws → (contents : ℕ → List ℕ) (rule : Rule) (what : Feature) (lnum offs : ℕ) (b : Breach) → ((k : ℕ) → IsBytes (contents k)) → IsFirstBroken contents rule (at_need what lnum offs) → IsFirstBreach contents b → NeedsOne what lnum offs ≡ b
rule_alone laws contents rule what lnum offs (InSuper field) fits x y = absurd (no_super_field laws.node contents x.0.geo field (fits 0) (has_super contents rule (at_need what lnum offs) x) y)
rule_alone laws contents rule what lnum offs (NeedsOne other m p) fits x y = elim (by_rule contents other (at_need other m p) y) [
  | inl need ↦ absurd (no_super_need laws.node contents x.0.geo other (at_need other m p) (fits 0) (has_super contents rule (at_need what lnum offs) x) need)
  | inr (again, broken) ↦ need_same what other lnum m offs p (one_broken laws contents rule again (at_need what lnum offs) (at_need other m p) fits x broken).1
]
rule_alone laws contents rule what lnum offs NoMaster fits x (geo, super, one, two) = absurd (has_master laws.text contents rule (at_need what lnum offs) fits one two x)
rule_alone laws contents rule what lnum offs (Damaged again m p wanted found) fits x y =
    absurd (needs_no_values what lnum m offs p wanted found (one_broken laws contents rule again (at_need what lnum offs) (at_values m p wanted found) fits x y).1)

need_alone : Laws → (contents : ℕ → List ℕ) (what : Feature) (lnum offs : ℕ) (b : Breach) → ((k : ℕ) → IsBytes (contents k)) → IsFirstBreach contents (NeedsOne what lnum offs) → IsFirstBreach contents b → NeedsOne what lnum offs ≡ b
need_alone laws contents what lnum offs b fits x y = elim (by_rule contents what (at_need what lnum offs) x) [
  | inl need ↦ super_alone laws contents what lnum offs b fits need y
  | inr (rule, broken) ↦ rule_alone laws contents rule what lnum offs b fits broken y
]

pub one_breach : Laws → (contents : ℕ → List ℕ) (a b : Breach) → ((k : ℕ) → IsBytes (contents k)) → IsFirstBreach contents a → IsFirstBreach contents b → a ≡ b
one_breach laws contents (InSuper field) b fits x y = field_alone laws contents field b fits x y
one_breach laws contents (NeedsOne what lnum offs) b fits x y = need_alone laws contents what lnum offs b fits x y
one_breach laws contents NoMaster (InSuper field) fits x y = sym (field_alone laws contents field NoMaster fits y x)
one_breach laws contents NoMaster (NeedsOne what lnum offs) fits x y = sym (need_alone laws contents what lnum offs NoMaster fits y x)
one_breach laws contents NoMaster NoMaster fits x y = refl
one_breach laws contents NoMaster (Damaged rule lnum offs wanted found) fits (geo, super, one, two) y = absurd (has_master laws.text contents rule (at_values lnum offs wanted found) fits one two y)
one_breach laws contents (Damaged rule lnum offs wanted found) (InSuper field) fits x y = sym (field_alone laws contents field (Damaged rule lnum offs wanted found) fits y x)
one_breach laws contents (Damaged rule lnum offs wanted found) (NeedsOne what m p) fits x y = sym (need_alone laws contents what m p (Damaged rule lnum offs wanted found) fits y x)
one_breach laws contents (Damaged rule lnum offs wanted found) NoMaster fits x (geo, super, one, two) = absurd (has_master laws.text contents rule (at_values lnum offs wanted found) fits one two x)
one_breach laws contents (Damaged r l o w f) (Damaged s m p v g) fits x y =
    let same = one_broken laws contents r s (at_values l o w f) (at_values m p v g) fits x y in
    values_same r s l m o p w v f g same.0 same.1

-- ---- sound contents
sound_before : (contents : ℕ → List ℕ) (image : Image) (rule : Rule) → SoundImage contents image → MeetsBefore contents image rule
sound_before contents image rule h = λ other n. meets_each contents image other h

pub none_wrong : Laws → (contents : ℕ → List ℕ) (image : Image) (a : Breach) → ((k : ℕ) → IsBytes (contents k)) → SoundImage contents image → IsFirstBreach contents a → ⊥
none_wrong laws contents image (InSuper field) fits h x = no_super_field laws.node contents image.geo field (fits 0) h.superblock x
none_wrong laws contents image (NeedsOne what lnum offs) fits h x = elim (by_rule contents what (at_need what lnum offs) x) [
  | inl need ↦ no_super_need laws.node contents image.geo what (at_need what lnum offs) (fits 0) h.superblock need
  | inr (rule, broken) ↦ not_met laws contents rule (at_need what lnum offs) image fits broken (sound_before contents image rule h) (meets_each contents image rule h)
]
none_wrong laws contents image NoMaster fits h (geo, super, one, two) = no_master laws.text contents image.latest fits one two h.masters.is_latest
none_wrong laws contents image (Damaged rule lnum offs wanted found) fits h x = not_met laws contents rule (at_values lnum offs wanted found) image fits x (sound_before contents image rule h) (meets_each contents image rule h)

-- ---- one image
image_same : (m : PlacedMaster) (g1 g2 : RawGeometry) (p1 p2 : List Lprop) (r1 r2 : PlacedRow) (t1 t2 : List LogText) (b1 b2 : List BudRead) (c1 c2 : List Committed) (l1 l2 : List ℕ) → g1 ≡ g2 → p1 ≡ p2 → r1 ≡ r2 → t1 ≡ t2 → b1 ≡ b2 → c1 ≡ c2 → l1 ≡ l2
    → let a : Image = record { geo = g1; latest = m; props = p1; placed = r1; log = t1; buds = b1; committed = c1; listed = l1 } in
    let b : Image = record { geo = g2; latest = m; props = p2; placed = r2; log = t2; buds = b2; committed = c2; listed = l2 } in
    a ≡ b
image_same m g1 g2 p1 p2 r1 r2 t1 t2 b1 b2 c1 c2 l1 l2 g p r t b c l = rw (g, p, r, t, b, c, l) refl

pub one_image : Laws → (contents : ℕ → List ℕ) (a b : Image) → ((k : ℕ) → IsBytes (contents k)) → SoundImage contents a → SoundImage contents b → (a.latest.master ≡ b.latest.master) × (record b { latest = a.latest } ≡ a)
one_image laws contents a b fits x y =
    let h = agree laws contents a b Links fits (sound_before contents a Links x) (sound_before contents b Links y) in (
      h.master (ltb-true 2 12 refl),
      image_same a.latest b.geo a.geo b.props a.props b.placed a.placed b.log a.log b.buds a.buds b.committed a.committed b.listed a.listed (sym (h.geo (ltb-true 1 12 refl))) (sym (h.props (ltb-true 3 12 refl))) (sym (h.placed (ltb-true 4 12 refl)))
          (sym (h.log (ltb-true 5 12 refl))) (sym (h.buds (ltb-true 6 12 refl))) (sym (h.committed (ltb-true 7 12 refl))) (sym (h.listed (ltb-true 7 12 refl))),
    )
