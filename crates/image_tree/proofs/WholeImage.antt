-- What is recovered of lists is recovered of each image of which they were read.
use Rattle.std.proofs.Common.{◌≡◌, ℕ, List, [], ◌∷◌, ◌++◌, map, refl, ap, sym, ◌∙◌, subst, Result, Ok, Err}
use Rattle.std.specs.Prelude.{All, IfErr, IfOk, IsTrue, OnOk}
use Rattle.ubifs_base.specs.Areas.{orph_first}
use Rattle.ubifs_base.specs.declared.raw_geometry.RawGeometry.{RawGeometry}
use Rattle.media_lpt.specs.declared.lprop.Lprop.{Lprop}
use Rattle.small_areas.specs.Orphans.{AreOrphans}
use Rattle.bud_log.specs.Buds.{buds_of}
use Rattle.index_tree.specs.Shape.{contents as leaves_in}
use Rattle.index_tree.specs.declared.leaf.Leaf.{Leaf}
use Rattle.index_media.specs.PlacedRow.{are_disjoint, branch_to, plain}
use Rattle.journal_scan.specs.Content.{told}
use Rattle.journal_scan.specs.Journal.{BudRead, copies_in, journal_nodes_in}
use Rattle.leaf_map.specs.Kept.{Kept}
use Rattle.leaf_map.specs.Lost.{missing_leaves}
use Rattle.leaf_map.specs.Parts.{Parts}
use Rattle.leaf_map.specs.Recovered.{nodes_in_order, recovered_of}
use Rattle.leaf_recovery.specs.Told.{AreTold, AreLeavesTold, IsRecoveredFrom}
use Rattle.leaf_recovery.specs.declared.recovered_leaf.RecoveredLeaf.{RecoveredLeaf}
use Rattle.leaf_recovery.specs.declared.recovered_leaf.RecoveredLeaves.{RecoveredLeaves}
use Rattle.sound_image.specs.Breaches.{IsBrokenLeaf}
use Rattle.sound_image.specs.Image.{Image, named_by_ref_node, parts_of}
use Rattle.sound_image.specs.LeafBreaches.{IsWrongOfLeaves}
use Rattle.sound_image.specs.Leaves.{AreCommitted, IsSoundLeaf, leaves_recovered}
use Rattle.sound_image.specs.Wrong.{IsFirstWrong, Wrong}
use Rattle.sound_image.specs.declared.rule.Rule.TheVariants as rules
use Rattle.image_check.specs.Told.{IsBreachOf, TellsBreach}
use Rattle.image_check.specs.declared.fault.CheckFault.{CheckFault}
use Rattle.image_tree.specs.Reads.{AreLeavesMet, IsReadOfSome, IsImageReadSoFar, IsTreeTold, ReadBefore, leaves_told, with_leaves}
use Rattle.image_tree.specs.declared.tree_read.TreeRead.{TreeRead}
use Rattle.image_tree.proofs.Judging.{breach_more}
use Rattle.image_tree.proofs.StandingNodes.{StandingLaws}

places_same : (parts : Parts) (kept : List Kept) (rs : List RecoveredLeaf) → AreLeavesTold parts kept rs → map (λ x. x.leaf) rs ≡ map (λ x. x.leaf) kept
places_same parts [] [] h = refl
places_same parts [] (r ∷ rs) h = absurd h
places_same parts (x ∷ kept) [] h = absurd h
places_same parts (x ∷ kept) (r ∷ rs) h = ap (λ (l : Leaf). l ∷ map (λ y. y.leaf) rs) h.0.leaf ∙ ap (λ (ls : List Leaf). x.leaf ∷ ls) (places_same parts kept rs h.1)

-- the leaves by what is told are those after recovery
pub leaves_same : (parts : Parts) (made : RecoveredLeaves) → IsRecoveredFrom parts made → leaves_told made ≡ leaves_recovered parts
leaves_same parts made r =
    ap (λ (ls : List Leaf). ls ++ made.empty.items) (places_same parts (recovered_of parts).kept made.kept.items r.kept)
    ∙ ap (λ (ls : List Leaf). map (λ x. x.leaf) (recovered_of parts).kept ++ ls) r.empty

module _ (laws : StandingLaws) (contents : ℕ → List ℕ) (before : ReadBefore) (image : Image) (read : TreeRead) (s : IsImageReadSoFar contents before image) (t : IsTreeTold contents before.geo before.leaves before.references before.journal read) where
  abbrev whole : Image
  whole = with_leaves image t.committed read.listed.items

  are_told : AreTold (parts_of whole) read.committed.items before.references before.journal.nodes.items before.journal.copies.items read.listed.items
  are_told = record {
    of_leaves = t.told;
    of_references = ap (map named_by_ref_node) (sym s.said.references_are);
    of_nodes = subst (λ (reads : List BudRead). before.journal.nodes.items ≡ map told (nodes_in_order (journal_nodes_in reads))) s.said.buds s.said.read.nodes;
    of_copies = subst (λ (reads : List BudRead). before.journal.copies.items ≡ map told (copies_in reads)) s.said.buds s.said.read.copies;
    of_list = refl;
    leaf_nodes = t.grammar;
    node_nodes = laws.grammar contents (journal_nodes_in image.buds) (laws.nodes contents (buds_of before.references) image.buds s.said.rule);
    copy_nodes = laws.grammar contents (copies_in image.buds) (laws.copies contents (buds_of before.references) image.buds s.said.rule);
  }

  made : IsRecoveredFrom (parts_of whole) read.recovered
  made = t.recovered (parts_of whole) are_told

  committed_here : AreCommitted contents (leaves_in (plain image.placed)) t.committed
  committed_here = subst (λ (ls : List Leaf). AreCommitted contents ls t.committed) s.said.leaves_are t.are_committed

  listed_here : AreOrphans contents (orph_first image.geo) image.geo.orph_lebs read.listed.items
  listed_here = subst (λ (geo : RawGeometry). AreOrphans contents (orph_first geo) geo.orph_lebs read.listed.items) (sym s.geo) t.listed

  pub whole_met : AreLeavesMet contents before.geo before.props read.recovered.missing.items (leaves_told read.recovered) → IsReadOfSome contents before image read
  whole_met met =
      let sound_geo = subst (λ (geo : RawGeometry). All (λ (leaf : Leaf). IsSoundLeaf contents geo before.props leaf) (leaves_told read.recovered)) (sym s.geo) met.0 in
      let sound_props = subst (λ (props : List Lprop). All (λ (leaf : Leaf). IsSoundLeaf contents image.geo props leaf) (leaves_told read.recovered)) (sym s.props) sound_geo in (
        t.committed,
        record { geo = s.geo; props = s.props; said = record { leaves_are = s.said.leaves_are; references_are = s.said.references_are; rule = s.said.rule; read = s.said.read; buds = s.said.buds } },
        record {
          told = t.told;
          listed = refl;
          rule = record {
            committed = committed_here;
            listed = listed_here;
            sound = subst (λ (ls : List Leaf). All (λ (leaf : Leaf). IsSoundLeaf contents image.geo image.props leaf) ls) (leaves_same (parts_of whole) read.recovered made) sound_props;
            replaced = sym made.missing ∙ met.1;
            apart = subst (λ (ls : List Leaf). IsTrue (are_disjoint (map branch_to ls))) (leaves_same (parts_of whole) read.recovered made) met.2;
          };
          recovered = made;
        },
      )

  pub whole_broken : (fault : CheckFault) → TellsBreach (IsBreachOf rules.Leaves (IsFirstWrong (IsWrongOfLeaves contents before.geo before.props read.recovered.missing.items (leaves_told read.recovered)))) fault
      → TellsBreach (IsBreachOf rules.Leaves (IsBrokenLeaf contents image)) fault
  whole_broken fault h =
      breach_more rules.Leaves (IsFirstWrong (IsWrongOfLeaves contents before.geo before.props read.recovered.missing.items (leaves_told read.recovered))) (IsBrokenLeaf contents image)
      (λ (at : Wrong) first.
      let of_geo = subst (λ (geo : RawGeometry). IsFirstWrong (IsWrongOfLeaves contents geo before.props read.recovered.missing.items (leaves_told read.recovered)) at) (sym s.geo) first in
      let of_props = subst (λ (props : List Lprop). IsFirstWrong (IsWrongOfLeaves contents image.geo props read.recovered.missing.items (leaves_told read.recovered)) at) (sym s.props) of_geo in
      let of_missing = subst (λ (ls : List Leaf). IsFirstWrong (IsWrongOfLeaves contents image.geo image.props ls (leaves_told read.recovered)) at) made.missing of_props in
      record {
        committed = t.committed;
        listed = read.listed.items;
        are_committed = committed_here;
        are_listed = listed_here;
        first = subst (λ (ls : List Leaf). IsFirstWrong (IsWrongOfLeaves contents image.geo image.props (missing_leaves (parts_of whole)) ls) at) (leaves_same (parts_of whole) read.recovered made) of_missing;
      }) fault h

-- what is answered where the rule is met, and where it isn't
pub met_of : (r : Result TreeRead CheckFault) (read : TreeRead) (A : Type 0) (B : TreeRead → Type 0) → IfOk r (λ made. made ≡ read) → OnOk r A → (A → B read) → IfOk r B
met_of (Ok x) read A B e h f = subst B (sym e) (f h)
met_of (Err fault) read A B e h f = tt

pub broken_of : (r : Result TreeRead CheckFault) (P Q : CheckFault → Type 0) → ((fault : CheckFault) → P fault → Q fault) → IfErr r P → IfErr r Q
broken_of (Ok x) P Q f h = tt
broken_of (Err fault) P Q f h = f fault h
