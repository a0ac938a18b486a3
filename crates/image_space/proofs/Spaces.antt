-- The space of an image by marks and sums.
use Rattle.std.proofs.Common.{◌≡◌, ℕ, ◌+◌, ◌<◌, Bool, false, List, [], ◌∷◌, Option, length, map, refl, ap, sym, ◌∙◌, arith}
use Rattle.std.specs.Prelude.{◌==◌, ◌&&◌, ◌||◌, not, count_by, filter, sum_by}
use Rattle.std.specs.List.{find, list_all, list_any, range_with_len}
use Rattle.std.specs.Option.{option_map_or}
use Rattle.std.proofs.lemmas.List.Folds.{list_all-map}
use Rattle.std.proofs.lemmas.List.FromFn.{length-range_with_len}
use Rattle.std.proofs.lemmas.List.Sums.{length-filter, sum_by-cons}
use Rattle.ubifs_base.specs.Areas.{main_first, main_lebs}
use Rattle.ubifs_base.specs.declared.raw_geometry.RawGeometry.{RawGeometry}
use Rattle.media_sys.specs.declared.branch.Branch.{Branch}
use Rattle.media_sys.specs.declared.ref_node.RefNode.{RefNode}
use Rattle.index_tree.specs.Shape.{shape_weight}
use Rattle.index_tree.specs.declared.leaf.Leaf.{Leaf}
use Rattle.index_media.specs.PlacedRow.{PlacedRow, all_nodes, plain}
use Rattle.index_media.specs.Stored.{IsStoredIndex}
use Rattle.fs_model.specs.declared.space.Space.{Space}
use Rattle.leaf_map.specs.After.{used_by}
use Rattle.leaf_map.specs.Kept.{Kept}
use Rattle.leaf_map.specs.Parts.{Named, is_named}
use Rattle.leaf_map.specs.Recovered.{recovered_of}
use Rattle.leaf_map.specs.SpaceFound.{MainAreaFound, counts_as_empty, is_bare_leb, is_collectors, is_indexed, opened_in_vain}
use Rattle.sound_image.specs.Image.{Image, named_by_ref_node, parts_of}
use Rattle.sound_image.specs.Summary.{main_area_of, space_of_image}
use Rattle.image_space.specs.Told.{IsToldOf}
use Rattle.image_space.specs.Uses.{AreUses, counts_in, is_bare_use, is_indexed_in, is_vain_in, use_in}
use Rattle.image_space.specs.Weight.{bytes_of_leaf, weight_by_lengths}
use Rattle.image_space.specs.declared.leb_use.LebUse.{LebUse}
use Rattle.image_space.proofs.Counted.{filter_same, find_same}
use Rattle.image_space.proofs.Facts.{any_leaf, any_map, any_other, any_reference, collectors_all, facts_of, use_facts}
use Rattle.image_space.proofs.Places.{use_at}

-- ---- one LEB
-- the marks of a main LEB tell what stands there
marks_of : (first count at : ℕ) (nodes : List Branch) (references : List RefNode) (leaves : List Leaf) (uses : List LebUse) → AreUses first count nodes references leaves uses → at < count → use_in first uses (first + at) ≡ facts_of (first + at) nodes references leaves
marks_of first count at nodes references leaves uses are less = use_at first at uses ∙ are.marks at less ∙ use_facts (first + at) nodes references leaves

leaves_there : (lnum : ℕ) (kept : List Kept) → list_any (λ x. x.leaf.lnum == lnum) kept ≡ any_leaf lnum (map (λ x. x.leaf) kept)
leaves_there lnum kept = sym (any_map (λ (leaf : Leaf). leaf.lnum == lnum) (λ (x : Kept). x.leaf) kept)

references_there : (lnum : ℕ) (references : List RefNode) → is_named (map named_by_ref_node references) lnum ≡ any_reference lnum references
references_there lnum references = any_map (λ (b : Named). b.lnum == lnum) named_by_ref_node references

collectors_there : (lnum : ℕ) (references : List RefNode) → is_collectors (map named_by_ref_node references) lnum ≡ (any_reference lnum references && not (any_other lnum references))
collectors_there lnum references =
    ap (λ (b : Bool). b && list_all (λ (x : Named). not (x.lnum == lnum) || (x.head == 0)) (map named_by_ref_node references)) (references_there lnum references)
    ∙ ap (λ (b : Bool). any_reference lnum references && b) (list_all-map (λ (x : Named). not (x.lnum == lnum) || (x.head == 0)) named_by_ref_node references ∙ collectors_all lnum references)

-- ---- all main LEBs, where these are the nodes, the references and the leaves
pub record Counts (area : MainAreaFound) (named : List Named) (kept : List Kept) (nodes : List Branch) (references : List RefNode) (leaves : List Leaf) : Type 0 where
  pub nodes_are : area.indexed ≡ map (λ (node : Branch). node.lnum) nodes
  pub named_are : named ≡ map named_by_ref_node references
  pub leaves_are : leaves ≡ map (λ x. x.leaf) kept

indexed_same : (area : MainAreaFound) (named : List Named) (kept : List Kept) (first count at : ℕ) (nodes : List Branch) (references : List RefNode) (leaves : List Leaf) (uses : List LebUse) → Counts area named kept nodes references leaves
    → AreUses first count nodes references leaves uses → at < count → is_indexed area (first + at) ≡ is_indexed_in first uses (first + at)
indexed_same area named kept first count at nodes references leaves uses of are less =
    ap (list_any (λ n. n == first + at)) of.nodes_are ∙ any_map (λ (n : ℕ). n == first + at) (λ (node : Branch). node.lnum) nodes ∙ sym (ap (λ (u : LebUse). u.indexed) (marks_of first count at nodes references leaves uses are less))

bare_same : (area : MainAreaFound) (named : List Named) (kept : List Kept) (first count at : ℕ) (nodes : List Branch) (references : List RefNode) (leaves : List Leaf) (uses : List LebUse) → Counts area named kept nodes references leaves
    → AreUses first count nodes references leaves uses → at < count → is_bare_leb area kept (first + at) ≡ is_bare_use (use_in first uses (first + at))
bare_same area named kept first count at nodes references leaves uses of are less =
    let marks = marks_of first count at nodes references leaves uses are less in
    let there = leaves_there (first + at) kept ∙ ap (any_leaf (first + at)) (sym of.leaves_are) ∙ sym (ap (λ (u : LebUse). u.filled) marks) in
    ap (λ (b : Bool). not b && not (list_any (λ x. x.leaf.lnum == first + at) kept)) (indexed_same area named kept first count at nodes references leaves uses of are less)
    ∙ ap (λ (b : Bool). not (is_indexed_in first uses (first + at)) && not b) there

named_same : (area : MainAreaFound) (named : List Named) (kept : List Kept) (first count at : ℕ) (nodes : List Branch) (references : List RefNode) (leaves : List Leaf) (uses : List LebUse) → Counts area named kept nodes references leaves
    → AreUses first count nodes references leaves uses → at < count → is_named named (first + at) ≡ (use_in first uses (first + at)).named
named_same area named kept first count at nodes references leaves uses of are less =
    ap (λ (xs : List Named). is_named xs (first + at)) of.named_are ∙ references_there (first + at) references ∙ sym (ap (λ (u : LebUse). u.named) (marks_of first count at nodes references leaves uses are less))

vain_same : (area : MainAreaFound) (named : List Named) (kept : List Kept) (first count at : ℕ) (nodes : List Branch) (references : List RefNode) (leaves : List Leaf) (uses : List LebUse) → Counts area named kept nodes references leaves
    → AreUses first count nodes references leaves uses → at < count → (is_bare_leb area kept (first + at) && is_collectors named (first + at)) ≡ is_vain_in first uses (first + at)
vain_same area named kept first count at nodes references leaves uses of are less =
    let own = ap (λ (xs : List Named). is_collectors xs (first + at)) of.named_are ∙ collectors_there (first + at) references ∙ sym (ap (λ (u : LebUse). u.named && not u.for_others) (marks_of first count at nodes references leaves uses are less)) in
    ap (λ (b : Bool). b && is_collectors named (first + at)) (bare_same area named kept first count at nodes references leaves uses of are less) ∙ ap (λ (b : Bool). is_bare_use (use_in first uses (first + at)) && b) own

opened_same : (area : MainAreaFound) (named : List Named) (kept : List Kept) (first count : ℕ) (nodes : List Branch) (references : List RefNode) (leaves : List Leaf) (uses : List LebUse) → Counts area named kept nodes references leaves
    → area.lebs ≡ range_with_len first count → AreUses first count nodes references leaves uses → opened_in_vain area named kept ≡ find (is_vain_in first uses) (range_with_len first (length uses))
opened_same area named kept first count nodes references leaves uses of lebs are =
    ap (find (λ lnum. is_bare_leb area kept lnum && is_collectors named lnum)) lebs
    ∙ find_same (λ lnum. is_bare_leb area kept lnum && is_collectors named lnum) (is_vain_in first uses) first count (λ at less. vain_same area named kept first count at nodes references leaves uses of are less)
    ∙ ap (λ (n : ℕ). find (is_vain_in first uses) (range_with_len first n)) (sym are.len)

empty_same : (area : MainAreaFound) (named : List Named) (kept : List Kept) (first count at : ℕ) (nodes : List Branch) (references : List RefNode) (leaves : List Leaf) (uses : List LebUse) → Counts area named kept nodes references leaves
    → area.lebs ≡ range_with_len first count → AreUses first count nodes references leaves uses → at < count → counts_as_empty area named kept (first + at) ≡ counts_in first uses (first + at)
empty_same area named kept first count at nodes references leaves uses of lebs are less =
    let lnum = first + at in
    ap (λ (b : Bool). b && (not (is_named named lnum) || option_map_or (λ n. n == lnum) (opened_in_vain area named kept) false)) (bare_same area named kept first count at nodes references leaves uses of are less)
    ∙ ap (λ (b : Bool). is_bare_use (use_in first uses lnum) && (not b || option_map_or (λ n. n == lnum) (opened_in_vain area named kept) false)) (named_same area named kept first count at nodes references leaves uses of are less)
    ∙ ap (λ (o : Option ℕ). is_bare_use (use_in first uses lnum) && (not (use_in first uses lnum).named || option_map_or (λ n. n == lnum) o false)) (opened_same area named kept first count nodes references leaves uses of lebs are)

empty_count : (area : MainAreaFound) (named : List Named) (kept : List Kept) (first count : ℕ) (nodes : List Branch) (references : List RefNode) (leaves : List Leaf) (uses : List LebUse) → Counts area named kept nodes references leaves
    → area.lebs ≡ range_with_len first count → AreUses first count nodes references leaves uses → length (filter (counts_in first uses) (range_with_len first (length uses))) ≡ length (filter (counts_as_empty area named kept) area.lebs)
empty_count area named kept first count nodes references leaves uses of lebs are =
    ap (λ (n : ℕ). length (filter (counts_in first uses) (range_with_len first n))) are.len
    ∙ sym (ap length (filter_same (counts_as_empty area named kept) (counts_in first uses) first count (λ at less. empty_same area named kept first count at nodes references leaves uses of lebs are less)))
    ∙ sym (ap (λ (xs : List ℕ). length (filter (counts_as_empty area named kept) xs)) lebs)

index_count : (area : MainAreaFound) (named : List Named) (kept : List Kept) (first count : ℕ) (nodes : List Branch) (references : List RefNode) (leaves : List Leaf) (uses : List LebUse) → Counts area named kept nodes references leaves
    → area.lebs ≡ range_with_len first count → AreUses first count nodes references leaves uses → length (filter (is_indexed_in first uses) (range_with_len first (length uses))) ≡ count_by (is_indexed area) area.lebs
index_count area named kept first count nodes references leaves uses of lebs are =
    ap (λ (n : ℕ). length (filter (is_indexed_in first uses) (range_with_len first n))) are.len
    ∙ sym (ap length (filter_same (is_indexed area) (is_indexed_in first uses) first count (λ at less. indexed_same area named kept first count at nodes references leaves uses of are less)))
    ∙ length-filter (is_indexed area) (range_with_len first count)
    ∙ sym (ap (count_by (is_indexed area)) lebs)

-- ---- the sums
bytes_of : (kept : List Kept) → sum_by bytes_of_leaf (map (λ x. x.leaf) kept) ≡ used_by kept
bytes_of [] = refl
bytes_of (x ∷ kept) =
    let more = bytes_of kept in
    let here = sum_by-cons bytes_of_leaf x.leaf (map (λ y. y.leaf) kept) in
    let there = sum_by-cons (λ (y : Kept). bytes_of_leaf y.leaf) x kept in
    omega (arith, more, here, there)

-- ---- the space
-- what the law on weights says
abbrev pub TellsWeight : Type 0
TellsWeight = (contents : ℕ → List ℕ) (fanout : ℕ) (root : Branch) (placed : PlacedRow) → IsStoredIndex contents fanout root placed → shape_weight fanout (plain placed) ≡ weight_by_lengths fanout (all_nodes placed)

pub record SpaceMade (geo : RawGeometry) (nodes : List Branch) (references : List RefNode) (leaves : List Leaf) (applied : ℕ) (space : Space) : Type 0 where
  pub uses : List LebUse
  pub are : AreUses (main_first geo) (main_lebs geo) nodes references leaves uses
  pub used : space.used ≡ sum_by bytes_of_leaf leaves
  pub held : space.held ≡ 0
  pub credits : space.credits ≡ 0
  pub empty : space.empty ≡ length (filter (counts_in (main_first geo) uses) (range_with_len (main_first geo) (length uses)))
  pub index : space.index ≡ length (filter (is_indexed_in (main_first geo) uses) (range_with_len (main_first geo) (length uses)))
  pub weight : space.weight ≡ weight_by_lengths geo.fanout nodes + applied
  pub main : space.main ≡ main_lebs geo

one_space : (used held credits empty index weight main u h c e i w m : ℕ) → used ≡ u → held ≡ h → credits ≡ c → empty ≡ e → index ≡ i → weight ≡ w → main ≡ m
    → ◌≡◌ {A = Space} (record { used = used; held = held; credits = credits; empty = empty; index = index; weight = weight; main = main }) (record { used = u; held = h; credits = c; empty = e; index = i; weight = w; main = m })
one_space used held credits empty index weight main u h c e i w m a1 a2 a3 a4 a5 a6 a7 = cc

pub space_made : TellsWeight → (geo : RawGeometry) (nodes : List Branch) (references : List RefNode) (leaves : List Leaf) (applied : ℕ) (space : Space) (image : Image) → IsToldOf geo nodes references leaves applied image → SpaceMade geo nodes references leaves applied space
    → space ≡ space_of_image image
space_made law geo nodes references leaves applied space image told made =
    let area = main_area_of image in
    let parts = parts_of image in
    let kept = (recovered_of parts).kept in
    let of : Counts area parts.named kept nodes references leaves = record {
      nodes_are = ap (map (λ (node : Branch). node.lnum)) (sym told.nodes_are);
      named_are = ap (map named_by_ref_node) (sym told.references_are);
      leaves_are = told.leaves_are;
    } in
    let lebs : area.lebs ≡ range_with_len (main_first geo) (main_lebs geo) = ap (λ (g : RawGeometry). range_with_len (main_first g) (main_lebs g)) told.geometry in
    let weight : shape_weight image.geo.fanout (plain image.placed) ≡ weight_by_lengths geo.fanout nodes =
    ap (λ (g : RawGeometry). shape_weight g.fanout (plain image.placed)) told.geometry ∙ law told.contents geo.fanout told.root image.placed told.index ∙ ap (weight_by_lengths geo.fanout) (sym told.nodes_are) in
    let applied_is = told.applied_is in
    let weight_made = made.weight in
    one_space space.used space.held space.credits space.empty space.index space.weight space.main (used_by kept) 0 0 _ _ (area.weight + (recovered_of parts).nodes) (length area.lebs)
    (made.used ∙ ap (sum_by bytes_of_leaf) told.leaves_are ∙ bytes_of kept)
    made.held
    made.credits
    (made.empty ∙ empty_count area parts.named kept (main_first geo) (main_lebs geo) nodes references leaves made.uses of lebs made.are)
    (made.index ∙ index_count area parts.named kept (main_first geo) (main_lebs geo) nodes references leaves made.uses of lebs made.are)
    (omega (arith, weight, applied_is, weight_made))
    (made.main ∙ sym (ap length lebs ∙ length-range_with_len (main_first geo) (main_lebs geo)))
