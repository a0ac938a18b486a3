-- Leaves of which something is wrong don't meet their rule.
use Rattle.std.proofs.Common.{◌≡◌, ℕ, ◌+◌, Bool, true, false, List, [], ◌∷◌, ◌++◌, refl, ap, sym, ◌∙◌, subst, inl, inr}
use Rattle.std.specs.Prelude.{◌==◌, ◌||◌, nat_le, not, All, IsTrue, map}
use Rattle.std.specs.List.{list_all}
use Rattle.std.proofs.lemmas.Bool.{and_from, cases_eq, eq-eqb, ne_eqb}
use Rattle.ubifs_base.specs.Areas.{orph_first}
use Rattle.ubifs_base.specs.NodeLaws.{IsBytes}
use Rattle.ubifs_base.specs.declared.raw_geometry.RawGeometry.{RawGeometry}
use Rattle.media_lpt.specs.declared.lprop.Lprop.{Lprop}
use Rattle.media_sys.specs.declared.branch.Branch.{Branch}
use Rattle.small_areas.specs.MasterLaws.{OneNode, OneText}
use Rattle.index_tree.specs.Shape.{contents as leaves_in}
use Rattle.index_tree.specs.declared.leaf.Leaf.{Leaf}
use Rattle.index_media.specs.PlacedRow.{are_disjoint, branch_to, is_apart, node_end, plain, stretch_of}
use Rattle.leaf_map.specs.Lost.{missing_leaves}
use Rattle.leaf_map.specs.Parts.{Committed, Parts}
use Rattle.sound_image.specs.Breaches.{IsBrokenLeaf}
use Rattle.sound_image.specs.Image.{Image, parts_of}
use Rattle.sound_image.specs.LeafBreaches.{IsWrongLeaf}
use Rattle.sound_image.specs.Leaves.{HasLeaves, IsSoundLeaf, leaves_recovered}
use Rattle.sound_image.specs.Wrong.{Wrong}
use Rattle.sound_image.proofs.Lists.{all_at, none_of, test_at, two_true}
use Rattle.sound_image.proofs.OneReads.{OneLeaf, one_committed, one_list_of_orphans}

or_swapped : (a b : Bool) → (a || b) ≡ (b || a)
or_swapped true true = refl
or_swapped true false = refl
or_swapped false true = refl
or_swapped false false = refl

eqb_swapped : (a b : ℕ) → (a == b) ≡ (b == a)
eqb_swapped a b = elim (cases_eq a b) [
  | inl same ↦ eq-eqb a b same ∙ sym (eq-eqb b a (sym same))
  | inr other ↦ ne_eqb a b other ∙ sym (ne_eqb b a (λ e. other (sym e)))
]

-- one leaf is apart from another as that is from the first
apart_swapped : (a b : Branch) → is_apart (stretch_of a) b ≡ is_apart (stretch_of b) a
apart_swapped a b =
    ap (λ (x : Bool). not x || (nat_le (node_end (a.offs + a.len)) b.offs || nat_le (node_end (b.offs + b.len)) a.offs)) (eqb_swapped a.lnum b.lnum)
    ∙ ap (λ (x : Bool). not (b.lnum == a.lnum) || x) (or_swapped (nat_le (node_end (a.offs + a.len)) b.offs) (nat_le (node_end (b.offs + b.len)) a.offs))

abbrev apart_from : Leaf → Leaf → Bool
apart_from leaf other = is_apart (stretch_of (branch_to leaf)) (branch_to other)

apart_of_map : (leaf : Leaf) (leaves : List Leaf) → list_all (λ (other : Branch). is_apart (stretch_of (branch_to leaf)) other) (map branch_to leaves) ≡ true → list_all (apart_from leaf) leaves ≡ true
apart_of_map leaf [] h = refl
apart_of_map leaf (x ∷ leaves) h =
    let both = two_true (apart_from leaf x) (list_all (λ (other : Branch). is_apart (stretch_of (branch_to leaf)) other) (map branch_to leaves)) h in
    and_from (apart_from leaf x) (list_all (apart_from leaf) leaves) both.0 (apart_of_map leaf leaves both.1)

-- of disjoint leaves one is apart from all others
apart_at : (before behind : List Leaf) (leaf : Leaf) → are_disjoint (map branch_to (before ++ (leaf ∷ behind))) ≡ true → list_all (apart_from leaf) (before ++ behind) ≡ true
apart_at [] behind leaf h = apart_of_map leaf behind (two_true (list_all (λ (other : Branch). is_apart (stretch_of (branch_to leaf)) other) (map branch_to behind)) (are_disjoint (map branch_to behind)) h).0
apart_at (x ∷ before) behind leaf h =
    let both = two_true (list_all (λ (other : Branch). is_apart (stretch_of (branch_to x)) other) (map branch_to (before ++ (leaf ∷ behind)))) (are_disjoint (map branch_to (before ++ (leaf ∷ behind)))) h in
    let own = test_at (apart_from x) leaf (before ++ (leaf ∷ behind)) (before, behind, refl) (apart_of_map x (before ++ (leaf ∷ behind)) both.0) in
    and_from (apart_from leaf x) (list_all (apart_from leaf) (before ++ behind)) (apart_swapped (branch_to leaf) (branch_to x) ∙ own) (apart_at before behind leaf both.1)

leaf_broken : (contents : ℕ → List ℕ) (geo : RawGeometry) (props : List Lprop) (parts : Parts) (at : Wrong) → All (λ (leaf : Leaf). IsSoundLeaf contents geo props leaf) (leaves_recovered parts) → missing_leaves parts ≡ []
    → IsTrue (are_disjoint (map branch_to (leaves_recovered parts))) → IsWrongLeaf contents geo props parts at → ⊥
leaf_broken contents geo props parts at sound none apart wrong = elim wrong.wrong [
  | inl missing ↦ none_of wrong.leaf (missing_leaves parts) missing none
  | inr (before, behind, e, inl bad) ↦ bad (all_at (λ (leaf : Leaf). IsSoundLeaf contents geo props leaf) wrong.leaf (leaves_recovered parts) (before, behind, e) sound)
  | inr (before, behind, e, inr over) ↦
      let P : List Leaf → Type 0 = λ xs. are_disjoint (map branch_to xs) ≡ true in
      let f : true ≡ false = sym (apart_at before behind wrong.leaf (subst P e apart)) ∙ over in
      absurd cc
]

image_same : (image : Image) (a b : List Committed) (x y : List ℕ) → a ≡ b → x ≡ y → parts_of (record image { committed = a; listed = x }) ≡ parts_of (record image { committed = b; listed = y })
image_same image a b x y e f = rw (e, f) refl

pub leaves_broken : OneNode → OneText → OneLeaf → (contents : ℕ → List ℕ) (image : Image) (at : Wrong) → ((k : ℕ) → IsBytes (contents k)) → IsBrokenLeaf contents image at → HasLeaves contents image → ⊥
leaves_broken one text leaf contents image at fits broken h =
    let committed = one_committed leaf contents (leaves_in (plain image.placed)) broken.committed image.committed fits broken.are_committed h.committed in
    let listed = one_list_of_orphans one text contents (orph_first image.geo) image.geo.orph_lebs broken.listed image.listed fits broken.are_listed h.listed in
    let P : Parts → Type 0 = λ parts. IsWrongLeaf contents image.geo image.props parts at in
    leaf_broken contents image.geo image.props (parts_of image) at h.sound h.replaced h.apart (subst P (image_same image broken.committed image.committed broken.listed image.listed committed listed) broken.first.wrong)
