-- What stands in main LEBs stands where these LEBs hold the same.
use Rattle.std.proofs.Common.{◌≡◌, ℕ, ◌+◌, ◌<◌, ◌≤◌, true, List, [], ◌∷◌, length, get_or, ap, sym, ◌∙◌, subst, take, drop, arith}
use Rattle.std.specs.Prelude.{All, map}
use Rattle.std.specs.List.{AllByRecursion}
use Rattle.std.proofs.lemmas.List.Elements.{All-nil, All-cons, All-head, All-tail}
use Rattle.ubifs_base.specs.Areas.{main_first}
use Rattle.ubifs_base.specs.declared.raw_geometry.RawGeometry.{RawGeometry}
use Rattle.leb_scan.specs.Text.{is_blank}
use Rattle.lpt_area.specs.Written.{in_units}
use Rattle.media_leaf.specs.LeafNode.{IsLeafNode}
use Rattle.media_sys.specs.declared.branch.Branch.{Branch}
use Rattle.index_media.specs.PlacedRow.{PlacedRow, all_nodes, branch_to, branches_of, ended, lebs_of, node_at}
use Rattle.index_media.specs.Stored.{IsStoredIndex}
use Rattle.leaf_map.specs.Kept.{Placed}
use Rattle.sound_image.specs.Leaves.{IsPlacedIn}
use Rattle.laid_image.specs.Laid.{leaf_of_placed}
use Rattle.laid_main.specs.Filling.{AreFilled}
use Rattle.made_image.specs.Around.{HoldsIndexed, StandsPlain}
use Rattle.made_image.specs.declared.filled_main.FilledMain.{FilledMain}

-- an index stands where its LEBs hold the same
abbrev pub StaysInItsLebs : Type 0
StaysInItsLebs = (old new : ℕ → List ℕ) (fanout : ℕ) (root : Branch) (placed : PlacedRow) → All (λ k. new k ≡ old k) (lebs_of placed)
    → IsStoredIndex old fanout root placed → IsStoredIndex new fanout root placed

children_of : (root : Branch) (a b : PlacedRow) → node_at root a ended ≡ node_at root b ended → a ≡ b
children_of root a b e = cc

abbrev pub Lies : ℕ → ℕ → Branch → Type 0
Lies low high branch = (low ≤ branch.lnum) × (branch.lnum < high)

module _ (geo : RawGeometry) (c d : ℕ → List ℕ) (same : (lnum : ℕ) → main_first geo ≤ lnum → d lnum ≡ c lnum) where
  filled_still : (first : ℕ) (used : List ℕ) → main_first geo ≤ first → AreFilled geo c first used → AreFilled geo d first used
  filled_still first used low filled = record {
    some = filled.some;
    ends = λ k lt.
        let P : List ℕ → Type 0 = λ leb. is_blank (drop (in_units geo.min_io (get_or used k 0)) leb) ≡ true in
        subst P (sym (same (first + k) (omega (arith, low)))) (filled.ends k lt);
  }

  lebs_still : (first high : ℕ) (branches : List Branch) → main_first geo ≤ first → All (Lies first high) branches → All (λ k. d k ≡ c k) (map (λ branch. branch.lnum) branches)
  lebs_still first high [] low within = All-nil (λ (k : ℕ). d k ≡ c k)
  lebs_still first high (x ∷ branches) low within =
      let here = (All-head (Lies first high) x branches within).0 in
      All-cons (λ (k : ℕ). d k ≡ c k) x.lnum (map (λ (branch : Branch). branch.lnum) branches) (same x.lnum (omega (arith, low, here)))
      (lebs_still first high branches low (All-tail (Lies first high) x branches within))

  placed_still : (x : Placed) → main_first geo ≤ x.lnum → IsPlacedIn c x → IsPlacedIn d x
  placed_still x low is =
      let P : List ℕ → Type 0 = λ leb. x.offs + x.len ≤ length leb in
      let Q : List ℕ → Type 0 = λ leb. IsLeafNode (take x.len (drop x.offs leb)) x.sqnum x.group x.node in
      record { room = subst P (sym (same x.lnum low)) is.room; is = subst Q (sym (same x.lnum low)) is.is }

  nodes_still : (high : ℕ) (nodes : List Placed) → All (Lies (main_first geo) high) (map branch_to (map leaf_of_placed nodes)) → AllByRecursion (StandsPlain c) nodes → AllByRecursion (StandsPlain d) nodes
  nodes_still high [] within stand = tt
  nodes_still high (x ∷ nodes) within stand =
      let P : Branch → Type 0 = Lies (main_first geo) high in
      let rest = map branch_to (map leaf_of_placed nodes) in (
        record { stands = placed_still x (All-head P (branch_to (leaf_of_placed x)) rest within).0 stand.0.stands; plain = stand.0.plain; shows = stand.0.shows },
        nodes_still high nodes (All-tail P (branch_to (leaf_of_placed x)) rest within) stand.1,
      )

  pub indexed_still : (main : FilledMain) (placed : PlacedRow) (nodes : List Placed) → StaysInItsLebs → HoldsIndexed geo c main placed nodes → HoldsIndexed geo d main placed nodes
  indexed_still main placed nodes stays h =
      let first = main_first geo + length main.leaves.items in
      let index = stays c d geo.fanout main.root placed (lebs_still first (first + length main.index.items) (all_nodes placed) (omega arith) h.nodes_taken.within) h.index in
      let e = children_of main.root h.index.children index.children (sym h.index.whole ∙ index.whole) in
      record {
        leaves = h.leaves;
        leaves_filled = filled_still (main_first geo) main.leaves.items (omega arith) h.leaves_filled;
        nodes_taken = h.nodes_taken;
        index_filled = filled_still first main.index.items (omega arith) h.index_filled;
        index = index;
        key = ap (λ (row : PlacedRow). map (λ (branch : Branch). branch.key) (take 1 (branches_of row))) (sym e) ∙ h.key;
        said = h.said;
        stand = nodes_still (main_first geo + length main.leaves.items) nodes h.leaves.within h.stand;
        distinct = h.distinct;
        disjoint = h.disjoint;
        tree = h.tree;
      }
