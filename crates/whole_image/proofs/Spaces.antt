-- What a mount counts of leaves and an index that were laid one behind another.
use Rattle.std.proofs.Common.{◌≡◌, ℕ, ◌+◌, ◌-◌, ◌<◌, ◌≤◌, Bool, true, false, List, [], ◌∷◌, inl, inr, length, refl, ap, ◌∙◌, arith}
use Rattle.std.specs.Prelude.{◌==◌, ◌&&◌, ◌||◌, count_by, filter, map, not}
use Rattle.std.specs.List.{list_any, range_with_len}
use Rattle.std.proofs.lemmas.List.Sums.{length-filter}
use Rattle.ubifs_base.specs.Areas.{main_first, main_lebs}
use Rattle.ubifs_base.specs.declared.raw_geometry.RawGeometry.{RawGeometry}
use Rattle.media_sys.specs.declared.branch.Branch.{Branch}
use Rattle.index_tree.specs.Shape.{shape_weight}
use Rattle.index_media.specs.PlacedRow.{PlacedRow, all_nodes, branch_to, lebs_of, plain}
use Rattle.leaf_map.specs.Kept.{Kept, Placed, kept_at}
use Rattle.leaf_map.specs.Parts.{Named}
use Rattle.leaf_map.specs.SpaceFound.{MainAreaFound, counts_as_empty, is_indexed}
use Rattle.laid_image.specs.Laid.{leaf_of_placed}
use Rattle.made_image.specs.Around.{AreMainFilled, HoldsIndexed}
use Rattle.made_image.specs.declared.filled_main.FilledMain.{FilledMain}
use Rattle.whole_image.proofs.Counts.{second_passes, stand_not, stand_there, stands, third_passes}

-- a leaf stands where its branch leads
kept_stand : (lnum : ℕ) (nodes : List Placed) → list_any (λ (x : Kept). x.leaf.lnum == lnum) (map kept_at nodes) ≡ stands (map branch_to (map leaf_of_placed nodes)) lnum
kept_stand lnum [] = refl
kept_stand lnum (x ∷ nodes) = ap (λ (t : Bool). (x.lnum == lnum) || t) (kept_stand lnum nodes)

module _ (geo : RawGeometry) (main : FilledMain) (contents : ℕ → List ℕ) (placed : PlacedRow) (nodes : List Placed) (indexed : HoldsIndexed geo contents main placed nodes) (taken : AreMainFilled geo main) where
  -- the main area of such an image
  abbrev area : MainAreaFound
  area = record { lebs = range_with_len (main_first geo) (main_lebs geo); indexed = lebs_of placed; weight = shape_weight geo.fanout (plain placed) }

  abbrev leaf_branches : List Branch
  leaf_branches = map branch_to (map leaf_of_placed nodes)

  -- the LEBs behind both
  abbrev behind : ℕ
  behind = main_lebs geo - length main.leaves.items - length main.index.items

  all_lebs : main_lebs geo ≡ length main.leaves.items + (length main.index.items + behind)
  all_lebs = let room = taken.room in omega (arith, room)

  leaves_there : (lnum : ℕ) → main_first geo ≤ lnum → lnum < main_first geo + length main.leaves.items → stands leaf_branches lnum ≡ true
  leaves_there lnum low high = stand_there geo (main_first geo) main.leaves.items leaf_branches indexed.leaves taken.leaves lnum low high

  leaves_not : (lnum : ℕ) → main_first geo + length main.leaves.items ≤ lnum → stands leaf_branches lnum ≡ false
  leaves_not lnum low = stand_not (main_first geo) main.leaves.items leaf_branches indexed.leaves lnum (inr low)

  index_there : (lnum : ℕ) → main_first geo + length main.leaves.items ≤ lnum → lnum < main_first geo + length main.leaves.items + length main.index.items → stands (all_nodes placed) lnum ≡ true
  index_there lnum low high = stand_there geo (main_first geo + length main.leaves.items) main.index.items (all_nodes placed) indexed.nodes_taken taken.index lnum low high

  index_before : (lnum : ℕ) → lnum < main_first geo + length main.leaves.items → stands (all_nodes placed) lnum ≡ false
  index_before lnum high = stand_not (main_first geo + length main.leaves.items) main.index.items (all_nodes placed) indexed.nodes_taken lnum (inl high)

  index_not : (lnum : ℕ) → main_first geo + length main.leaves.items + length main.index.items ≤ lnum → stands (all_nodes placed) lnum ≡ false
  index_not lnum low = stand_not (main_first geo + length main.leaves.items) main.index.items (all_nodes placed) indexed.nodes_taken lnum (inr low)

  -- The index's LEBs are those in which it was laid,
  pub index_counted : count_by (is_indexed area) area.lebs ≡ length main.index.items
  index_counted = second_passes (is_indexed area) (main_first geo) (length main.leaves.items) (length main.index.items) behind (main_lebs geo) all_lebs index_before index_there index_not

  -- what a LEB counts as, by what stands there
  counts_as : (lnum : ℕ) (i l : Bool) → stands (all_nodes placed) lnum ≡ i → stands leaf_branches lnum ≡ l → counts_as_empty area [] (map kept_at nodes) lnum ≡ ((not i && not l) && true)
  counts_as lnum i l a b =
      ap (λ (t : Bool). (not t && not (list_any (λ (x : Kept). x.leaf.lnum == lnum) (map kept_at nodes))) && true) a
      ∙ ap (λ (t : Bool). (not i && not t) && true) (kept_stand lnum nodes ∙ b)

  -- and those behind are empty.
  pub empty_counted : (named : List Named) (kept : List Kept) → named ≡ [] → kept ≡ map kept_at nodes → length (filter (counts_as_empty area named kept) area.lebs) ≡ behind
  empty_counted named kept none same =
      ap (λ (n : List Named). length (filter (counts_as_empty area n kept) area.lebs)) none
      ∙ ap (λ (k : List Kept). length (filter (counts_as_empty area [] k) area.lebs)) same
      ∙ length-filter (counts_as_empty area [] (map kept_at nodes)) area.lebs
      ∙ third_passes (counts_as_empty area [] (map kept_at nodes)) (main_first geo) (length main.leaves.items) (length main.index.items) behind (main_lebs geo) all_lebs
      (λ k low high. counts_as k false true (index_before k high) (leaves_there k low high)) (λ k low high. counts_as k true false (index_there k low high) (leaves_not k low))
      (λ k low. counts_as k false false (index_not k low) (leaves_not k (omega (arith, low))))
