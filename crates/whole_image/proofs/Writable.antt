-- The image of an admitted tree leaves a volume that may be written.
use Rattle.std.proofs.Common.{◌≡◌, ℕ, suc, ◌+◌, ◌-◌, ◌*◌, ◌^◌, ◌<◌, ◌≤◌, Bool, true, false, cond, Option, None, List, [], ◌∷◌, length, refl, ap, ◌∙◌, arith, inl, inr}
use Rattle.std.specs.Prelude.{max, filter, map, if◌then◌else◌, Some}
use Rattle.std.specs.List.{sum_by}
use Rattle.std.specs.Map.{values_of}
use Rattle.std.specs.Option.{option_or}
use Rattle.std.proofs.lemmas.Bool.{cases_lt, le-leb}
use Rattle.std.proofs.lemmas.List.Sums.{sum_by-cons}
use Rattle.std.proofs.Math.Nat.{mul-le-mul_right, suc-mul}
use Rattle.ubifs_base.specs.Areas.{main_lebs}
use Rattle.ubifs_base.specs.declared.raw_geometry.RawGeometry.{RawGeometry}
use Rattle.ubifs_base.specs.Geometry.{IsGeometry, index_nodes_per_leb, leb_reserve}
use Rattle.fs_model.specs.declared.refusal.Cause.{Cause}
use Rattle.fs_model.specs.declared.refusal.Cause.TheVariants.{Tight}
use Rattle.fs_model.specs.declared.refusal.Scarce.{Scarce}
use Rattle.fs_model.specs.declared.refusal.Scarce.TheVariants as scarce
use Rattle.fs_model.specs.declared.space.Space.{Space}
use Rattle.fs_model.specs.Cover.{block_bytes, index_lebs, inode_bytes, tree_bytes}
use Rattle.fs_model.specs.Files.{Blocks, Inodes, Tree}
use Rattle.fs_model.specs.Settled.{cause_of, leaf_room, settled}
use Rattle.image_maker.specs.Leaves.{live_leaves}
use Rattle.image_maker.specs.Packed.{packed_leaves}
use Rattle.laid_index.specs.Packing.{index_used}
use Rattle.tree_nodes.specs.Stored.{as_stored, is_owned, stored_tree}
use Rattle.tree_space.specs.Laid.{laid_weight}
use Rattle.whole_image.specs.Made.{IsMadeSpace}
use Rattle.whole_image.proofs.Covered.{factor_le, index_few, less_kept, node_fits, part_small, some_bytes}

-- what has room gives no cause
no_cause : (what : Scarce) (need room : ℕ) → need ≤ room → cause_of what need room ≡ None
no_cause what need room le = ap (λ (b : Bool). if b then None else Some (Tight what need room)) (le-leb need room le)

no_causes : (a b c : Option Cause) → a ≡ None → b ≡ None → c ≡ None → option_or a (option_or b c) ≡ None
no_causes a b c x y z = ap (λ (o : Option Cause). option_or o (option_or b c)) x ∙ ap (λ (o : Option Cause). option_or o c) y ∙ z

none_of_three : (geo : RawGeometry) (space : Space) → space.used + space.held ≤ leaf_room geo space → 1 + index_lebs geo space.weight ≤ space.empty → 1 + 3 * index_lebs geo space.weight ≤ space.empty + space.index
    → settled geo space ≡ None
none_of_three geo space fits empty index =
    no_causes (cause_of scarce.Space (space.used + space.held) (leaf_room geo space)) (cause_of scarce.Empty (1 + index_lebs geo space.weight) space.empty)
    (cause_of scarce.Index (1 + 3 * index_lebs geo space.weight) (space.empty + space.index))
    (no_cause scarce.Space (space.used + space.held) (leaf_room geo space) fits) (no_cause scarce.Empty (1 + index_lebs geo space.weight) space.empty empty)
    (no_cause scarce.Index (1 + 3 * index_lebs geo space.weight) (space.empty + space.index) index)

-- The index takes one LEB more than twice those of its weight at most, and admission keeps four LEBs more than a mount.
more_room : (main kept all own index : ℕ) → all ≡ main → own ≡ kept → index ≤ 2 * kept + 1 → main - 3 * kept - 10 ≤ all - max (3 * own) (index + own) - 6
more_room main kept all own index a b c = omega (arith, a, b, c)

-- the leaves leave LEBs
lebs_beside : (main kept own index empty leaves : ℕ) → 1 ≤ main - 3 * kept - 10 → leaves ≤ suc (main - 3 * kept - 10) → index ≤ 2 * kept + 1 → empty + leaves + index ≡ main → own ≡ kept
    → (1 + own ≤ empty) × (1 + 3 * own ≤ empty + index)
lebs_beside main kept own index empty leaves one many few all same = (omega (arith, one, many, few, all, same), omega (arith, one, many, few, all, same))

pub may_be_written : (geo : RawGeometry) (tree : Tree) (space : Space) → IsGeometry geo → 0 < length (live_leaves tree) → length (live_leaves tree) ≤ geo.fanout * laid_weight geo tree
    → tree_bytes tree ≤ (main_lebs geo - 3 * index_lebs geo (laid_weight geo tree) - 10) * (geo.leb_size - leb_reserve geo)
    → ((leaves weight : ℕ) → 0 < leaves → leaves ≤ geo.fanout * weight → length (index_used geo leaves) * index_nodes_per_leb geo ≤ 2 * weight + index_nodes_per_leb geo)
    → (tree_bytes tree ≤ 2 ^ 30 → length (packed_leaves geo.leb_size 0 (live_leaves tree)) * (geo.leb_size - leb_reserve geo) ≤ tree_bytes tree + (geo.leb_size - leb_reserve geo))
    → IsMadeSpace geo tree space → space.used + space.held ≤ tree_bytes tree → space.main ≡ main_lebs geo
    → settled geo space ≡ None
may_be_written geo tree space g some weighed fits index lebs made used main =
    let beside = geo.leb_size - leb_reserve geo in
    let kept = index_lebs geo (laid_weight geo tree) in
    let left = main_lebs geo - 3 * kept - 10 in
    let leaves = length (packed_leaves geo.leb_size 0 (live_leaves tree)) in
    let own : index_lebs geo space.weight ≡ kept = ap (index_lebs geo) made.weight in
    let six = less_kept (main_lebs geo) (3 * kept) beside (tree_bytes tree) fits in
    let small = part_small geo (3 * kept) g in
    let taken = lebs (omega (arith, six, small)) in
    let bytes = some_bytes tree some in
    let reserve = g.leb_size.3 in
    let one : 1 ≤ left = elim (cases_lt 0 left) [
      | inl more ↦ omega (arith, more)
      | inr none ↦
          let zero : left ≡ 0 = omega (arith, none) in
          let e = ap (λ (n : ℕ). n * beside) zero in
          absurd (omega (arith, fits, e, bytes))
    ] in
    let next = suc-mul left beside in
    let many : leaves ≤ suc left = factor_le leaves (suc left) beside (omega (arith, reserve)) (omega (arith, taken, fits, next)) in
    let few = index_few geo (length (index_used geo (length (live_leaves tree)))) (laid_weight geo tree) (node_fits geo g) (index (length (live_leaves tree)) (laid_weight geo tree) some weighed) in
    let is = made.index in
    let few_too : space.index ≤ 2 * kept + 1 = omega (arith, few, is) in
    let room = mul-le-mul_right beside (more_room (main_lebs geo) kept space.main (index_lebs geo space.weight) space.index main own few_too) in
    let both = lebs_beside (main_lebs geo) kept (index_lebs geo space.weight) space.index space.empty leaves one many few_too made.empty own in
    none_of_three geo space (omega (arith, used, fits, room)) both.0 both.1

-- ---- as an image says it, a tree takes no more bytes
same_inodes : (tree : Tree) (inodes : Inodes) → sum_by inode_bytes (values_of (map (as_stored tree) inodes)) ≡ sum_by inode_bytes (values_of inodes)
same_inodes tree [] = refl
same_inodes tree (e ∷ inodes) =
    sum_by-cons inode_bytes (as_stored tree e).1 (values_of (map (as_stored tree) inodes))
    ∙ ap (λ (n : ℕ). inode_bytes e.1 + n) (same_inodes tree inodes)
    ∙ back
  where
    back : inode_bytes e.1 + sum_by inode_bytes (values_of inodes) ≡ sum_by inode_bytes (values_of (e ∷ inodes))
    back = let whole = sum_by-cons inode_bytes e.1 (values_of inodes) in omega (arith, whole)

fewer_blocks : (p : (ℕ × ℕ) × List ℕ → Bool) (blocks : Blocks) → sum_by block_bytes (values_of (filter p blocks)) ≤ sum_by block_bytes (values_of blocks)
fewer_blocks p [] = omega arith
fewer_blocks p (b ∷ blocks) = by (p b) (fewer_blocks p blocks)
  where
    by : (t : Bool) → sum_by block_bytes (values_of (filter p blocks)) ≤ sum_by block_bytes (values_of blocks)
        → sum_by block_bytes (values_of (cond t (b ∷ filter p blocks) (filter p blocks))) ≤ sum_by block_bytes (values_of (b ∷ blocks))
    by true more =
        let kept = sum_by-cons block_bytes b.1 (values_of (filter p blocks)) in
        let whole = sum_by-cons block_bytes b.1 (values_of blocks) in
        omega (arith, more, kept, whole)
    by false more = let whole = sum_by-cons block_bytes b.1 (values_of blocks) in omega (arith, more, whole)

pub stored_bytes : (tree : Tree) → tree_bytes (stored_tree tree) ≤ tree_bytes tree
stored_bytes tree =
    let inodes = same_inodes tree tree.inodes in
    let blocks = fewer_blocks (is_owned tree) tree.blocks in
    omega (arith, inodes, blocks)
