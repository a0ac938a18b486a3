-- Why trees are refused, and when their leaves have LEBs.
use Rattle.std.proofs.Common.{◌≡◌, ◌⊎◌, ℕ, suc, ◌+◌, ◌-◌, ◌*◌, ◌^◌, ◌<◌, ◌≤◌, [], ◌∷◌, length, arith, ap, refl, subst, inl, inr, ◌∙◌}
use Rattle.std.specs.Prelude.{Result, Ok, Err, IfErr, IsTrue, sum_by}
use Rattle.std.specs.Map.{values_of}
use Rattle.std.proofs.lemmas.Bool.{cases_lt, false≢true}
use Rattle.std.proofs.lemmas.List.Sums.{sum_by-cons}
use Rattle.std.proofs.Math.Nat.{mul-le-mul_right, suc-mul}
use Rattle.ubifs_base.specs.Areas.{main_lebs}
use Rattle.ubifs_base.specs.Geometry.{IsGeometry, leb_reserve}
use Rattle.ubifs_base.specs.declared.raw_geometry.RawGeometry.{RawGeometry}
use Rattle.fs_model.specs.declared.inode.Kind.TheVariants.{Dir}
use Rattle.fs_model.specs.Cover.{inode_bytes, tree_bytes}
use Rattle.fs_model.specs.Files.{Inodes, Tree}
use Rattle.fs_model.specs.Proper.{IsProper, has_kind}
use Rattle.image_maker.specs.Leaves.{live_leaves}
use Rattle.image_maker.specs.Packed.{packed_leaves}
use Rattle.whole_image.specs.Made.{IsCrowded, IsNotPlain, IsOutOfLebs, IsImageRefused, most_leaf_bytes, packed_lebs}
use Rattle.whole_image.specs.declared.make_fault.MakeFault.{MakeFault}
use Rattle.whole_image.specs.declared.make_fault.MakeFault.TheVariants.{Memory, Unreserved, Nameless, Attribute, Full, Crowded}
use Rattle.whole_image.proofs.Covered.{factor_le, part_small}

pub not_plain : (geo : RawGeometry) (tree : Tree) (fault : MakeFault) → IsNotPlain tree fault → IsImageRefused geo tree fault
not_plain geo tree Memory why = tt
not_plain geo tree (Unreserved highest) why = why
not_plain geo tree (Nameless count) why = why
not_plain geo tree Attribute why = why
not_plain geo tree (Full need room) why = absurd why
not_plain geo tree (Crowded need room) why = absurd why

out_of_lebs : (geo : RawGeometry) (tree : Tree) (fault : MakeFault) → IsOutOfLebs geo tree fault → IsImageRefused geo tree fault
out_of_lebs geo tree Memory why = tt
out_of_lebs geo tree (Unreserved highest) why = absurd why
out_of_lebs geo tree (Nameless count) why = absurd why
out_of_lebs geo tree Attribute why = absurd why
out_of_lebs geo tree (Full need room) why = absurd why
out_of_lebs geo tree (Crowded need room) why = why

pub all_out_of_lebs : {T : Type 0} (geo : RawGeometry) (tree : Tree) (r : Result T MakeFault) → IfErr r (IsOutOfLebs geo tree) → IfErr r (IsImageRefused geo tree)
all_out_of_lebs geo tree (Ok x) why = tt
all_out_of_lebs geo tree (Err fault) why = out_of_lebs geo tree fault why

-- leaves that are for so many bytes are few, and leave main LEBs
pub few_bytes : (geo : RawGeometry) (tree : Tree) → IsGeometry geo → tree_bytes tree ≤ most_leaf_bytes geo → tree_bytes tree ≤ 2 ^ 30
few_bytes geo tree g fits =
    let small = part_small geo 0 g in
    let part = mul-le-mul_right (geo.leb_size - leb_reserve geo) (same_lebs (main_lebs geo)) in
    omega (arith, fits, part, small)
  where
    same_lebs : (main : ℕ) → main - 6 ≤ main - 0 - 6
    same_lebs main = omega arith

-- a proper tree has the root's inode, and so some bytes
some_bytes : (tree : Tree) → IsProper tree → 1 ≤ tree_bytes tree
some_bytes tree proper = by tree.inodes refl
  where
    by : (inodes : Inodes) → tree.inodes ≡ inodes → 1 ≤ tree_bytes tree
    by [] e =
        let P : Inodes → Type 0 = λ inodes. IsTrue (has_kind (record tree { inodes = inodes }) 1 Dir) in
        absurd (false≢true (subst P e proper.root))
    by (first ∷ rest) e =
        let all : sum_by inode_bytes (values_of tree.inodes) ≡ inode_bytes first.1 + sum_by inode_bytes (values_of rest) =
        ap (λ inodes. sum_by inode_bytes (values_of inodes)) e ∙ sum_by-cons inode_bytes first.1 (values_of rest) in
        let one : 1 ≤ inode_bytes first.1 = omega arith in
        omega (arith, all, one)

pub lebs_left : (geo : RawGeometry) (tree : Tree) → IsGeometry geo → IsProper tree → tree_bytes tree ≤ most_leaf_bytes geo
    → length (packed_leaves geo.leb_size 0 (live_leaves tree)) * (geo.leb_size - leb_reserve geo) ≤ tree_bytes tree + (geo.leb_size - leb_reserve geo)
    → length (packed_leaves geo.leb_size 0 (live_leaves tree)) < main_lebs geo
lebs_left geo tree g proper fits taken =
    let beside = geo.leb_size - leb_reserve geo in
    let reserve = g.leb_size.3 in
    let next = suc-mul (main_lebs geo - 6) beside in
    let many = factor_le (length (packed_leaves geo.leb_size 0 (live_leaves tree))) (suc (main_lebs geo - 6)) beside (omega (arith, reserve)) (omega (arith, taken, fits, next)) in
    let six = beyond_six beside (main_lebs geo) (tree_bytes tree) (some_bytes tree proper) fits in
    omega (arith, many, six)
  where
    beyond_six : (beside main bytes : ℕ) → 1 ≤ bytes → bytes ≤ (main - 6) * beside → 6 < main
    beyond_six beside main bytes one fits = by (cases_lt 6 main)
      where
        by : (6 < main) ⊎ (main ≤ 6) → 6 < main
        by (inl more) = more
        by (inr few) =
            let none : main - 6 ≡ 0 = omega (arith, few) in
            let zero_times : (main - 6) * beside ≡ 0 * beside = ap (λ n. n * beside) none in
            absurd (omega (arith, one, fits, zero_times))

-- an index isn't left without room where there are as many LEBs as are taken
pub packed_has_lebs : (geo : RawGeometry) (tree : Tree) (need room : ℕ) → packed_lebs geo tree ≡ main_lebs geo → IsCrowded geo tree need room → ⊥
packed_has_lebs geo tree need room lebs crowded =
    let need_is = crowded.need_is in
    let room_is = crowded.room_is in
    let more = crowded.more in
    omega (arith, lebs, need_is, room_is, more)
