-- A whole shape stays one, and the kept numbers follow.
use Rattle.std.proofs.Common.{◌≡◌, ℕ, ◌<◌, ◌≤◌, true, nat_le, ap, ◌∙◌, arith}
use Rattle.std.proofs.lemmas.Bool.Decides.{nat_tests}
use Rattle.std.proofs.lemmas.Option.{slice_get_past}
use Rattle.index_tree.specs.declared.leaf.Leaf.{Leaf}
use Rattle.index_tree.specs.Shape.{Shape, done, parted, count, fits, inserted, is_whole}
use Rattle.index_tree.proofs.GrowthLaws.{Grown, inserted-grown, below-full, parted-count}
use Rattle.index_tree.proofs.InsertLaws.{WithLeaf, with_leaf-is, with_leaf-laws, with_leaf-contents, with_leaf-ordered, root_stays, whole-count, fits-filled}

pub inserted_few : (f : ℕ) (x : Leaf) (s : Shape) → 3 ≤ f → is_whole s ≡ true → fits f s ≡ true → count (inserted f x s) < f
inserted_few f x s three w h = omega (arith, (inserted-grown f x s three h).one_more, whole-count s w)

pub ruleset rooting = (nat_tests, below-full, inserted_few, root_stays, inserted-grown, with_leaf-is, with_leaf-laws, with_leaf-ordered)

pub ruleset inserting = (nat_tests, with_leaf-laws, with_leaf-contents, with_leaf-ordered, fits-filled, slice_get_past)

-- a node splits only where it was full
pub split_full : (f : ℕ) (c d r : Shape) → Grown f c d → r ≡ parted f d done → count r ≡ 2 → nat_le f (count c) ≡ true
split_full f c d r g is two =
    let many = ap count is ∙ parted-count f d done in
    grind (arith, nat_tests, many, g.one_more)
