-- Nodes that stand in order, each behind the end of the one before it, are apart.
use Rattle.std.proofs.Common.{◌≡◌, ℕ, ◌+◌, ◌<◌, Bool, true, false, cond, not, List, [], ◌∷◌, map, refl, arith, inl, inr}
use Rattle.std.specs.Prelude.{◌==◌, nat_le}
use Rattle.std.specs.List.{AllByRecursion, IsDistinct, list_all}
use Rattle.std.proofs.lemmas.Bool.{and_from, eqb-true, le-leb, or_left, or_right}
use Rattle.std.proofs.lemmas.Bool.Decides.{nat_tests}
use Rattle.index_media.specs.PlacedRow.{are_disjoint, branch_to, is_apart, node_end, stretch_of}
use Rattle.index_tree.specs.Distinct.{AreDistinct}
use Rattle.index_tree.specs.Order.{leaf_rank}
use Rattle.index_tree.specs.Removal.{same_leaf}
use Rattle.leaf_map.specs.Kept.{Placed}
use Rattle.laid_image.specs.Laid.{leaf_of_placed}
use Rattle.laid_tree.specs.Standing.{BeginsFrom, StandInOrder}

-- one that begins behind another's end begins behind whatever that begins behind
later : (lnum offs : ℕ) (x y : Placed) → BeginsFrom lnum offs x → BeginsFrom x.lnum (node_end (x.offs + x.len)) y → BeginsFrom lnum offs y
later lnum offs x y (inl a) (inl b) = inl (omega (arith, a, b))
later lnum offs x y (inl a) (inr b) = let same = b.0 in inl (omega (arith, a, same))
later lnum offs x y (inr a) (inl b) = let same = a.0 in inl (omega (arith, same, b))
later lnum offs x y (inr a) (inr b) = let p = a.0 in let q = b.0 in let r = a.1 in let s = b.1 in inr (omega (arith, p, q), omega (arith, r, s))

all_later : (lnum offs : ℕ) (x : Placed) (nodes : List Placed) → BeginsFrom lnum offs x → AllByRecursion (BeginsFrom x.lnum (node_end (x.offs + x.len))) nodes → AllByRecursion (BeginsFrom lnum offs) nodes
all_later lnum offs x [] b h = tt
all_later lnum offs x (y ∷ nodes) b h = (later lnum offs x y b h.0, all_later lnum offs x nodes b h.1)

all_begin : (lnum offs : ℕ) (nodes : List Placed) → StandInOrder lnum offs nodes → AllByRecursion (BeginsFrom lnum offs) nodes
all_begin lnum offs [] h = tt
all_begin lnum offs (x ∷ nodes) h = (h.1, all_later lnum offs x nodes h.1 (all_begin x.lnum (node_end (x.offs + x.len)) nodes h.2))

-- ---- they don't overlap
other_leb : (a b : ℕ) → a < b → not (a == b) ≡ true
other_leb a b l = grind (arith, nat_tests)

apart : (x y : Placed) → BeginsFrom x.lnum (node_end (x.offs + x.len)) y → is_apart (stretch_of (branch_to (leaf_of_placed x))) (branch_to (leaf_of_placed y)) ≡ true
apart x y (inl l) = or_left (not (x.lnum == y.lnum)) _ (other_leb x.lnum y.lnum l)
apart x y (inr l) = or_right (not (x.lnum == y.lnum)) _ (or_left (nat_le (node_end (x.offs + x.len)) y.offs) (nat_le (node_end (y.offs + y.len)) x.offs) (le-leb (node_end (x.offs + x.len)) y.offs l.1))

all_apart : (x : Placed) (nodes : List Placed) → AllByRecursion (BeginsFrom x.lnum (node_end (x.offs + x.len))) nodes → list_all (λ other. is_apart (stretch_of (branch_to (leaf_of_placed x))) other) (map branch_to (map leaf_of_placed nodes)) ≡ true
all_apart x [] h = refl
all_apart x (y ∷ nodes) h =
    and_from (is_apart (stretch_of (branch_to (leaf_of_placed x))) (branch_to (leaf_of_placed y))) (list_all (λ other. is_apart (stretch_of (branch_to (leaf_of_placed x))) other) (map branch_to (map leaf_of_placed nodes))) (apart x y h.0) (all_apart x nodes h.1)

pub disjoint_nodes : (lnum offs : ℕ) (nodes : List Placed) → StandInOrder lnum offs nodes → are_disjoint (map branch_to (map leaf_of_placed nodes)) ≡ true
disjoint_nodes lnum offs [] h = refl
disjoint_nodes lnum offs (x ∷ nodes) h =
    and_from (list_all (λ other. is_apart (stretch_of (branch_to (leaf_of_placed x))) other) (map branch_to (map leaf_of_placed nodes))) (are_disjoint (map branch_to (map leaf_of_placed nodes)))
    (all_apart x nodes (all_begin x.lnum (node_end (x.offs + x.len)) nodes h.2)) (disjoint_nodes x.lnum (node_end (x.offs + x.len)) nodes h.2)

-- ---- and no two leaves are one
not_here : (x y : Placed) → 0 < x.len → BeginsFrom x.lnum (node_end (x.offs + x.len)) y → x.lnum ≡ y.lnum → x.offs ≡ y.offs → ⊥
not_here x y some (inl l) same here = omega (arith, l, same)
not_here x y some (inr l) same here = let past = l.1 in omega (arith, past, here, some)

other_leaf : (x y : Placed) → 0 < x.len → BeginsFrom x.lnum (node_end (x.offs + x.len)) y → same_leaf (leaf_of_placed x) (leaf_of_placed y) ≡ false
unfolding same_leaf
other_leaf x y some b = by (leaf_rank (leaf_of_placed x) == leaf_rank (leaf_of_placed y)) (x.lnum == y.lnum) refl (x.offs == y.offs) refl
  where
    by : (r l : Bool) → (x.lnum == y.lnum) ≡ l → (o : Bool) → (x.offs == y.offs) ≡ o → cond r (cond l (cond o (x.len == y.len) false) false) false ≡ false
    by false l f o g = refl
    by true false f o g = refl
    by true true f false g = refl
    by true true f true g = absurd (not_here x y some b (eqb-true x.lnum y.lnum f) (eqb-true x.offs y.offs g))

all_other : (x : Placed) (nodes : List Placed) → 0 < x.len → AllByRecursion (BeginsFrom x.lnum (node_end (x.offs + x.len))) nodes → AllByRecursion (λ y. same_leaf (leaf_of_placed x) y ≡ false) (map leaf_of_placed nodes)
all_other x [] some h = tt
all_other x (y ∷ nodes) some h = (other_leaf x y some h.0, all_other x nodes some h.1)

pub distinct_nodes : (lnum offs : ℕ) (nodes : List Placed) → StandInOrder lnum offs nodes → AreDistinct (map leaf_of_placed nodes)
unfolding IsDistinct
distinct_nodes lnum offs [] h = tt
distinct_nodes lnum offs (x ∷ nodes) h = (all_other x nodes h.0 (all_begin x.lnum (node_end (x.offs + x.len)) nodes h.2), distinct_nodes x.lnum (node_end (x.offs + x.len)) nodes h.2)
