-- The LEBs of an index grow with its weight.
use Rattle.std.proofs.Common.{ℕ, zero, suc, ◌+◌, ◌-◌, ◌*◌, ◌/◌, ◌≤◌, max, arith}
use Rattle.std.proofs.Math.Nat.{div-zero, div-mul-le_self}
use Rattle.std.proofs.lemmas.Nat.{le-div}
use Rattle.ubifs_base.specs.declared.raw_geometry.RawGeometry.{RawGeometry}
use Rattle.ubifs_base.specs.Geometry.{index_nodes_per_leb}
use Rattle.fs_model.specs.Cover.{index_lebs, index_room}

pub div_grows : (q m n : ℕ) → m ≤ n → m / q ≤ n / q
div_grows zero m n h = rw (div-zero m, div-zero n) (omega arith)
div_grows (suc q) m n h =
    let below : m / suc q * suc q ≤ n = omega (arith, div-mul-le_self m (suc q)) in
    le-div (m / suc q) n (suc q) (omega arith) below

pub index_lebs-grows : (geo : RawGeometry) (m n : ℕ) → m ≤ n → index_lebs geo m ≤ index_lebs geo n
index_lebs-grows geo m n h =
    let q : ℕ = index_nodes_per_leb geo in
    div_grows q (m + q - 1) (n + q - 1) (omega arith)

pub index_room-grows : (geo : RawGeometry) (i j m n : ℕ) → i ≤ j → m ≤ n → index_room geo i m ≤ index_room geo j n
index_room-grows geo i j m n h k = larger (index_lebs geo m) (index_lebs geo n) (index_lebs-grows geo m n k)
  where
    larger : (a b : ℕ) → a ≤ b → max (3 * a) (i + a) ≤ max (3 * b) (j + b)
    larger a b e = omega arith

-- an index that is written anew, in at most twice the LEBs that the old weight asks for
pub index_room-anew : (geo : RawGeometry) (old_index old_weight new_index m n : ℕ) →
    new_index ≤ 2 * index_lebs geo old_weight → old_weight ≤ n → m ≤ n →
    index_room geo new_index m ≤ index_room geo old_index n
index_room-anew geo old_index old_weight new_index m n i w h =
    larger (index_lebs geo old_weight) (index_lebs geo m) (index_lebs geo n) i
    (index_lebs-grows geo m n h)
    (index_lebs-grows geo old_weight n w)
  where
    larger : (c a b : ℕ) → new_index ≤ 2 * c → a ≤ b → c ≤ b → max (3 * a) (new_index + a) ≤ max (3 * b) (old_index + b)
    larger c a b e f g = omega arith
