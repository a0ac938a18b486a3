-- A row that stands is the one that is read.
use Rattle.std.proofs.Common.{◌≡◌, ℕ, zero, suc, ◌-◌, ◌<◌, List, [], ◌∷◌, refl, ap, ◌∙◌, subst, arith}
use Rattle.media_sys.specs.Index.{Index}
use Rattle.media_sys.specs.declared.branch.Branch.{Branch}
use Rattle.index_media.specs.PlacedRow.{PlacedRow, ended, leaf_at, node_at, branches_of}
use Rattle.index_media.specs.Stored.{AreStored}
use Rattle.rows_below.specs.NodeSaid.{node_said_at, node_said_told}
use Rattle.rows_below.specs.RowBelow.{leaves_by, nodes_by, row_by}

pub row_read_back : (contents : ℕ → List ℕ) (levels : ℕ) (row : PlacedRow) → AreStored contents levels row → row_by contents levels (branches_of row) ≡ row
unfolding AreStored row_by
row_read_back contents zero ended h = refl
row_read_back contents (suc levels) ended h = refl
row_read_back contents zero (leaf_at x rest) h = ap (leaf_at x) (row_read_back contents zero rest h.1)
row_read_back contents (suc levels) (leaf_at x rest) h = absurd (omega (arith, h.0))
row_read_back contents zero (node_at branch children rest) h = absurd (omega (arith, h.0))
row_read_back contents (suc levels) (node_at branch children rest) h =
    let same : suc levels - 1 ≡ levels = omega arith in
    let S : ℕ → Type 0 = λ n. AreStored contents n children in
    let said = node_said_told contents branch (record { level = suc levels - 1; branches = branches_of children }) h.1 in
    let below = ap (λ (node : Index). row_by contents levels node.branches) said ∙ row_read_back contents levels children (subst S same h.2) in
    ap (λ (c : PlacedRow). node_at branch c (row_by contents (suc levels) (branches_of rest))) below ∙ ap (node_at branch children) (row_read_back contents (suc levels) rest h.3)

branches_of_leaves : (branches : List Branch) → branches_of (leaves_by branches) ≡ branches
branches_of_leaves [] = refl
branches_of_leaves (branch ∷ branches) = ap (λ (l : List Branch). branch ∷ l) (branches_of_leaves branches)

branches_of_nodes : (below : Branch → PlacedRow) (branches : List Branch) → branches_of (nodes_by below branches) ≡ branches
branches_of_nodes below [] = refl
branches_of_nodes below (branch ∷ branches) = ap (λ (l : List Branch). branch ∷ l) (branches_of_nodes below branches)

-- the branches of a row that is read are those that it was read from
pub branches_read : (contents : ℕ → List ℕ) (levels : ℕ) (branches : List Branch) → branches_of (row_by contents levels branches) ≡ branches
unfolding row_by
branches_read contents zero branches = branches_of_leaves branches
branches_read contents (suc levels) branches = branches_of_nodes (λ branch. row_by contents levels (node_said_at contents branch).branches) branches
