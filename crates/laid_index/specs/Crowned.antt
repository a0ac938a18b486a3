-- Rows that are laid, up to the root.
use Rattle.std.specs.Prelude.{◌≡◌, ℕ, ◌+◌, List, length}
use Rattle.ubifs_base.specs.declared.raw_geometry.RawGeometry.{RawGeometry}
use Rattle.media_sys.specs.declared.branch.Branch.{Branch}
use Rattle.index_tree.specs.Shape.{contents as leaves_in, shape_weight}
use Rattle.index_tree.specs.declared.leaf.Leaf.{Leaf}
use Rattle.index_media.specs.PlacedRow.{PlacedRow, ended, node_at, all_nodes, branches_of, plain}
use Rattle.laid_main.specs.Filling.{TakesOfLebs}
use Rattle.laid_index.specs.Opened.{GoesOnInLeb, IsLebOpen, taken_after, bytes_taken_of}
use Rattle.laid_index.specs.Packing.{lens_weight}
use Rattle.laid_index.specs.Rows.{IsGrown}
use Rattle.laid_index.specs.declared.open_leb.OpenLeb.{OpenLeb}

-- A row of so many levels over these leaves stands in all contents that go on, its nodes take what is taken, and took the numbers from one on.
pub record IsRowLaid (geo : RawGeometry) (sqnum levels : ℕ) (leaves : List Leaf) (row : PlacedRow) (leb : OpenLeb) (holds : ℕ → List ℕ) : Type 0 where
  pub grown : (contents : ℕ → List ℕ) → GoesOnInLeb leb holds contents → IsGrown contents geo.fanout levels row
  pub takes : TakesOfLebs leb.first (bytes_taken_of leb) (all_nodes row)
  pub number : leb.sqnum ≡ sqnum + length (all_nodes row)
  pub holds_leaves : leaves_in (plain row) ≡ leaves

-- Over each row of these siblings that is laid, a root is laid, by nodes of these lengths. The index weighs so much more than the row.
pub record IsCrowned (geo : RawGeometry) (levels : ℕ) (siblings : List Branch) (lens : List ℕ) (old : OpenLeb) (was : ℕ → List ℕ) (root : Branch) (new : OpenLeb) (now : ℕ → List ℕ) : Type 0 where
  pub is_open : IsLebOpen geo new now
  pub first : new.first ≡ old.first
  pub after : bytes_taken_of new ≡ taken_after geo old lens
  pub row : (sqnum : ℕ) (leaves : List Leaf) (row : PlacedRow) → branches_of row ≡ siblings → IsRowLaid geo sqnum levels leaves row old was
      → (high : ℕ) × ((children : PlacedRow) × IsRowLaid geo sqnum high leaves (node_at root children ended) new now
      × (shape_weight geo.fanout (plain (node_at root children ended)) ≡ shape_weight geo.fanout (plain row) + lens_weight geo.fanout lens))
