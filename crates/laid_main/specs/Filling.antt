-- What is taken of main LEBs into which nodes were laid one behind another.
use Rattle.std.specs.Prelude.{◌≡◌, ℕ, ◌+◌, ◌%◌, ◌<◌, ◌≤◌, ◌==◌, IsTrue, List, All, drop, filter, get_or, length}
use Rattle.ubifs_base.specs.declared.raw_geometry.RawGeometry.{RawGeometry}
use Rattle.media_sys.specs.declared.branch.Branch.{Branch}
use Rattle.index_media.specs.PlacedRow.{bytes_taken}
use Rattle.leb_scan.specs.Text.{is_blank}
use Rattle.lpt_area.specs.Written.{in_units}

-- What these branches lead to stands in the LEBs from a first one on, and takes so many bytes of each, every node rounded up to 8.
pub record TakesOfLebs (first : ℕ) (used : List ℕ) (branches : List Branch) : Type 0 where
  pub within : All (λ (branch : Branch). (first ≤ branch.lnum) × (branch.lnum < first + length used)) branches
  pub bytes : (k : ℕ) → k < length used → bytes_taken (filter (λ (branch : Branch). branch.lnum == first + k) branches) ≡ get_or used k 0

-- Of each LEB from a first one on so many bytes are taken: some, whole words, at most the LEB. Behind their units nothing is written.
pub record AreFilled (geo : RawGeometry) (contents : ℕ → List ℕ) (first : ℕ) (used : List ℕ) : Type 0 where
  pub some : All (λ bytes. (0 < bytes) × (bytes % 8 ≡ 0) × (bytes ≤ geo.leb_size)) used
  pub ends : (k : ℕ) → k < length used → IsTrue (is_blank (drop (in_units geo.min_io (get_or used k 0)) (contents (first + k))))
