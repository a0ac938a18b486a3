-- From the begin of an index to its last LEB.
use Rattle.std.proofs.Common.{◌≡◌, ℕ, ◌+◌, ◌≤◌, List, length, Ok, ap, ◌∙◌, arith}
use Rattle.std.specs.Prelude.{Result, map}
use Rattle.std.proofs.lemmas.List.{length-map, length_push}
use Rattle.ubifs_base.specs.declared.raw_geometry.RawGeometry.{RawGeometry}
use Rattle.ubi_volume.specs.Volume.{VolumeState}
use Rattle.ubi_volume.specs.declared.fault.AreaFault.{AreaFault}
use Rattle.media_sys.specs.declared.branch.Branch.{Branch}
use Rattle.index_tree.specs.declared.leaf.Leaf.{Leaf}
use Rattle.index_media.specs.PlacedRow.{branch_to}
use Rattle.laid_index.specs.Answered.{IsLayingAnswered}
use Rattle.laid_index.specs.Crowned.{IsCrowned}
use Rattle.laid_index.specs.Opened.{open_lnum, taken_after}
use Rattle.laid_index.specs.Packing.{index_used, lens_above, packed}
use Rattle.laid_index.specs.declared.open_leb.OpenLeb.{OpenLeb}
use Rattle.laid_index.proofs.Answering.{answered_then, answered_wider}
use Rattle.laid_index.proofs.Indexing.{IsFresh, fresh_taken}

-- the index of these leaves is begun in a LEB that took nothing, with the branches to them
pub record IsBegun (xs : List Leaf) (first sqnum : ℕ) (start : OpenLeb) (branches : List Branch) : Type 0 where
  pub fresh : IsFresh first sqnum start
  pub branches_are : branches ≡ map branch_to xs

-- the bytes taken of each LEB, once the nodes over these branches are laid
abbrev pub taken_over : RawGeometry → OpenLeb → List Branch → List ℕ
taken_over geo start branches = taken_after geo start (lens_above (length branches) geo.fanout (length branches))

begun_taken : (geo : RawGeometry) (xs : List Leaf) (first sqnum : ℕ) (start : OpenLeb) (branches : List Branch) → IsBegun xs first sqnum start branches → length (taken_over geo start branches) ≡ length (index_used geo (length xs))
begun_taken geo xs first sqnum start branches h =
    let f = geo.fanout in
    let e : length branches ≡ length xs = ap length h.branches_are ∙ length-map xs branch_to in
    ap length (fresh_taken geo first sqnum start (lens_above (length branches) f (length branches)) h.fresh) ∙ ap (λ (m : ℕ). length (packed geo.leb_size 0 (lens_above m f m))) e

-- what lays the nodes works on no other LEBs than the index's
pub begun_answered : {T : Type 0} (geo : RawGeometry) (xs : List Leaf) (first sqnum : ℕ) (start : OpenLeb) (branches : List Branch) (a b : VolumeState) (r : Result T AreaFault) → IsBegun xs first sqnum start branches
    → IsLayingAnswered start.first (start.first + length (taken_over geo start branches)) a b r → IsLayingAnswered first (first + length (index_used geo (length xs))) a b r
begun_answered geo xs first sqnum start branches a b r h answered =
    let from = h.fresh.begins in
    let taken = begun_taken geo xs first sqnum start branches h in
    answered_wider start.first (start.first + length (taken_over geo start branches)) first (first + length (index_used geo (length xs))) a b r (omega (arith, from)) (omega (arith, from, taken)) answered

-- the LEB that is open at the end is one of the index's
pub last_leb_in : (geo : RawGeometry) (xs : List Leaf) (first sqnum : ℕ) (start leb : OpenLeb) (branches : List Branch) (root : Branch) (was now : ℕ → List ℕ) → IsBegun xs first sqnum start branches
    → IsCrowned geo 0 branches (lens_above (length branches) geo.fanout (length branches)) start was root leb now → (first ≤ open_lnum leb) × (open_lnum leb + 1 ≤ first + length (index_used geo (length xs)))
last_leb_in geo xs first sqnum start leb branches root was now h crowned =
    let from = h.fresh.begins in
    let taken = begun_taken geo xs first sqnum start branches h in
    let same = crowned.first in
    let all = ap length crowned.after in
    let size = length_push leb.used.items (length leb.bytes.items) in
    (omega (arith, same, from), omega (arith, same, all, size, taken, from))

-- and so what closes it works on no others either
pub closed_answered : {T : Type 0} (geo : RawGeometry) (xs : List Leaf) (first sqnum : ℕ) (start leb : OpenLeb) (branches : List Branch) (root : Branch) (a b d : VolumeState) (r : Result T AreaFault) → IsBegun xs first sqnum start branches
    → IsCrowned geo 0 branches (lens_above (length branches) geo.fanout (length branches)) start a.holds root leb b.holds → IsLayingAnswered start.first (start.first + length (taken_over geo start branches)) a b (Ok root)
    → IsLayingAnswered (open_lnum leb) (open_lnum leb + 1) b d r → IsLayingAnswered first (first + length (index_used geo (length xs))) a d r
closed_answered geo xs first sqnum start leb branches root a b d r h crowned laid closed =
    let last = first + length (index_used geo (length xs)) in
    let inside = last_leb_in geo xs first sqnum start leb branches root a.holds b.holds h crowned in
    answered_then first last a b d root r (begun_answered geo xs first sqnum start branches a b (Ok root) h laid) (answered_wider (open_lnum leb) (open_lnum leb + 1) first last b d r inside.0 inside.1 closed)
