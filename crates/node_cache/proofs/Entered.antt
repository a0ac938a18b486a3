-- A walk enters an index at its root: what is read there, and the row below it.
use Rattle.std.proofs.Common.{◌≡◌, ℕ, ◌+◌, ◌<◌, refl, ap}
use Rattle.index_tree.specs.Shape.{contents}
use Rattle.media_sys.specs.Index.{Index}
use Rattle.media_sys.specs.declared.branch.Branch.{Branch}
use Rattle.index_media.specs.PlacedRow.{PlacedRow, ended, node_at, plain, branches_of}
use Rattle.index_media.specs.Stored.{IsIndexNodeAt}
use Rattle.ubi_volume.specs.Volume.{VolumeState, Keeps, SameShape}
use Rattle.node_cache.specs.FirstAt.{root_leaves}
use Rattle.node_cache.specs.Loaded.{IsIndexOn, IsRowOn}
use Rattle.node_cache.specs.RowsOn.{below, root_on, row_as, row_moved}

-- the root's node can be read
pub root_said : (a : VolumeState) (fanout : ℕ) (root : Branch) (placed : PlacedRow) → IsIndexOn a fanout root placed → (root.lnum < a.leb_cnt) × (said : Index) × IsIndexNodeAt a.holds root said
root_said a fanout root placed on =
    let r = root_on a fanout root placed on in
    let p = below a fanout r.level root r.children r.on in
    (p.lnum, record { level = r.level; branches = branches_of r.children }, p.said)

-- what stands below it, on a volume that keeps all, if the level is the root's
pub record Entered (b : VolumeState) (fanout level : ℕ) (root : Branch) (placed : PlacedRow) : Type 0 where
  pub children : PlacedRow
  pub on : IsRowOn b fanout (level + 1) (node_at root children ended)
  pub row : IsRowOn b fanout level children
  pub leaves : contents (plain placed) ≡ contents (plain children)

pub entered : (a b : VolumeState) (fanout level : ℕ) (root : Branch) (placed : PlacedRow) → IsIndexOn a fanout root placed → Keeps a b → SameShape a b
    → ((said : Index) → IsIndexNodeAt a.holds root said → level ≡ said.level) → Entered b fanout level root placed
entered a b fanout level root placed on k s f =
    let r = root_on a fanout root placed on in
    let p = below a fanout r.level root r.children r.on in
    let same : level ≡ r.level = f (record { level = r.level; branches = branches_of r.children }) p.said in
    let moved = row_moved a b fanout (r.level + 1) (node_at root r.children ended) k s r.on in
    let here = row_as b fanout fanout (r.level + 1) (level + 1) (node_at root r.children ended) refl (ap (λ n. n + 1) same) moved in
    record { children = r.children; on = here; row = (below b fanout level root r.children here).on; leaves = root_leaves placed r.children root r.is }
