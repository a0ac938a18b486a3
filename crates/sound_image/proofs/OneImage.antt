-- Contents say one geometry, one list of properties and one index.
use Rattle.std.proofs.Common.{◌≡◌, ℕ, ◌+◌, ◌-◌, List, [], ◌∷◌, map, take, drop, get_or-drop, ap, sym, ◌∙◌, subst}
use Rattle.ubifs_base.specs.NodeLaws.{IsBytes}
use Rattle.ubifs_base.specs.declared.key.Key.{Key}
use Rattle.ubifs_base.specs.declared.raw_geometry.RawGeometry.{RawGeometry}
use Rattle.media_lpt.specs.declared.lprop.Lprop.{Lprop}
use Rattle.media_sys.specs.Features.{geometry_of}
use Rattle.media_sys.specs.Index.{Index}
use Rattle.media_sys.specs.SystemNode.{index, superblock}
use Rattle.media_sys.specs.declared.branch.Branch.{Branch}
use Rattle.media_sys.specs.declared.master.Master.{Master}
use Rattle.media_sys.specs.declared.super_node.Super.{Super}
use Rattle.small_areas.specs.MasterLaws.{OneNode, take_bytes}
use Rattle.index_media.specs.PlacedRow.{PlacedRow, ended, node_at, branches_of}
use Rattle.index_media.specs.Stored.{AreStored, IsIndexNodeAt, IsStoredIndex}
use Rattle.sound_image.specs.Index.{HasIndex, root_branch}
use Rattle.sound_image.specs.Superblock.{BeginsWithSuper, HasSuperblock}

super_same : (m n : Super) → superblock m ≡ superblock n → m ≡ n
super_same m n h = cc

-- a LEB begins with one superblock
pub one_super : OneNode → (leb : List ℕ) (m n : Super) → IsBytes leb → BeginsWithSuper leb m → BeginsWithSuper leb n → m ≡ n
one_super one leb m n fits x y = super_same m n (one (take 4096 leb) x.sqnum x.group y.sqnum y.group (superblock m) (superblock n) (take_bytes 4096 leb fits) x.is y.is).2

-- one geometry
pub one_geometry : OneNode → (contents : ℕ → List ℕ) (a b : RawGeometry) → IsBytes (contents 0) → HasSuperblock contents a → HasSuperblock contents b → a ≡ b
one_geometry one contents a b fits x y = x.geometry ∙ ap geometry_of (one_super one (contents 0) x.node y.node fits x.begins y.begins) ∙ sym y.geometry

-- a root's branch leads to one index
abbrev pub OneIndex : Type 0
OneIndex = (contents : ℕ → List ℕ) (fanout other : ℕ) (root : Branch) (a b : PlacedRow) → ((k : ℕ) → IsBytes (contents k)) → IsStoredIndex contents fanout root a → IsStoredIndex contents other root b → a ≡ b

bytes_drop : (n : ℕ) (bytes : List ℕ) → IsBytes bytes → IsBytes (drop n bytes)
bytes_drop n bytes fits = λ i. rw get_or-drop (fits (n + i))

index_same : (a b : Index) → index a ≡ index b → a ≡ b
index_same a b h = cc

key_same : (a b : Key) → a ∷ [] ≡ b ∷ [] → a ≡ b
key_same a b h = cc

-- the root says the branches to its children
root_says : (contents : ℕ → List ℕ) (levels : ℕ) (root : Branch) (children : PlacedRow) → AreStored contents levels (node_at root children ended)
    → IsIndexNodeAt contents root (record { level = levels - 1; branches = branches_of children })
unfolding AreStored
root_says contents levels root children h = h.1

-- one index, whose root has one key
pub one_placed : OneNode → OneIndex → (contents : ℕ → List ℕ) (geo : RawGeometry) (master : Master) (props : List Lprop) (a b : PlacedRow) → ((k : ℕ) → IsBytes (contents k))
    → HasIndex contents geo master props a → HasIndex contents geo master props b → a ≡ b
one_placed node one contents geo master props a b fits x y =
    let leb = contents master.root_lnum in
    let P : PlacedRow → Type 0 = λ p. AreStored contents x.index.levels p in
    let R : PlacedRow → Type 0 = λ p. AreStored contents y.index.levels p in
    let sx = root_says contents x.index.levels (root_branch master x.key) x.index.children (subst P x.index.whole x.index.stored) in
    let sy = root_says contents y.index.levels (root_branch master y.key) y.index.children (subst R y.index.whole y.index.stored) in
    let part = take_bytes master.root_len (drop master.root_offs leb) (bytes_drop master.root_offs leb (fits master.root_lnum)) in
    let ix : Index = record { level = x.index.levels - 1; branches = branches_of x.index.children } in
    let iy : Index = record { level = y.index.levels - 1; branches = branches_of y.index.children } in
    let said = index_same ix iy (node (take master.root_len (drop master.root_offs leb)) sx.sqnum sx.group sy.sqnum sy.group (index ix) (index iy) part sx.is sy.is).2 in
    let firsts : List Branch → List Key = λ branches. map (λ branch. branch.key) (take 1 branches) in
    let same = key_same x.key y.key (sym x.first ∙ ap (λ (i : Index). firsts i.branches) said ∙ y.first) in
    let Q : Key → Type 0 = λ key. IsStoredIndex contents geo.fanout (root_branch master key) a in
    one contents geo.fanout geo.fanout (root_branch master y.key) a b fits (subst Q same x.index) y.index
