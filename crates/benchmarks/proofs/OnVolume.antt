-- What holds after a change, and after a commit.
use Rattle.std.proofs.Common.{◌≡◌, ℕ, ◌+◌, ◌<◌, ◌≤◌, List, [], ◌∷◌, ap, sym, ◌∙◌, subst, arith, inl, inr}
use Rattle.std.specs.Prelude.{Option, Some, Ok}
use Rattle.index_commit.specs.Lebs.{AreLebsApart, IsGiven}
use Rattle.index_media.specs.KeyedRow.{KeyedRow, no_more, all_clean}
use Rattle.index_media.specs.PlacedRow.{PlacedRow}
use Rattle.media_sys.specs.declared.branch.Branch.{Branch}
use Rattle.node_cache.specs.Loaded.{IsIndexOn}
use Rattle.mounted_index.specs.Changed.{AreChangesMade}
use Rattle.mounted_index.specs.Committed.{IsRootOn}
use Rattle.mounted_index.specs.Shown.{Shows, StandsIn}
use Rattle.mounted_index.specs.declared.mounted.MountedIndex.{MountedIndex}
use Rattle.ubi_volume.specs.Geometry.{IsGeometryOf}
use Rattle.ubi_volume.specs.MemVolume.{IsBlank}
use Rattle.ubi_volume.specs.declared.mem_volume.VolShape.{VolShape}
use Rattle.ubifs_base.specs.Geometry.{plain_geometry}
use Rattle.ubi_volume.specs.Volume.{VolumeState, SameShape}
use Rattle.ubifs_base.specs.RawOf.{raw_of}
use Rattle.ubifs_base.specs.declared.geometry.Geometry.{Geometry}
use Rattle.ubifs_base.specs.declared.raw_geometry.RawGeometry.{RawGeometry}
use Rattle.benchmarks.specs.OnVolume.{StandsInLebsBefore}

pub same_geometry : (geo : RawGeometry) (a b : VolumeState) → SameShape a b → IsGeometryOf geo a → IsGeometryOf geo b
same_geometry geo a b shape h =
    let P : ℕ → Type 0 = λ n. geo.leb_cnt ≤ n in
    record { leb_size = h.leb_size ∙ sym shape.leb_size; min_io = h.min_io ∙ sym shape.min_io; leb_cnt = subst P (sym shape.leb_cnt) h.leb_cnt }

-- a change that was made
pub changed_well : {T : Type 0} {x : T} (geometry : Geometry) (a b : VolumeState) (index after : MountedIndex) (next : ℕ) (made : KeyedRow) → (h : StandsInLebsBefore geometry a index next) → AreChangesMade a b after h.row made (Ok x)
    → SameShape a b → after.geometry ≡ index.geometry → StandsInLebsBefore geometry b after next
changed_well geometry a b index after next made h changed shape same = record {
  row = made;
  kept = h.kept;
  shown = changed.done;
  stands = changed.stands h.kept h.stands;
  before = h.before;
  own = same ∙ h.own;
  fits = same_geometry (raw_of geometry) a b shape h.fits;
}

-- LEBs before the next one, and the next one
pub one_apart : (kept : List ℕ) (next : ℕ) → ((k : ℕ) → IsGiven kept k → k < next) → AreLebsApart kept (next ∷ [])
one_apart kept next before k own one = elim one [
  | inl e ↦ let less = before k own in absurd (omega (arith, less, e))
  | inr none ↦ none
]

one_more : (kept : List ℕ) (next : ℕ) → ((k : ℕ) → IsGiven kept k → k < next) → (k : ℕ) → IsGiven (next ∷ kept) k → k < next + 1
one_more kept next before k (inl e) = omega (arith, e)
one_more kept next before k (inr own) = let less = before k own in omega (arith, less)

-- a commit to the next LEB: what its answer shows is shown
pub committed_well : (geometry : Geometry) (a b : VolumeState) (kept : List ℕ) (row now : KeyedRow) (index after : MountedIndex) (next : ℕ) → SameShape a b → IsGeometryOf (raw_of geometry) a → ((k : ℕ) → IsGiven kept k → k < next)
    → Shows b after now → StandsIn b (next ∷ kept) now → after.geometry ≡ geometry → StandsInLebsBefore geometry b after (next + 1)
committed_well geometry a b kept row now index after next shape fits before shown stands same = record {
  row = now;
  kept = next ∷ kept;
  shown = shown;
  stands = stands;
  before = one_more kept next before;
  own = same;
  fits = same_geometry (raw_of geometry) a b shape fits;
}

-- the index is taken up again from the root that a commit answered
pub taken_well : (geometry : Geometry) (a b : VolumeState) (kept : List ℕ) (row now : KeyedRow) (index taken : MountedIndex) (next f : ℕ) (at : Option Branch) (root : Branch) → SameShape a b → IsGeometryOf (raw_of geometry) a
    → ((k : ℕ) → IsGiven kept k → k < next) → IsRootOn b f now at → at ≡ Some root → f ≡ geometry.fanout
    → ((placed : PlacedRow) → IsIndexOn b geometry.fanout root placed → Shows b taken (all_clean placed)) → StandsIn b (next ∷ kept) now → taken.geometry ≡ geometry → StandsInLebsBefore geometry b taken (next + 1)
taken_well geometry a b kept row now index taken next f at root shape fits before on is wide shows stands same =
    let R : Option Branch → Type 0 = λ r. IsRootOn b f now r in
    let there = subst R is on in
    let F : ℕ → Type 0 = λ n. IsIndexOn b n root there.0 in
    let S : KeyedRow → Type 0 = λ r. Shows b taken r in
    committed_well geometry a b kept row now index taken next shape fits before (subst S (sym there.1) (shows there.0 (subst F wide there.2))) stands same

pub geometry_of : (geometry own : Geometry) (a : VolumeState) → own ≡ geometry → IsGeometryOf (raw_of geometry) a → IsGeometryOf (raw_of own) a
geometry_of geometry own a same h = let G : Geometry → Type 0 = λ g. IsGeometryOf (raw_of g) a in subst G (sym same) h

-- an empty index over a blank volume of this geometry
pub begun : (geometry : Geometry) (shape : VolShape) (a : VolumeState) (index : MountedIndex) (next : ℕ) → raw_of geometry ≡ plain_geometry 131072 2048 640 8 → shape ≡ record { leb_size = 131072; min_io = 2048; leb_cnt = 650 } → IsBlank shape a
    → Shows a index no_more → index.geometry ≡ geometry → StandsInLebsBefore geometry a index next
begun geometry shape a index next is small blank shown same =
    let raw = raw_of geometry in
    let count : raw.leb_cnt ≡ 650 = ap (λ (r : RawGeometry). r.leb_cnt) is in
    let lebs : a.leb_cnt ≡ 650 = blank.leb_cnt ∙ ap (λ (s : VolShape). s.leb_cnt) small in
    record {
      row = no_more;
      kept = [];
      shown = shown;
      stands = record { there = λ k given. absurd given; within = tt };
      before = λ k given. absurd given;
      own = same;
      fits = record {
        leb_size = ap (λ (r : RawGeometry). r.leb_size) is ∙ sym (blank.leb_size ∙ ap (λ (s : VolShape). s.leb_size) small);
        min_io = ap (λ (r : RawGeometry). r.min_io) is ∙ sym (blank.min_io ∙ ap (λ (s : VolShape). s.min_io) small);
        leb_cnt = omega (arith, count, lebs);
      };
    }
