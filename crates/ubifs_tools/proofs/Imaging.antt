-- The image that a run leaves.
use Rattle.std.proofs.Common.{◌≡◌, ◌⊎◌, ℕ, ◌<◌, ◌≤◌, List, ap, arith, inl, inr, sym, subst, ◌∙◌}
use Rattle.std.specs.Prelude.{Result, Ok, Err, IfOk}
use Rattle.std.proofs.lemmas.Bool.{cases_lt}
use Rattle.ubifs_base.specs.NodeLaws.{IsBytes}
use Rattle.ubifs_base.specs.declared.raw_geometry.RawGeometry.{RawGeometry}
use Rattle.ubi_volume.specs.MemVolume.{state_of}
use Rattle.ubi_volume.specs.MemVolumeLaws.{leb_bytes_of, leb_len_of, none_of}
use Rattle.ubi_volume.specs.Volume.{image_of}
use Rattle.ubi_volume.specs.declared.mem_volume.MemVolume.{MemVolume}
use Rattle.fs_model.specs.Files.{Tree}
use Rattle.image_report.specs.Lebs.{AreLebsOfGeometry}
use Rattle.whole_image.specs.Made.{IsMadeImage}
use Rattle.ubifs_tools.specs.Command.{IsLeftImage, no_identifier}

-- a volume in memory has the LEBs of its shape, each whole, and no others
pub lebs_of : (v : MemVolume) (geo : RawGeometry) → (state_of v).leb_size ≡ geo.leb_size → (state_of v).leb_cnt ≡ geo.leb_cnt → AreLebsOfGeometry (state_of v).holds geo
lebs_of v geo size count = record {
  lebs = record { bytes = λ k. of_bytes k (cases_lt k (state_of v).leb_cnt); full = λ k less. leb_len_of v k (omega (arith, less, count)) ∙ size };
  none = λ k past. none_of v k (omega (arith, past, count));
}
  where
    of_bytes : (k : ℕ) → (k < (state_of v).leb_cnt) ⊎ ((state_of v).leb_cnt ≤ k) → IsBytes ((state_of v).holds k)
    of_bytes k (inl less) = leb_bytes_of v k less
    of_bytes k (inr past) = let P : List ℕ → Type 0 = λ bytes. IsBytes bytes in subst P (sym (none_of v k past)) (λ i. omega arith)

-- the bytes of a volume that holds a whole image are what is left
pub whole_is_left : {T E : Type 0} (items : T → List ℕ) (geo : RawGeometry) (tree : Tree) (holds : ℕ → List ℕ) (lebs count : ℕ) (r : Result T E)
    → IfOk r (λ image. items image ≡ image_of holds lebs) → lebs ≡ count → IsMadeImage holds geo no_identifier tree → AreLebsOfGeometry holds geo
    → IfOk r (λ image. (x : ℕ → List ℕ) × IsLeftImage geo tree x × AreLebsOfGeometry x geo × (items image ≡ image_of x count))
unfolding IsLeftImage
whole_is_left items geo tree holds lebs count (Ok image) is same made all = (holds, made, all, is ∙ ap (λ n. image_of holds n) same)
whole_is_left items geo tree holds lebs count (Err fault) is same made all = tt
