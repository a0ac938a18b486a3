-- Volumes that were found, and loaded ones.
use Rattle.std.specs.Prelude.{◌≡◌, ℕ, ◌<◌, List}
use Rattle.std.proofs.Common.{sym, subst, ◌∙◌}
use Rattle.ubi_volume.specs.Volume.{VolumeState, SameShape, Keeps}
use Rattle.ubi_volume.specs.Loading.{IsFound, IsLoaded, IsWrittenPart, leb_of}
use Rattle.ubi_volume.specs.declared.mem_volume.VolShape.{VolShape}

-- after a call that keeps all it is as it was found
pub IsFound-keeps : (contents : ℕ → List ℕ) (old new : VolumeState) → IsFound contents old → SameShape old new → Keeps old new → new.sure → new.unbroken → IsFound contents new
IsFound-keeps contents old new found shape keeps sure unbroken =
    let Below : (k : ℕ) → ℕ → Type 0 = λ k n. k < n in
    record {
      holds = λ k inside. keeps.holds k ∙ found.holds k (subst (Below k) shape.leb_cnt inside);
      written = λ k inside.
          let U : ℕ → Type 0 = λ unit. IsWrittenPart unit (new.holds k) (new.written k) in
          let B : List ℕ → Type 0 = λ b. IsWrittenPart old.min_io b (new.written k) in
          let W : ℕ → Type 0 = λ n. IsWrittenPart old.min_io (old.holds k) n in
          subst U (sym shape.min_io) (subst B (sym (keeps.holds k)) (subst W (sym (keeps.written k)) (found.written k (subst (Below k) shape.leb_cnt inside))));
      left = λ k c h. found.left k c ((keeps.left k c).0 h) ∙ sym (keeps.holds k);
      sure = sure;
      unbroken = unbroken;
    }

pub IsLoaded-keeps : (shape : VolShape) (image : List ℕ) (old new : VolumeState) → IsLoaded shape image old → SameShape old new → Keeps old new → new.sure → new.unbroken → new.faults ≡ old.faults → IsLoaded shape image new
IsLoaded-keeps shape image old new loaded same keeps sure unbroken faults = record {
  leb_size = same.leb_size ∙ loaded.leb_size;
  min_io = same.min_io ∙ loaded.min_io;
  leb_cnt = same.leb_cnt ∙ loaded.leb_cnt;
  found = IsFound-keeps (leb_of shape.leb_size image) old new loaded.found same keeps sure unbroken;
  faults = faults ∙ loaded.faults;
}

-- what a loaded volume holds
pub IsLoaded-holds : (shape : VolShape) (image : List ℕ) (state : VolumeState) → IsLoaded shape image state → (k : ℕ) → k < shape.leb_cnt → state.holds k ≡ leb_of shape.leb_size image k
IsLoaded-holds shape image state loaded k inside = let Below : ℕ → Type 0 = λ n. k < n in loaded.found.holds k (subst Below (sym loaded.leb_cnt) inside)
