-- A write of whole units to a LEB of which a cut leaves what it holds.
use Rattle.std.proofs.Common.{◌≡◌, ℕ, ◌+◌, ◌≤◌, List, [], length, take, inl, inr, ap, sym, ◌∙◌, subst, arith, append-nil}
use Rattle.ubi_volume.specs.Volume.{VolumeState, Only, Torn, WorksOn, IsWritten, WriteUnderWay}
use Rattle.ubi_volume.specs.VolumeLaws.{Keeps-none, Only-written, WorksOn-keeps, WorksOn-more, WriteUnderWay-only}
use Rattle.ubi_volume.specs.TornLaws.{Torn-none, take-put}
use Rattle.write_buffer.specs.Units.{IsPut}

-- what a cut leaves during the write
pub torn_under_way : (old : VolumeState) (lnum offs n : ℕ) → Only (old.holds lnum) (old.left_now lnum)
    → ((c : List ℕ) → old.left_mapped lnum c → old.left_now lnum c) → (c : List ℕ) → WriteUnderWay old lnum offs n c → Torn offs n (old.holds lnum) c
torn_under_way old lnum offs n only sub c under_way =
    elim (WriteUnderWay-only old lnum offs n (old.holds lnum) only sub c under_way) [
      | inl same ↦ Torn-none offs n (old.holds lnum) c same
      | inr torn ↦ torn
    ]

pub torn_works : (old new : VolumeState) (lnum offs n : ℕ) → Only (old.holds lnum) (old.left_now lnum)
    → ((c : List ℕ) → old.left_mapped lnum c → old.left_now lnum c) → WorksOn old new lnum (WriteUnderWay old lnum offs n) → WorksOn old new lnum (Torn offs n (old.holds lnum))
torn_works old new lnum offs n only sub works =
    WorksOn-more old new lnum (WriteUnderWay old lnum offs n) (Torn offs n (old.holds lnum)) (torn_under_way old lnum offs n only sub) works

-- no write at all
pub none_works : (state : VolumeState) (lnum offs n : ℕ) → Only (state.holds lnum) (state.left_now lnum) → WorksOn state state lnum (Torn offs n (state.holds lnum))
none_works state lnum offs n only =
    WorksOn-keeps state state lnum (Torn offs n (state.holds lnum)) (λ c left. Torn-none offs n (state.holds lnum) c (only c left)) (Keeps-none state)

pub none_put : (state : VolumeState) (lnum offs : ℕ) (bytes : List ℕ) → bytes ≡ [] → state.written lnum ≤ offs → Only (state.holds lnum) (state.left_now lnum) → IsPut state state lnum offs bytes
none_put state lnum offs bytes none behind only =
    let e : offs + 0 ≡ offs = omega arith in
    let P : List ℕ → Type 0 = λ bs. IsPut state state lnum offs bs in
    subst P (sym none) (record {
      text = ap (λ (n : ℕ). take n (state.holds lnum)) e ∙ sym (append-nil (take offs (state.holds lnum)));
      written = omega (arith, behind);
      settled = only;
    })

-- what the write leaves when it is done
pub units_put : (old new : VolumeState) (lnum offs : ℕ) (bytes : List ℕ) → Only (old.holds lnum) (old.left_now lnum)
    → ((c : List ℕ) → old.left_mapped lnum c → old.left_now lnum c) → offs + length bytes ≤ length (old.holds lnum) → IsWritten old new lnum offs bytes → IsPut old new lnum offs bytes
units_put old new lnum offs bytes only sub fits is =
    let end = is.written in
    record {
      text = ap (take (offs + length bytes)) is.holds ∙ take-put offs bytes (old.holds lnum) fits;
      written = omega (arith, end);
      settled = λ c left. Only-written old new lnum offs bytes (old.holds lnum) only sub is c left ∙ sym is.holds;
    }
