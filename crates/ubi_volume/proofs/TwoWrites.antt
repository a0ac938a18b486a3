-- Two writes, one after the other, into LEBs of which a cut leaves nothing else.
use Rattle.std.proofs.Common.{◌≡◌, ◌≢◌, ◌⊎◌, ℕ, List, length, inl, inr, arith}
use Rattle.std.specs.Prelude.{Result, Ok, Err, OnOk}
use Rattle.ubi_volume.specs.Volume.{VolumeState, Only, put, Torn, Leaves, WorksOn, IsWritten, WriteUnderWay}
use Rattle.ubi_volume.specs.VolumeLaws.{Leaves-then, Leaves-more, WriteUnderWay-only, Only-written}

pub two_writes : (a b c : VolumeState) (offs : ℕ) (bytes : List ℕ)
    → ((k : ℕ) (x : List ℕ) → a.left_mapped k x → a.left_now k x) → ((k : ℕ) (x : List ℕ) → b.left_mapped k x → b.left_now k x)
    → Only (a.holds 1) (a.left_now 1) → Only (a.holds 2) (a.left_now 2)
    → IsWritten a b 1 offs bytes
    → WorksOn a b 1 (WriteUnderWay a 1 offs (length bytes))
    → WorksOn b c 2 (WriteUnderWay b 2 offs (length bytes))
    → Leaves a c (λ x. (((x 1 ≡ a.holds 1) ⊎ Torn offs (length bytes) (a.holds 1) (x 1)) × (x 2 ≡ a.holds 2))
    ⊎ ((x 1 ≡ put offs bytes (a.holds 1)) × ((x 2 ≡ a.holds 2) ⊎ Torn offs (length bytes) (a.holds 2) (x 2))))
two_writes a b c offs bytes sub_a sub_b first second done w1 w2 =
    let ne12 : 1 ≢ 2 = omega arith in
    let ne21 : 2 ≢ 1 = omega arith in
    let still : Only (a.holds 2) (b.left_now 2) = λ x is. second x (w1.others_left 2 x ne21 is) in
    let now : Only (put offs bytes (a.holds 1)) (b.left_now 1) = Only-written a b 1 offs bytes (a.holds 1) first (sub_a 1) done in
    Leaves-then a b c _ _ _
    (λ x p. inl (WriteUnderWay-only a 1 offs (length bytes) (a.holds 1) first (sub_a 1) (x 1) p.1, second (x 2) (p.0 2 ne21)))
    (λ x p. inr (now (x 1) (p.0 1 ne12), WriteUnderWay-only b 2 offs (length bytes) (a.holds 2) still (sub_b 2) (x 2) p.1))
    w1.time w2.time

-- the first of them alone
pub one_write : (a b : VolumeState) (offs : ℕ) (bytes : List ℕ) → ((k : ℕ) (x : List ℕ) → a.left_mapped k x → a.left_now k x)
    → Only (a.holds 1) (a.left_now 1) → Only (a.holds 2) (a.left_now 2) → WorksOn a b 1 (WriteUnderWay a 1 offs (length bytes))
    → Leaves a b (λ x. (((x 1 ≡ a.holds 1) ⊎ Torn offs (length bytes) (a.holds 1) (x 1)) × (x 2 ≡ a.holds 2))
    ⊎ ((x 1 ≡ put offs bytes (a.holds 1)) × ((x 2 ≡ a.holds 2) ⊎ Torn offs (length bytes) (a.holds 2) (x 2))))
one_write a b offs bytes sub_a first second w1 =
    let ne21 : 2 ≢ 1 = omega arith in
    Leaves-more a b _ _ (λ x p. inl (WriteUnderWay-only a 1 offs (length bytes) (a.holds 1) first (sub_a 1) (x 1) p.1, second (x 2) (p.0 2 ne21))) w1.time

pub on_ok : {T E : Type 0} (r : Result T E) (A B : Type 0) → (A → B) → OnOk r A → OnOk r B
on_ok (Ok x) A B f h = f h
on_ok (Err e) A B f h = h
