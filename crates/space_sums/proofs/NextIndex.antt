-- LEBs for a commit, before it and while it runs.
use Rattle.std.proofs.Common.{ℕ, ◌+◌, ◌*◌, ◌≤◌, Bool, true, false, refl, arith}
use Rattle.std.specs.Prelude.{nat_le, if◌then◌else◌}
use Rattle.ubifs_base.specs.declared.raw_geometry.RawGeometry.{RawGeometry}
use Rattle.fs_model.specs.declared.space.Space.{Space}
use Rattle.fs_model.specs.Cover.{index_lebs}
use Rattle.fs_model.specs.Settled.{IsSettled}
use Rattle.space_sums.specs.Spaces.{IsAfterCommit, IsNextIndex, IsSettledTwice, Running, at_cut, at_end, taken_lebs}
use Rattle.space_sums.proofs.Index.{index_lebs-grows}
use Rattle.space_sums.proofs.Keeps.{settled_by_commit}

pub has_lebs_for_commit : (geo : RawGeometry) (space : Space) (nodes dirty : ℕ) → IsSettled geo space → nodes ≤ space.weight → dirty ≤ nodes →
    taken_lebs geo space nodes dirty + 1 ≤ space.empty
has_lebs_for_commit geo space nodes dirty h n d =
    by (nat_le (space.index + index_lebs geo dirty) (2 * index_lebs geo space.weight))
    (index_lebs-grows geo dirty space.weight (omega (arith, n, d)))
    (index_lebs-grows geo nodes space.weight n)
  where
    by : (b : Bool) → index_lebs geo dirty ≤ index_lebs geo space.weight → index_lebs geo nodes ≤ index_lebs geo space.weight →
        (if b then index_lebs geo dirty else index_lebs geo nodes) + 1 ≤ space.empty
    by true p q = omega (arith, p, h.empty)
    by false p q = omega (arith, q, h.empty)

pub settled_twice : (geo : RawGeometry) (next : Running) (space : Space) → IsNextIndex geo next space → IsSettled geo (at_cut next space) → IsSettledTwice geo next space
settled_twice geo next space index h =
    let end : IsAfterCommit geo (at_cut next space) (at_end next space) = record { bytes = omega arith; credits = refl; index = index.lebs; weight = index.weight; main = refl } in
    record { cut = h; end = settled_by_commit geo (at_cut next space) (at_end next space) end (omega arith) h }
