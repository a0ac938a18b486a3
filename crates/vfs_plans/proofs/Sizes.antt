-- Directories are small, since all entries have nodes on the medium.
use Rattle.std.proofs.Common.{◌≡◌, ℕ, ◌+◌, ◌≤◌, ◌<◌, ◌^◌, Bool, true, false, List, [], ◌∷◌, refl, arith}
use Rattle.std.specs.Prelude.{◌==◌, filter, sum_by}
use Rattle.std.specs.Map.{values_of}
use Rattle.std.proofs.lemmas.List.Sums.{sum_by-cons}
use Rattle.fs_model.specs.Cover.{entry_bytes, tree_bytes}
use Rattle.fs_model.specs.Directory.{entries_in}
use Rattle.fs_model.specs.Files.{Tree}

-- what is left of a list has no greater sum
pub filter_less : {A : Type 0} (f : A → ℕ) (test : A → Bool) (xs : List A) → sum_by f (filter test xs) ≤ sum_by f xs
filter_less f test [] = omega arith
filter_less f test (x ∷ xs) = by (filter_less f test xs) (test x) refl
  where
    by : sum_by f (filter test xs) ≤ sum_by f xs → (kept : Bool) → test x ≡ kept → sum_by f (filter test (x ∷ xs)) ≤ sum_by f (x ∷ xs)
    by rest true e =
        let more = sum_by-cons f x (filter test xs) in
        let all = sum_by-cons f x xs in
        rw e (omega (arith, more, all, rest))
    by rest false e =
        let all = sum_by-cons f x xs in
        rw e (omega (arith, all, rest))

-- the entries of a directory, where the tree is small
pub dir_is_small : (tree : Tree) (dir : ℕ) (used : ℕ) → used ≡ tree_bytes tree → used < 2 ^ 40 → 160 + sum_by entry_bytes (entries_in tree dir) < 2 ^ 64
dir_is_small tree dir used is small =
    let fewer = filter_less entry_bytes (λ e. e.dir == dir) (values_of tree.entries) in
    omega (arith, is, small, fewer)
