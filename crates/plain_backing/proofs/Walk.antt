-- Keys of two numbers, and starts among them.
use Rattle.std.proofs.Common.{◌≡◌, ℕ, ◌<◌, ◌≤◌, true, false, ◌&&◌, refl, sym, arith}
use Rattle.std.specs.Prelude.{◌==◌}
use Rattle.std.specs.BTreeMap.{is_at}
use Rattle.std.specs.BTreeMap.Range.{is_from_start}
use Rattle.std.specs.Cmp.{ranks, nat_cmp_is}
use Rattle.std.specs.Ordering.{nat_cmp, is_eq, is_gt, is_le, ordering_then, MatchOrdering}
use Rattle.std.specs.declared.cmp.Ordering.{Ordering}
use Rattle.std.specs.declared.cmp.Ordering.TheVariants.{Less, Equal, Greater}
use Rattle.std.specs.declared.ops.Bound.TheVariants.{Included}
use Rattle.std.proofs.lemmas.Bool.Decides.{nat_tests}
use Rattle.fs_model.specs.Files.{pair_cmp}

-- a key that isn't past another
pub pair_le : (a b : ℕ × ℕ) → is_gt (pair_cmp a b) ≡ false → (a.0 ≤ b.0) × (a.0 ≡ b.0 → a.1 ≤ b.1)
pair_le a b h = by (nat_cmp a.0 b.0) (ranks a.0 b.0) (nat_cmp a.1 b.1) (ranks a.1 b.1) h
  where
    by : (o : Ordering) → MatchOrdering o (a.0 < b.0) (a.0 ≡ b.0) (b.0 < a.0) → (p : Ordering) → MatchOrdering p (a.1 < b.1) (a.1 ≡ b.1) (b.1 < a.1) → is_gt (ordering_then o p) ≡ false → (a.0 ≤ b.0) × (a.0 ≡ b.0 → a.1 ≤ b.1)
    by Less m p n g = (omega arith, λ e. absurd (omega arith))
    by Equal m Less n g = (omega arith, λ e. omega arith)
    by Equal m Equal n g = (omega arith, λ e. omega arith)
    by Equal m Greater n g = absurd cc
    by Greater m p n g = absurd cc

-- a block from a first one on is past its start
pub le_from : (ino first : ℕ) (k : ℕ × ℕ) → k.0 ≡ ino → first ≤ k.1 → is_from_start pair_cmp (Included (ino, first)) k ≡ true
le_from ino first k same h =
    let a : nat_cmp ino k.0 ≡ Equal = sym (nat_cmp_is ino k.0 Equal (sym same)) in
    rw a (by (nat_cmp first k.1) (ranks first k.1))
  where
    by : (p : Ordering) → MatchOrdering p (first < k.1) (first ≡ k.1) (k.1 < first) → is_le p ≡ true
    by Less m = refl
    by Equal m = refl
    by Greater m = absurd (omega arith)

-- the key of a block
pub at_key : (ino block : ℕ) (k : ℕ × ℕ) → is_at (pair_cmp (ino, block)) k ≡ ((k.0 == ino) && (k.1 == block))
at_key ino block k = by (nat_cmp ino k.0) (ranks ino k.0) (nat_cmp block k.1) (ranks block k.1)
  where
    by : (o : Ordering) → MatchOrdering o (ino < k.0) (ino ≡ k.0) (k.0 < ino) → (p : Ordering) → MatchOrdering p (block < k.1) (block ≡ k.1) (k.1 < block) → is_eq (ordering_then o p) ≡ ((k.0 == ino) && (k.1 == block))
    by Less m p n = grind (arith, nat_tests)
    by Equal m Less n = grind (arith, nat_tests)
    by Equal m Equal n = grind (arith, nat_tests)
    by Equal m Greater n = grind (arith, nat_tests)
    by Greater m p n = grind (arith, nat_tests)
