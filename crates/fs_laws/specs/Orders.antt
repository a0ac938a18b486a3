-- The orders of numbers, of blocks and of names.
use Rattle.std.proofs.Common.{◌≡◌, ℕ, List, [], ◌∷◌, refl, sym}
use Rattle.std.specs.Cmp.{nat_cmp_is}
use Rattle.std.specs.Cmp.Lexicographic.{slice_cmp, nat_list_cmp_total}
use Rattle.std.specs.Ordering.{nat_cmp}
use Rattle.std.specs.declared.cmp.Ordering.TheVariants.{Equal}
use Rattle.std.proofs.lemmas.Cmp.{nat_cmp_total, on_total, then_total}
use Rattle.std.proofs.lemmas.Map.Lookups.{exact_unsigned, exact_bytes, exact_pairs}
use Rattle.fs_model.specs.Files.{pair_cmp, name_cmp}
use Rattle.fs_laws.specs.Maps.{IsOrder}

nat_same : (x : ℕ) → nat_cmp x x ≡ Equal
nat_same x = sym (nat_cmp_is x x Equal refl)

pub bytes_same : (xs : List ℕ) → slice_cmp nat_cmp xs xs ≡ Equal
bytes_same [] = refl
bytes_same (x ∷ xs) = rw (nat_same x) (bytes_same xs)

pub numbers : IsOrder nat_cmp
numbers = record { total = nat_cmp_total; exact = exact_unsigned; same = nat_same }

pub pairs : IsOrder pair_cmp
pairs = record {
  total = then_total (on_total (λ p. p.0) nat_cmp_total) (on_total (λ p. p.1) nat_cmp_total);
  exact = exact_pairs nat_cmp nat_cmp exact_unsigned exact_unsigned;
  same = λ k. rw (nat_same k.0) (nat_same k.1);
}

pub named : IsOrder name_cmp
named = record {
  total = then_total (on_total (λ p. p.0) nat_cmp_total) (on_total (λ p. p.1) nat_list_cmp_total);
  exact = exact_pairs nat_cmp (slice_cmp nat_cmp) exact_unsigned exact_bytes;
  same = λ k. rw (nat_same k.0) (bytes_same k.1);
}
