-- What is told of blocks once one of them is set: zeros at their ends are left out.
use Rattle.std.proofs.Common.{◌≡◌, ℕ, List, [], ◌∷◌, refl, ap}
use Rattle.std.specs.BTreeMap.{insert_entry}
use Rattle.std.specs.Ordering.{match_ordering}
use Rattle.std.specs.declared.cmp.Ordering.{Ordering}
use Rattle.std.specs.declared.cmp.Ordering.TheVariants.{Less, Equal, Greater}
use Rattle.fs_model.specs.Files.{Blocks, pair_cmp}
use Rattle.fs_model.specs.Same.{trimmed, trimmed_blocks}

pub trimmed-insert : (blocks : Blocks) (k : ℕ × ℕ) (v : List ℕ) → trimmed_blocks (insert_entry pair_cmp blocks k v) ≡ insert_entry pair_cmp (trimmed_blocks blocks) k (trimmed v)
trimmed-insert [] k v = refl
trimmed-insert (e ∷ blocks) k v = by (trimmed-insert blocks k v) (pair_cmp k e.0)
  where
    by : trimmed_blocks (insert_entry pair_cmp blocks k v) ≡ insert_entry pair_cmp (trimmed_blocks blocks) k (trimmed v) → (o : Ordering)
        → trimmed_blocks (match_ordering o ((k, v) ∷ e ∷ blocks) ((e.0, v) ∷ blocks) (e ∷ insert_entry pair_cmp blocks k v))
        ≡ match_ordering o ((k, trimmed v) ∷ (e.0, trimmed e.1) ∷ trimmed_blocks blocks) ((e.0, trimmed v) ∷ trimmed_blocks blocks) ((e.0, trimmed e.1) ∷ insert_entry pair_cmp (trimmed_blocks blocks) k (trimmed v))
    by more Less = refl
    by more Equal = refl
    by more Greater = ap (λ z. (e.0, trimmed e.1) ∷ z) more
