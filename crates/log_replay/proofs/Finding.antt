-- What is found in leaves after one is put, and after some are taken out.
use Rattle.std.proofs.Common.{◌≡◌, Bool, true, false, cond, not, List, [], ◌∷◌, refl, sym, ap, Some, None}
use Rattle.std.specs.Prelude.{nat_le, filter}
use Rattle.std.specs.List.{find}
use Rattle.index_tree.specs.Order.{leaf_rank}
use Rattle.leaf_map.specs.After.{put_leaf}
use Rattle.leaf_map.specs.Kept.{Kept}

-- what is looked for is another thing than what is put, and than what that replaces
pub put_beside : (test old : Kept → Bool) (new : Kept) (kept : List Kept) → test new ≡ false → ((x : Kept) → old x ≡ true → test x ≡ false) → find test (put_leaf old new kept) ≡ find test kept
put_beside test old new [] n h = rw n refl
put_beside test old new (x ∷ kept) n h = by (put_beside test old new kept n h) (old x) refl (nat_le (leaf_rank x.leaf) (leaf_rank new.leaf))
  where
    by : find test (put_leaf old new kept) ≡ find test kept → (b : Bool) → old x ≡ b → (l : Bool) → find test (cond b (new ∷ kept) (cond l (x ∷ put_leaf old new kept) (new ∷ x ∷ kept))) ≡ cond (test x) (Some x) (find test kept)
    by more true o l = rw (n, h x o) refl
    by more false o true = ap (λ z. cond (test x) (Some x) z) more
    by more false o false = rw n refl

-- what is put is found where it replaces what is looked for
pub put_found : (test : Kept → Bool) (old : Kept → Bool) (new : Kept) (kept : List Kept) → test new ≡ true → ((x : Kept) → old x ≡ test x) → find test (put_leaf old new kept) ≡ Some new
put_found test old new [] n h = rw n refl
put_found test old new (x ∷ kept) n h = by (put_found test old new kept n h) (old x) (h x) (nat_le (leaf_rank x.leaf) (leaf_rank new.leaf))
  where
    by : find test (put_leaf old new kept) ≡ Some new → (b : Bool) → b ≡ test x → (l : Bool) → find test (cond b (new ∷ kept) (cond l (x ∷ put_leaf old new kept) (new ∷ x ∷ kept))) ≡ Some new
    by more true o l = rw n refl
    by more false o true = rw (sym o) more
    by more false o false = rw n refl

-- what is taken out is another thing than what is looked for
pub filter_beside : (test gone : Kept → Bool) (kept : List Kept) → ((x : Kept) → gone x ≡ true → test x ≡ false) → find test (filter (λ x. not (gone x)) kept) ≡ find test kept
filter_beside test gone [] h = refl
filter_beside test gone (x ∷ kept) h = by (filter_beside test gone kept h) (gone x) refl
  where
    left : List Kept
    left = filter (λ x. not (gone x)) kept

    by : find test left ≡ find test kept → (b : Bool) → gone x ≡ b → find test (cond (not b) (x ∷ left) left) ≡ cond (test x) (Some x) (find test kept)
    by more true g = rw (h x g) more
    by more false g = ap (λ z. cond (test x) (Some x) z) more

-- what is looked for is taken out
pub filter_gone : (test gone : Kept → Bool) (kept : List Kept) → ((x : Kept) → gone x ≡ false → test x ≡ false) → find test (filter (λ x. not (gone x)) kept) ≡ None
filter_gone test gone [] h = refl
filter_gone test gone (x ∷ kept) h = by (filter_gone test gone kept h) (gone x) refl
  where
    left : List Kept
    left = filter (λ x. not (gone x)) kept

    by : find test left ≡ None → (b : Bool) → gone x ≡ b → find test (cond (not b) (x ∷ left) left) ≡ None
    by more true g = more
    by more false g = rw (h x g) more
