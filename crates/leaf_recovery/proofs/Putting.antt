-- A leaf that is put at its place among leaves.
use Rattle.std.proofs.Common.{◌≡◌, ℕ, suc, ◌≤◌, Bool, true, false, cond, ◌||◌, List, [], ◌∷◌, length, refl, sym, ap, subst, ◌∙◌, arith}
use Rattle.std.specs.Prelude.{nat_le, nat_lt, slice_set}
use Rattle.std.specs.List.{insert}
use Rattle.std.proofs.lemmas.Bool.{false≢true, ltb-true, ltb-false, leb-true}
use Rattle.std.proofs.lemmas.Bool.Decides.{nat_tests}
use Rattle.index_tree.specs.Order.{leaf_rank}
use Rattle.journal_scan.specs.declared.node_content.NodeContent.{NodeContent}
use Rattle.leaf_recovery.specs.declared.recovered_leaf.RecoveredLeaf.{RecoveredLeaf}
use Rattle.leaf_recovery.specs.Applied.{ends_at_told, put_leaf_told, put_place_told}
use Rattle.leaf_recovery.specs.Things.{ends_told}

at_most : (m n : ℕ) → nat_lt m n ≡ false → nat_le n m ≡ true
at_most m n h = by (nat_le n m) refl
  where
    by : (b : Bool) → nat_le n m ≡ b → b ≡ true
    by true e = refl
    by false e = let less = ltb-false m n h in absurd (grind (arith, nat_tests, e, less))

more_than : (m n : ℕ) → nat_lt m n ≡ true → nat_le n m ≡ false
more_than m n h = by (nat_le n m) refl
  where
    by : (b : Bool) → nat_le n m ≡ b → b ≡ false
    by false e = refl
    by true e = let more = ltb-true m n h in let less = leb-true n m e in absurd (omega (arith, more, less))

pub place_within : (content : NodeContent) (rank : ℕ) (kept : List RecoveredLeaf) → put_place_told content rank kept ≤ length kept
place_within content rank [] = omega arith
place_within content rank (x ∷ kept) = by (ends_told content x.content || nat_lt rank (leaf_rank x.leaf)) (place_within content rank kept)
  where
    by : (b : Bool) → put_place_told content rank kept ≤ length kept → cond b 0 (suc (put_place_told content rank kept)) ≤ suc (length kept)
    by true h = omega arith
    by false h = omega (arith, h)

module _ (content : NodeContent) (new : RecoveredLeaf) where
  set_at : (kept : List RecoveredLeaf) → ends_at_told content (put_place_told content (leaf_rank new.leaf) kept) kept ≡ true
      → slice_set kept (put_place_told content (leaf_rank new.leaf) kept) new ≡ put_leaf_told content new kept
  set_at [] h = absurd (false≢true h)
  set_at (x ∷ kept) h = by (ends_told content x.content) refl (nat_lt (leaf_rank new.leaf) (leaf_rank x.leaf)) refl (set_at kept) h
    where
      by : (a : Bool) → ends_told content x.content ≡ a → (b : Bool) → nat_lt (leaf_rank new.leaf) (leaf_rank x.leaf) ≡ b
          → (ends_at_told content (put_place_told content (leaf_rank new.leaf) kept) kept ≡ true → slice_set kept (put_place_told content (leaf_rank new.leaf) kept) new ≡ put_leaf_told content new kept)
          → ends_at_told content (cond (a || b) 0 (suc (put_place_told content (leaf_rank new.leaf) kept))) (x ∷ kept) ≡ true
          → slice_set (x ∷ kept) (cond (a || b) 0 (suc (put_place_told content (leaf_rank new.leaf) kept))) new
          ≡ cond a (new ∷ kept) (cond (nat_le (leaf_rank x.leaf) (leaf_rank new.leaf)) (x ∷ put_leaf_told content new kept) (new ∷ x ∷ kept))
      by true e b f more h = refl
      by false e true f more h = absurd (false≢true (sym e ∙ h))
      by false e false f more h = rw (at_most (leaf_rank new.leaf) (leaf_rank x.leaf) f) (ap (λ z. x ∷ z) (more h))

  insert_at : (kept : List RecoveredLeaf) → ends_at_told content (put_place_told content (leaf_rank new.leaf) kept) kept ≡ false
      → insert kept (put_place_told content (leaf_rank new.leaf) kept) new ≡ put_leaf_told content new kept
  insert_at [] h = refl
  insert_at (x ∷ kept) h = by (ends_told content x.content) refl (nat_lt (leaf_rank new.leaf) (leaf_rank x.leaf)) refl (insert_at kept) h
    where
      by : (a : Bool) → ends_told content x.content ≡ a → (b : Bool) → nat_lt (leaf_rank new.leaf) (leaf_rank x.leaf) ≡ b
          → (ends_at_told content (put_place_told content (leaf_rank new.leaf) kept) kept ≡ false → insert kept (put_place_told content (leaf_rank new.leaf) kept) new ≡ put_leaf_told content new kept)
          → ends_at_told content (cond (a || b) 0 (suc (put_place_told content (leaf_rank new.leaf) kept))) (x ∷ kept) ≡ false
          → insert (x ∷ kept) (cond (a || b) 0 (suc (put_place_told content (leaf_rank new.leaf) kept))) new
          ≡ cond a (new ∷ kept) (cond (nat_le (leaf_rank x.leaf) (leaf_rank new.leaf)) (x ∷ put_leaf_told content new kept) (new ∷ x ∷ kept))
      by true e b f more h = absurd (false≢true (sym h ∙ e))
      by false e true f more h = rw (more_than (leaf_rank new.leaf) (leaf_rank x.leaf) f) refl
      by false e false f more h = rw (at_most (leaf_rank new.leaf) (leaf_rank x.leaf) f) (ap (λ z. x ∷ z) (more h))

  -- the place that was looked for
  pub place_of_leaf : (kept slice : List RecoveredLeaf) (r p : ℕ) → slice ≡ kept → r ≡ leaf_rank new.leaf → p ≡ put_place_told content r slice → p ≡ put_place_told content (leaf_rank new.leaf) kept
  place_of_leaf kept slice r p s e h = h ∙ ap (λ (n : ℕ). put_place_told content n slice) e ∙ ap (put_place_told content (leaf_rank new.leaf)) s

  pub set_there : (kept : List RecoveredLeaf) (p : ℕ) → p ≡ put_place_told content (leaf_rank new.leaf) kept → ends_at_told content p kept ≡ true → slice_set kept p new ≡ put_leaf_told content new kept
  set_there kept p e h = ap (λ (n : ℕ). slice_set kept n new) e ∙ set_at kept (subst (λ (n : ℕ). ends_at_told content n kept ≡ true) e h)

  pub inserted_there : (kept : List RecoveredLeaf) (p : ℕ) → p ≡ put_place_told content (leaf_rank new.leaf) kept → ends_at_told content p kept ≡ false → insert kept p new ≡ put_leaf_told content new kept
  inserted_there kept p e h = ap (λ (n : ℕ). insert kept n new) e ∙ insert_at kept (subst (λ (n : ℕ). ends_at_told content n kept ≡ false) e h)
