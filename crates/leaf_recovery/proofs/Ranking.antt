-- Leaves in the order of their keys, and what a node makes of those of one place.
use Rattle.std.proofs.Common.{◌≡◌, ◌<◌, ◌≤◌, ℕ, Bool, true, false, cond, not, List, [], ◌∷◌, ◌++◌, refl, sym, ap, subst, ◌∙◌, arith}
use Rattle.std.specs.Prelude.{filter, nat_le}
use Rattle.std.specs.BTreeMap.{is_at}
use Rattle.std.specs.Ordering.{nat_cmp}
use Rattle.std.specs.declared.alloc.Global.{Global}
use Rattle.std.specs.declared.vec.Vec.{Vec}
use Rattle.std.proofs.lemmas.Bool.{false≢true, leb-true, leb-false}
use Rattle.fs_laws.specs.Orders.{numbers}
use Rattle.index_tree.specs.Order.{leaf_rank}
use Rattle.journal_scan.specs.declared.node_content.NodeContent.{NodeContent}
use Rattle.leaf_recovery.specs.declared.recovered_leaf.RecoveredLeaf.{RecoveredLeaf}
use Rattle.leaf_recovery.specs.Applied.{put_leaf_told, without_ended}
use Rattle.leaf_recovery.specs.Ranked.{AreInKeyOrder, HasKeyShown, is_between, leaves_with_rank}
use Rattle.leaf_recovery.specs.Things.{ends_told}
use Rattle.leaf_recovery.proofs.Seeing.{at_itself, at_same}

-- the leaves of a map's entries, in order
abbrev pub joined_entries : List (ℕ × Vec RecoveredLeaf Global) → List RecoveredLeaf
joined_entries [] = []
joined_entries (e ∷ entries) = e.1.items ++ joined_entries entries

-- ---- places
pub same_place : (a b : ℕ) → is_at (nat_cmp a) b ≡ true → a ≡ b
same_place a b h = at_same nat_cmp numbers a b h

pub at_place : (a b : ℕ) → a ≡ b → is_at (nat_cmp a) b ≡ true
at_place a b e = at_itself nat_cmp numbers a b e

pub no_place : (a b : ℕ) → (a ≡ b → ⊥) → is_at (nat_cmp a) b ≡ false
no_place a b f = by (is_at (nat_cmp a) b) refl
  where
    by : (t : Bool) → is_at (nat_cmp a) b ≡ t → t ≡ false
    by false e = refl
    by true e = absurd (f (same_place a b e))

other_place : (a b : ℕ) → is_at (nat_cmp a) b ≡ false → a ≡ b → ⊥
other_place a b h e = false≢true (sym h ∙ at_place a b e)

-- ---- leaves in order
pub lower : (low low' : ℕ) (leaves : List RecoveredLeaf) → low' ≤ low → AreInKeyOrder low leaves → AreInKeyOrder low' leaves
lower low low' [] le h = tt
lower low low' (x ∷ leaves) le h = (h.0, omega (arith, le, h.1), h.2)

pub none_below : (r low : ℕ) (leaves : List RecoveredLeaf) → r < low → AreInKeyOrder low leaves → leaves_with_rank r leaves ≡ []
none_below r low [] l h = refl
none_below r low (x ∷ leaves) l h = by (is_at (nat_cmp (leaf_rank x.leaf)) r) refl (none_below r (leaf_rank x.leaf) leaves (omega (arith, l, h.1)) h.2)
  where
    by : (t : Bool) → is_at (nat_cmp (leaf_rank x.leaf)) r ≡ t → leaves_with_rank r leaves ≡ [] → cond t (x ∷ leaves_with_rank r leaves) (leaves_with_rank r leaves) ≡ []
    by false e more = more
    by true e more = let same = same_place (leaf_rank x.leaf) r e in absurd (omega (arith, same, l, h.1))

pub order_left : (p : RecoveredLeaf → Bool) (low : ℕ) (leaves : List RecoveredLeaf) → AreInKeyOrder low leaves → AreInKeyOrder low (filter p leaves)
order_left p low [] h = tt
order_left p low (x ∷ leaves) h = by (p x) (order_left p (leaf_rank x.leaf) leaves h.2)
  where
    by : (t : Bool) → AreInKeyOrder (leaf_rank x.leaf) (filter p leaves) → AreInKeyOrder low (cond t (x ∷ filter p leaves) (filter p leaves))
    by true more = (h.0, h.1, more)
    by false more = lower (leaf_rank x.leaf) low (filter p leaves) h.1 more

-- ---- a leaf that is put
module _ (content : NodeContent) (new : RecoveredLeaf) (own : HasKeyShown new) (ends : (x : RecoveredLeaf) → HasKeyShown x → ends_told content x.content ≡ true → leaf_rank x.leaf ≡ leaf_rank new.leaf) where
  pub put_in_order : (low : ℕ) (leaves : List RecoveredLeaf) → low ≤ leaf_rank new.leaf → AreInKeyOrder low leaves → AreInKeyOrder low (put_leaf_told content new leaves)
  put_in_order low [] le h = (own, le, tt)
  put_in_order low (x ∷ leaves) le h = by (ends_told content x.content) refl (nat_le (leaf_rank x.leaf) (leaf_rank new.leaf)) refl (λ l. put_in_order (leaf_rank x.leaf) leaves l h.2)
    where
      by : (a : Bool) → ends_told content x.content ≡ a → (b : Bool) → nat_le (leaf_rank x.leaf) (leaf_rank new.leaf) ≡ b
          → (leaf_rank x.leaf ≤ leaf_rank new.leaf → AreInKeyOrder (leaf_rank x.leaf) (put_leaf_told content new leaves))
          → AreInKeyOrder low (cond a (new ∷ leaves) (cond b (x ∷ put_leaf_told content new leaves) (new ∷ x ∷ leaves)))
      by true e b f more = let same = ends x h.0 e in (own, le, lower (leaf_rank x.leaf) (leaf_rank new.leaf) leaves (omega (arith, same)) h.2)
      by false e true f more = (h.0, h.1, more (leb-true (leaf_rank x.leaf) (leaf_rank new.leaf) f))
      by false e false f more = let less = leb-false (leaf_rank x.leaf) (leaf_rank new.leaf) f in (own, le, (h.0, omega (arith, less), h.2))

  -- at the place of its key
  put_here : (low : ℕ) (leaves : List RecoveredLeaf) → AreInKeyOrder low leaves → leaves_with_rank (leaf_rank new.leaf) (put_leaf_told content new leaves) ≡ put_leaf_told content new (leaves_with_rank (leaf_rank new.leaf) leaves)
  put_here low [] h = ap (λ (t : Bool). cond t (new ∷ []) []) (at_place (leaf_rank new.leaf) (leaf_rank new.leaf) refl)
  put_here low (x ∷ leaves) h = by (ends_told content x.content) refl (nat_le (leaf_rank x.leaf) (leaf_rank new.leaf)) refl (is_at (nat_cmp (leaf_rank x.leaf)) (leaf_rank new.leaf)) refl (put_here (leaf_rank x.leaf) leaves h.2)
    where
      r : ℕ
      r = leaf_rank new.leaf

      there : is_at (nat_cmp r) r ≡ true
      there = at_place r r refl

      by : (a : Bool) → ends_told content x.content ≡ a → (b : Bool) → nat_le (leaf_rank x.leaf) r ≡ b → (t : Bool) → is_at (nat_cmp (leaf_rank x.leaf)) r ≡ t
          → leaves_with_rank r (put_leaf_told content new leaves) ≡ put_leaf_told content new (leaves_with_rank r leaves)
          → leaves_with_rank r (cond a (new ∷ leaves) (cond b (x ∷ put_leaf_told content new leaves) (new ∷ x ∷ leaves)))
          ≡ put_leaf_told content new (cond t (x ∷ leaves_with_rank r leaves) (leaves_with_rank r leaves))
      by true e b f true g more = rw (there, e) refl
      by true e b f false g more = absurd (other_place (leaf_rank x.leaf) r g (ends x h.0 e))
      by false e true f true g more = rw (g, e, f) (ap (λ z. x ∷ z) more)
      by false e true f false g more = rw g more
      by false e false f true g more = let less = leb-false (leaf_rank x.leaf) r f in let same = same_place (leaf_rank x.leaf) r g in absurd (omega (arith, less, same))
      by false e false f false g more =
          let less = leb-false (leaf_rank x.leaf) r f in
          let none = none_below r (leaf_rank x.leaf) leaves less h.2 in
          rw (there, g, none) refl

  -- at another one
  put_elsewhere : (r : ℕ) → is_at (nat_cmp (leaf_rank new.leaf)) r ≡ false → (low : ℕ) (leaves : List RecoveredLeaf) → AreInKeyOrder low leaves → leaves_with_rank r (put_leaf_told content new leaves) ≡ leaves_with_rank r leaves
  put_elsewhere r away low [] h = rw away refl
  put_elsewhere r away low (x ∷ leaves) h = by (ends_told content x.content) refl (nat_le (leaf_rank x.leaf) (leaf_rank new.leaf)) (is_at (nat_cmp (leaf_rank x.leaf)) r) refl (put_elsewhere r away (leaf_rank x.leaf) leaves h.2)
    where
      by : (a : Bool) → ends_told content x.content ≡ a → (b t : Bool) → is_at (nat_cmp (leaf_rank x.leaf)) r ≡ t
          → leaves_with_rank r (put_leaf_told content new leaves) ≡ leaves_with_rank r leaves
          → leaves_with_rank r (cond a (new ∷ leaves) (cond b (x ∷ put_leaf_told content new leaves) (new ∷ x ∷ leaves))) ≡ cond t (x ∷ leaves_with_rank r leaves) (leaves_with_rank r leaves)
      by true e b true g more =
          let same = same_place (leaf_rank x.leaf) r g in
          let one = ends x h.0 e in
          absurd (other_place (leaf_rank new.leaf) r away (sym one ∙ same))
      by true e b false g more = rw away refl
      by false e true t g more = rw g (ap (λ (z : List RecoveredLeaf). cond t (x ∷ z) z) more)
      by false e false t g more = rw (away, g) refl

  pub put_at : (r low : ℕ) (leaves : List RecoveredLeaf) → AreInKeyOrder low leaves
      → cond (is_at (nat_cmp (leaf_rank new.leaf)) r) (put_leaf_told content new (leaves_with_rank r leaves)) (leaves_with_rank r leaves) ≡ leaves_with_rank r (put_leaf_told content new leaves)
  put_at r low leaves h = by (is_at (nat_cmp (leaf_rank new.leaf)) r) refl
    where
      by : (t : Bool) → is_at (nat_cmp (leaf_rank new.leaf)) r ≡ t → cond t (put_leaf_told content new (leaves_with_rank r leaves)) (leaves_with_rank r leaves) ≡ leaves_with_rank r (put_leaf_told content new leaves)
      by true e = subst (λ (n : ℕ). put_leaf_told content new (leaves_with_rank n leaves) ≡ leaves_with_rank n (put_leaf_told content new leaves)) (same_place (leaf_rank new.leaf) r e) (sym (put_here low leaves h))
      by false e = sym (put_elsewhere r e low leaves h)

-- ---- leaves that are dropped
both_filters : (p q : RecoveredLeaf → Bool) (leaves : List RecoveredLeaf) → filter p (filter q leaves) ≡ filter q (filter p leaves)
both_filters p q [] = refl
both_filters p q (x ∷ leaves) = by (p x) refl (q x) refl (both_filters p q leaves)
  where
    by : (a : Bool) → p x ≡ a → (b : Bool) → q x ≡ b → filter p (filter q leaves) ≡ filter q (filter p leaves)
        → filter p (cond b (x ∷ filter q leaves) (filter q leaves)) ≡ filter q (cond a (x ∷ filter p leaves) (filter p leaves))
    by true e true f more = rw (e, f) (ap (λ z. x ∷ z) more)
    by true e false f more = rw f more
    by false e true f more = rw e more
    by false e false f more = more

module _ (content : NodeContent) (first past : ℕ) (ends : (x : RecoveredLeaf) → HasKeyShown x → ends_told content x.content ≡ true → is_between first past (leaf_rank x.leaf) ≡ true) where
  all_stay : (r low : ℕ) (leaves : List RecoveredLeaf) → is_between first past r ≡ false → AreInKeyOrder low leaves → without_ended content (leaves_with_rank r leaves) ≡ leaves_with_rank r leaves
  all_stay r low [] away h = refl
  all_stay r low (x ∷ leaves) away h = by (is_at (nat_cmp (leaf_rank x.leaf)) r) refl (ends_told content x.content) refl (all_stay r (leaf_rank x.leaf) leaves away h.2)
    where
      by : (t : Bool) → is_at (nat_cmp (leaf_rank x.leaf)) r ≡ t → (a : Bool) → ends_told content x.content ≡ a
          → without_ended content (leaves_with_rank r leaves) ≡ leaves_with_rank r leaves
          → without_ended content (cond t (x ∷ leaves_with_rank r leaves) (leaves_with_rank r leaves)) ≡ cond t (x ∷ leaves_with_rank r leaves) (leaves_with_rank r leaves)
      by false g a e more = more
      by true g false e more = rw e (ap (λ z. x ∷ z) more)
      by true g true e more =
          let P : ℕ → Type 0 = λ n. is_between first past n ≡ true in
          absurd (false≢true (sym away ∙ subst P (same_place (leaf_rank x.leaf) r g) (ends x h.0 e)))

  pub dropped_at : (r low : ℕ) (leaves : List RecoveredLeaf) → AreInKeyOrder low leaves
      → cond (is_between first past r) (without_ended content (leaves_with_rank r leaves)) (leaves_with_rank r leaves) ≡ leaves_with_rank r (without_ended content leaves)
  dropped_at r low leaves h = by (is_between first past r) refl
    where
      turn : without_ended content (leaves_with_rank r leaves) ≡ leaves_with_rank r (without_ended content leaves)
      turn = both_filters (λ x. not (ends_told content x.content)) (λ x. is_at (nat_cmp (leaf_rank x.leaf)) r) leaves

      by : (t : Bool) → is_between first past r ≡ t → cond t (without_ended content (leaves_with_rank r leaves)) (leaves_with_rank r leaves) ≡ leaves_with_rank r (without_ended content leaves)
      by true e = turn
      by false e = sym (all_stay r low leaves e h) ∙ turn
