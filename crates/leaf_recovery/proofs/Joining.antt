-- The leaves of all places, one behind another, are the leaves in order.
use Rattle.std.proofs.Common.{append-nil, ◌≡◌, ◌<◌, ◌≤◌, ℕ, suc, length, Bool, true, false, cond, List, [], ◌∷◌, ◌++◌, refl, sym, ap, ◌∙◌, arith, Option, Some, None}
use Rattle.std.specs.Prelude.{nat_le}
use Rattle.std.specs.BTreeMap.{is_at, IsOrdered}
use Rattle.std.specs.List.{AllByRecursion}
use Rattle.std.specs.List.Sorted.{IsStrictlySortedBy}
use Rattle.std.specs.Map.{keys_of, lookup}
use Rattle.std.specs.Ordering.{nat_cmp, MatchOrdering}
use Rattle.std.specs.Cmp.{ranks}
use Rattle.std.specs.declared.alloc.Global.{Global}
use Rattle.std.specs.declared.cmp.Ordering.{Ordering}
use Rattle.std.specs.declared.cmp.Ordering.TheVariants.{Less, Equal, Greater}
use Rattle.std.specs.declared.vec.Vec.{Vec}
use Rattle.std.proofs.lemmas.Bool.{false≢true, leb-true, leb-false}
use Rattle.std.proofs.lemmas.Map.Keys.{sorted_head, sorted_tail}
use Rattle.index_tree.specs.Order.{leaf_rank}
use Rattle.leaf_recovery.specs.declared.recovered_leaf.RecoveredLeaf.{RecoveredLeaf}
use Rattle.leaf_recovery.specs.Ranked.{AreByRank, AreInKeyOrder, LeavesByRank, leaves_at_rank, leaves_with_rank}
use Rattle.leaf_recovery.proofs.Ranking.{at_place, joined_entries, no_place, none_below, same_place}

-- the leaves of a place among entries
abbrev items_of : Option (Vec RecoveredLeaf Global) → List RecoveredLeaf
items_of None = []
items_of (Some leaves) = leaves.items

abbrev entries_at : List (ℕ × Vec RecoveredLeaf Global) → ℕ → List RecoveredLeaf
entries_at entries r = items_of (lookup (is_at (nat_cmp r)) entries)

at_rank_is : (ranked : LeavesByRank) (r : ℕ) → leaves_at_rank ranked r ≡ entries_at ranked.entries r
at_rank_is ranked r = by (lookup (is_at (nat_cmp r)) ranked.entries) refl
  where
    by : (o : Option (Vec RecoveredLeaf Global)) → lookup (is_at (nat_cmp r)) ranked.entries ≡ o → leaves_at_rank ranked r ≡ items_of o
    by None e = rw e refl
    by (Some v) e = rw e refl

less_is : (a b : ℕ) → nat_cmp a b ≡ Less → a < b
less_is a b h = by (nat_cmp a b) (ranks a b) h
  where
    by : (o : Ordering) → MatchOrdering o (a < b) (a ≡ b) (b < a) → o ≡ Less → a < b
    by Less m e = m
    by Equal m e = absurd cc
    by Greater m e = absurd cc

-- no entry has a place that isn't past this one
none_there : (k r : ℕ) (entries : List (ℕ × Vec RecoveredLeaf Global)) → AllByRecursion (λ y. nat_cmp k y ≡ Less) (keys_of entries) → r ≤ k → entries_at entries r ≡ []
none_there k r [] h l = refl
none_there k r (e ∷ entries) h l =
    let past = less_is k e.0 h.0 in
    rw (no_place r e.0 (λ (same : r ≡ e.0). omega (arith, same, past, l))) (none_there k r entries h.1 l)

-- the leaves behind a place
abbrev leaves_past : ℕ → List RecoveredLeaf → List RecoveredLeaf
leaves_past k [] = []
leaves_past k (x ∷ leaves) = cond (nat_le (leaf_rank x.leaf) k) (leaves_past k leaves) (x ∷ leaves)

past_ordered : (k low : ℕ) (leaves : List RecoveredLeaf) → AreInKeyOrder low leaves → AreInKeyOrder (suc k) (leaves_past k leaves)
past_ordered k low [] h = tt
past_ordered k low (x ∷ leaves) h = by (nat_le (leaf_rank x.leaf) k) refl (past_ordered k (leaf_rank x.leaf) leaves h.2)
  where
    by : (t : Bool) → nat_le (leaf_rank x.leaf) k ≡ t → AreInKeyOrder (suc k) (leaves_past k leaves) → AreInKeyOrder (suc k) (cond t (leaves_past k leaves) (x ∷ leaves))
    by true e more = more
    by false e more = let less = leb-false (leaf_rank x.leaf) k e in (h.0, omega (arith, less), h.2)

past_with : (k r : ℕ) (leaves : List RecoveredLeaf) → k < r → leaves_with_rank r (leaves_past k leaves) ≡ leaves_with_rank r leaves
past_with k r [] l = refl
past_with k r (x ∷ leaves) l = by (nat_le (leaf_rank x.leaf) k) refl (past_with k r leaves l)
  where
    by : (t : Bool) → nat_le (leaf_rank x.leaf) k ≡ t → leaves_with_rank r (leaves_past k leaves) ≡ leaves_with_rank r leaves
        → leaves_with_rank r (cond t (leaves_past k leaves) (x ∷ leaves)) ≡ cond (is_at (nat_cmp (leaf_rank x.leaf)) r) (x ∷ leaves_with_rank r leaves) (leaves_with_rank r leaves)
    by true e more =
        let le = leb-true (leaf_rank x.leaf) k e in
        rw (no_place (leaf_rank x.leaf) r (λ (same : leaf_rank x.leaf ≡ r). omega (arith, same, le, l))) more
    by false e more = refl

-- leaves none of which is before a place are those of the place, and those behind it
parted : (k low : ℕ) (leaves : List RecoveredLeaf) → AreInKeyOrder low leaves → ((r : ℕ) → r < k → leaves_with_rank r leaves ≡ []) → leaves_with_rank k leaves ++ leaves_past k leaves ≡ leaves
parted k low [] h none = refl
parted k low (x ∷ leaves) h none = by (is_at (nat_cmp (leaf_rank x.leaf)) k) refl (nat_le (leaf_rank x.leaf) k) refl (parted k (leaf_rank x.leaf) leaves h.2)
  where
    by : (t : Bool) → is_at (nat_cmp (leaf_rank x.leaf)) k ≡ t → (b : Bool) → nat_le (leaf_rank x.leaf) k ≡ b
        → (((r : ℕ) → r < k → leaves_with_rank r leaves ≡ []) → leaves_with_rank k leaves ++ leaves_past k leaves ≡ leaves)
        → cond t (x ∷ leaves_with_rank k leaves) (leaves_with_rank k leaves) ++ cond b (leaves_past k leaves) (x ∷ leaves) ≡ x ∷ leaves
    by true g true e more =
        let same = same_place (leaf_rank x.leaf) k g in
        ap (λ z. x ∷ z) (more (λ r l. sym (ap (λ (t : Bool). cond t (x ∷ leaves_with_rank r leaves) (leaves_with_rank r leaves)) (no_place (leaf_rank x.leaf) r (λ (one : leaf_rank x.leaf ≡ r). omega (arith, same, one, l)))) ∙ none r l))
    by true g false e more =
        let same = same_place (leaf_rank x.leaf) k g in
        let less = leb-false (leaf_rank x.leaf) k e in
        absurd (omega (arith, same, less))
    by false g false e more =
        let less = leb-false (leaf_rank x.leaf) k e in
        rw (none_below k (leaf_rank x.leaf) leaves less h.2) refl
    by false g true e more =
        let le = leb-true (leaf_rank x.leaf) k e in
        let here : leaves_with_rank (leaf_rank x.leaf) (x ∷ leaves) ≡ x ∷ leaves_with_rank (leaf_rank x.leaf) leaves = rw (at_place (leaf_rank x.leaf) (leaf_rank x.leaf) refl) refl in
        absurd (filled x (leaves_with_rank (leaf_rank x.leaf) leaves) (sym here ∙ none (leaf_rank x.leaf) (before (leaf_rank x.leaf) k le (λ (same : leaf_rank x.leaf ≡ k). false≢true (sym g ∙ at_place (leaf_rank x.leaf) k same)))))
      where
        filled : (y : RecoveredLeaf) (ys : List RecoveredLeaf) → y ∷ ys ≡ [] → ⊥
        filled y ys h = absurd cc

        before : (a b : ℕ) → a ≤ b → (a ≡ b → ⊥) → a < b
        before a b le other = omega (arith, le, other)

joined_is : (entries : List (ℕ × Vec RecoveredLeaf Global)) (low : ℕ) (leaves : List RecoveredLeaf) → IsStrictlySortedBy nat_cmp (keys_of entries) → AreInKeyOrder low leaves
    → ((r : ℕ) → entries_at entries r ≡ leaves_with_rank r leaves) → joined_entries entries ≡ leaves
joined_is [] low [] s h at = refl
joined_is [] low (x ∷ leaves) s h at =
    absurd (filled x (leaves_with_rank (leaf_rank x.leaf) leaves) (sym (ap (λ (t : Bool). cond t (x ∷ leaves_with_rank (leaf_rank x.leaf) leaves) (leaves_with_rank (leaf_rank x.leaf) leaves)) (at_place (leaf_rank x.leaf) (leaf_rank x.leaf) refl)) ∙ sym (at (leaf_rank x.leaf))))
  where
    filled : (y : RecoveredLeaf) (ys : List RecoveredLeaf) → y ∷ ys ≡ [] → ⊥
    filled y ys h = absurd cc
joined_is (e ∷ entries) low leaves s h at =
    ap (λ (z : List RecoveredLeaf). z ++ joined_entries entries) here
    ∙ ap (λ (z : List RecoveredLeaf). leaves_with_rank e.0 leaves ++ z) (joined_is entries (suc e.0) (leaves_past e.0 leaves) (sorted_tail nat_cmp e.0 (keys_of entries) s) (past_ordered e.0 low leaves h) left)
    ∙ parted e.0 low leaves h before
  where
    head : AllByRecursion (λ y. nat_cmp e.0 y ≡ Less) (keys_of entries)
    head = sorted_head nat_cmp e.0 (keys_of entries) s

    passed : (r : ℕ) → (r ≡ e.0 → ⊥) → entries_at (e ∷ entries) r ≡ entries_at entries r
    passed r other = rw (no_place r e.0 other) refl

    here : e.1.items ≡ leaves_with_rank e.0 leaves
    here = sym (ap (λ (t : Bool). items_of (cond t (Some e.1) (lookup (is_at (nat_cmp e.0)) entries))) (at_place e.0 e.0 refl)) ∙ at e.0

    before : (r : ℕ) → r < e.0 → leaves_with_rank r leaves ≡ []
    before r l = sym (at r) ∙ passed r (λ (same : r ≡ e.0). omega (arith, same, l)) ∙ none_there e.0 r entries head (omega (arith, l))

    left : (r : ℕ) → entries_at entries r ≡ leaves_with_rank r (leaves_past e.0 leaves)
    left r = by (nat_le r e.0) refl
      where
        by : (t : Bool) → nat_le r e.0 ≡ t → entries_at entries r ≡ leaves_with_rank r (leaves_past e.0 leaves)
        by true f =
            let le = leb-true r e.0 f in
            none_there e.0 r entries head le ∙ sym (none_below r (suc e.0) (leaves_past e.0 leaves) (omega (arith, le)) (past_ordered e.0 low leaves h))
        by false f =
            let past = leb-false r e.0 f in
            sym (passed r (λ (same : r ≡ e.0). omega (arith, same, past))) ∙ at r ∙ sym (past_with e.0 r leaves past)

pub all_joined : (joined : List RecoveredLeaf) (left entries : List (ℕ × Vec RecoveredLeaf Global)) → joined ++ joined_entries left ≡ joined_entries entries → (0 < length left → false ≡ true) → joined ≡ joined_entries entries
all_joined joined [] entries h none = sym (append-nil joined) ∙ h
all_joined joined (e ∷ left) entries h none = absurd (false≢true (none (omega arith)))

pub joined_by_rank : (ranked : LeavesByRank) (leaves : List RecoveredLeaf) → IsOrdered nat_cmp ranked → AreByRank ranked leaves → joined_entries ranked.entries ≡ leaves
joined_by_rank ranked leaves s h = joined_is ranked.entries 0 leaves s h.ordered (λ r. sym (at_rank_is ranked r) ∙ h.at r)
