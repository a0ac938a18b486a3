-- Rows of which all nodes are clean: what they are on a medium, if their nodes stand there.
use Rattle.std.proofs.Common.{◌≡◌, ℕ, ◌-◌, ◌<◌, true, false, List, refl, ap, sym, ◌∙◌, subst, arith}
use Rattle.std.specs.Prelude.{◌==◌, ◌&&◌, nat_lt, Bool, Option, None, Some, is_some}
use Rattle.std.proofs.lemmas.Bool.Decides.{nat_tests}
use Rattle.ubifs_base.specs.declared.key.Key.{Key}
use Rattle.index_tree.specs.Levels.{levelled}
use Rattle.index_tree.specs.Order.{key_rank, leaf_rank}
use Rattle.index_tree.specs.Shape.{Shape, done, leaf, node, count, fits}
use Rattle.index_media.specs.Clean.{is_clean_row, node_branch, placed_of}
use Rattle.index_media.specs.InsertionSound.{fit_node}
use Rattle.index_media.specs.KeyedKeys.{key_before, AreKeysBounded}
use Rattle.index_media.specs.KeyedRow.{KeyedRow, no_more, leaf_in, node_in, bare, all_clean}
use Rattle.index_media.specs.Keys.{bound_before, AreBounded}
use Rattle.index_media.specs.PlacedRow.{PlacedRow, ended, leaf_at, node_at, Stretch, branches_of, plain}
use Rattle.index_media.specs.Standing.{AreStandingAs}
use Rattle.index_media.specs.Stored.{AreStored, IsIndexNodeAt}

-- ---- tests of both
pub and_left : (a b : Bool) → (a && b) ≡ true → a ≡ true
and_left true b h = refl
and_left false b h = absurd cc

pub and_right : (a b : Bool) → (a && b) ≡ true → b ≡ true
and_right true b h = h
and_right false b h = absurd cc

-- ---- clean rows
-- a clean node of a row, what is below it, and what is behind it
pub clean_node : (key : Key) (place : Option Stretch) (children rest : KeyedRow) → is_clean_row (node_in key place children rest) ≡ true
    → (is_some place ≡ true) × (is_clean_row children ≡ true) × (is_clean_row rest ≡ true)
clean_node key place children rest h =
    let more = and_right (is_some place) (is_clean_row children && is_clean_row rest) h in
    (and_left (is_some place) (is_clean_row children && is_clean_row rest) h, and_left (is_clean_row children) (is_clean_row rest) more, and_right (is_clean_row children) (is_clean_row rest) more)

-- a row that stands on a medium is clean
pub all_is_clean : (row : PlacedRow) → is_clean_row (all_clean row) ≡ true
all_is_clean ended = refl
all_is_clean (leaf_at x rest) = all_is_clean rest
all_is_clean (node_at branch children rest) = rw (all_is_clean children, all_is_clean rest) refl

-- and has the places that it has there
pub placed_again : (row : PlacedRow) → placed_of (all_clean row) ≡ row
placed_again ended = refl
placed_again (leaf_at x rest) = ap (leaf_at x) (placed_again rest)
placed_again (node_at branch children rest) = rw (placed_again children, placed_again rest) refl

-- ---- levels
-- what levels say of a node of a row
pub levels_node : (high : ℕ) (c rest : Shape) → levelled high (node c rest) ≡ true → (0 < high) × (levelled (high - 1) c ≡ true) × (levelled high rest ≡ true)
levels_node high c rest h =
    let both = and_left (nat_lt 0 high && levelled (high - 1) c) (levelled high rest) h in
    let above : nat_lt 0 high ≡ true = and_left (nat_lt 0 high) (levelled (high - 1) c) both in
    (grind (arith, nat_tests, above), and_right (nat_lt 0 high) (levelled (high - 1) c) both, and_right (nat_lt 0 high && levelled (high - 1) c) (levelled high rest) h)

pub levels_leaf : (high : ℕ) (b : Bool) → ((high == 0) && b) ≡ true → (high ≡ 0) × (b ≡ true)
levels_leaf high b h =
    let none : (high == 0) ≡ true = and_left (high == 0) b h in
    (grind (arith, nat_tests, none), and_right (high == 0) b h)

-- leaves stand on one level
pub one_level : (f a b : ℕ) (s : Shape) → fits f s ≡ true → 0 < count s → levelled a s ≡ true → levelled b s ≡ true → a ≡ b
one_level f a b done g some h k = absurd (omega (arith, some))
one_level f a b (leaf x rest) g some h k = (levels_leaf a (levelled a rest) h).0 ∙ sym (levels_leaf b (levelled b rest) k).0
one_level f a b (node c rest) g some h k =
    let fit = fit_node f c rest g in
    let one = levels_node a c rest h in
    let other = levels_node b c rest k in
    let first = one.0 in
    let second = other.0 in
    let below = one_level f (a - 1) (b - 1) c fit.children fit.least one.1 other.1 in
    omega (arith, below, first, second)

-- ---- a clean row whose nodes stand is a stored row
pub row_stored : (contents : ℕ → List ℕ) (P : Stretch → ℕ → ℕ → Type 0) (f levels : ℕ) (row : KeyedRow) → is_clean_row row ≡ true → fits f (bare row) ≡ true → levelled levels (bare row) ≡ true
    → AreStandingAs contents P row → AreStored contents levels (placed_of row)
unfolding AreStored
row_stored contents P f levels no_more c g l h = tt
row_stored contents P f levels (leaf_in x rest) c g l h =
    let here = levels_leaf levels (levelled levels (bare rest)) l in
    (here.0, row_stored contents P f levels rest c g here.1 h)
row_stored contents P f levels (node_in key None children rest) c g l h = let none = (clean_node key None children rest c).0 in absurd cc
row_stored contents P f levels (node_in key (Some s) children rest) c g l h =
    let parts = clean_node key (Some s) children rest c in
    let fit = fit_node f (bare children) (bare rest) g in
    let here = levels_node levels (bare children) (bare rest) l in
    let same = one_level f h.0.level (levels - 1) (bare children) fit.children fit.least h.0.levels here.1 in
    let N : ℕ → Type 0 = λ n. IsIndexNodeAt contents (node_branch key (Some s)) (record { level = n; branches = branches_of (placed_of children) }) in (
      here.0,
      subst N same h.0.node,
      row_stored contents P f (levels - 1) children parts.1 fit.children here.1 h.1,
      row_stored contents P f levels rest parts.2 fit.others here.2 h.2,
    )

-- ---- its keys
before_placed : (rest : KeyedRow) (most : Option ℕ) → is_clean_row rest ≡ true → bound_before (placed_of rest) most ≡ key_before rest most
before_placed no_more most c = refl
before_placed (leaf_in x rest) most c = refl
before_placed (node_in key None children rest) most c = refl
before_placed (node_in key (Some s) children rest) most c = refl

pub row_bounded : (least : ℕ) (most : Option ℕ) (row : KeyedRow) → is_clean_row row ≡ true → AreKeysBounded least most row → AreBounded least most (placed_of row)
row_bounded least most no_more c h = tt
row_bounded least most (leaf_in x rest) c h = (h.0, h.1, row_bounded (leaf_rank x) most rest c h.2)
row_bounded least most (node_in key None children rest) c h = let none = (clean_node key None children rest c).0 in absurd cc
row_bounded least most (node_in key (Some s) children rest) c h =
    let parts = clean_node key (Some s) children rest c in
    let P : Option ℕ → Type 0 = λ m. AreBounded (key_rank key) m (placed_of children) in (
      h.0,
      h.1,
      subst P (sym (before_placed rest most parts.2)) (row_bounded (key_rank key) (key_before rest most) children parts.1 h.2),
      row_bounded (key_rank key) most rest parts.2 h.3,
    )

-- ---- its shape
pub row_plain : (row : KeyedRow) → plain (placed_of row) ≡ bare row
row_plain no_more = refl
row_plain (leaf_in x rest) = ap (leaf x) (row_plain rest)
row_plain (node_in key place children rest) = rw (row_plain children, row_plain rest) refl
