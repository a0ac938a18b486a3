-- A clean row whose nodes stand is a stored row, and a clean index a stored index.
use Rattle.std.proofs.Common.{◌≡◌, ℕ, true, List, refl, ap, sym, ◌∙◌, subst, arith}
use Rattle.std.specs.Prelude.{◌==◌, Option, None, Some, slice_get}
use Rattle.std.proofs.lemmas.Bool.Decides.{nat_tests}
use Rattle.index_tree.specs.Levels.{levelled}
use Rattle.index_tree.specs.Shape.{Shape, count, fits, is_whole}
use Rattle.index_media.specs.Clean.{is_clean_row, node_branch, placed_of}
use Rattle.index_media.specs.KeyedKeys.{AreKeysBounded}
use Rattle.index_media.specs.KeyedRow.{KeyedRow, no_more, leaf_in, node_in, bare}
use Rattle.index_media.specs.PlacedRow.{Stretch, ended, node_at, branches_of}
use Rattle.index_media.specs.Standing.{AreStandingAs}
use Rattle.media_sys.specs.declared.branch.Branch.{Branch}
use Rattle.index_commit.specs.Written.{IsRootOf}
use Rattle.node_cache.specs.CleanRows.{row_bounded, row_plain, row_stored}

-- ---- a whole index
none_behind : (rest : KeyedRow) → count (bare rest) ≡ 0 → rest ≡ no_more
none_behind no_more h = refl
none_behind (leaf_in x rest) h = absurd (omega (arith, h))
none_behind (node_in key place children rest) h = absurd (omega (arith, h))

-- what the frozen index is
pub record IsFrozenIndex (f : ℕ) (row : KeyedRow) : Type 0 where
  pub clean : is_clean_row row ≡ true
  pub fits : fits f (bare row) ≡ true
  pub whole : is_whole (bare row) ≡ true
  pub levels : (level : ℕ) × (levelled level (bare row) ≡ true)
  pub bounded : AreKeysBounded 0 None row

pub root_of : (contents : ℕ → List ℕ) (P : Stretch → ℕ → ℕ → Type 0) (f : ℕ) (row : KeyedRow) → IsFrozenIndex f row → AreStandingAs contents P row → (root : Option Branch)
    → root ≡ slice_get (branches_of (placed_of row)) 0 → IsRootOf contents f row root
root_of contents P f no_more is h None e = refl
root_of contents P f no_more is h (Some root) e = absurd cc
root_of contents P f (leaf_in x rest) is h root e = let none = is.whole in absurd cc
root_of contents P f (node_in key place children rest) is h None e = absurd cc
root_of contents P f (node_in key place children rest) is h (Some root) e =
    let row = node_in key place children rest in
    let none : (count (bare rest) == 0) ≡ true = is.whole in
    let behind : rest ≡ no_more = none_behind rest (grind (arith, nat_tests, none)) in
    let first : root ≡ node_branch key place = cc in
    let F : Shape → Type 0 = λ s. fits f s ≡ true in
    record {
      children = placed_of children;
      whole = ap (λ (r : KeyedRow). node_at (node_branch key place) (placed_of children) (placed_of r)) behind ∙ ap (λ (b : Branch). node_at b (placed_of children) ended) (sym first);
      levels = is.levels.0;
      stored = row_stored contents P f is.levels.0 row is.clean is.fits is.levels.1 h;
      fits = subst F (sym (row_plain row)) is.fits;
      bounded = row_bounded 0 None row is.clean is.bounded;
    }
