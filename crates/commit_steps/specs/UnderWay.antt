-- A commit of which some steps are done, and other work beside it.
use Rattle.std.specs.Prelude.{ℕ, List, ◌++◌}
use Rattle.index_media.specs.KeyedRow.{KeyedRow}
use Rattle.index_media.specs.PlacedRow.{Stretch}
use Rattle.index_media.specs.Standing.{AreStandingAs}
use Rattle.ubi_volume.specs.Frame.{IsSameLeb}
use Rattle.ubi_volume.specs.Volume.{VolumeState, Leaves, Only}
use Rattle.index_cache.specs.Paged.{frozen_of, keyed_tree_of}
use Rattle.index_cache.specs.declared.paged.PagedIndex.{PagedIndex}
use Rattle.index_commit.specs.Lebs.{AreLebsApart, IsGiven}
use Rattle.index_commit.specs.Standing.{AreOutside}

-- a place is in one of these LEBs
abbrev pub IsWithinLebs : List ℕ → Stretch → ℕ → ℕ → Type 0
IsWithinLebs lebs place number group = IsGiven lebs place.lnum

-- each clean node of a row stands in contents, in one of these LEBs
abbrev pub AreWithinLebs : (ℕ → List ℕ) → List ℕ → KeyedRow → Type 0
AreWithinLebs contents lebs row = AreStandingAs contents (IsWithinLebs lebs) row

-- of each of these LEBs a cut leaves what it holds
abbrev pub AreSettledLebs : VolumeState → List ℕ → Type 0
AreSettledLebs state lebs = (k : ℕ) → IsGiven lebs k → Only (state.holds k) (state.left_now k)

-- the clean nodes of the index that is seen stand in these LEBs, which are settled
pub record IsSeenWithin (state : VolumeState) (lebs : List ℕ) (index : PagedIndex) : Type 0 where
  pub settled : AreSettledLebs state lebs
  pub seen : AreWithinLebs state.holds lebs (keyed_tree_of index)

-- A commit is under way: what is frozen of the index is written, one LEB after another. The clean nodes of the frozen index, and of the one that is
-- seen, stand in LEBs that were kept when it began, or were given since. All of these are settled. But for the given ones, no LEB has nodes of the
-- index that is seen and none of the frozen one
pub record IsCommitUnderWay (state : VolumeState) (kept given : List ℕ) (index : PagedIndex) : Type 0 where
  pub settled : AreSettledLebs state (given ++ kept)
  pub frozen : AreWithinLebs state.holds (given ++ kept) (frozen_of index)
  pub seen : AreWithinLebs state.holds (given ++ kept) (keyed_tree_of index)
  pub shared : (others : List ℕ) → AreLebsApart given others → AreOutside state.holds others (frozen_of index) → AreOutside state.holds others (keyed_tree_of index)

-- Work beside these LEBs: each is as it was, and a cut at any moment leaves of it what it might have left before
pub record WorksBeside (old new : VolumeState) (lebs : List ℕ) : Type 0 where
  pub same : (k : ℕ) → IsGiven lebs k → IsSameLeb old new k
  pub time : Leaves old new (λ c. (k : ℕ) → IsGiven lebs k → old.left_now k (c k))
