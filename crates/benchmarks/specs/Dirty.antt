-- An index of dirty nodes alone.
use Rattle.std.specs.Prelude.{ℕ, List}
use Rattle.index_cache.specs.Paged.{keyed_tree_of}
use Rattle.index_cache.specs.declared.paged.PagedIndex.{PagedIndex}
use Rattle.index_commit.specs.Standing.{AreOutside}

-- a clean node of the index would stand in any contents, and in no LEB: so there is none
abbrev pub AreAllDirty : PagedIndex → Type 0
AreAllDirty index = (contents : ℕ → List ℕ) (lebs : List ℕ) → AreOutside contents lebs (keyed_tree_of index)
