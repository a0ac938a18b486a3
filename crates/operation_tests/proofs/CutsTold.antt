-- What callers over any backing need of its clauses on cuts.
use Rattle.std.proofs.Common.{◌≡◌, ℕ, ◌+◌, ◌≤◌, [], inl, inr, refl, subst, sym, arith, List, Option, Some, None}
use Rattle.fs_model.specs.declared.change.Change.{Change}
use Rattle.fs_model.specs.Backing.{FitsOrphans}
use Rattle.fs_model.specs.Files.{Tree}
use Rattle.fs_model.specs.Journal.{Medium, IfTold, IsJournalOf, MayLeave}
use Rattle.fs_model.specs.Orphan.{without_nameless}

-- a cut now may leave the tree, where the journal is told
pub tree_left : (running : Option ℕ) (left nodes later : ℕ) (medium : Option Medium) (tree : Tree)
    → IfTold (record { running = running; left = left; nodes = nodes; later = later; medium = medium }) (IsJournalOf tree)
    → IfTold (record { running = running; left = left; nodes = nodes; later = later; medium = medium })
    (λ _. MayLeave (record { running = running; left = left; nodes = nodes; later = later; medium = medium }) (without_nameless tree))
tree_left running left nodes later None tree told = tt
tree_left running left nodes later (Some medium) tree told = (medium.heads, refl, told.left)

-- where fewer orphans are closed there is room for no fewer
pub orphans_still : (tree : Tree) (closed after limit : ℕ) (group : List Change) → after ≤ closed → FitsOrphans tree closed limit group → FitsOrphans tree after limit group
orphans_still tree closed after limit group fewer (inl few) = inl few
orphans_still tree closed after limit group fewer (inr room) = inr (omega (arith, fewer, room))
