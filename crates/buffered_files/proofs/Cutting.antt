-- What a cut may leave of several calls, one after another, in front of a backing.
use Rattle.std.proofs.Common.{◌≡◌, ℕ, List, [], sym, subst}
use Rattle.fs_model.specs.declared.change.Change.{Change}
use Rattle.fs_model.specs.declared.space.Need.{Need}
use Rattle.fs_model.specs.Backing.{BackingState, granted, given_back}
use Rattle.fs_model.specs.Journal.{Leaves}
use Rattle.buffered_files.specs.declared.kept.Kept.{Kept}
use Rattle.buffered_files.specs.Alike.{IsAlike}
use Rattle.buffered_files.specs.CutLaws.{Puts-among, Puts-last, Puts-nothing, Puts-then}
use Rattle.buffered_files.specs.Cuts.{GroupFate, PutsSeen, PutsSeenWith, ValuesOf}
use Rattle.buffered_files.specs.Present.{IsKept, present}
use Rattle.buffered_files.proofs.Applied.{agrees_of}
use Rattle.buffered_files.proofs.PlaceValues.{alike_among, alike_with, present_ordered}

-- pages were put after others, and callers saw the same files
pub seen_then : (old now new : BackingState) (kept still : Kept) → IsKept old.tree kept → IsKept now.tree still → IsAlike (present old.tree kept) (present now.tree still) → PutsSeen old now kept → PutsSeen now new still → PutsSeen old new kept
seen_then old now new kept still is fits same first second =
    let files = present old.tree kept in
    let more = present now.tree still in
    Puts-then (ValuesOf files.tree) old.journal now.journal new.journal first
    (Puts-among (ValuesOf more.tree) (ValuesOf files.tree) now.journal new.journal (alike_among files more (agrees_of files more same) (present_ordered old.tree kept is) (present_ordered now.tree still fits)) second)

-- nothing more was put
pub nothing_then : (old now new : BackingState) (kept : Kept) → PutsSeen old now kept → Leaves now.journal new.journal [] → PutsSeen old new kept
nothing_then old now new kept first cut = let values = ValuesOf (present old.tree kept).tree in Puts-then values old.journal now.journal new.journal first (Puts-nothing values now.journal new.journal cut)

-- credits were covered after it
pub seen_granted : (old now new : BackingState) (kept : Kept) (need : Need) → PutsSeen old now kept → new ≡ granted now need → PutsSeen old new kept
seen_granted old now new kept need first same = subst (λ (s : BackingState). PutsSeen old s kept) (sym same) first

-- or were given back
pub with_given : (old now new : BackingState) (kept : Kept) (group : List Change) (fate : GroupFate) (credits : ℕ) → PutsSeenWith old now kept group fate → new ≡ given_back now credits → PutsSeenWith old new kept group fate
with_given old now new kept group fate credits first same = subst (λ (s : BackingState). PutsSeenWith old s kept group fate) (sym same) first

-- a group was put after pages
pub group_then : (old now new : BackingState) (kept still : Kept) (group : List Change) (fate : GroupFate) → IsKept old.tree kept → IsKept now.tree still
    → IsAlike (present old.tree kept) (present now.tree still) → PutsSeen old now kept → PutsSeenWith now new still group fate → PutsSeenWith old new kept group fate
group_then old now new kept still group fate is fits same first second =
    let files = present old.tree kept in
    let seen = present now.tree still in
    let order = present_ordered old.tree kept is in
    let later = present_ordered now.tree still fits in
    Puts-last files.tree seen.tree group fate old.journal now.journal new.journal (alike_among files seen (agrees_of files seen same) order later) (alike_with files seen group (agrees_of files seen same) order later) first second
