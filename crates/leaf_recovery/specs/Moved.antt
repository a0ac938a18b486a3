-- The fourth step of recovery, by what is told: originals or copies, by LEB.
use Rattle.std.specs.Prelude.{ℕ, ◌==◌, ◌&&◌, ◌||◌, not, is_some, Bool, if◌then◌else◌, List, map, Option, Some, None}
use Rattle.std.specs.BTreeMap.{is_at}
use Rattle.std.specs.List.{find, list_all}
use Rattle.std.specs.Ordering.{nat_cmp}
use Rattle.media_sys.specs.declared.ref_node.RefNode.{RefNode}
use Rattle.journal_scan.specs.declared.journal_node.JournalNode.{JournalNode}
use Rattle.leaf_recovery.specs.declared.recovered_leaf.RecoveredLeaf.{RecoveredLeaf}
use Rattle.leaf_recovery.specs.Named.{is_named_told}
use Rattle.leaf_recovery.specs.Things.{leaf_told, shows_told}

-- the copy of a leaf's node, which has its number
abbrev pub copy_of_told : List JournalNode → RecoveredLeaf → Option JournalNode
copy_of_told copies x = find (λ c. (c.sqnum == x.sqnum) && shows_told x.content c.content) copies

-- whether each leaf of a LEB has a copy
abbrev pub is_copied_told : List JournalNode → List RecoveredLeaf → ℕ → Bool
is_copied_told copies kept lnum = list_all (λ x. not (x.leaf.lnum == lnum) || is_some (copy_of_told copies x)) kept

-- a leaf at a copy, if there is one
abbrev pub moved_to_copy : RecoveredLeaf → Option JournalNode → RecoveredLeaf
moved_to_copy x None = x
moved_to_copy x (Some copy) = record x { leaf = leaf_told copy }

-- a leaf where it stands at last
abbrev pub moved_told : List RefNode → List JournalNode → List RecoveredLeaf → RecoveredLeaf → RecoveredLeaf
moved_told references copies kept x =
    if not (is_named_told references x.leaf.lnum) && is_copied_told copies kept x.leaf.lnum then moved_to_copy x (copy_of_told copies x) else x

-- all leaves where they stand at last
abbrev pub all_moved_told : List RefNode → List JournalNode → List RecoveredLeaf → List RecoveredLeaf
all_moved_told references copies kept = map (moved_told references copies kept) kept

-- whether this is a leaf of a LEB without a copy
abbrev pub is_bare_told : List JournalNode → ℕ → RecoveredLeaf → Bool
is_bare_told copies lnum x = is_at (nat_cmp x.leaf.lnum) lnum && not (is_some (copy_of_told copies x))

-- a leaf at its copy, unless its LEB is named or stays
abbrev pub moved_unless : List RefNode → List JournalNode → (ℕ → Bool) → RecoveredLeaf → RecoveredLeaf
moved_unless references copies stays x =
    if is_named_told references x.leaf.lnum || stays x.leaf.lnum then x else moved_to_copy x (copy_of_told copies x)
