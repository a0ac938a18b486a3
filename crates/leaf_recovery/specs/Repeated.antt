-- Which leaves show what one before them shows.
use Rattle.std.specs.Prelude.{◌≡◌, ◌⊎◌, ◌<◌, ⊤, IsFalse, if◌then◌else◌, List, [], ◌∷◌, ◌++◌}
use Rattle.std.specs.List.{list_any}
use Rattle.leaf_map.specs.Kept.{Kept, shown_by}
use Rattle.leaf_map.specs.LeafMap.{shows_same}
use Rattle.journal_scan.specs.declared.node_content.NodeContent.{NodeContent}
use Rattle.leaf_recovery.specs.declared.recovered_leaf.RecoveredLeaf.{RecoveredLeaf}
use Rattle.leaf_recovery.specs.Things.{rank_of_shown, shows_told}

-- those behind some leaves that show what one before them shows
abbrev pub repeated_behind : List Kept → List Kept → List Kept
repeated_behind before [] = []
repeated_behind before (x ∷ kept) =
    (if list_any (λ y. shows_same (shown_by y) (shown_by x)) before then x ∷ [] else []) ++ repeated_behind (x ∷ before) kept

-- those of all leaves
abbrev pub repeated_leaves : List Kept → List Kept
repeated_leaves kept = repeated_behind [] kept

-- the same by what is told
abbrev pub repeated_behind_told : List RecoveredLeaf → List RecoveredLeaf → List RecoveredLeaf
repeated_behind_told before [] = []
repeated_behind_told before (x ∷ kept) =
    (if list_any (λ y. shows_told y.content x.content) before then x ∷ [] else []) ++ repeated_behind_told (x ∷ before) kept

-- something has a key, and what stands behind it has greater ones, up to the first that has; before that stands nothing that is shown by it
abbrev pub IsFoundAhead : NodeContent → List RecoveredLeaf → Type 0
IsFoundAhead content [] = 0 < rank_of_shown content
IsFoundAhead content (y ∷ leaves) =
    ((0 < rank_of_shown content) × (rank_of_shown content < rank_of_shown y.content))
    ⊎ ((rank_of_shown content ≡ rank_of_shown y.content) × IsFalse (shows_told content y.content) × IsFoundAhead content leaves)

-- none of these leaves shows what one before it shows
abbrev pub RepeatNothing : List RecoveredLeaf → Type 0
RepeatNothing [] = ⊤
RepeatNothing (x ∷ leaves) = IsFalse (list_any (λ y. shows_told x.content y.content) leaves) × RepeatNothing leaves
