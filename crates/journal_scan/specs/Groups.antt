-- Groups of nodes, and which of them a first part of their nodes has.
use Rattle.std.specs.Prelude.{◌≡◌, ℕ, suc, ◌-◌, ◌==◌, nat_le, true, false, if◌then◌else◌, List, [], ◌∷◌, ◌++◌, length}
use Rattle.media_sys.specs.SystemNode.{SystemNode}
use Rattle.leb_scan.specs.Text.{StandsAt, system}
use Rattle.leb_scan.specs.declared.item.Item.{Item}
use Rattle.leb_scan.specs.declared.item.Item.TheVariants.{Node, Padding, Word}
use Rattle.leaf_map.specs.Kept.{Placed}
use Rattle.journal_scan.specs.declared.bud_text.BudText.{BudText}

-- These nodes are a group: each but the last one says that others follow.
abbrev pub IsGroup : List Placed → Type 0
IsGroup [] = ⊥
IsGroup (x ∷ []) = (x.group == 1) ≡ false
IsGroup (x ∷ y ∷ nodes) = ((x.group == 1) ≡ true) × IsGroup (y ∷ nodes)

-- the nodes of groups, one behind another
abbrev pub joined_groups : List (List Placed) → List Placed
joined_groups [] = []
joined_groups (group ∷ groups) = group ++ joined_groups groups

-- how many groups, from the first on, have all their nodes among the first so many nodes
abbrev pub groups_within : ℕ → List (List Placed) → ℕ
groups_within n [] = 0
groups_within n (group ∷ groups) = if nat_le (length group) n then suc (groups_within (n - length group) groups) else 0

-- these items are gaps, as a sync leaves them to the next unit
abbrev pub AreGaps : BudText → List Item → Type 0
AreGaps bud [] = Unit {0}
AreGaps bud (Node found ∷ items) = ⊥
AreGaps bud (Padding found pad_len ∷ items) = ((node : SystemNode) × StandsAt bud.bytes found.offs found (system node)) × AreGaps bud items
AreGaps bud (Word ∷ items) = AreGaps bud items
