-- Leaves in order of what they show.
use Rattle.std.specs.Prelude.{◌≡◌, ◌⊎◌, ℕ, ◌+◌, ◌*◌, ◌^◌, ◌<◌, ⊤, IsFalse, List, [], ◌∷◌}
use Rattle.std.specs.List.{list_any}
use Rattle.ubifs_base.specs.R5.{r5_of}
use Rattle.tree_check.specs.Seen.{same_told}
use Rattle.tree_check.specs.declared.shown_leaf.Shown.{Shown}
use Rattle.tree_check.specs.declared.shown_leaf.Shown.TheVariants.{Inode, Entry, Block}
use Rattle.tree_check.specs.declared.shown_leaf.ShownLeaf.{ShownLeaf}

-- The place in the order of an inode, a block or a name: by the inode number in its key, then inodes before blocks and these before names,
-- then by number or hash. Else 0.
abbrev pub shown_rank : Shown → ℕ
shown_rank (Inode ino kind links) = ino * 2 ^ 34
shown_rank (Block ino block) = ino * 2 ^ 34 + (2 ^ 32 + block)
shown_rank (Entry dir name ino kind) = dir * 2 ^ 34 + (2 * 2 ^ 32 + r5_of name)
shown_rank other = 0

-- something has a place in the order, and what stands behind it has greater ones, up to the first that has; before that stands nothing
-- that is shown by it
abbrev pub IsAheadOf : Shown → List ShownLeaf → Type 0
IsAheadOf shown [] = 0 < shown_rank shown
IsAheadOf shown (y ∷ leaves) =
    ((0 < shown_rank shown) × (shown_rank shown < shown_rank y.shown))
    ⊎ ((shown_rank shown ≡ shown_rank y.shown) × IsFalse (same_told shown y.shown) × IsAheadOf shown leaves)

-- each of these leaves is ahead of those behind it
abbrev pub DoKeysGoUp : List ShownLeaf → Type 0
DoKeysGoUp [] = ⊤
DoKeysGoUp (x ∷ leaves) = IsAheadOf x.shown leaves × DoKeysGoUp leaves

-- none of these leaves shows what one before it shows
abbrev pub ShowNothingTwice : List ShownLeaf → Type 0
ShowNothingTwice [] = ⊤
ShowNothingTwice (x ∷ leaves) = IsFalse (list_any (λ y. same_told x.shown y.shown) leaves) × ShowNothingTwice leaves
