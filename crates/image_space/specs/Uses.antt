-- What stands in main LEBs, and for which heads the log names them.
use Rattle.std.specs.Prelude.{◌≡◌, ℕ, ◌+◌, ◌-◌, ◌<◌, ◌==◌, ◌&&◌, ◌||◌, not, Bool, true, false, if◌then◌else◌, List, fold, get_or, length}
use Rattle.std.specs.List.{find, range_with_len}
use Rattle.std.specs.Option.{option_map_or}
use Rattle.ubifs_base.specs.JournalHead.{head_number}
use Rattle.media_sys.specs.declared.branch.Branch.{Branch}
use Rattle.media_sys.specs.declared.ref_node.RefNode.{RefNode}
use Rattle.index_tree.specs.declared.leaf.Leaf.{Leaf}
use Rattle.image_space.specs.declared.leb_use.LebUse.{LebUse}

-- nothing stands in a LEB, and the log doesn't name it
abbrev pub unused : LebUse
unused = record { indexed = false; filled = false; named = false; for_others = false }

-- ---- what is known of the LEB of a number once one thing more was seen
-- a node of the index
abbrev pub node_seen : ℕ → LebUse → Branch → LebUse
node_seen lnum seen node = if node.lnum == lnum then record seen { indexed = true } else seen

-- a leaf
abbrev pub leaf_seen : ℕ → LebUse → Leaf → LebUse
leaf_seen lnum seen leaf = if leaf.lnum == lnum then record seen { filled = true } else seen

-- a reference, which may be for another head than the collector's, that of number 0
abbrev pub reference_seen : ℕ → LebUse → RefNode → LebUse
reference_seen lnum seen node =
    if node.lnum == lnum then record seen { named = true; for_others = seen.for_others || not (head_number node.head == 0) } else seen

-- all of a list
abbrev pub nodes_seen : List Branch → ℕ → LebUse → LebUse
nodes_seen nodes lnum seen = fold (node_seen lnum) seen nodes

abbrev pub leaves_seen : List Leaf → ℕ → LebUse → LebUse
leaves_seen leaves lnum seen = fold (leaf_seen lnum) seen leaves

abbrev pub references_seen : List RefNode → ℕ → LebUse → LebUse
references_seen references lnum seen = fold (reference_seen lnum) seen references

-- the marks of a LEB
abbrev pub use_of : List Branch → List RefNode → List Leaf → ℕ → LebUse
use_of nodes references leaves lnum = references_seen references lnum (leaves_seen leaves lnum (nodes_seen nodes lnum unused))

-- of LEBs, the first of which has this number, each one's marks were changed so
pub record AreMarked (first : ℕ) (mark : ℕ → LebUse → LebUse) (old new : List LebUse) : Type 0 where
  pub len : length new ≡ length old
  pub marks : (at : ℕ) → at < length old → get_or new at unused ≡ mark (first + at) (get_or old at unused)

-- these are the marks of so many LEBs
pub record AreUses (first count : ℕ) (nodes : List Branch) (references : List RefNode) (leaves : List Leaf) (uses : List LebUse) : Type 0 where
  pub len : length uses ≡ count
  pub marks : (at : ℕ) → at < count → get_or uses at unused ≡ use_of nodes references leaves (first + at)

-- ---- what marks tell
-- whether neither the index nor a leaf stands in a LEB
abbrev pub is_bare_use : LebUse → Bool
is_bare_use leb = not leb.indexed && not leb.filled

-- whether nothing stands in a LEB that the log names for the collector alone
abbrev pub is_vain_use : LebUse → Bool
is_vain_use leb = is_bare_use leb && (leb.named && not leb.for_others)

-- the marks of a LEB by its number
abbrev pub use_in : ℕ → List LebUse → ℕ → LebUse
use_in first uses lnum = get_or uses (lnum - first) unused

abbrev pub is_indexed_in : ℕ → List LebUse → ℕ → Bool
is_indexed_in first uses lnum = (use_in first uses lnum).indexed

abbrev pub is_vain_in : ℕ → List LebUse → ℕ → Bool
is_vain_in first uses lnum = is_vain_use (use_in first uses lnum)

-- whether it counts as empty: nothing stands there, and the log doesn't name it, or it is the lowest that was opened in vain
abbrev pub counts_in : ℕ → List LebUse → ℕ → Bool
counts_in first uses lnum =
    is_bare_use (use_in first uses lnum)
    && (not (use_in first uses lnum).named || option_map_or (λ n. n == lnum) (find (is_vain_in first uses) (range_with_len first (length uses))) false)
