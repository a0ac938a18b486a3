-- Leaves by the places of their keys in the order, and of which leaves that tells what a node touches.
use Rattle.std.specs.Prelude.{◌≡◌, ℕ, ◌+◌, ◌/◌, ◌^◌, ◌≤◌, ◌<◌, ◌&&◌, nat_le, nat_lt, not, ⊤, IsTrue, Bool, true, false, List, [], ◌∷◌, ◌++◌, filter, Option, Some, None}
use Rattle.std.specs.BTreeMap.{BTreeMap, get, is_at}
use Rattle.std.specs.List.{AllByRecursion}
use Rattle.std.specs.Ordering.{nat_cmp}
use Rattle.std.specs.declared.alloc.Global.{Global}
use Rattle.std.specs.declared.vec.Vec.{Vec}
use Rattle.ubifs_base.specs.Key.{key_words}
use Rattle.ubifs_base.specs.R5.{r5_of}
use Rattle.ubifs_base.specs.declared.key.Key.TheVariants.{Ino, Block as BlockKey, Dent}
use Rattle.index_tree.specs.Order.{key_rank, leaf_rank}
use Rattle.journal_scan.specs.declared.journal_node.JournalNode.{JournalNode}
use Rattle.journal_scan.specs.declared.node_content.NodeContent.{NodeContent}
use Rattle.journal_scan.specs.declared.node_content.NodeContent.TheVariants.{Inode, Block, Entry, Truncation, Unknown}
use Rattle.leaf_recovery.specs.declared.recovered_leaf.RecoveredLeaf.{RecoveredLeaf}
use Rattle.leaf_recovery.specs.Things.{has_inode_told, rank_of_shown}

-- whether a number of a block has the 29 bits that a key has for it
abbrev pub fits_key : NodeContent → Bool
fits_key (Block ino number) = nat_lt number (2 ^ 29)
fits_key other = true

-- a leaf has the key of what it shows
abbrev pub HasKeyShown : RecoveredLeaf → Type 0
HasKeyShown x = (leaf_rank x.leaf ≡ rank_of_shown x.content) × IsTrue (fits_key x.content)

-- leaves have the keys of what they show, and these never fall, from a place in the order on
abbrev pub AreInKeyOrder : ℕ → List RecoveredLeaf → Type 0
AreInKeyOrder low [] = ⊤
AreInKeyOrder low (x ∷ leaves) = HasKeyShown x × (low ≤ leaf_rank x.leaf) × AreInKeyOrder (leaf_rank x.leaf) leaves

-- so do nodes
abbrev pub DoFitKeys : List JournalNode → Type 0
DoFitKeys nodes = AllByRecursion (λ n. IsTrue (fits_key n.content)) nodes

-- leaves by the places of their keys in the order
abbrev pub LeavesByRank : Type 0
LeavesByRank = BTreeMap ℕ (Vec RecoveredLeaf Global)

-- the leaves of a place
abbrev pub leaves_at_rank : LeavesByRank → ℕ → List RecoveredLeaf
leaves_at_rank ranked r = by (get nat_cmp ranked r)
  where
    by : Option (Vec RecoveredLeaf Global) → List RecoveredLeaf
    by None = []
    by (Some leaves) = leaves.items

-- those of some leaves whose key has a place
abbrev pub leaves_with_rank : ℕ → List RecoveredLeaf → List RecoveredLeaf
leaves_with_rank r leaves = filter (λ x. is_at (nat_cmp (leaf_rank x.leaf)) r) leaves

-- a leaf behind others, if it stands there
abbrev pub leaf_behind : Bool → RecoveredLeaf → List RecoveredLeaf → List RecoveredLeaf
leaf_behind true x leaves = leaves ++ x ∷ []
leaf_behind false x leaves = leaves

-- a map has these leaves, and they are in order
pub record AreByRank (ranked : LeavesByRank) (leaves : List RecoveredLeaf) : Type 0 where
  pub ordered : AreInKeyOrder 0 leaves
  pub at : (r : ℕ) → leaves_at_rank ranked r ≡ leaves_with_rank r leaves

-- the first place of what a node makes obsolete
abbrev pub first_ended : NodeContent → ℕ
first_ended (Inode ino linked) = key_rank (Ino ino)
first_ended (Block ino number) = key_rank (Ino ino)
first_ended (Entry dir name linked) = key_rank (Dent dir (r5_of name))
first_ended (Truncation ino size) = key_rank (BlockKey ino (size / 4096))
first_ended (Unknown key linked) = key_rank (Ino (key_words key).0)

-- the place behind the last
abbrev pub past_ended : NodeContent → ℕ
past_ended (Inode ino linked) = key_rank (Ino ino) + 2 ^ 30
past_ended (Block ino number) = key_rank (Ino ino) + 2 ^ 30
past_ended (Entry dir name linked) = key_rank (Dent dir (r5_of name)) + 1
past_ended (Truncation ino size) = key_rank (Ino ino) + 2 ^ 30
past_ended (Unknown key linked) = key_rank (Ino (key_words key).0) + 2 ^ 30

-- whether a place is from one on, and before another
abbrev pub is_between : ℕ → ℕ → ℕ → Bool
is_between first past r = nat_le first r && nat_lt r past

-- a place is before one that is looked for and not there, or that is found
abbrev pub IsBeforeFound : Option ℕ → ℕ → Type 0
IsBeforeFound None r = ⊤
IsBeforeFound (Some found) r = r < found

-- whether a node does nothing: a block of no inode
abbrev pub is_idle_ranked : LeavesByRank → NodeContent → Bool
is_idle_ranked ranked (Block ino number) = not (has_inode_told (leaves_at_rank ranked (key_rank (Ino ino))) ino)
is_idle_ranked ranked other = false
