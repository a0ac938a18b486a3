-- What a mount may read after a cut: parts that fit a view of the store.
use Rattle.std.specs.Prelude.{◌≡◌, ◌⊎◌, ℕ, ◌-◌, ◌≤◌, ◌==◌, ◌&&◌, IsTrue, not, Bool, true, false, if◌then◌else◌, List, [], ◌∷◌, ◌++◌, length, map, take, get_or, Option, Some, None}
use Rattle.std.specs.List.{flat_map, list_all, list_any}
use Rattle.fs_model.specs.declared.change.Change.{Change}
use Rattle.fs_model.specs.declared.change.Change.TheVariants.{SetInode, SetBlock}
use Rattle.fs_model.specs.Orphan.{is_nameless}
use Rattle.fs_model.specs.Path.{is_empty}
use Rattle.fs_model.specs.Recovery.{Head, KeepsSynced, as_replayed, taken}
use Rattle.leaf_map.specs.After.{is_gone}
use Rattle.leaf_map.specs.Allowed.{sets_inode}
use Rattle.leaf_map.specs.Kept.{Kept, Placed, shown_by}
use Rattle.leaf_map.specs.LeafMap.{shows_same}
use Rattle.leaf_map.specs.Kept.{shown}
use Rattle.leaf_map.specs.Parts.{Committed, Named, Parts, own_node, shows_nothing}
use Rattle.store_model.specs.Heads.{copies_of, heads_of, synced_since}
use Rattle.store_model.specs.Lebs.{is_among}
use Rattle.store_model.specs.Store.{Bud, Carried, Next, Store, View}

-- What a master leads to: its view, how many groups, or copies, of each head since then are synced, and the lists of orphans that may be on the medium with it.
pub record Faced : Type 0 where
  pub view : View
  pub synced : List ℕ
  pub lists : List (List ℕ)

-- the list of a running commit may be there before its master is
abbrev pub next_lists : Option Next → List (List ℕ)
next_lists None = []
next_lists (Some next) = if next.offered then next.listed ∷ [] else []

-- the last finished commit's master
abbrev pub faced_now : Store → Faced
faced_now m = record { view = m.now; synced = m.synced; lists = m.listed ∷ next_lists m.next }

-- the running commit's, once it is offered
abbrev pub faced_next : Store → Option Next → List Faced
faced_next m None = []
faced_next m (Some next) =
    if next.offered then (record { view = next.view; synced = synced_since m next; lists = next.listed ∷ [] }) ∷ [] else []

-- what the latest master may lead to after a cut
abbrev pub faces : Store → List Faced
faces m = faced_now m ∷ faced_next m m.next

-- ---- what the heads leave
-- what the log says of a bud
abbrev pub named_by_log : Bud → Named
named_by_log bud = record { head = bud.head; lnum = bud.lnum; from = bud.from }

-- nothing was put to a bud
abbrev pub is_unused : Bud → Bool
is_unused bud = is_empty bud.groups && is_empty bud.copies

-- the buds, but for a last one to which nothing was put: its reference may not be there yet
abbrev pub buds_but_last : List Bud → List Bud
buds_but_last [] = []
buds_but_last (bud ∷ []) = if is_unused bud then [] else bud ∷ []
buds_but_last (bud ∷ next ∷ buds) = bud ∷ buds_but_last (next ∷ buds)

-- the nodes of groups, in order
abbrev pub nodes_of_groups : List (List Carried) → List Placed
nodes_of_groups groups = flat_map (λ group. map (λ c. c.placed) group) groups

-- the nodes of the first groups of heads 1 and 2, so many, in the order of the log
abbrev pub read_nodes : List Bud → ℕ → ℕ → List Placed
read_nodes [] base other = []
read_nodes (bud ∷ buds) base other =
    if bud.head == 1 then nodes_of_groups (take base bud.groups) ++ read_nodes buds (base - length bud.groups) other
    else if bud.head == 2 then nodes_of_groups (take other bud.groups) ++ read_nodes buds base (other - length bud.groups)
    else read_nodes buds base other

-- ---- leaves whose LEB was emptied
-- the inode of a leaf that is an inode's or a block's
abbrev pub is_of_listed : List ℕ → Option Change → Bool
is_of_listed list (Some (SetInode ino inode)) = is_among list ino
is_of_listed list (Some (SetBlock ino number bytes)) = is_among list ino
is_of_listed list shown = false

-- whatever a cut leaves of the groups, they touch what the leaf shows
abbrev pub IsTouchedBy : List Head → Kept → Type 0
IsTouchedBy heads x = (counts : List ℕ) → KeepsSynced heads counts → list_any (λ c. is_gone (as_replayed c.1) x) (taken heads counts) ≡ true

-- each list that may be there has the leaf's inode
abbrev pub AreOfListed : List (List ℕ) → Kept → Type 0
AreOfListed [] x = Unit {0}
AreOfListed (list ∷ lists) x = IsTrue (is_of_listed list (shown_by x)) × AreOfListed lists x

-- whatever a cut leaves of the groups, they set no inode of this number
abbrev pub IsUnset : List Head → ℕ → Type 0
IsUnset heads ino = (counts : List ℕ) → KeepsSynced heads counts → list_all (λ c. not (sets_inode ino (as_replayed c.1))) (taken heads counts) ≡ true

-- an inode has no name in the committed tree, and gets none
abbrev pub StaysNameless : Faced → ℕ → Type 0
StaysNameless f ino = (is_nameless f.view.tree ino ≡ true) × IsUnset (heads_of f.view.buds f.synced) ino

-- that is so of a leaf's inode
abbrev pub IsOfNameless : Faced → Option Change → Type 0
IsOfNameless f (Some (SetInode ino inode)) = StaysNameless f ino
IsOfNameless f (Some (SetBlock ino number bytes)) = StaysNameless f ino
IsOfNameless f shown = ⊥

-- a copy of the leaf's node is synced
abbrev pub has_copy : Faced → Kept → Bool
has_copy f x = list_any (λ c. (c.sqnum == x.sqnum) && shows_same (shown_by x) (shown c.node)) (take (get_or f.synced 0 0) (copies_of f.view.buds))

-- A committed leaf that needn't stand any more: a copy of it is synced, or synced groups make it obsolete, or its inode stays without a name and each list of orphans has it.
abbrev pub IsLeafLeft : Faced → Kept → Type 0
IsLeafLeft f x = IsTrue (has_copy f x) ⊎ IsTouchedBy (heads_of f.view.buds f.synced) x ⊎ (AreOfListed f.lists x × IsOfNameless f (shown_by x))

-- each leaf of a LEB needn't
abbrev pub AreLeavesLeft : Faced → ℕ → List Kept → Type 0
AreLeavesLeft f lnum [] = Unit {0}
AreLeavesLeft f lnum (x ∷ kept) = (x.leaf.lnum ≡ lnum → IsLeafLeft f x) × AreLeavesLeft f lnum kept

-- ---- what fits
-- a committed leaf as it was read has its own node
abbrev pub HasOwn : List Named → Committed → Kept → Type 0
HasOwn named c x = (own : Placed) × (own_node named c ≡ Some own) × (own.node ≡ x.node) × (own.sqnum ≡ x.sqnum)

-- or it has none, and no node of its key stands at its place that shows nothing: no store writes one
abbrev pub HasOwnOrNone : List Named → Committed → Kept → Type 0
HasOwnOrNone named c x = HasOwn named c x ⊎ ((own_node named c ≡ None) × (shows_nothing named c ≡ false))

-- the committed leaves as they were read: each has its own node or none
abbrev pub AreLeavesCommitted : List Named → List Committed → List Kept → Type 0
AreLeavesCommitted named [] [] = Unit {0}
AreLeavesCommitted named [] (x ∷ kept) = ⊥
AreLeavesCommitted named (c ∷ committed) [] = ⊥
AreLeavesCommitted named (c ∷ committed) (x ∷ kept) = (c.leaf ≡ x.leaf) × HasOwnOrNone named c x × AreLeavesCommitted named committed kept

-- each leaf of a LEB has its own node
abbrev pub AreOwn : List Named → ℕ → List Committed → List Kept → Type 0
AreOwn named lnum (c ∷ committed) (x ∷ kept) = (x.leaf.lnum ≡ lnum → HasOwn named c x) × AreOwn named lnum committed kept
AreOwn named lnum committed kept = Unit {0}

-- one of the lists
abbrev pub IsOneOfLists : List (List ℕ) → List ℕ → Type 0
IsOneOfLists [] list = ⊥
IsOneOfLists (first ∷ lists) list = (list ≡ first) ⊎ IsOneOfLists lists list

-- What was read fits what a master leads to: its index, its buds, of each head first groups with all that are synced, and a list of orphans. Of each LEB all committed leaves have their own node, or none needs to.
pub record FitsFaced (f : Faced) (parts : Parts) : Type 0 where
  pub highest : parts.highest ≡ f.view.highest
  pub named : (parts.named ≡ map named_by_log f.view.buds) ⊎ (parts.named ≡ map named_by_log (buds_but_last f.view.buds))
  pub base : ℕ
  pub data_groups : ℕ
  pub keeps : KeepsSynced (heads_of f.view.buds f.synced) (0 ∷ base ∷ data_groups ∷ [])
  pub nodes : parts.nodes ≡ read_nodes f.view.buds base data_groups
  pub copies : ℕ
  pub synced_copies : get_or f.synced 0 0 ≤ copies
  pub copies_are : parts.copies ≡ take copies (copies_of f.view.buds)
  pub committed : AreLeavesCommitted parts.named parts.committed f.view.kept
  pub lebs : (lnum : ℕ) → AreOwn parts.named lnum parts.committed f.view.kept ⊎ AreLeavesLeft f lnum f.view.kept
  pub listed : IsOneOfLists f.lists parts.listed

-- what was read fits a store
abbrev pub FitsAny : List Faced → Parts → Type 0
FitsAny [] parts = ⊥
FitsAny (f ∷ faced) parts = FitsFaced f parts ⊎ FitsAny faced parts

abbrev pub FitsStore : Store → Parts → Type 0
FitsStore m parts = FitsAny (faces m) parts
