-- When a store may do what: the condition of each event.
use Rattle.std.specs.Prelude.{◌≡◌, ◌⊎◌, ℕ, ◌+◌, ◌<◌, ◌≤◌, IsTrue, true, false, not, Bool, List, [], ◌∷◌, ◌++◌, length, map, Option, Some, None, is_some, nat_le, nat_lt, ◌==◌, ◌&&◌, ◌||◌, ◌-◌, drop, take, if◌then◌else◌}
use Rattle.std.specs.List.{flat_map, list_all, list_any, AllByRecursion}
use Rattle.std.specs.Option.{option_map}
use Rattle.ubifs_base.specs.declared.raw_geometry.RawGeometry.{RawGeometry}
use Rattle.media_leaf.specs.LeafNode.{IsLeaf}
use Rattle.media_lpt.specs.declared.leb_kind.LebKind.TheVariants as kind
use Rattle.index_tree.specs.Shape.{Shape, contents, node_count, shape_weight}
use Rattle.index_tree.specs.Listing.{ListedNode}
use Rattle.fs_model.specs.declared.space.Class.TheVariants.{Removal}
use Rattle.fs_model.specs.declared.space.Grant.{Grant}
use Rattle.fs_model.specs.declared.space.Need.{Need}
use Rattle.fs_model.specs.declared.change.Change.{Change}
use Rattle.fs_model.specs.declared.change.Change.TheVariants.{SetBlock}
use Rattle.fs_model.specs.Backing.{is_node}
use Rattle.fs_model.specs.Change.{apply}
use Rattle.fs_model.specs.Files.{Tree}
use Rattle.fs_model.specs.Journal.{base_head, data_head}
use Rattle.fs_model.specs.Proper.{IsProper}
use Rattle.fs_model.specs.Recovery.{Numbered}
use Rattle.fs_model.specs.Orphan.{all_drop_named, all_revive_none}
use Rattle.group_nodes.specs.Texts.{leaf_len}
use Rattle.leaf_map.specs.After.{ShowsChange}
use Rattle.leaf_map.specs.Kept.{Kept, Placed}
use Rattle.space_sums.specs.Spaces.{taken_lebs}
use Rattle.store_model.specs.Events.{after, after_part, Copying, credit, dirty_count, drop_inode, end_at, Event, Put, Open, Sync, Begin, Move, Free, Start, Write, Offer, End, Drop, granted, move, nodes_len, Part, Payment, put, Putting, reference_len}
use Rattle.store_model.specs.Heads.{changes_of, head_counts, numbered_group}
use Rattle.store_model.specs.Lebs.{has_role, IsStoreSettled, lent, role_count, space_of, stands_in}
use Rattle.store_model.specs.Store.{At, Carried, StoreIndex, Moving, Next, IndexNodePlace, Store}
use Rattle.store_model.specs.WrittenNodes.{rows_of, written_nodes}

-- ---- the index
-- this row stands at this place, among rows and their places
abbrev pub StandsBelow : Shape → IndexNodePlace → List Shape → List (Option IndexNodePlace) → Type 0
StandsBelow row place [] places = ⊥
StandsBelow row place (first ∷ rows) [] = ⊥
StandsBelow row place (first ∷ rows) (at ∷ places) = ((first ≡ row) × (at ≡ Some place)) ⊎ StandsBelow row place rows places

-- each node that has a place had it before, with all that is below it
abbrev pub KeepPlaces : StoreIndex → List Shape → List (Option IndexNodePlace) → Type 0
KeepPlaces old [] [] = Unit {0}
KeepPlaces old [] (at ∷ places) = ⊥
KeepPlaces old (row ∷ rows) [] = ⊥
KeepPlaces old (row ∷ rows) (None ∷ places) = KeepPlaces old rows places
KeepPlaces old (row ∷ rows) (Some place ∷ places) = StandsBelow row place (rows_of old.shape) old.places × KeepPlaces old rows places

-- a node that has a place has no child without one; these nodes wait for their parents, the last one first
abbrev pub are_placed_below : List (Option IndexNodePlace) → List ListedNode → List (Option IndexNodePlace) → Bool
are_placed_below waiting [] places = true
are_placed_below waiting (first ∷ nodes) [] = true
are_placed_below waiting (first ∷ nodes) (at ∷ places) =
    let others = length waiting - (if first.level == 0 then 0 else first.count) in
    (not (is_some at) || list_all (λ o. is_some o) (drop others waiting)) && are_placed_below (take others waiting ++ at ∷ []) nodes places

abbrev pub has_placed_children : StoreIndex → Bool
has_placed_children index = are_placed_below [] (written_nodes index.shape) index.places

-- The index of these leaves, after so many nodes were put: it weighs at most so much more, each node has a place or none yet, and one that changed has lost its place, as those above it.
pub record IsIndexAfter (m : Store) (nodes : ℕ) (live : List Kept) (index : StoreIndex) : Type 0 where
  pub contents_are : contents index.shape ≡ map (λ x. x.leaf) live
  pub weight : shape_weight m.geo.fanout index.shape ≤ shape_weight m.geo.fanout m.index.shape + nodes
  pub all : length index.places ≡ node_count index.shape
  pub places : KeepPlaces m.index (rows_of index.shape) index.places
  pub children : IsTrue (has_placed_children index)

-- ---- puts and copies
-- nodes stand one behind another
abbrev pub StandFrom : ℕ → ℕ → List Placed → Type 0
StandFrom lnum offs [] = Unit {0}
StandFrom lnum offs (placed ∷ nodes) =
    (placed.lnum ≡ lnum) × (placed.offs ≡ offs) × (placed.len ≡ leaf_len placed.node) × StandFrom lnum (offs + nodes_len (placed ∷ [])) nodes

-- they stand at the end of a head, which has room for them
abbrev pub FitHead : Store → Option At → List Placed → Type 0
FitHead m None nodes = ⊥
FitHead m (Some at) nodes = StandFrom at.lnum at.offs nodes × (at.offs + nodes_len nodes ≤ m.geo.leb_size)

-- The group types of the nodes that are left of a group: of none, of one alone, of those in its midst and of its last (`UBIFS_NO_NODE_GROUP`, `UBIFS_IN_NODE_GROUP`, `UBIFS_LAST_OF_NODE_GROUP` of ubifs-media.h).
abbrev pub AreInGroup : List Carried → Type 0
AreInGroup [] = ⊥
AreInGroup (c ∷ []) = c.placed.group ≡ 2
AreInGroup (c ∷ next ∷ group) = (c.placed.group ≡ 1) × AreInGroup (next ∷ group)

abbrev pub AreGroup : List Carried → Type 0
AreGroup [] = ⊥
AreGroup (c ∷ []) = c.placed.group ≡ 0
AreGroup (c ∷ next ∷ group) = AreInGroup (c ∷ next ∷ group)

-- a node of the grammar that carries its change
pub record IsCarried (c : Carried) : Type 0 where
  pub node : IsLeaf c.placed.node
  pub carries : ShowsChange c.change c.placed.node

-- no number is skipped: the first is the one behind the last that was given, and each is followed by the next
abbrev pub AreConsecutive : ℕ → Numbered → Type 0
AreConsecutive sqnum [] = Unit {0}
AreConsecutive sqnum (c ∷ changes) = (c.0 ≡ sqnum + 1) × AreConsecutive (sqnum + 1) changes

-- whether a change sets a block
abbrev pub is_block : Change → Bool
is_block (SetBlock ino block bytes) = true
is_block change = false

-- a group that leaves a proper tree: leaf nodes can carry its changes, it brings back no inode, and drops none without a name
pub record KeepsProper (tree : Tree) (group : List Change) : Type 0 where
  pub are_nodes : IsTrue (list_all is_node group)
  pub revives_none : IsTrue (all_revive_none tree group)
  pub drops : IsTrue (all_drop_named tree group)
  pub proper : IsProper (apply tree group)

-- A group that can be put: at the end of its head, with the next numbers. It leaves a proper tree. The base takes any group, the head of data takes blocks alone.
pub record IsLegalPart (m : Store) (part : Part) : Type 0 where
  pub head : (part.head ≡ base_head) ⊎ (part.head ≡ data_head)
  pub data_nodes : part.head ≡ data_head → IsTrue (list_all is_block (changes_of part.group))
  pub group : AreGroup part.group
  pub numbers : AreConsecutive m.sqnum (numbered_group part.group)
  pub carried : AllByRecursion IsCarried part.group
  pub fits : FitHead m (end_at m.ends part.head) (map (λ c. c.placed) part.group)
  pub keeps : KeepsProper m.tree (changes_of part.group)

abbrev pub AreLegalParts : Store → List Part → Type 0
AreLegalParts m [] = Unit {0}
AreLegalParts m (part ∷ parts) = IsLegalPart m part × AreLegalParts (after_part m part) parts

-- the nodes of a put
abbrev pub nodes_of_parts : List Part → List Placed
nodes_of_parts parts = flat_map (λ part. map (λ c. c.placed) part.group) parts

-- what was granted to a group, as the need that was admitted
abbrev pub need_of_grant : Grant → Need
need_of_grant grant = record { credits = 0; bytes = grant.bytes; nodes = grant.nodes; class = Removal }

-- two nodes are paid by a credit, others by what was granted
abbrev pub IsPaid : Store → Payment → List Placed → Type 0
IsPaid m credit nodes = (1 ≤ m.credits) × (length nodes ≤ 2) × (nodes_len nodes ≤ 4304)
IsPaid m granted nodes = (grant : Grant) × (m.grant ≡ Some grant) × (length nodes ≤ grant.nodes) × (nodes_len nodes ≤ grant.bytes)

pub record CanPut (m : Store) (p : Putting) : Type 0 where
  pub parts : AreLegalParts m p.parts
  pub paid : IsPaid m p.payment (nodes_of_parts p.parts)
  pub index : IsIndexAfter m (length (nodes_of_parts p.parts)) (put p m).live p.index
  pub settled : IsStoreSettled (put p m)

-- ---- other events
-- how many LEBs of the log one goes on from one to another, round the ring
abbrev pub log_steps : RawGeometry → ℕ → ℕ → ℕ
log_steps geo from leb = if nat_lt leb from then leb + geo.log_lebs - from else leb - from

-- how many LEBs of the log its sections have
abbrev pub log_count : Store → ℕ
log_count m = log_steps m.geo m.now.section m.log.leb + 1

-- how many LEBs of the log are kept: one for a mount's section, and one for the next section while no commit runs
abbrev pub kept_lebs : Option ℕ → ℕ
kept_lebs None = 2
kept_lebs (Some section) = 1

-- where the section of a running commit starts
abbrev pub next_section : Store → Option ℕ
next_section m = option_map (λ next. next.view.section) m.next

-- The log has room for a reference: in its last LEB, or in a further one that isn't kept.
abbrev pub has_log_room : Store → Bool
has_log_room m = if nat_le (m.log.offs + reference_len m.geo) m.geo.leb_size then true else nat_lt (log_count m + kept_lebs (next_section m)) m.geo.log_lebs

pub record CanOpen (m : Store) (head lnum : ℕ) : Type 0 where
  pub head_is : head < 3
  pub empty : IsTrue (has_role kind.Free m.lebs lnum)
  pub log : IsTrue (has_log_room m)
  pub settled : IsStoreSettled (after (Open head lnum) m)

pub record CanBegin (m : Store) (victim : ℕ) : Type 0 where
  pub idle : m.moving ≡ None
  pub leaf_leb : IsTrue (has_role kind.Leaf m.lebs victim)

-- a collection is under way, of a LEB with this
abbrev pub IfMoving : Store → (Moving → Type 0) → Type 0
IfMoving m P = by m.moving
  where
    by : Option Moving → Type 0
    by None = ⊥
    by (Some moving) = P moving

-- a leaf, with its node and number, is one of these
abbrev pub IsLeafOf : List Kept → Kept → Type 0
IsLeafOf [] x = ⊥
IsLeafOf (first ∷ kept) x = (first ≡ x) ⊎ IsLeafOf kept x

-- The leaf is live and stands in the victim, and the copy is its node with its number, at the end of head 0.
pub record CanMove (m : Store) (c : Copying) : Type 0 where
  pub live : IsLeafOf m.live c.leaf
  pub victim : IfMoving m (λ moving. c.leaf.leaf.lnum ≡ moving.victim)
  pub node_is : c.copy.node ≡ c.leaf.node
  pub sqnum : c.copy.sqnum ≡ c.leaf.sqnum
  pub fits : FitHead m (end_at m.ends 0) (c.copy ∷ [])
  pub index : IsIndexAfter m 0 (move c m).live c.index

-- all groups and copies are synced, and nothing is held
pub record IsAllSynced (m : Store) : Type 0 where
  pub counts : m.synced ≡ head_counts m.now.buds
  pub none_held : m.held ≡ []
  pub orphans : IsTrue (list_all (λ orphan. orphan.synced) m.orphans)

pub record CanFree (m : Store) : Type 0 where
  pub synced : IsAllSynced m
  pub empty : IfMoving m (λ moving. IsTrue (not (list_any (stands_in moving.victim) m.live)))

-- a number stands once at most
abbrev pub are_distinct : List ℕ → Bool
are_distinct [] = true
are_distinct (n ∷ numbers) = not (list_any (λ k. k == n) numbers) && are_distinct numbers

-- All is synced, and no LEB is lent to a collection. It takes as many empty LEBs as the index asks for, one more is there, and the log has one for the section beside that for a mount's.
pub record CanStart (m : Store) (taken : List ℕ) : Type 0 where
  pub idle : m.next ≡ None
  -- the leaves copied so far would be committed in that LEB, and the others in the victim, so neither came back
  pub unlent : lent m.moving ≡ 0
  pub synced : IsAllSynced m
  pub empty : IsTrue (list_all (has_role kind.Free m.lebs) taken)
  pub distinct : IsTrue (are_distinct taken)
  pub count : length taken ≡ taken_lebs m.geo (space_of m) (node_count m.index.shape) (dirty_count m.index.places)
  pub spare : length taken < role_count kind.Free m.lebs
  pub log : log_count m + kept_lebs None ≤ m.geo.log_lebs

-- a commit runs, and this is so of it
abbrev pub IfRunning : Store → (Next → Type 0) → Type 0
IfRunning m P = by m.next
  where
    by : Option Next → Type 0
    by None = ⊥
    by (Some next) = P next

-- an open inode without a name
abbrev pub is_orphan : Store → ℕ → Bool
is_orphan m ino = list_any (λ orphan. orphan.ino == ino) m.orphans

pub record CanDrop (m : Store) (ino : ℕ) (index : StoreIndex) : Type 0 where
  pub orphan : IsTrue (is_orphan m ino)
  pub number : 1 ≤ ino
  pub index_is : IsIndexAfter m 0 (drop_inode ino index m).live index

abbrev pub IsLegalEvent : Store → Event → Type 0
IsLegalEvent m (Put p) = CanPut m p
IsLegalEvent m (Open head lnum) = CanOpen m head lnum
IsLegalEvent m Sync = Unit {0}
IsLegalEvent m (Begin victim) = CanBegin m victim
IsLegalEvent m (Move c) = CanMove m c
IsLegalEvent m Free = CanFree m
IsLegalEvent m (Start taken) = CanStart m taken
IsLegalEvent m Write = IfRunning m (λ next. next.written < length next.taken)
IsLegalEvent m Offer = IfRunning m (λ next. (next.written ≡ length next.taken) × (next.offered ≡ false))
IsLegalEvent m End = IfRunning m (λ next. next.offered ≡ true)
IsLegalEvent m (Drop ino index) = CanDrop m ino index

-- each event may come where it does
abbrev pub AreEventsLegal : Store → List Event → Type 0
AreEventsLegal m [] = Unit {0}
AreEventsLegal m (event ∷ events) = IsLegalEvent m event × AreEventsLegal (after event m) events
