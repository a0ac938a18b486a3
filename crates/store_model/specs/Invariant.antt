-- What is always so of a store.
use Rattle.std.specs.Prelude.{◌≡◌, ◌⊎◌, ℕ, ◌+◌, ◌≤◌, ◌==◌, ◌&&◌, ◌||◌, nat_le, IsTrue, not, Bool, true, false, if◌then◌else◌, List, [], ◌∷◌, ◌++◌, length, map, get_or, Option, Some, None}
use Rattle.std.specs.List.{flat_map, list_all, list_any, range_with_len, AllByRecursion}
use Rattle.std.specs.Option.{option_map_or, option_or}
use Rattle.std.specs.Ordering.{nat_cmp}
use Rattle.ubifs_base.specs.declared.raw_geometry.RawGeometry.{RawGeometry}
use Rattle.ubifs_base.specs.Areas.{main_first, main_lebs}
use Rattle.ubifs_base.specs.Geometry.{IsGeometry}
use Rattle.ubifs_base.specs.Key.{key_words}
use Rattle.media_leaf.specs.LeafNode.{IsLeaf}
use Rattle.media_lpt.specs.declared.leb_kind.LebKind.{LebKind}
use Rattle.media_lpt.specs.declared.leb_kind.LebKind.TheVariants as kind
use Rattle.index_tree.specs.Distinct.{AreDistinct}
use Rattle.index_tree.specs.Shape.{contents, node_count, shape_weight}
use Rattle.fs_model.specs.declared.change.Change.{Change}
use Rattle.fs_model.specs.declared.change.Change.TheVariants.{SetInode}
use Rattle.fs_model.specs.Cover.{index_lebs}
use Rattle.fs_model.specs.Files.{Tree}
use Rattle.fs_model.specs.Orphan.{is_nameless, nameless, without_nameless}
use Rattle.fs_model.specs.Proper.{IsProper, ascends}
use Rattle.fs_model.specs.Recovery.{IsRecovered, Numbered, recovered, taken}
use Rattle.leaf_map.specs.After.{is_gone}
use Rattle.leaf_map.specs.Allowed.{HasInode, sets_inode}
use Rattle.leaf_map.specs.Kept.{Kept, kept_at, Placed, shown, shown_by}
use Rattle.leaf_map.specs.LeafMap.{IsLeafMap, shows_same}
use Rattle.leaf_map.specs.Parts.{in_bud}
use Rattle.leaf_map.specs.Recovered.{highest_key}
use Rattle.leaf_map.specs.Shown.{tree_of}
use Rattle.space_budget.specs.Books.{AreGrantsCovered}
use Rattle.space_sums.specs.Spaces.{IsNextIndex}
use Rattle.store_model.specs.Backing.{book_of}
use Rattle.store_model.specs.Begun.{HasBegun, JournalLeads}
use Rattle.store_model.specs.Events.{all_places, dirty_count}
use Rattle.store_model.specs.Fits.{AreLeavesLeft, Faced, faced_now, IsLeafLeft, named_by_log}
use Rattle.store_model.specs.Gone.{is_lost, LostItsName, some_does}
use Rattle.store_model.specs.Heads.{copies_of, head_counts, groups_of_head, heads_of, numbered_group, synced_since}
use Rattle.store_model.specs.Indexed.{IsIndexed}
use Rattle.store_model.specs.Legal.{are_distinct, is_block, IsCarried, IsLeafOf}
use Rattle.store_model.specs.Lebs.{has_leaf, has_role, is_among, is_victim_of, IsStoreSettled, running_commit_of, space_of, weight_of}
use Rattle.store_model.specs.LogRing.{HasLogLebs}
use Rattle.store_model.specs.Store.{At, Bud, Carried, Item, leaf, branching, gap, Leb, Moving, Next, IndexNodePlace, Store, View}
use Rattle.store_model.specs.Texts.{AreTexts, leaf_nodes}

-- ---- both views
-- what a running commit's master will lead to, whose list is the one that the medium has then
abbrev pub faced_later : Store → Next → Faced
faced_later m next = record { view = next.view; synced = synced_since m next; lists = next.listed ∷ [] }

-- this is so of what either master leads to
abbrev pub OfNext : Store → Option Next → (Faced → Type 0) → Type 0
OfNext m None P = Unit {0}
OfNext m (Some next) P = P (faced_later m next)

abbrev pub OfBoth : Store → (Faced → Type 0) → Type 0
OfBoth m P = P (faced_now m) × OfNext m m.next P

-- ---- leaves stand
-- a leaf's node is meant to stand at its place, among these items of its LEB
abbrev pub IsMeantIn : Kept → List Item → Type 0
IsMeantIn x [] = ⊥
IsMeantIn x (leaf placed ∷ items) = (kept_at placed ≡ x) ⊎ IsMeantIn x items
IsMeantIn x (branching b ∷ items) = IsMeantIn x items
IsMeantIn x (gap n ∷ items) = IsMeantIn x items

abbrev pub LeafStands : List Leb → Kept → Type 0
LeafStands [] x = ⊥
LeafStands (leb ∷ lebs) x = ((leb.lnum ≡ x.leaf.lnum) × IsMeantIn x leb.text) ⊎ LeafStands lebs x

-- each leaf of a LEB stands, at a place that is none of the journal's
abbrev pub AreWhole : Store → View → ℕ → List Kept → Type 0
AreWhole m view lnum [] = Unit {0}
AreWhole m view lnum (x ∷ kept) =
    (x.leaf.lnum ≡ lnum → LeafStands m.lebs x × IsTrue (not (in_bud (map named_by_log view.buds) x.leaf))) × AreWhole m view lnum kept

-- Of a LEB all committed leaves stand, or none needs to
abbrev pub AreWholeOrLeft : Store → Faced → Type 0
AreWholeOrLeft m f = (lnum : ℕ) → AreWhole m f.view lnum f.view.kept ⊎ AreLeavesLeft f lnum f.view.kept

-- ---- what became of committed leaves
-- a copy of a leaf's node was made since this master's commit began, synced or not
abbrev pub is_leaf_copied : Faced → Kept → Bool
is_leaf_copied f x = list_any (λ c. (c.sqnum == x.sqnum) && shows_same (shown_by x) (shown c.node)) (copies_of f.view.buds)

-- a leaf was copied out of the LEB that a collection is to free
abbrev pub IsMoved : Option Moving → Faced → Kept → Type 0
IsMoved None f x = ⊥
IsMoved (Some moving) f x = (x.leaf.lnum ≡ moving.victim) × IsTrue (is_leaf_copied f x)

-- a committed leaf is live, or held, or moved, or needn't stand
abbrev pub IsAccountedFor : Store → Faced → Kept → Type 0
IsAccountedFor m f x = IsLeafOf m.live x ⊎ IsLeafOf m.held x ⊎ IsMoved m.moving f x ⊎ IsLeafLeft f x

abbrev pub AreAccountedFor : Store → Faced → Type 0
AreAccountedFor m f = AllByRecursion (IsAccountedFor m f) f.view.kept

-- ---- trees
-- each tree that a cut may leave is proper
abbrev pub AreProper : Faced → Type 0
AreProper f = (tree : Tree) → IsRecovered f.view.tree (heads_of f.view.buds f.synced) tree → IsProper tree

-- all groups of a view
abbrev pub all_changes : Faced → Numbered
all_changes f = taken (heads_of f.view.buds f.synced) (map (λ head. length head.groups) (heads_of f.view.buds f.synced))

-- what all groups lead to is the tree, but for inodes without a name
abbrev pub LeadsTo : Tree → Faced → Type 0
LeadsTo tree f = without_nameless (recovered f.view.tree (all_changes f)) ≡ without_nameless tree

-- ---- numbers
-- whether a number is among those of changes, and whether two lists have none in common
abbrev pub has_number : Numbered → ℕ → Bool
has_number changes n = list_any (λ c. c.0 == n) changes

abbrev pub are_other : Numbered → Numbered → Bool
are_other changes others = list_all (λ c. not (has_number others c.0)) changes

-- the numbers of a head's groups ascend, up to the greatest one that was given
abbrev pub are_given : ℕ → Numbered → Bool
are_given sqnum changes = ascends nat_cmp (map (λ c. c.0) changes) && list_all (λ c. nat_le c.0 sqnum) changes

abbrev pub head_numbers : List Bud → ℕ → Numbered
head_numbers buds head = flat_map numbered_group (groups_of_head head buds)

-- the groups and leaves of a view have numbers that were given, and no number stands at two heads
pub record AreNumbered (m : Store) (f : Faced) : Type 0 where
  pub base : IsTrue (are_given m.sqnum (head_numbers f.view.buds 1))
  pub data_nodes : IsTrue (are_given m.sqnum (head_numbers f.view.buds 2))
  pub apart : IsTrue (are_other (head_numbers f.view.buds 1) (head_numbers f.view.buds 2))
  pub kept : IsTrue (list_all (λ x. nat_le x.sqnum m.sqnum) f.view.kept)

-- no number is above another at the same place
abbrev pub are_within : List ℕ → List ℕ → Bool
are_within [] counts = true
are_within (n ∷ numbers) [] = false
are_within (n ∷ numbers) (count ∷ counts) = nat_le n count && are_within numbers counts

-- ---- what was committed
-- a copy is the node of one of these leaves, with its number
abbrev pub IsCopyOf : List Kept → Placed → Type 0
IsCopyOf [] copy = ⊥
IsCopyOf (x ∷ kept) copy = ((copy.node ≡ x.node) × (copy.sqnum ≡ x.sqnum)) ⊎ IsCopyOf kept copy

-- A view's leaves are those of an index, no two at one place, and show its tree, whose highest number is that of the master or of a key; each block has its inode, and what the collector copied are nodes of these leaves, with their numbers.
pub record HasCommittedView (view : View) : Type 0 where
  pub leaves : IsLeafMap view.kept
  pub distinct : AreDistinct (map (λ x. x.leaf) view.kept)
  pub tree : tree_of view.kept view.tree.highest ≡ view.tree
  pub inodes : AllByRecursion (λ x. HasInode view.tree (shown_by x)) view.kept
  pub highest : highest_key view.highest (map (λ x. x.leaf.key) view.kept) ≡ view.tree.highest
  pub copies : AllByRecursion (λ d. IsLeaf d.node × IsCopyOf view.kept d) (copies_of view.buds)

-- all nodes of the groups of some buds, with their changes
abbrev pub all_carried : List Bud → List Carried
all_carried buds = flat_map (λ bud. flat_map (λ group. group) bud.groups) buds

-- the nodes of a view's groups carry their changes
abbrev pub AreChangesCarried : View → Type 0
AreChangesCarried view = AllByRecursion IsCarried (all_carried view.buds)

-- the head of data has blocks alone
abbrev pub HasBlocks : View → Type 0
HasBlocks view = IsTrue (list_all (λ c. is_block c.1) (head_numbers view.buds 2))

-- so it is of both views
abbrev pub HasDataHead : Store → Type 0
HasDataHead m = OfBoth m (λ f. HasBlocks f.view)

-- ---- orphans
-- an inode leaf without links passes a test
abbrev pub is_listed : (ℕ → Bool) → Option Change → Bool
is_listed test (Some (SetInode ino inode)) = not (inode.nlink == 0) || test ino
is_listed test shown = true

-- so do all inodes without links among a view's leaves
abbrev pub AreViewOrphans : (ℕ → Bool) → View → Type 0
AreViewOrphans test view = IsTrue (list_all (λ x. is_listed test (shown_by x)) view.kept)

-- each list that may be there has the orphans among a view's leaves
abbrev pub HaveOrphans : Faced → List (List ℕ) → Type 0
HaveOrphans f [] = Unit {0}
HaveOrphans f (list ∷ lists) = AreViewOrphans (is_among list) f.view × HaveOrphans f lists

-- an inode that has no name still, or was closed since the last commit's start, whose list names it
abbrev pub is_still_listed : Store → ℕ → Bool
is_still_listed m ino = is_nameless m.tree ino || is_among m.closed ino

-- The next commit's list will have the orphans of the last commit, ended or not. A running one's list has its own and those of the finished one, offered or not.
abbrev pub KeepOrphans : Store → Option Next → Type 0
KeepOrphans m None = AreViewOrphans (is_still_listed m) m.now
KeepOrphans m (Some next) = AreViewOrphans (is_among next.listed) m.now × AreViewOrphans (is_among next.listed) next.view × AreViewOrphans (is_still_listed m) next.view

-- Inodes without links among the leaves that a master leads to are on the list that the medium has, and on those that later commits write while that master may be there.
pub record HasListedOrphans (m : Store) : Type 0 where
  pub now : AreViewOrphans (is_among m.listed) m.now
  pub later : KeepOrphans m m.next

-- What is gone since a commit, by what a master leads to: a committed inode without links has no name still, or isn't there, and no group since gives it links; groups since, synced or not, made each held leaf that the view has obsolete, and took the last name of each orphan.
pub record HasGone (m : Store) (f : Faced) : Type 0 where
  pub lost : AreViewOrphans (is_lost m.tree) f.view
  pub unset : AreViewOrphans (λ ino. not (some_does (sets_inode ino) f.view.buds)) f.view
  pub held : AllByRecursion (λ x. IsTrue (some_does (λ change. is_gone change x) f.view.buds)) m.held
  pub orphans : AllByRecursion (LostItsName f) m.orphans

-- ---- what LEBs are for
-- the LEBs that a running commit took
abbrev pub lebs_taken : Option Next → List ℕ
lebs_taken None = []
lebs_taken (Some next) = next.taken

-- A leaf LEB has a leaf or is a victim; an empty one and one of the index have none. A taken one has none and is one of those that a running commit took.
abbrev pub is_used : Store → ℕ → LebKind → Bool
is_used m lnum kind.Free = not (has_leaf m lnum)
is_used m lnum kind.Leaf = has_leaf m lnum || is_victim_of m.moving lnum
is_used m lnum kind.Index = not (has_leaf m lnum)
is_used m lnum kind.Bud = list_any (λ bud. bud.lnum == lnum) m.now.buds
is_used m lnum kind.Taken = not (has_leaf m lnum) && is_among (lebs_taken m.next) lnum

-- the victim of a collection is a leaf LEB
abbrev pub has_victim : List Leb → Option Moving → Bool
has_victim lebs None = true
has_victim lebs (Some moving) = has_role kind.Leaf lebs moving.victim

-- a head stands in its last bud, or has none
abbrev pub last_bud : List Bud → ℕ → Option ℕ
last_bud [] head = None
last_bud (bud ∷ buds) head = option_or (last_bud buds head) (if bud.head == head then Some bud.lnum else None)

-- a head is open in its last bud
abbrev pub AreAtBuds : List Bud → ℕ → List (Option At) → Type 0
AreAtBuds buds head [] = Unit {0}
AreAtBuds buds head (None ∷ ends) = AreAtBuds buds (head + 1) ends
AreAtBuds buds head (Some at ∷ ends) = (last_bud buds head ≡ Some at.lnum) × AreAtBuds buds (head + 1) ends

-- what each LEB is for
pub record AreRolesApart (m : Store) : Type 0 where
  pub numbers : IsTrue (are_distinct (map (λ leb. leb.lnum) m.lebs))
  pub used : IsTrue (list_all (λ leb. is_used m leb.lnum leb.role) m.lebs)
  pub buds : IsTrue (list_all (λ bud. has_role kind.Bud m.lebs bud.lnum) m.now.buds)
  pub ends : AreAtBuds m.now.buds 0 m.ends
  pub index : IsTrue (list_all (λ place. has_role kind.Index m.lebs place.lnum) m.now.places)
  pub leaves : IsTrue (list_all (λ x. has_role kind.Leaf m.lebs x.leaf.lnum || has_role kind.Bud m.lebs x.leaf.lnum) m.live)
  pub victim : IsTrue (has_victim m.lebs m.moving)

-- The LEBs that a running commit took, no two of them one; where its index is to stand; and its view's buds. All that it took are written once its master is offered.
abbrev pub IsTaking : Store → Option Next → Type 0
IsTaking m None = Unit {0}
IsTaking m (Some next) =
    IsTrue (list_all (has_role kind.Taken m.lebs) next.taken)
    × IsTrue (list_all (λ place. has_role kind.Index m.lebs place.lnum || is_among next.taken place.lnum) next.view.places)
    × (next.written ≤ length next.taken)
    × IsTrue (list_all (λ bud. has_role kind.Bud m.lebs bud.lnum) next.view.buds)
    × (next.offered ≡ true → next.written ≡ length next.taken)
    × IsTrue (are_distinct next.taken)

-- Where the nodes of a running commit's index are to stand: those that it writes one behind another in the LEBs that it took, which are as many as they fill; all others in none of these.
pub record IsAllotted (geo : RawGeometry) (next : Next) : Type 0 where
  -- of each node the place that it had, or none if the commit writes it
  pub clean : List (Option IndexNodePlace)
  pub places : next.view.places ≡ all_places geo next.taken 0 clean
  pub lebs : length next.taken ≡ index_lebs geo (dirty_count clean)
  pub apart : IsTrue (list_all (λ o. option_map_or (λ place. not (is_among next.taken place.lnum)) o true) clean)

abbrev pub HasAllotted : RawGeometry → Option Next → Type 0
HasAllotted geo None = Unit {0}
HasAllotted geo (Some next) = IsAllotted geo next

-- ---- what came since a commit began
-- of all that a head got these came last, and all before them is synced
pub record CameSince {X : Type 0} (all last : List X) (synced : ℕ) : Type 0 where
  pub before : List X
  pub is : all ≡ before ++ last
  pub all_synced : length before ≤ synced

-- What the buds of a running commit's view have came since it began, and all before is synced. The open heads stand in its buds too.
pub record IsSince (m : Store) (view : View) : Type 0 where
  pub copies : CameSince (copies_of m.now.buds) (copies_of view.buds) (get_or m.synced 0 0)
  pub base : CameSince (groups_of_head 1 m.now.buds) (groups_of_head 1 view.buds) (get_or m.synced 1 0)
  pub data_nodes : CameSince (groups_of_head 2 m.now.buds) (groups_of_head 2 view.buds) (get_or m.synced 2 0)
  pub ends : AreAtBuds view.buds 0 m.ends

abbrev pub HasSince : Store → Option Next → Type 0
HasSince m None = Unit {0}
HasSince m (Some next) = IsSince m next.view

-- ---- the weight
abbrev pub IsLight : Store → Faced → Type 0
IsLight m f = shape_weight m.geo.fanout m.index.shape ≤ weight_of m.geo f.view

-- A running commit's index has no more LEBs than twice what the store's weight asks for, and weighs no more than the store does.
abbrev pub HasNextIndex : Store → Option Next → Type 0
HasNextIndex m None = Unit {0}
HasNextIndex m (Some next) = IsNextIndex m.geo (running_commit_of m next) (space_of m)

-- ---- what the lists of a state have to do with one another
-- one row for each LEB of the main area, in order
abbrev pub main_lnums : RawGeometry → List ℕ
main_lnums geo = range_with_len (main_first geo) (main_lebs geo)

-- a leaf is one of a view's, or stands in one of its buds
abbrev pub IsOfView : View → Kept → Type 0
IsOfView view x = IsTrue (in_bud (map named_by_log view.buds) x.leaf) ⊎ IsLeafOf view.kept x

abbrev pub IsOfNext : Option Next → Kept → Type 0
IsOfNext None x = Unit {0}
IsOfNext (Some next) x = IsOfView next.view x

-- Each live leaf, and each held one, is one of a view's or was put since, by either master.
pub record AreOfViews (m : Store) : Type 0 where
  pub live : AllByRecursion (λ x. IsOfView m.now x × IsOfNext m.next x) m.live
  pub held : AllByRecursion (λ x. IsOfView m.now x × IsOfNext m.next x) m.held

-- What stands where: nodes, buds and heads in the texts of LEBs, the nodes of the indexes, and the leaves of each view.
pub record IsStanding (m : Store) : Type 0 where
  pub texts : AreTexts m
  pub indexed : IsIndexed m
  pub of_views : AreOfViews m

-- leaves stand in leaf LEBs and buds
abbrev pub takes_leaves : LebKind → Bool
takes_leaves kind.Leaf = true
takes_leaves kind.Bud = true
takes_leaves role = false

-- in a LEB of another role, such as an empty one, no leaf node is meant to stand
abbrev pub IsBareOfLeaves : Leb → Type 0
IsBareOfLeaves leb = takes_leaves leb.role ≡ false → leaf_nodes leb.text ≡ []

-- ---- the invariant
-- The live leaves are leaves of an index and show the files, and the index has them in order.
pub record HasFiles (m : Store) : Type 0 where
  pub leaves : IsLeafMap m.live
  pub tree : tree_of m.live m.tree.highest ≡ m.tree
  pub index : contents m.index.shape ≡ map (λ x. x.leaf) m.live

-- Each node of the live leaves is in the grammar, each block among them has its inode, and none of their keys a number above the highest.
pub record AreOwned (m : Store) : Type 0 where
  pub nodes : AllByRecursion (λ x. IsLeaf x.node) m.live
  pub inodes : AllByRecursion (λ x. HasInode m.tree (shown_by x)) m.live
  pub highest : IsTrue (list_all (λ x. nat_le (key_words x.leaf.key).0 m.tree.highest) m.live)

-- Numbers ascend and were given; no more is synced than was put.
pub record HasNumbers (m : Store) : Type 0 where
  pub both : OfBoth m (AreNumbered m)
  pub live : IsTrue (list_all (λ x. nat_le x.sqnum m.sqnum) m.live)
  pub synced : IsTrue (are_within m.synced (head_counts m.now.buds))

-- What was committed is whole, and the nodes that were put since carry their changes.
pub record HasViews (m : Store) : Type 0 where
  pub committed : OfBoth m (λ f. HasCommittedView f.view)
  pub carried : OfBoth m (λ f. AreChangesCarried f.view)

-- Of the invariant these are the fields that no law gives of each event.
pub record HasRest (m : Store) : Type 0 where
  pub proper : OfBoth m AreProper
  pub texts : AreTexts m
  pub indexed : IsIndexed m
  pub covered : AreGrantsCovered (book_of m)

pub record IsStore (m : Store) : Type 0 where
  -- its numbers are a volume's, and each LEB of the main area has a row
  pub geometry : IsGeometry m.geo
  pub main : map (λ leb. leb.lnum) m.lebs ≡ main_lnums m.geo
  pub files : HasFiles m
  pub owned : AreOwned m
  pub views : HasViews m
  -- no two leaves stand at one place, and each node of the index has a place or is dirty
  pub distinct : AreDistinct (map (λ x. x.leaf) m.live)
  pub places : length m.index.places ≡ node_count m.index.shape
  -- each live leaf's node is meant at its place
  pub stands : AllByRecursion (LeafStands m.lebs) m.live
  -- leaf nodes stand in leaf LEBs and buds alone
  pub bare : AllByRecursion IsBareOfLeaves m.lebs
  -- the files are a proper tree, and so is each that a cut may leave
  pub proper_now : IsProper m.tree
  pub proper : OfBoth m AreProper
  -- the head of data has blocks alone
  pub data_head : HasDataHead m
  -- what all groups lead to is the tree
  pub history : OfBoth m (LeadsTo m.tree)
  pub leads : JournalLeads m
  pub numbers : HasNumbers m
  -- of each LEB all committed leaves stand, or none needs to
  pub whole_or_left : OfBoth m (AreWholeOrLeft m)
  -- a committed leaf is live or held, unless it was copied out of a victim or needn't stand
  pub accounted : OfBoth m (AreAccountedFor m)
  -- and what is gone since a commit stays so
  pub gone : OfBoth m (HasGone m)
  -- committed inodes without links are listed, by each list that may be there
  pub orphans : HasListedOrphans m
  pub nameless_are : map (λ orphan. orphan.ino) m.orphans ≡ nameless m.tree
  -- what each LEB is for
  pub apart : AreRolesApart m
  pub taking : IsTaking m m.next
  -- a running commit writes its nodes one behind another
  pub allotted : HasAllotted m.geo m.next
  -- what came since a running commit began, and what it began on
  pub since : HasSince m m.next
  pub begun : HasBegun m m.next
  -- nodes, buds, heads and the nodes of the index stand in the texts of LEBs, and leaves are of the views
  pub standing : IsStanding m
  -- the index weighs no more than the views allow, and a running commit's has no more LEBs than the store's weight does
  pub weight : OfBoth m (IsLight m)
  pub next_index : HasNextIndex m m.next
  -- the log has a LEB for the next section
  pub log : HasLogLebs m
  -- what was granted is covered, and a commit has LEBs
  pub covered : AreGrantsCovered (book_of m)
  pub settled : IsStoreSettled m
