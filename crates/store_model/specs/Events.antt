-- What a store does, and what it makes of the state.
use Rattle.std.specs.Prelude.{ℕ, suc, zero, ◌+◌, ◌-◌, ◌*◌, ◌/◌, ◌%◌, ◌==◌, ◌&&◌, nat_le, nat_lt, not, Bool, true, false, if◌then◌else◌, List, [], ◌∷◌, ◌++◌, length, filter, fold, map, sum_by, take, drop, get_or, Option, Some, None}
use Rattle.std.specs.List.{flat_map, list_any, find}
use Rattle.std.specs.Option.{option_map, option_map_or}
use Rattle.ubifs_base.specs.declared.raw_geometry.RawGeometry.{RawGeometry}
use Rattle.ubifs_base.specs.Geometry.{index_node_len, index_nodes_per_leb}
use Rattle.media_lpt.specs.declared.leb_kind.LebKind.{LebKind}
use Rattle.media_lpt.specs.declared.leb_kind.LebKind.TheVariants as kind
use Rattle.index_tree.specs.Listing.{ListedNode}
use Rattle.index_tree.specs.Removal.{same_leaf}
use Rattle.fs_model.specs.declared.change.Change.TheVariants.{DropInode}
use Rattle.fs_model.specs.Change.{apply, without_inode}
use Rattle.fs_model.specs.Cover.{index_lebs, round_8}
use Rattle.fs_model.specs.Files.{Tree}
use Rattle.fs_model.specs.Journal.{last_number}
use Rattle.fs_model.specs.Orphan.{nameless}
use Rattle.leaf_map.specs.After.{gone_by, is_gone, kept_by}
use Rattle.leaf_map.specs.Kept.{Kept, Placed, kept_at}
use Rattle.store_model.specs.Heads.{changes_of, head_counts, numbered_group, synced_since, with_copy, with_head_group}
use Rattle.store_model.specs.Lebs.{changed_leb, emptied_leb, has_node, is_among, space_of, tidied_store}
use Rattle.store_model.specs.Store.{At, Branching, Bud, Carried, StoreIndex, Item, leaf, branching, gap, Leb, LogPlace, Moving, Next, Orphan, IndexNodePlace, Store, View}
use Rattle.store_model.specs.WrittenNodes.{written_nodes}

-- a group, and the head that it goes to
pub record Part : Type 0 where
  pub head : ℕ
  pub group : List Carried

-- what pays for a put: a page's credit, or what was granted to a group
pub data Payment : Type 0 where
  credit : Payment
  granted : Payment

-- groups that are put, and the index afterwards
pub record Putting : Type 0 where
  pub parts : List Part
  pub payment : Payment
  pub index : StoreIndex

-- a leaf of the victim, the copy of its node, and the index afterwards
pub record Copying : Type 0 where
  pub leaf : Kept
  pub copy : Placed
  pub index : StoreIndex

-- What a store does: it puts groups, opens a LEB at a head, syncs all heads; begins a collection, copies a leaf of its victim, frees the victim; starts a commit, writes a LEB of its index, may have written its master, ends it; and drops an inode without a name that was closed.
pub data Event : Type 0 where
  Put : Putting → Event
  Open : ℕ → ℕ → Event
  Sync : Event
  Begin : ℕ → Event
  Move : Copying → Event
  Free : Event
  Start : List ℕ → Event
  Write : Event
  Offer : Event
  End : Event
  Drop : ℕ → StoreIndex → Event

-- ---- heads and their LEBs
-- rounded up to whole units
abbrev pub whole_store_units : RawGeometry → ℕ → ℕ
whole_store_units geo n = (n + geo.min_io - 1) / geo.min_io * geo.min_io

-- the bytes of nodes, each rounded up to 8
abbrev pub nodes_len : List Placed → ℕ
nodes_len nodes = sum_by (λ placed. round_8 placed.len) nodes

-- where a head stands once so many more bytes were put: whole units are written
abbrev pub moved_on : RawGeometry → ℕ → At → At
moved_on geo bytes at = record at { offs = at.offs + bytes; written = (at.offs + bytes) / geo.min_io * geo.min_io }

-- where it stands once its last unit is filled up
abbrev pub filled_up : RawGeometry → At → At
filled_up geo at = record at { offs = whole_store_units geo at.offs; written = whole_store_units geo at.offs }

-- the heads, with this done to one
abbrev pub changed_end : ℕ → (Option At → Option At) → List (Option At) → List (Option At)
changed_end head change [] = []
changed_end zero change (at ∷ ends) = change at ∷ ends
changed_end (suc head) change (at ∷ ends) = at ∷ changed_end head change ends

-- where a head stands
abbrev pub end_at : List (Option At) → ℕ → Option At
end_at ends head = get_or ends head None

-- items are meant for a LEB, behind all others
abbrev pub with_items : ℕ → List Item → List Leb → List Leb
with_items lnum items lebs = changed_leb lnum (λ leb. record leb { text = leb.text ++ items }) lebs

-- the gap that fills a head's last unit
abbrev pub last_gap : RawGeometry → At → List Item
last_gap geo at = if at.offs == whole_store_units geo at.offs then [] else gap (whole_store_units geo at.offs - at.offs) ∷ []

-- a head's LEB with its last unit filled
abbrev pub padded_head : RawGeometry → List Leb → Option At → List Leb
padded_head geo lebs None = lebs
padded_head geo lebs (Some at) = with_items at.lnum (last_gap geo at) lebs

-- nodes stand at the end of a head
abbrev pub with_nodes : Store → ℕ → List Placed → Store
with_nodes m head nodes = record m {
  ends = changed_end head (option_map (moved_on m.geo (nodes_len nodes))) m.ends;
  lebs = option_map_or (λ at. with_items at.lnum (map leaf nodes) m.lebs) (end_at m.ends head) m.lebs;
}

-- both views, with this done to their buds, and so many nodes more put
abbrev pub with_buds : (List Bud → List Bud) → ℕ → View → View
with_buds change nodes view = record view { buds = change view.buds; put = view.put + nodes }

abbrev pub in_next : (List Bud → List Bud) → ℕ → Next → Next
in_next change nodes next = record next { view = with_buds change nodes next.view }

abbrev pub in_views : (List Bud → List Bud) → ℕ → Store → Store
in_views change nodes m = record m {
  now = with_buds change nodes m.now;
  next = option_map (in_next change nodes) m.next;
}

-- ---- a put
-- leaves that are live, and those that are held
pub record Held : Type 0 where
  pub live : List Kept
  pub held : List Kept

-- what a change makes of both
abbrev pub after_change : Held → Carried → Held
after_change leaves c = record { live = kept_by c.change (kept_at c.placed) leaves.live; held = leaves.held ++ gone_by c.change leaves.live }

-- the inodes without a name; of those that lost the last one now the group isn't synced
abbrev pub orphan_in : List Orphan → ℕ → Orphan
orphan_in orphans ino = option_map_or (λ orphan. orphan) (find (λ orphan. orphan.ino == ino) orphans) (record { ino = ino; synced = false })

abbrev pub orphans_after : List Orphan → Tree → List Orphan
orphans_after orphans tree = map (orphan_in orphans) (nameless tree)

-- a group is put
abbrev pub after_part : Store → Part → Store
after_part m part =
    let leaves = fold after_change (record { live = m.live; held = m.held }) part.group in
    let put = in_views (with_head_group part.head part.group) (length part.group) (with_nodes m part.head (map (λ c. c.placed) part.group)) in
    record put {
      live = leaves.live;
      held = leaves.held;
      tree = apply m.tree (changes_of part.group);
      orphans = orphans_after m.orphans (apply m.tree (changes_of part.group));
      sqnum = last_number m.sqnum (numbered_group part.group);
    }

-- what pays is spent
abbrev pub paid : Payment → Store → Store
paid credit m = record m { credits = m.credits - 1 }
paid granted m = record m { grant = None }

abbrev pub put : Putting → Store → Store
put p m = record (paid p.payment (fold after_part m p.parts)) { index = p.index }

-- ---- a LEB is opened
-- a reference in the log takes whole units (`struct ubifs_ref_node` of ubifs-media.h, 64 bytes)
abbrev pub reference_len : RawGeometry → ℕ
reference_len geo = whole_store_units geo 64

-- the LEB of the log behind another, round the ring
abbrev pub next_log_leb : RawGeometry → ℕ → ℕ
next_log_leb geo leb = if nat_lt (leb + 1) geo.log_lebs then leb + 1 else 0

-- the log with one reference more, in the next LEB where the last one is full
abbrev pub with_reference : RawGeometry → LogPlace → LogPlace
with_reference geo log =
    if nat_le (log.offs + reference_len geo) geo.leb_size then record log { offs = log.offs + reference_len geo }
    else record { leb = next_log_leb geo log.leb; offs = reference_len geo }

-- a bud that nothing was put to
abbrev pub new_bud : ℕ → ℕ → ℕ → Bud
new_bud head lnum from = record { head = head; lnum = lnum; from = from; groups = []; copies = [] }

-- a LEB that the collector's head opens in a collection is lent to it
abbrev pub opened_for : ℕ → Moving → Moving
opened_for head moving = if head == 0 then record moving { opened = true } else moving

abbrev pub open_leb : ℕ → ℕ → Store → Store
open_leb head lnum m =
    let before = padded_head m.geo m.lebs (end_at m.ends head) in
    record (in_views (λ buds. buds ++ new_bud head lnum 0 ∷ []) 0 m) {
      ends = changed_end head (λ at. Some (record { lnum = lnum; offs = 0; written = 0 })) m.ends;
      lebs = changed_leb lnum (λ leb. record leb { role = kind.Bud; text = [] }) before;
      moving = option_map (opened_for head) m.moving;
      log = with_reference m.geo m.log;
      sqnum = m.sqnum + 1;
    }

-- ---- a sync
-- the group that took its last name is synced
abbrev pub synced_orphan : Orphan → Orphan
synced_orphan orphan = record orphan { synced = true }

-- all groups and copies are synced, nothing is held, and leaf LEBs without a leaf are empty
abbrev pub sync : Store → Store
sync m = tidied_store (record m {
  lebs = fold (padded_head m.geo) m.lebs m.ends;
  ends = map (option_map (filled_up m.geo)) m.ends;
  synced = head_counts m.now.buds;
  held = [];
  orphans = map synced_orphan m.orphans;
})

-- ---- a collection
abbrev pub begin : ℕ → Store → Store
begin victim m = record m { moving = Some (record { victim = victim; opened = false }) }

-- a live leaf stands at its copy
abbrev pub at_its_copy : Copying → Kept → Kept
at_its_copy c x = if same_leaf x.leaf c.leaf.leaf then record x { leaf = (kept_at c.copy).leaf } else x

abbrev pub move : Copying → Store → Store
move c m = record (in_views (with_copy c.copy) 0 (with_nodes m 0 (c.copy ∷ []))) { live = map (at_its_copy c) m.live; index = c.index }

abbrev pub free_victim : Store → Option Moving → Store
free_victim m None = m
free_victim m (Some moving) = record m { lebs = changed_leb moving.victim emptied_leb m.lebs; moving = None }

-- ---- a commit
-- how many nodes have no place yet
abbrev pub dirty_count : List (Option IndexNodePlace) → ℕ
dirty_count [] = 0
dirty_count (None ∷ places) = suc (dirty_count places)
dirty_count (Some place ∷ places) = dirty_count places

-- whether a commit writes all nodes anew: the index and the changed nodes would take more than twice the LEBs that the weight asks for
abbrev pub is_whole_commit : Store → Bool
is_whole_commit m =
    not (nat_le ((space_of m).index + index_lebs m.geo (dirty_count m.index.places)) (2 * index_lebs m.geo (space_of m).weight))

-- the places of the nodes that a commit doesn't write
abbrev pub clean_places : Store → List (Option IndexNodePlace)
clean_places m = if is_whole_commit m then map (λ place. None) m.index.places else m.index.places

-- the n-th place in the LEBs that a commit takes
abbrev pub taken_place : RawGeometry → List ℕ → ℕ → IndexNodePlace
taken_place geo taken n =
    record { lnum = get_or taken (n / index_nodes_per_leb geo) 0; offs = n % index_nodes_per_leb geo * index_node_len geo }

-- where all nodes stand at a commit's end, if its next place is the n-th
abbrev pub all_places : RawGeometry → List ℕ → ℕ → List (Option IndexNodePlace) → List IndexNodePlace
all_places geo taken n [] = []
all_places geo taken n (None ∷ places) = taken_place geo taken n ∷ all_places geo taken (n + 1) places
all_places geo taken n (Some place ∷ places) = place ∷ all_places geo taken n places

-- an open head is a bud of a new section, from where it ends
abbrev pub open_bud : ℕ → Option At → List Bud
open_bud head None = []
open_bud head (Some at) = new_bud head at.lnum at.offs ∷ []

abbrev pub open_buds : ℕ → List (Option At) → List Bud
open_buds head [] = []
open_buds head (at ∷ ends) = open_bud head at ++ open_buds (suc head) ends

-- a section starts with a commit's start, of 32 bytes, and a reference for each open head (`struct ubifs_cs_node` of ubifs-media.h)
abbrev pub new_section : RawGeometry → LogPlace → List Bud → LogPlace
new_section geo log buds = record { leb = next_log_leb geo log.leb; offs = whole_store_units geo (32 + 64 * length buds) }

-- the inodes without a name, and those closed since the last commit's start that its list names
abbrev pub next_list : Store → List ℕ
next_list m = nameless m.tree ++ filter (λ ino. not (is_among (nameless m.tree) ino)) m.closed

-- the view that a commit leads to which starts now, and takes these LEBs
abbrev pub view_now : Store → List ℕ → View
view_now m taken = record {
  cmt_no = m.now.cmt_no + 1;
  highest = m.tree.highest;
  section = next_log_leb m.geo m.log.leb;
  shape = m.index.shape;
  places = all_places m.geo taken 0 (clean_places m);
  kept = m.live;
  tree = m.tree;
  buds = open_buds 0 m.ends;
  put = 0;
}

-- LEBs are taken
abbrev pub take_leb : List ℕ → Leb → Leb
take_leb taken leb = if is_among taken leb.lnum then record leb { role = kind.Taken } else leb

abbrev pub start : List ℕ → Store → Store
start taken m =
    let view = view_now m taken in
    record m {
      next = Some (record { view = view; taken = taken; written = 0; listed = next_list m; offered = false });
      index = record m.index { places = map Some view.places };
      lebs = map (take_leb taken) m.lebs;
      closed = [];
      log = new_section m.geo m.log view.buds;
      sqnum = m.sqnum + 1 + length view.buds;
    }

-- where the children of each node stand: the nodes below it are the last ones that have no parent yet
abbrev pub below_of : List IndexNodePlace → List ListedNode → List IndexNodePlace → List (List IndexNodePlace)
below_of waiting [] places = []
below_of waiting (node ∷ nodes) [] = []
below_of waiting (node ∷ nodes) (place ∷ places) =
    let others = length waiting - (if node.level == 0 then 0 else node.count) in
    drop others waiting ∷ below_of (take others waiting ++ place ∷ []) nodes places

-- a node in the bytes that it may have
abbrev pub node_items : RawGeometry → Branching → List Item
node_items geo b =
    let rest = index_node_len geo - round_8 (28 + 20 * b.node.count) in
    if rest == 0 then branching b ∷ [] else branching b ∷ gap rest ∷ []

-- the nodes of a LEB, with their numbers from the one after this on
abbrev pub branchings : ℕ → ℕ → List ListedNode → List IndexNodePlace → List (List IndexNodePlace) → List Branching
branchings lnum sqnum (node ∷ nodes) (place ∷ places) (below ∷ rest) =
    if place.lnum == lnum then (record { sqnum = sqnum + 1; node = node; below = below }) ∷ branchings lnum (sqnum + 1) nodes places rest
    else branchings lnum sqnum nodes places rest
branchings lnum sqnum nodes places below = []

-- the nodes of a view's index that stand in a LEB
abbrev pub view_branchings : View → ℕ → ℕ → List Branching
view_branchings view lnum sqnum =
    branchings lnum sqnum (written_nodes view.shape) view.places (below_of [] (written_nodes view.shape) view.places)

-- the LEB is written that is the next one of those taken
abbrev pub write_index : Store → Option Next → Store
write_index m None = m
write_index m (Some next) =
    let lnum = get_or next.taken next.written 0 in
    let nodes = view_branchings next.view lnum m.sqnum in
    record m {
      next = Some (record next { written = next.written + 1 });
      lebs = changed_leb lnum (λ leb. record leb { text = flat_map (node_items m.geo) nodes }) m.lebs;
      sqnum = m.sqnum + length nodes;
    }

abbrev pub offered : Next → Next
offered next = record next { offered = true }

-- a list of orphans is one node, and none where it is empty
abbrev pub nodes_of_list : List ℕ → ℕ
nodes_of_list [] = 0
nodes_of_list (ino ∷ inos) = 1

-- the list of orphans is written, and a copy of the master may be
abbrev pub offer : Store → Store
offer m = record m { next = option_map offered m.next; sqnum = m.sqnum + option_map_or (λ next. nodes_of_list next.listed) m.next 0 + 1 }

-- what a LEB is for once a commit has ended that leads to this view
abbrev pub role_then : View → Leb → LebKind → Leb
role_then view leb kind.Free = leb
role_then view leb kind.Leaf = leb
role_then view leb kind.Index = if has_node view.places leb.lnum then leb else emptied_leb leb
role_then view leb kind.Bud = if list_any (λ bud. bud.lnum == leb.lnum) view.buds then leb else record leb { role = kind.Leaf }
role_then view leb kind.Taken = record leb { role = kind.Index }

abbrev pub role_after : View → Leb → Leb
role_after view leb = role_then view leb leb.role

abbrev pub end_commit : Store → Option Next → Store
end_commit m None = m
end_commit m (Some next) = tidied_store (record m {
  now = next.view;
  next = None;
  synced = synced_since m next;
  lebs = map (role_after next.view) m.lebs;
  listed = next.listed;
  sqnum = m.sqnum + 1;
})

-- ---- an inode without a name goes
-- whether the group that took its last name is synced
abbrev pub is_synced_orphan : List Orphan → ℕ → Bool
is_synced_orphan orphans ino = list_any (λ orphan. (orphan.ino == ino) && orphan.synced) orphans

-- the list of the last commit, ended or not
abbrev pub last_list : Store → List ℕ
last_list m = option_map_or (λ next. next.listed) m.next m.listed

abbrev pub drop_inode : ℕ → StoreIndex → Store → Store
drop_inode ino index m =
    let gone = filter (is_gone (DropInode ino)) m.live in
    tidied_store (record m {
      tree = without_inode m.tree ino;
      index = index;
      live = filter (λ x. not (is_gone (DropInode ino) x)) m.live;
      held = if is_synced_orphan m.orphans ino then m.held else m.held ++ gone;
      orphans = filter (λ orphan. not (orphan.ino == ino)) m.orphans;
      closed = if is_among (last_list m) ino then m.closed ++ ino ∷ [] else m.closed;
    })

-- ---- all of them
abbrev pub after : Event → Store → Store
after (Put p) m = put p m
after (Open head lnum) m = open_leb head lnum m
after Sync m = sync m
after (Begin victim) m = begin victim m
after (Move c) m = move c m
after Free m = free_victim m m.moving
after (Start taken) m = start taken m
after Write m = write_index m m.next
after Offer m = offer m
after End m = end_commit m m.next
after (Drop ino index) m = drop_inode ino index m

-- the store after events, one after another
abbrev pub run : List Event → Store → Store
run [] m = m
run (event ∷ events) m = run events (after event m)
