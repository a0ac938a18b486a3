-- Stores worked by hand: a put, a sync, a commit with a put inside, a collection, and an orphan that is closed while a commit runs.
use Rattle.std.specs.Prelude.{ℕ, false, List, [], ◌∷◌, length, map, take, Some, None}
use Rattle.std.specs.List.{flat_map}
use Rattle.ubifs_base.specs.declared.raw_geometry.RawGeometry.{RawGeometry}
use Rattle.media_lpt.specs.declared.leb_kind.LebKind.{LebKind}
use Rattle.media_lpt.specs.declared.leb_kind.LebKind.TheVariants as kind
use Rattle.index_tree.specs.Shape.{Shape, done, node}
use Rattle.index_tree.specs.Tree.{leaves_before}
use Rattle.fs_model.specs.declared.change.Change.{Change}
use Rattle.fs_model.specs.declared.change.Change.TheVariants.{SetInode, SetEntry, DropEntry}
use Rattle.fs_model.specs.Files.{Tree}
use Rattle.fs_model.specs.Making.{new_dir}
use Rattle.fs_model.specs.Recovery.{recovered, taken}
use Rattle.leaf_map.specs.Kept.{Kept, Placed, kept_at}
use Rattle.leaf_map.specs.Parts.{Committed, Parts}
use Rattle.leaf_map.specs.Recovered.{recovered_of}
use Rattle.leaf_map.specs.Worked.{am, at, bb, file, name, root}
use Rattle.store_model.specs.Events.{Begin, Copying, credit, Drop, End, Event, Free, granted, Move, node_items, Offer, Open, Payment, Put, Putting, Start, Sync, view_branchings, Write}
use Rattle.store_model.specs.Fits.{named_by_log, read_nodes}
use Rattle.store_model.specs.Heads.{copies_of, heads_of}
use Rattle.store_model.specs.Store.{Bud, Carried, StoreIndex, Item, leaf, Leb, Store, View}

-- 174 index nodes go into a LEB, and the main area is LEBs 20 to 31
abbrev pub geo : RawGeometry
geo = record { leb_size = 15360; min_io = 8; log_lebs = 3; lpt_lebs = 13; orph_lebs = 1; leb_cnt = 32; max_leb_cnt = 32; fanout = 3; lsave_cnt = 0; big = false }

-- an index of one node, above these leaves
abbrev pub shape_above : List Kept → Shape
shape_above kept = node (leaves_before (map (λ x. x.leaf) kept) done) done

abbrev pub changed_index : List Kept → StoreIndex
changed_index kept = record { shape = shape_above kept; places = None ∷ [] }

-- a LEB with these items
abbrev pub leb : ℕ → LebKind → List Item → Leb
leb lnum role text = record { lnum = lnum; role = role; text = text }

-- the root's leaf, in LEB 20
abbrev pub sample_root_node : Placed
sample_root_node = at 20 0 1 root

abbrev pub root_tree : Tree
root_tree = record { inodes = (1, new_dir 493 0) ∷ []; blocks = []; entries = []; highest = 64 }

-- what a view has where these leaves were committed at the start of a store
abbrev pub committed_view : List Kept → Tree → View
committed_view kept tree = record {
  cmt_no = 0;
  highest = tree.highest;
  section = 0;
  shape = shape_above kept;
  places = (record { lnum = 21; offs = 0 }) ∷ [];
  kept = kept;
  tree = tree;
  buds = [];
  put = 0;
}

-- a store to which nothing was put: its leaves stand in LEB 20, its index in LEB 21, and ten LEBs are empty
abbrev pub opened_store : List Placed → Tree → Store
opened_store nodes tree = record {
  geo = geo;
  now = committed_view (map kept_at nodes) tree;
  next = None;
  tree = tree;
  index = record { shape = shape_above (map kept_at nodes); places = Some (record { lnum = 21; offs = 0 }) ∷ [] };
  live = map kept_at nodes;
  held = [];
  ends = None ∷ None ∷ None ∷ [];
  synced = 0 ∷ 0 ∷ 0 ∷ [];
  lebs = leb 20 kind.Leaf (map leaf nodes) ∷ leb 21 kind.Index (flat_map (node_items geo) (view_branchings (committed_view (map kept_at nodes) tree) 21 4)) ∷ map (λ lnum. leb lnum kind.Free []) (22 ∷ 23 ∷ 24 ∷ 25 ∷ 26 ∷ 27 ∷ 28 ∷ 29 ∷ 30 ∷ 31 ∷ []);
  moving = None;
  orphans = [];
  listed = [];
  closed = [];
  log = record { leb = 0; offs = 32 };
  sqnum = 10;
  credits = 1;
  grant = Some (record { bytes = 4096; nodes = 8 });
}

abbrev pub rooted_store : Store
rooted_store = opened_store (sample_root_node ∷ []) root_tree

-- a change with its node, at a place
abbrev pub carry : ℕ → ℕ → ℕ → Change → Carried
carry lnum offs sqnum change = record { change = change; placed = at lnum offs sqnum change }

-- with this group type
abbrev pub in_group : ℕ → Carried → Carried
in_group group c = record c { placed = record c.placed { group = group } }

-- a group is put to the base, of what was granted or of a credit, and these are the leaves then
abbrev pub put_of : Payment → List Carried → List Kept → Putting
put_of payment group live = record { parts = (record { head = 1; group = group }) ∷ []; payment = payment; index = changed_index live }

abbrev pub putting : List Carried → List Kept → Event
putting group live = Put (put_of granted group live)

-- a credit pays for the second group of a run
abbrev pub putting_next : List Carried → List Kept → Event
putting_next group live = Put (put_of credit group live)

-- ---- a put and a sync
-- a file `am` is made, at the start of LEB 22
abbrev pub am_entry : Carried
am_entry = in_group 1 (carry 22 0 12 (SetEntry (name am 65)))

abbrev pub am_inode : Carried
am_inode = in_group 2 (carry 22 64 13 (SetInode 65 (file 1)))

abbrev pub am_leaves : List Kept
am_leaves = map kept_at (sample_root_node ∷ am_entry.placed ∷ am_inode.placed ∷ [])

abbrev pub putting_am : Putting
putting_am = put_of granted (am_entry ∷ am_inode ∷ []) am_leaves

abbrev pub put_am : List Event
put_am = Open 1 22 ∷ Put putting_am ∷ []

abbrev pub am_tree : Tree
am_tree = record { inodes = (1, new_dir 493 0) ∷ (65, file 1) ∷ []; blocks = []; entries = ((1, am), name am 65) ∷ []; highest = 65 }

-- the name goes, and the inode stays without links, since somebody has it open
abbrev pub unlinking : List Carried
unlinking = in_group 1 (carry 22 224 14 (DropEntry 1 am)) ∷ in_group 2 (carry 22 288 15 (SetInode 65 (file 0))) ∷ []

abbrev pub unlinked_leaves : List Kept
unlinked_leaves = map kept_at (sample_root_node ∷ at 22 288 15 (SetInode 65 (file 0)) ∷ [])

-- the root's inode is put anew, so that no live leaf is left in LEB 20
abbrev pub put_root : List Event
put_root = Open 1 22 ∷ putting (carry 22 0 12 root ∷ []) (map kept_at (at 22 0 12 root ∷ [])) ∷ []

-- ---- what a mount reads
-- the committed leaves, each with its own node, but for those whose place is one of the journal's
abbrev pub read_leaf : List Bud → Kept → Committed
read_leaf buds x = record { leaf = x.leaf; found = Some (record { node = x.node; sqnum = x.sqnum; group = 0; lnum = x.leaf.lnum; offs = x.leaf.offs; len = x.leaf.len }) }

-- What is read where so many groups of the base, and so many copies, are left of a view.
abbrev pub left_parts : View → ℕ → ℕ → List ℕ → Parts
left_parts view base copies listed = record {
  highest = view.highest;
  committed = map (read_leaf view.buds) view.kept;
  named = map named_by_log view.buds;
  nodes = read_nodes view.buds base 0;
  copies = take copies (copies_of view.buds);
  listed = listed;
}

-- the places of leaves that a mount finds
abbrev pub places_found : Parts → List (ℕ × ℕ)
places_found parts = map (λ x. (x.leaf.lnum, x.leaf.offs)) (recovered_of parts).kept

-- the tree that is allowed where so many groups of the base are left
abbrev pub allowed_tree : View → ℕ → Tree
allowed_tree view base = recovered view.tree (taken (heads_of view.buds (0 ∷ 0 ∷ 0 ∷ [])) (0 ∷ base ∷ 0 ∷ []))

-- ---- a commit with a put inside
-- a file `bb` is made while a commit runs, behind `am`
abbrev pub bb_entry : Carried
bb_entry = in_group 1 (carry 22 224 16 (SetEntry (name bb 66)))

abbrev pub bb_inode : Carried
bb_inode = in_group 2 (carry 22 288 17 (SetInode 66 (file 1)))

abbrev pub bb_leaves : List Kept
bb_leaves = map kept_at (sample_root_node ∷ am_entry.placed ∷ bb_entry.placed ∷ am_inode.placed ∷ bb_inode.placed ∷ [])

abbrev pub bb_tree : Tree
bb_tree = record {
  inodes = (1, new_dir 493 0) ∷ (65, file 1) ∷ (66, file 1) ∷ [];
  blocks = [];
  entries = ((1, am), name am 65) ∷ ((1, bb), name bb 66) ∷ [];
  highest = 66;
}

abbrev pub putting_bb : Putting
putting_bb = put_of credit (bb_entry ∷ bb_inode ∷ []) bb_leaves

abbrev pub until_offer : List Event
until_offer = Open 1 22 ∷ Put putting_am ∷ Sync ∷ Start (23 ∷ []) ∷ Put putting_bb ∷ Write ∷ Offer ∷ []

abbrev pub whole_commit : List Event
whole_commit = Open 1 22 ∷ Put putting_am ∷ Sync ∷ Start (23 ∷ []) ∷ Put putting_bb ∷ Write ∷ Offer ∷ End ∷ []

-- the buds of a view: head, LEB and offset, with how many groups
abbrev pub bud_rows : List Bud → List (ℕ × ℕ × ℕ × ℕ)
bud_rows buds = map (λ bud. (bud.head, bud.lnum, bud.from, length bud.groups)) buds

-- what LEBs are for
abbrev pub roles : Store → List LebKind
roles m = map (λ leb. leb.role) m.lebs

-- ---- a collection
-- LEB 20 holds the root and a file with its name, which are copied to LEB 24
abbrev pub file_entry : Placed
file_entry = at 20 160 2 (SetEntry (name am 65))

abbrev pub file_node : Placed
file_node = at 20 224 3 (SetInode 65 (file 1))

abbrev pub one_file : Store
one_file = opened_store (sample_root_node ∷ file_entry ∷ file_node ∷ []) am_tree

abbrev pub root_copy : Placed
root_copy = at 24 0 1 root

abbrev pub entry_copy : Placed
entry_copy = at 24 160 2 (SetEntry (name am 65))

abbrev pub file_copy : Placed
file_copy = at 24 224 3 (SetInode 65 (file 1))

-- a leaf is copied, and these are the live leaves then
abbrev pub moving_to : Placed → Placed → List Placed → Copying
moving_to original copy live = record { leaf = kept_at original; copy = copy; index = changed_index (map kept_at live) }

abbrev pub moving_root : Copying
moving_root = moving_to sample_root_node root_copy (root_copy ∷ file_entry ∷ file_node ∷ [])

abbrev pub moving_entry : Copying
moving_entry = moving_to file_entry entry_copy (root_copy ∷ entry_copy ∷ file_node ∷ [])

abbrev pub moving_file : Copying
moving_file = moving_to file_node file_copy (root_copy ∷ entry_copy ∷ file_copy ∷ [])

abbrev pub half_collected : List Event
half_collected = Begin 20 ∷ Open 0 24 ∷ Move moving_root ∷ Sync ∷ []

abbrev pub all_copied : List Event
all_copied = Begin 20 ∷ Open 0 24 ∷ Move moving_root ∷ Move moving_entry ∷ Move moving_file ∷ Sync ∷ []

abbrev pub collected_events : List Event
collected_events = Begin 20 ∷ Open 0 24 ∷ Move moving_root ∷ Move moving_entry ∷ Move moving_file ∷ Sync ∷ Free ∷ []

-- ---- an orphan that is closed while a commit runs
-- file 65 loses its name and is synced, a commit starts whose list has it, and the file is closed before the commit ends
abbrev pub closed_in_commit : List Event
closed_in_commit =
    Open 1 22 ∷ Put putting_am ∷ putting_next unlinking unlinked_leaves ∷ Sync
    ∷ Start (23 ∷ []) ∷ Drop 65 (changed_index (map kept_at (sample_root_node ∷ []))) ∷ Write ∷ Offer ∷ End ∷ []
