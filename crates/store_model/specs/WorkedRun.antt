-- A long run: a put, a sync, a commit with a put inside, a collection, and a commit in which an orphan is closed. What each state comes to, and what a cut leaves of it, was taken from a simulation of nodes, units and cuts.
use Rattle.std.specs.Prelude.{ℕ, ◌||◌, if◌then◌else◌, List, [], ◌∷◌, ◌++◌, length, map, take, get_or, None}
use Rattle.std.specs.Option.{option_map_or}
use Rattle.media_lpt.specs.declared.leb_kind.LebKind.TheVariants as kind
use Rattle.index_tree.specs.Shape.{done, node}
use Rattle.index_tree.specs.Tree.{leaves_before}
use Rattle.fs_model.specs.declared.change.Change.TheVariants.{SetInode, SetEntry, DropEntry}
use Rattle.fs_model.specs.declared.space.Space.{Space}
use Rattle.leaf_map.specs.Kept.{Kept, Placed, kept_at}
use Rattle.leaf_map.specs.Parts.{Committed, Parts}
use Rattle.leaf_map.specs.Recovered.{tree_found}
use Rattle.leaf_map.specs.Worked.{am, at, bb, file, name, root}
use Rattle.store_model.specs.Events.{Begin, credit, Drop, End, Event, Free, granted, Move, Offer, Open, Payment, Put, run, Start, Sync, Write}
use Rattle.store_model.specs.Fits.{Faced, faces, named_by_log, read_nodes}
use Rattle.store_model.specs.Heads.{copies_of, groups_of_head}
use Rattle.store_model.specs.Lebs.{has_role, space_of}
use Rattle.store_model.specs.Store.{Bud, Carried, StoreIndex, Store}
use Rattle.store_model.specs.Worked.{am_entry, am_inode, am_leaves, carry, changed_index, in_group, places_found, read_leaf, sample_root_node, rooted_store}

-- three credits pay for the groups behind the first
abbrev pub started : Store
started = record rooted_store { credits = 3 }

-- an index of two nodes below a third, above these leaves, with no node written
abbrev pub two_rows : List Kept → List Kept → StoreIndex
two_rows a b = record {
  shape = node (node (leaves_before (map (λ x. x.leaf) a) done) (node (leaves_before (map (λ x. x.leaf) b) done) done)) done;
  places = None ∷ None ∷ None ∷ [];
}

-- a group that is put to the base, and the index then
abbrev pub put_to : Payment → List Carried → StoreIndex → Event
put_to payment group index = Put (record { parts = (record { head = 1; group = group }) ∷ []; payment = payment; index = index })

-- a file `bb` is made while the first commit runs
abbrev pub entry_bb : Carried
entry_bb = in_group 1 (carry 22 224 16 (SetEntry (name bb 66)))

abbrev pub inode_bb : Carried
inode_bb = in_group 2 (carry 22 288 17 (SetInode 66 (file 1)))

-- the name `am` goes, of a file that somebody has open
abbrev pub entry_gone : Carried
entry_gone = in_group 1 (carry 22 448 22 (DropEntry 1 am))

abbrev pub inode_left : Carried
inode_left = in_group 2 (carry 22 512 23 (SetInode 65 (file 0)))

-- the root's node is copied to LEB 21
abbrev pub copy_21 : Placed
copy_21 = at 21 0 1 root

abbrev pub kept_bb : List Kept
kept_bb = kept_at entry_bb.placed ∷ kept_at am_inode.placed ∷ kept_at inode_bb.placed ∷ []

-- ---- the run, in stages
abbrev pub first_commit : List (List Event)
first_commit =
    (Open 1 22 ∷ put_to granted (am_entry ∷ am_inode ∷ []) (changed_index am_leaves) ∷ []) ∷ (Sync ∷ []) ∷ (Start (23 ∷ []) ∷ [])
    ∷ (put_to credit (entry_bb ∷ inode_bb ∷ []) (two_rows (kept_at sample_root_node ∷ kept_at am_entry.placed ∷ []) kept_bb) ∷ [])
    ∷ (Write ∷ []) ∷ (Offer ∷ End ∷ []) ∷ []

abbrev pub copying : List Event
copying = Begin 20 ∷ Open 0 21 ∷ Move (record { leaf = kept_at sample_root_node; copy = copy_21; index = two_rows (kept_at copy_21 ∷ kept_at am_entry.placed ∷ []) kept_bb }) ∷ []

abbrev pub collection : List (List Event)
collection = (copying ++ Sync ∷ Free ∷ []) ∷ []

abbrev pub unlinking_event : Event
unlinking_event = put_to credit (entry_gone ∷ inode_left ∷ []) (two_rows (kept_at copy_21 ∷ []) (kept_at entry_bb.placed ∷ kept_at inode_left.placed ∷ kept_at inode_bb.placed ∷ []))

abbrev pub second_commit : List (List Event)
second_commit =
    (unlinking_event ∷ []) ∷ (Sync ∷ []) ∷ (Start (20 ∷ []) ∷ [])
    ∷ (Drop 65 (two_rows (kept_at copy_21 ∷ []) (kept_at entry_bb.placed ∷ kept_at inode_bb.placed ∷ [])) ∷ [])
    ∷ (Write ∷ []) ∷ (Offer ∷ End ∷ []) ∷ []

-- ---- what is told of a state
-- the numbers of admission, the log's end, the number given last, how much of each head is synced, the buds of both views, the places of live leaves, and the orphans listed and closed
pub record Row : Type 0 where
  pub space : List ℕ
  pub log : ℕ × ℕ
  pub sqnum : ℕ
  pub synced : List ℕ
  pub buds : List (ℕ × ℕ × ℕ)
  pub later : List (ℕ × ℕ × ℕ)
  pub live : List (ℕ × ℕ)
  pub listed : List ℕ
  pub closed : List ℕ

-- head, LEB and offset of each bud
abbrev pub named_rows : List Bud → List (ℕ × ℕ × ℕ)
named_rows buds = map (λ bud. (bud.head, bud.lnum, bud.from)) buds

-- used and held bytes, empty LEBs and the index's, and the weight
abbrev pub numbers_of : Space → List ℕ
numbers_of space = space.used ∷ space.held ∷ space.empty ∷ space.index ∷ space.weight ∷ []

abbrev pub found_row_of : Store → Row
found_row_of m = record {
  space = numbers_of (space_of m);
  log = (m.log.leb, m.log.offs);
  sqnum = m.sqnum;
  synced = m.synced;
  buds = named_rows m.now.buds;
  later = option_map_or (λ next. named_rows next.view.buds) m.next [];
  live = map (λ x. (x.leaf.lnum, x.leaf.offs)) m.live;
  listed = m.listed;
  closed = m.closed;
}

-- of the state after each stage
abbrev pub rows : List (List Event) → Store → List Row
rows [] m = []
rows (stage ∷ stages) m = found_row_of (run stage m) ∷ rows stages (run stage m)

-- ---- what a cut leaves
-- what a mount finds: the number of its master's commit, inodes, names, and the places of leaves
pub record MountFinds : Type 0 where
  pub cmt_no : ℕ
  pub inodes : List ℕ
  pub names : List (List ℕ)
  pub places : List (ℕ × ℕ)

-- a committed leaf, whose node is gone where its LEB is empty or taken
abbrev pub read_in : Store → List Bud → Kept → Committed
read_in m buds x =
    if has_role kind.Free m.lebs x.leaf.lnum || has_role kind.Taken m.lebs x.leaf.lnum then record { leaf = x.leaf; found = None }
    else read_leaf buds x

-- what is read where so many groups of the base, and so many copies, are left
abbrev pub parts_in : Store → Faced → ℕ → ℕ → Parts
parts_in m f base copies = record {
  highest = f.view.highest;
  committed = map (read_in m f.view.buds) f.view.kept;
  named = map named_by_log f.view.buds;
  nodes = read_nodes f.view.buds base 0;
  copies = take copies (copies_of f.view.buds);
  listed = get_or f.lists 0 [];
}

abbrev pub found_in : Faced → Parts → MountFinds
found_in f parts = record {
  cmt_no = f.view.cmt_no;
  inodes = map (λ e. e.0) (tree_found parts).inodes;
  names = map (λ e. e.0.1) (tree_found parts).entries;
  places = places_found parts;
}

-- with all that was put
abbrev pub most : Store → Faced → MountFinds
most m f = found_in f (parts_in m f (length (groups_of_head 1 f.view.buds)) (length (copies_of f.view.buds)))

-- with what is synced alone
abbrev pub least : Store → Faced → MountFinds
least m f = found_in f (parts_in m f (get_or f.synced 1 0) (get_or f.synced 0 0))

-- with all groups, and the copies that are synced
abbrev pub uncopied : Store → Faced → MountFinds
uncopied m f = found_in f (parts_in m f (length (groups_of_head 1 f.view.buds)) (get_or f.synced 0 0))

-- by each master that may be there, after each stage
abbrev pub found_rows : List (List Event) → Store → List (List MountFinds)
found_rows [] m = []
found_rows (stage ∷ stages) m = map (most (run stage m)) (faces (run stage m)) ∷ found_rows stages (run stage m)

-- the state after all stages
abbrev pub run_all : List (List Event) → Store → Store
run_all [] m = m
run_all (stage ∷ stages) m = run_all stages (run stage m)

-- ---- the values
abbrev pub found_root : MountFinds
found_root = record { cmt_no = 0; inodes = 1 ∷ []; names = []; places = (20, 0) ∷ [] }

abbrev pub found_am : MountFinds
found_am = record { cmt_no = 0; inodes = 1 ∷ 65 ∷ []; names = am ∷ []; places = (20, 0) ∷ (22, 0) ∷ (22, 64) ∷ [] }

-- with both files, by the master of this commit, the root's leaf at this place
abbrev pub found_bb : ℕ → ℕ × ℕ → MountFinds
found_bb cmt_no place = record { cmt_no = cmt_no; inodes = 1 ∷ 65 ∷ 66 ∷ []; names = am ∷ bb ∷ []; places = place ∷ (22, 0) ∷ (22, 224) ∷ (22, 64) ∷ (22, 288) ∷ [] }

-- with `bb` alone
abbrev pub found_last : ℕ → MountFinds
found_last cmt_no = record { cmt_no = cmt_no; inodes = 1 ∷ 66 ∷ []; names = bb ∷ []; places = (21, 0) ∷ (22, 224) ∷ (22, 288) ∷ [] }

abbrev pub places_am : List (ℕ × ℕ)
places_am = (20, 0) ∷ (22, 0) ∷ (22, 64) ∷ []

abbrev pub places_bb : List (ℕ × ℕ)
places_bb = (20, 0) ∷ (22, 0) ∷ (22, 224) ∷ (22, 64) ∷ (22, 288) ∷ []

abbrev pub first_rows : List Row
first_rows =
    (record { space = 384 ∷ 0 ∷ 9 ∷ 1 ∷ 3 ∷ []; log = (0, 96); sqnum = 13; synced = 0 ∷ 0 ∷ 0 ∷ []; buds = (1, 22, 0) ∷ []; later = []; live = places_am; listed = []; closed = [] })
    ∷ (record { space = 384 ∷ 0 ∷ 9 ∷ 1 ∷ 3 ∷ []; log = (0, 96); sqnum = 13; synced = 0 ∷ 1 ∷ 0 ∷ []; buds = (1, 22, 0) ∷ []; later = []; live = places_am; listed = []; closed = [] })
    ∷ (record { space = 384 ∷ 0 ∷ 8 ∷ 1 ∷ 3 ∷ []; log = (1, 96); sqnum = 15; synced = 0 ∷ 1 ∷ 0 ∷ []; buds = (1, 22, 0) ∷ []; later = (1, 22, 224) ∷ []; live = places_am; listed = []; closed = [] })
    ∷ (record { space = 608 ∷ 0 ∷ 8 ∷ 1 ∷ 5 ∷ []; log = (1, 96); sqnum = 17; synced = 0 ∷ 1 ∷ 0 ∷ []; buds = (1, 22, 0) ∷ []; later = (1, 22, 224) ∷ []; live = places_bb; listed = []; closed = [] })
    ∷ (record { space = 608 ∷ 0 ∷ 8 ∷ 1 ∷ 5 ∷ []; log = (1, 96); sqnum = 18; synced = 0 ∷ 1 ∷ 0 ∷ []; buds = (1, 22, 0) ∷ []; later = (1, 22, 224) ∷ []; live = places_bb; listed = []; closed = [] })
    ∷ (record { space = 608 ∷ 0 ∷ 9 ∷ 1 ∷ 4 ∷ []; log = (1, 96); sqnum = 20; synced = 0 ∷ 0 ∷ 0 ∷ []; buds = (1, 22, 224) ∷ []; later = []; live = places_bb; listed = []; closed = [] })
    ∷ []

abbrev pub collection_rows : List Row
collection_rows =
    (record {
      space = 608 ∷ 0 ∷ 9 ∷ 1 ∷ 4 ∷ [];
      log = (1, 160);
      sqnum = 21;
      synced = 1 ∷ 1 ∷ 0 ∷ [];
      buds = (1, 22, 224) ∷ (0, 21, 0) ∷ [];
      later = [];
      live = (21, 0) ∷ (22, 0) ∷ (22, 224) ∷ (22, 64) ∷ (22, 288) ∷ [];
      listed = [];
      closed = [];
    })
    ∷ []

abbrev pub buds_old : List (ℕ × ℕ × ℕ)
buds_old = (1, 22, 224) ∷ (0, 21, 0) ∷ []

abbrev pub buds_new : List (ℕ × ℕ × ℕ)
buds_new = (0, 21, 160) ∷ (1, 22, 672) ∷ []

abbrev pub places_open : List (ℕ × ℕ)
places_open = (21, 0) ∷ (22, 224) ∷ (22, 512) ∷ (22, 288) ∷ []

abbrev pub places_last : List (ℕ × ℕ)
places_last = (21, 0) ∷ (22, 224) ∷ (22, 288) ∷ []

abbrev pub second_rows : List Row
second_rows =
    (record { space = 544 ∷ 224 ∷ 9 ∷ 1 ∷ 6 ∷ []; log = (1, 160); sqnum = 23; synced = 1 ∷ 1 ∷ 0 ∷ []; buds = buds_old; later = []; live = places_open; listed = []; closed = [] })
    ∷ (record { space = 544 ∷ 0 ∷ 9 ∷ 1 ∷ 6 ∷ []; log = (1, 160); sqnum = 23; synced = 1 ∷ 2 ∷ 0 ∷ []; buds = buds_old; later = []; live = places_open; listed = []; closed = [] })
    ∷ (record { space = 544 ∷ 0 ∷ 8 ∷ 1 ∷ 6 ∷ []; log = (2, 160); sqnum = 26; synced = 1 ∷ 2 ∷ 0 ∷ []; buds = buds_old; later = buds_new; live = places_open; listed = []; closed = [] })
    ∷ (record { space = 384 ∷ 0 ∷ 8 ∷ 1 ∷ 6 ∷ []; log = (2, 160); sqnum = 26; synced = 1 ∷ 2 ∷ 0 ∷ []; buds = buds_old; later = buds_new; live = places_last; listed = []; closed = 65 ∷ [] })
    ∷ (record { space = 384 ∷ 0 ∷ 8 ∷ 1 ∷ 6 ∷ []; log = (2, 160); sqnum = 29; synced = 1 ∷ 2 ∷ 0 ∷ []; buds = buds_old; later = buds_new; live = places_last; listed = []; closed = 65 ∷ [] })
    ∷ (record { space = 384 ∷ 0 ∷ 9 ∷ 1 ∷ 4 ∷ []; log = (2, 160); sqnum = 32; synced = 0 ∷ 0 ∷ 0 ∷ []; buds = buds_new; later = []; live = places_last; listed = 65 ∷ []; closed = 65 ∷ [] })
    ∷ []
