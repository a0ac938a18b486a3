-- Leaves and journals worked by hand.
use Rattle.std.specs.Prelude.{ℕ, List, [], ◌∷◌, map, Some, None, codes}
use Rattle.fs_model.specs.declared.change.Change.{Change}
use Rattle.fs_model.specs.declared.change.Change.TheVariants.{SetInode, SetEntry, DropEntry, SetBlock, DropInode}
use Rattle.fs_model.specs.declared.inode.Entry.{Entry}
use Rattle.fs_model.specs.declared.inode.Inode.{Inode}
use Rattle.fs_model.specs.declared.inode.Kind.TheVariants.{File}
use Rattle.fs_model.specs.Making.{new_dir, new_file}
use Rattle.media_leaf.specs.LeafNode.{inode}
use Rattle.group_nodes.specs.Nodes.{inode_node, node_of}
use Rattle.group_nodes.specs.Texts.{leaf_len}
use Rattle.leaf_map.specs.Kept.{Kept, Placed, kept_at}
use Rattle.leaf_map.specs.Parts.{Committed, Named, Parts}
use Rattle.leaf_map.specs.SpaceFound.{MainAreaFound}

-- the node of a change with this number, at a place of a LEB
abbrev pub at : ℕ → ℕ → ℕ → Change → Placed
at lnum offs sqnum change = record { node = node_of change; sqnum = sqnum; group = 0; lnum = lnum; offs = offs; len = leaf_len (node_of change) }

-- a committed leaf whose node stands at its place, and one whose place has another node or none
abbrev pub own : Placed → Committed
own node = record { leaf = (kept_at node).leaf; found = Some node }

abbrev pub lost : Placed → Committed
lost node = record { leaf = (kept_at node).leaf; found = None }

-- the places of leaves
abbrev pub places : List Kept → List (ℕ × ℕ)
places kept = map (λ x. (x.leaf.lnum, x.leaf.offs)) kept

-- a file's entry in the root
abbrev pub name : List ℕ → ℕ → Entry
name bytes ino = record { dir = 1; name = bytes; ino = ino; kind = File }

-- the root, and a file with so many links
abbrev pub root : Change
root = SetInode 1 (new_dir 493 0)

abbrev pub file : ℕ → Inode
file nlink = record (new_file 420 0) { nlink = nlink }

-- two names of one hash
abbrev pub am : List ℕ
am = codes "am"

abbrev pub bb : List ℕ
bb = codes "bb"

-- the root with two names of one hash
abbrev pub two_names : List Kept
two_names = map kept_at (at 20 0 1 root ∷ at 20 160 2 (SetEntry (name am 65)) ∷ at 20 224 3 (SetEntry (name bb 66)) ∷ [])

-- a file of three blocks
abbrev pub three_blocks : List Kept
three_blocks = map kept_at (at 20 0 1 (SetInode 65 (file 1)) ∷ at 20 160 2 (SetBlock 65 0 (97 ∷ [])) ∷ at 20 216 3 (SetBlock 65 1 (98 ∷ [])) ∷ at 20 272 4 (SetBlock 65 2 (99 ∷ [])) ∷ [])

-- what was read of a volume: LEB 20 has leaves, LEBs 30 and 31 are buds of heads 0 and 1
abbrev pub parts : List Committed → List Placed → List Placed → List ℕ → Parts
parts committed nodes copies listed = record {
  highest = 64;
  committed = committed;
  named = record { head = 0; lnum = 30; from = 0 } ∷ record { head = 1; lnum = 31; from = 0 } ∷ [];
  nodes = nodes;
  copies = copies;
  listed = listed;
}

-- an orphan with a block, as it was committed
abbrev pub orphan : List Committed
orphan = own (at 20 0 1 (SetInode 65 (file 0))) ∷ own (at 20 160 2 (SetBlock 65 0 (97 ∷ []))) ∷ []

-- it is listed
abbrev pub still_orphan : Parts
still_orphan = parts orphan [] [] (65 ∷ [])

-- inode 65 with so many links, whose mode names no kind
abbrev pub unknown_kind_inode : ℕ → Placed
unknown_kind_inode nlink = record (at 20 0 1 (SetInode 65 (file nlink))) { node = inode (record (inode_node 65 (file nlink)) { mode = 0o644 }) }

-- it is listed
abbrev pub unknown_orphan : ℕ → Parts
unknown_orphan nlink = parts (own (unknown_kind_inode nlink) ∷ []) [] [] (65 ∷ [])

-- it got its link again
abbrev pub linked_again : Parts
linked_again = parts orphan (at 31 0 5 (SetInode 65 (file 1)) ∷ []) [] (65 ∷ [])

-- a name and its file were copied, and deleted by nodes with greater numbers
abbrev pub deleted : Parts
deleted = parts
    (lost (at 20 0 1 (SetInode 65 (file 1))) ∷ lost (at 20 160 2 (SetEntry (name am 65))) ∷ [])
    (at 31 64 8 (DropInode 65) ∷ at 31 0 7 (DropEntry 1 am) ∷ [])
    (at 30 0 1 (SetInode 65 (file 1)) ∷ at 30 160 2 (SetEntry (name am 65)) ∷ [])
    []

-- the log names LEB 31 before LEB 32, whose node has the lower number
abbrev pub two_heads : Parts
two_heads = parts [] (at 31 0 8 (DropEntry 1 am) ∷ at 32 0 7 (SetEntry (name am 66)) ∷ at 32 64 9 (SetInode 66 (file 1)) ∷ []) [] []

-- Where a name's leaf stood, the LEB was used again as a bud: another name of the same hash and length stands there, of a group that isn't whole.
abbrev pub place_in_bud : Parts
place_in_bud = parts
    (record { leaf = (kept_at (at 31 0 2 (SetEntry (name am 65)))).leaf; found = Some (at 31 0 9 (SetEntry (name bb 66))) } ∷ [])
    []
    (at 30 0 2 (SetEntry (name am 65)) ∷ [])
    []

-- At the place of a listed inode's leaf stands another inode's node. Its copy has links.
abbrev pub another_key : Parts
another_key = parts
    (record { leaf = (kept_at (at 20 0 1 (SetInode 65 (file 1)))).leaf; found = Some (at 20 0 9 (SetInode 66 (file 0))) } ∷ [])
    []
    (at 30 0 1 (SetInode 65 (file 1)) ∷ [])
    (65 ∷ [])

-- Of two names of one hash one's original is gone. The copies of both stand in the journal.
abbrev pub one_is_gone : Parts
one_is_gone = parts
    (own (at 20 160 2 (SetEntry (name am 65))) ∷ lost (at 21 0 3 (SetEntry (name bb 66))) ∷ [])
    []
    (at 30 0 2 (SetEntry (name am 65)) ∷ at 30 64 3 (SetEntry (name bb 66)) ∷ [])
    []

-- a collection that copied both leaves of a LEB, and one that copied one of them
abbrev pub collected_parts : List Placed → Parts
collected_parts copies = parts (own (at 20 0 1 (SetInode 65 (file 1))) ∷ own (at 20 160 2 (SetBlock 65 0 (97 ∷ []))) ∷ []) [] copies []

abbrev pub inode_copy : Placed
inode_copy = at 30 0 1 (SetInode 65 (file 1))

abbrev pub block_copy : Placed
block_copy = at 30 160 2 (SetBlock 65 0 (97 ∷ []))

-- the main area: LEBs 20, 21, 25, 30, 31 and 32, of which LEB 25 has the index
abbrev pub area : MainAreaFound
area = record { lebs = 20 ∷ 21 ∷ 25 ∷ 30 ∷ 31 ∷ 32 ∷ []; indexed = 25 ∷ 25 ∷ []; weight = 2 }

-- a file whose one leaf a bud's node replaces
abbrev pub replaced_parts : Parts
replaced_parts = parts (own (at 20 0 1 (SetInode 65 (file 1))) ∷ []) (at 31 0 5 (SetInode 65 (file 1)) ∷ []) [] []

-- a LEB that the log names for a head
abbrev pub named_leb : ℕ → ℕ → Named
named_leb head lnum = record { head = head; lnum = lnum; from = 0 }

-- two LEBs that the collector opened, the lower one last
abbrev pub two_opened : Parts
two_opened = record (collected_parts []) { named = named_leb 0 32 ∷ named_leb 0 30 ∷ [] }

-- a LEB that the log names for head 0 and for head 1
abbrev pub two_owners : Parts
two_owners = record (collected_parts []) { named = named_leb 0 30 ∷ named_leb 1 30 ∷ [] }
