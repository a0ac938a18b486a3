-- The node of a change is in the grammar, and carries the change.
use Rattle.std.proofs.Common.{◌≡◌, ℕ, ◌+◌, ◌/◌, ◌%◌, ◌<◌, ◌≤◌, ◌^◌, Bool, true, false, cond, not, ◌&&◌, List, [], ◌∷◌, length, refl, ◌∙◌, ap, arith, Option, Some}
use Rattle.std.specs.Prelude.{◌==◌, ◌||◌}
use Rattle.std.specs.Bool.{IsTrue}
use Rattle.std.specs.List.{list_all}
use Rattle.std.specs.Option.{option_map}
use Rattle.std.proofs.lemmas.Bool.Decides.{nat_tests}
use Rattle.media_leaf.specs.LeafNode.{IsLeaf}
use Rattle.media_leaf.specs.Inode.{may_hold_data}
use Rattle.fs_model.specs.declared.change.Change.{Change}
use Rattle.fs_model.specs.declared.change.Change.TheVariants.{SetInode, SetEntry, DropEntry, SetBlock, CutBlocks, DropInode}
use Rattle.fs_model.specs.declared.inode.Inode.{Inode}
use Rattle.fs_model.specs.declared.inode.Entry.{Entry}
use Rattle.fs_model.specs.declared.inode.Kind.{Kind}
use Rattle.fs_model.specs.declared.inode.Kind.TheVariants.{File, Dir, Symlink, Block, Char, Fifo, Socket}
use Rattle.fs_model.specs.Backing.{is_node}
use Rattle.fs_model.specs.Path.{is_empty}
use Rattle.fs_model.specs.Proper.{has_data, is_inode_node, is_block_node, is_entry_node, is_name}
use Rattle.fs_model.specs.Recovery.{as_replayed}
use Rattle.group_nodes.specs.Nodes.{type_bits, type_of_entry, kind_of_bits, kind_of_type, bits_of, inode_node, inode_of, inode_change, node_of, change_of, HasPlainMode}

-- ---- an inode is a node
pub inode_numbered : (e : ℕ × Inode) → IsTrue (is_inode_node e) → 1 ≤ e.0
inode_numbered e h = grind (arith, nat_tests)

pub plain_mode : (e : ℕ × Inode) → IsTrue (is_inode_node e) → e.1.mode < 4096
plain_mode e h = grind (arith, nat_tests)

pub most_data : (e : ℕ × Inode) → IsTrue (is_inode_node e) → length e.1.extra ≤ 4096
most_data e h = grind (arith, nat_tests)

no_data : (e : ℕ × Inode) → IsTrue (is_inode_node e) → IsTrue (is_empty e.1.extra || has_data e.1.kind)
no_data e h = grind (arith, nat_tests)

nothing : (bytes : List ℕ) → IsTrue (is_empty bytes || false) → length bytes ≡ 0
nothing [] h = refl
nothing (b ∷ bytes) h = absurd cc

without_data : (kind : Kind) (mode : ℕ) (bytes : List ℕ) → mode < 4096 → IsTrue (is_empty bytes || has_data kind) → may_hold_data (type_bits kind + mode) ≡ false → length bytes ≡ 0
without_data File mode bytes small h flag = nothing bytes h
without_data Dir mode bytes small h flag = nothing bytes h
without_data Fifo mode bytes small h flag = nothing bytes h
without_data Socket mode bytes small h flag = nothing bytes h
without_data Symlink mode bytes small h flag = let q : (40960 + mode) / 4096 % 16 ≡ 10 = omega arith in absurd (grind (arith, nat_tests))
without_data Block mode bytes small h flag = let q : (24576 + mode) / 4096 % 16 ≡ 6 = omega arith in absurd (grind (arith, nat_tests))
without_data Char mode bytes small h flag = let q : (8192 + mode) / 4096 % 16 ≡ 2 = omega arith in absurd (grind (arith, nat_tests))

-- ---- a block is a node
block_fits : (b : (ℕ × ℕ) × List ℕ) → IsTrue (is_block_node b) → b.0.1 < 2 ^ 29
block_fits b h = grind (arith, nat_tests)

pub most_bytes : (b : (ℕ × ℕ) × List ℕ) → IsTrue (is_block_node b) → length b.1 ≤ 4096
most_bytes b h = grind (arith, nat_tests)

not_empty : (bytes : List ℕ) → is_empty bytes ≡ false → 1 ≤ length bytes
not_empty [] h = absurd cc
not_empty (b ∷ bytes) h = omega arith

some_bytes : (b : (ℕ × ℕ) × List ℕ) → IsTrue (is_block_node b) → is_empty b.1 ≡ false
some_bytes b h = grind (arith, nat_tests)

-- ---- an entry is a node
entry_ino : (e : (ℕ × List ℕ) × Entry) → IsTrue (is_entry_node e) → e.1.ino < 2 ^ 32
entry_ino e h = grind (arith, nat_tests)

entry_name : (e : (ℕ × List ℕ) × Entry) → IsTrue (is_entry_node e) → IsTrue (is_name e.1.name)
entry_name e h = grind (arith, nat_tests)

name_some : (name : List ℕ) → IsTrue (is_name name) → is_empty name ≡ false
name_some name h = grind (arith, nat_tests)

pub name_most : (name : List ℕ) → IsTrue (is_name name) → length name ≤ 255
name_most name h = grind (arith, nat_tests)

name_plain : (name : List ℕ) → IsTrue (is_name name) → IsTrue (list_all (λ b. not (b == 0) && not (b == 47)) name)
name_plain name h = grind (arith, nat_tests)

known : (kind : Kind) → type_of_entry kind ≤ 6
known File = omega arith
known Dir = omega arith
known Symlink = omega arith
known Block = omega arith
known Char = omega arith
known Fifo = omega arith
known Socket = omega arith

dropped_name : (dir : ℕ) (name : List ℕ) → IsTrue (is_node (DropEntry dir name)) → IsTrue (is_name name)
dropped_name dir name h = grind (arith, nat_tests)

dropped_ino : (ino : ℕ) → IsTrue (is_node (DropInode ino)) → 1 ≤ ino
dropped_ino ino h = grind (arith, nat_tests)

-- whatever its size and its links
pub leaf_of_inode : (e : ℕ × Inode) → IsTrue (is_inode_node e) → (size nlink : ℕ) → IsLeaf (node_of (SetInode e.0 (record e.1 { size = size; nlink = nlink })))
leaf_of_inode e h size nlink = record { numbered = inode_numbered e h; most = most_data e h; plain = without_data e.1.kind e.1.mode e.1.extra (plain_mode e h) (no_data e h) }

pub leaf_of_entry : (e : (ℕ × List ℕ) × Entry) → IsTrue (is_entry_node e) → IsLeaf (node_of (SetEntry e.1))
leaf_of_entry e h =
    let name = entry_name e h in
    record {
      inum_fits = entry_ino e h;
      kind_known = known e.1.kind;
      some = not_empty e.1.name (name_some e.1.name name);
      most = name_most e.1.name name;
      plain = name_plain e.1.name name;
    }

-- two tests that pass together
pub first_of_two_tests : (a b : Bool) → IsTrue (a && b) → IsTrue a
first_of_two_tests true b h = refl
first_of_two_tests false b h = absurd cc

pub second_of : (a b : Bool) → IsTrue (a && b) → IsTrue b
second_of true b h = h
second_of false b h = absurd cc

-- the node of a change is in the grammar
pub leaf_of_node : (change : Change) → IsTrue (is_node change) → IsLeaf (node_of change)
leaf_of_node (SetInode ino node) h = leaf_of_inode (ino, node) h node.size node.nlink
leaf_of_node (SetEntry e) h = leaf_of_entry ((e.dir, e.name), e) (first_of_two_tests (is_entry_node ((e.dir, e.name), e)) (not (e.ino == 0)) h)
leaf_of_node (DropEntry dir name) h =
    let is = dropped_name dir name h in
    record { inum_fits = omega arith; kind_known = omega arith; some = not_empty name (name_some name is); most = name_most name is; plain = name_plain name is }
leaf_of_node (SetBlock ino number bytes) h =
    let stored : (ℕ × ℕ) × List ℕ = ((ino, number), bytes) in
    record { block_fits = block_fits stored h; some = not_empty bytes (some_bytes stored h); most = most_bytes stored h }
leaf_of_node (CutBlocks ino old_size new_size) h = tt
leaf_of_node (DropInode ino) h = record { numbered = dropped_ino ino h; most = omega arith; plain = λ e. refl }

-- and an inode's mode is plain
pub mode_of_node : (change : Change) → IsTrue (is_node change) → HasPlainMode change
mode_of_node (SetInode ino node) h = plain_mode (ino, node) h
mode_of_node (SetEntry e) h = tt
mode_of_node (DropEntry dir name) h = tt
mode_of_node (SetBlock ino number bytes) h = tt
mode_of_node (CutBlocks ino old_size new_size) h = tt
mode_of_node (DropInode ino) h = tt

-- ---- the change is carried
pub bits_are : (kind : Kind) (mode : ℕ) → mode < 4096 → bits_of (type_bits kind + mode) ≡ type_bits kind
bits_are File mode h = omega (arith, h)
bits_are Dir mode h = omega (arith, h)
bits_are Symlink mode h = omega (arith, h)
bits_are Block mode h = omega (arith, h)
bits_are Char mode h = omega (arith, h)
bits_are Fifo mode h = omega (arith, h)
bits_are Socket mode h = omega (arith, h)

pub mode_is : (kind : Kind) (mode : ℕ) → mode < 4096 → (type_bits kind + mode) % 0o10000 ≡ mode
mode_is File mode h = omega (arith, h)
mode_is Dir mode h = omega (arith, h)
mode_is Symlink mode h = omega (arith, h)
mode_is Block mode h = omega (arith, h)
mode_is Char mode h = omega (arith, h)
mode_is Fifo mode h = omega (arith, h)
mode_is Socket mode h = omega (arith, h)

pub bits_say : (kind : Kind) → kind_of_bits (type_bits kind) ≡ Some kind
bits_say File = refl
bits_say Dir = refl
bits_say Symlink = refl
bits_say Block = refl
bits_say Char = refl
bits_say Fifo = refl
bits_say Socket = refl

type_says : (kind : Kind) → kind_of_type (type_of_entry kind) ≡ Some kind
type_says File = refl
type_says Dir = refl
type_says Symlink = refl
type_says Block = refl
type_says Char = refl
type_says Fifo = refl
type_says Socket = refl

inode_back : (ino : ℕ) (node : Inode) → node.mode < 4096 → inode_of (inode_node ino node) node.kind ≡ node
inode_back ino node small = ap (λ (m : ℕ). record node { mode = m }) (mode_is node.kind node.mode small)

inode_carried : (ino : ℕ) (node : Inode) → node.mode < 4096 → inode_change (inode_node ino node) ≡ Some (as_replayed (SetInode ino node))
inode_carried ino node small = by (node.nlink == 0)
  where
    set : option_map (λ kind. SetInode ino (inode_of (inode_node ino node) kind)) (kind_of_bits (bits_of (type_bits node.kind + node.mode))) ≡ Some (SetInode ino node)
    set =
        ap (λ (bits : ℕ). option_map (λ kind. SetInode ino (inode_of (inode_node ino node) kind)) (kind_of_bits bits)) (bits_are node.kind node.mode small)
        ∙ ap (λ (k : Option Kind). option_map (λ kind. SetInode ino (inode_of (inode_node ino node) kind)) k) (bits_say node.kind)
        ∙ ap (λ (n : Inode). Some (SetInode ino n)) (inode_back ino node small)

    by : (test : Bool)
        → cond test (Some (DropInode ino)) (option_map (λ kind. SetInode ino (inode_of (inode_node ino node) kind)) (kind_of_bits (bits_of (type_bits node.kind + node.mode))))
        ≡ Some (cond test (DropInode ino) (SetInode ino node))
    by true = refl
    by false = set

entry_carried : (e : Entry) → IsTrue (not (e.ino == 0)) → change_of (node_of (SetEntry e)) ≡ Some (SetEntry e)
entry_carried e some = by (e.ino == 0) some
  where
    by : (test : Bool) → IsTrue (not test)
        → cond test (Some (DropEntry e.dir e.name)) (option_map (λ kind. SetEntry (record { dir = e.dir; name = e.name; ino = e.ino; kind = kind })) (kind_of_type (type_of_entry e.kind)))
        ≡ Some (SetEntry e)
    by true h = absurd cc
    by false h = ap (λ (k : Option Kind). option_map (λ kind. SetEntry (record { dir = e.dir; name = e.name; ino = e.ino; kind = kind })) k) (type_says e.kind)

-- the node of a change carries what recovery makes of the change
pub node_carries : (change : Change) → IsTrue (is_node change) → change_of (node_of change) ≡ Some (as_replayed change)
node_carries (SetInode ino node) h = inode_carried ino node (plain_mode (ino, node) h)
node_carries (SetEntry e) h = entry_carried e (second_of (is_entry_node ((e.dir, e.name), e)) (not (e.ino == 0)) h)
node_carries (DropEntry dir name) h = refl
node_carries (SetBlock ino number bytes) h = refl
node_carries (CutBlocks ino old_size new_size) h = refl
node_carries (DropInode ino) h = refl
