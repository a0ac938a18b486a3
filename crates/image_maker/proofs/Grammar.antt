-- What is written of a node is in the grammar, if each of its numbers fits its bytes.
use Rattle.std.proofs.Common.{ℕ, suc, ◌+◌, ◌≤◌, ◌<◌, ◌^◌, List, [], ◌∷◌, length, arith}
use Rattle.std.specs.Bool.{IsTrue}
use Rattle.std.specs.List.{AllByRecursion}
use Rattle.std.proofs.lemmas.Bool.Decides.{nat_tests}
use Rattle.node_fields.specs.Fields.{AllFit}
use Rattle.node_fields.specs.FormLaws.{written_is}
use Rattle.media_leaf.specs.declared.dent_node.DentNode.{DentNode}
use Rattle.media_leaf.specs.LeafNode.{LeafNode, inode, block, entry, truncation, IsLeaf, fields_of, leaf_form, type_of}
use Rattle.fs_model.specs.declared.change.Change.TheVariants.{SetInode, SetEntry, SetBlock}
use Rattle.fs_model.specs.declared.inode.Entry.{Entry}
use Rattle.fs_model.specs.declared.inode.Inode.{Inode}
use Rattle.fs_model.specs.Proper.{is_block_node, is_entry_node, is_inode_node, is_name}
use Rattle.group_nodes.specs.FitLaws.{r5_small, inode_words, mode_fits, kind_fits, block_ino, block_number}
use Rattle.group_nodes.specs.Nodes.{node_of}
use Rattle.group_nodes.specs.NodeLaws.{leaf_of_entry, leaf_of_inode, leaf_of_node, most_bytes, most_data, name_most, plain_mode}
use Rattle.group_nodes.specs.TextLaws.{width}
use Rattle.group_nodes.specs.Texts.{leaf_len}
use Rattle.image_maker.specs.Places.{IsWrittenLeaf, numbered_leaves}

-- a node of the grammar whose numbers fit
abbrev pub CanBeWritten : LeafNode → Type 0
CanBeWritten leaf = IsLeaf leaf × AllFit (fields_of leaf)

low_entry : (node : DentNode) → type_of (entry node) < 256
low_entry node = grind arith

low_type : (leaf : LeafNode) → type_of leaf < 256
low_type (inode node) = omega arith
low_type (block node) = omega arith
low_type (entry node) = low_entry node
low_type (truncation node) = omega arith

pub short : (leaf : LeafNode) → IsLeaf leaf → leaf_len leaf ≤ 4256
short (inode node) h = let most = h.most in omega (arith, most)
short (block node) h = let most = h.most in omega (arith, most)
short (entry node) h = let most = h.most in omega (arith, most)
short (truncation node) h = omega arith

is_written : (sqnum : ℕ) (leaf : LeafNode) → sqnum < 2 ^ 64 → CanBeWritten leaf → IsWrittenLeaf (sqnum, leaf)
is_written sqnum leaf small h =
    let few = short leaf h.0 in
    let wide = width leaf in
    written_is leaf_form sqnum 0 leaf small (omega arith) (low_type leaf) h.1 (omega (arith, few, wide)) h.0

pub are_written : (sqnum : ℕ) (leaves : List LeafNode) → sqnum + length leaves < 2 ^ 64 → AllByRecursion CanBeWritten leaves → AllByRecursion IsWrittenLeaf (numbered_leaves sqnum leaves)
are_written sqnum [] small h = tt
are_written sqnum (leaf ∷ leaves) small h = (is_written sqnum leaf (omega (arith, small)) h.0, are_written (suc sqnum) leaves (omega (arith, small)) h.1)

pub all_leaves : (leaves : List LeafNode) → AllByRecursion CanBeWritten leaves → AllByRecursion IsLeaf leaves
all_leaves [] h = tt
all_leaves (leaf ∷ leaves) h = (h.0.0, all_leaves leaves h.1)

pub nlink_fits : (e : ℕ × Inode) → IsTrue (is_inode_node e) → e.1.nlink < 2 ^ 32
nlink_fits e h = (inode_words e h).nlink

pub size_fits : (e : ℕ × Inode) → IsTrue (is_inode_node e) → e.1.size < 2 ^ 64
size_fits e h = (inode_words e h).size

-- whatever its size and its links, if they fit
pub inode_written : (e : ℕ × Inode) (size nlink : ℕ) → IsTrue (is_inode_node e) → size < 2 ^ 64 → nlink < 2 ^ 32 → CanBeWritten (node_of (SetInode e.0 (record e.1 { size = size; nlink = nlink })))
inode_written e size nlink h s l =
    let w = inode_words e h in
    let most = most_data e h in
    let mode = mode_fits e.1.kind e.1.mode (plain_mode e h) in
    (leaf_of_inode e h size nlink, (w.ino_fits, (omega arith, (s, (w.atime, (w.ctime, (w.mtime, (l, (w.uid, (w.gid, (mode, (w.flags, (omega (arith, most), (omega arith, (omega arith, (omega arith, tt))))))))))))))))

pub block_written : (b : (ℕ × ℕ) × List ℕ) → IsTrue (is_block_node b) → CanBeWritten (node_of (SetBlock b.0.0 b.0.1 b.1))
block_written b h =
    let number = block_number b h in
    let most = most_bytes b h in
    (leaf_of_node (SetBlock b.0.0 b.0.1 b.1) h, (block_ino b h, (omega (arith, number), (omega (arith, most), (omega arith, tt)))))

entry_dir : (e : (ℕ × List ℕ) × Entry) → IsTrue (is_entry_node e) → e.1.dir < 2 ^ 32
entry_dir e h = grind (arith, nat_tests)

entry_ino : (e : (ℕ × List ℕ) × Entry) → IsTrue (is_entry_node e) → e.1.ino < 2 ^ 32
entry_ino e h = grind (arith, nat_tests)

entry_name : (e : (ℕ × List ℕ) × Entry) → IsTrue (is_entry_node e) → IsTrue (is_name e.1.name)
entry_name e h = grind (arith, nat_tests)

pub entry_written : (e : (ℕ × List ℕ) × Entry) → IsTrue (is_entry_node e) → CanBeWritten (node_of (SetEntry e.1))
entry_written e h =
    let bits = r5_small e.1.name in
    let ino = entry_ino e h in
    let most = name_most e.1.name (entry_name e h) in
    (leaf_of_entry e h, (entry_dir e h, (omega (arith, bits), (omega (arith, ino), (kind_fits e.1.kind, (omega (arith, most), tt))))))
