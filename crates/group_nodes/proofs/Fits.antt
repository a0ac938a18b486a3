-- Each number of a change's node fits its bytes.
use Rattle.std.specs.Prelude.{◌==◌}
use Rattle.group_nodes.specs.NodeLaws.{first_of_two_tests}
use Rattle.std.proofs.Common.{not, ℕ, ◌<◌, ◌≤◌, ◌^◌, false, List, length, arith}
use Rattle.std.specs.Bool.{IsTrue}
use Rattle.std.proofs.lemmas.Bool.Decides.{nat_tests}
use Rattle.node_fields.specs.Fields.{AllFit}
use Rattle.media_leaf.specs.LeafNode.{entry, type_of, fields_of}
use Rattle.fs_model.specs.declared.change.Change.{Change}
use Rattle.fs_model.specs.declared.change.Change.TheVariants.{SetInode, SetEntry, DropEntry, SetBlock, CutBlocks, DropInode}
use Rattle.fs_model.specs.declared.inode.Entry.{Entry}
use Rattle.fs_model.specs.Backing.{is_node}
use Rattle.fs_model.specs.Proper.{is_entry_node, is_name}
use Rattle.group_nodes.specs.FitLaws.{r5_small, inode_words, mode_fits, kind_fits, block_ino, block_number}
use Rattle.group_nodes.specs.Nodes.{type_of_entry, node_of}
use Rattle.group_nodes.specs.NodeLaws.{plain_mode, most_data, most_bytes, name_most}
use Rattle.group_nodes.specs.Texts.{leaf_len}

-- an entry's numbers
entry_fits : (dir inum kind : ℕ) (name : List ℕ) → dir < 2 ^ 32 → inum < 2 ^ 32 → kind < 256 → length name ≤ 255
    → AllFit (fields_of (entry (record { dir = dir; inum = inum; kind = kind; name = name; attribute = false })))
entry_fits dir inum kind name d i k n =
    let bits = r5_small name in
    (d, (omega (arith, bits), (omega (arith, i), (k, (omega (arith, n), tt)))))

entry_dir : (e : Entry) → IsTrue (is_entry_node ((e.dir, e.name), e)) → e.dir < 2 ^ 32
entry_dir e h = grind (arith, nat_tests)

entry_ino : (e : Entry) → IsTrue (is_entry_node ((e.dir, e.name), e)) → e.ino < 2 ^ 32
entry_ino e h = grind (arith, nat_tests)

entry_name : (e : Entry) → IsTrue (is_entry_node ((e.dir, e.name), e)) → IsTrue (is_name e.name)
entry_name e h = grind (arith, nat_tests)

dropped_dir : (dir : ℕ) (name : List ℕ) → IsTrue (is_node (DropEntry dir name)) → dir < 2 ^ 32
dropped_dir dir name h = grind (arith, nat_tests)

dropped_name : (dir : ℕ) (name : List ℕ) → IsTrue (is_node (DropEntry dir name)) → IsTrue (is_name name)
dropped_name dir name h = grind (arith, nat_tests)

cut_ino : (ino old_size new_size : ℕ) → IsTrue (is_node (CutBlocks ino old_size new_size)) → ino < 2 ^ 32
cut_ino ino old_size new_size h = grind (arith, nat_tests)

cut_old : (ino old_size new_size : ℕ) → IsTrue (is_node (CutBlocks ino old_size new_size)) → old_size < 2 ^ 64
cut_old ino old_size new_size h = grind (arith, nat_tests)

cut_new : (ino old_size new_size : ℕ) → IsTrue (is_node (CutBlocks ino old_size new_size)) → new_size < 2 ^ 64
cut_new ino old_size new_size h = grind (arith, nat_tests)

gone_ino : (ino : ℕ) → IsTrue (is_node (DropInode ino)) → ino < 2 ^ 32
gone_ino ino h = grind (arith, nat_tests)

entry_of : (e : Entry) → IsTrue (is_node (SetEntry e)) → IsTrue (is_entry_node ((e.dir, e.name), e))
entry_of e h = first_of_two_tests (is_entry_node ((e.dir, e.name), e)) (not (e.ino == 0)) h

pub node_fits : (change : Change) → IsTrue (is_node change) → AllFit (fields_of (node_of change))
node_fits (SetInode ino node) h =
    let w = inode_words (ino, node) h in
    let most = most_data (ino, node) h in
    let mode = mode_fits node.kind node.mode (plain_mode (ino, node) h) in
    (w.ino_fits, (omega arith, (w.size, (w.atime, (w.ctime, (w.mtime, (w.nlink, (w.uid, (w.gid, (mode, (w.flags, (omega (arith, most), (omega arith, (omega arith, (omega arith, tt)))))))))))))))
node_fits (SetEntry e) h = entry_fits e.dir e.ino (type_of_entry e.kind) e.name (entry_dir e (entry_of e h)) (entry_ino e (entry_of e h)) (kind_fits e.kind) (name_most e.name (entry_name e (entry_of e h)))
node_fits (DropEntry dir name) h = entry_fits dir 0 0 name (dropped_dir dir name h) (omega arith) (omega arith) (name_most name (dropped_name dir name h))
node_fits (SetBlock ino number bytes) h =
    let stored : (ℕ × ℕ) × List ℕ = ((ino, number), bytes) in
    let number_is = block_number stored h in
    let most = most_bytes stored h in
    (block_ino stored h, (omega (arith, number_is), (omega (arith, most), (omega arith, tt))))
node_fits (CutBlocks ino old_size new_size) h = (cut_ino ino old_size new_size h, (cut_old ino old_size new_size h, (cut_new ino old_size new_size h, tt)))
node_fits (DropInode ino) h =
    (gone_ino ino h, (omega arith, (omega arith, (omega arith, (omega arith, (omega arith, (omega arith, (omega arith, (omega arith, (omega arith, (omega arith, (omega arith, (omega arith, (omega arith, (omega arith, tt)))))))))))))))

-- and its length
pub node_short : (change : Change) → IsTrue (is_node change) → leaf_len (node_of change) ≤ 4256
node_short (SetInode ino node) h = let most = most_data (ino, node) h in omega (arith, most)
node_short (SetEntry e) h = let most = name_most e.name (entry_name e (entry_of e h)) in omega (arith, most)
node_short (DropEntry dir name) h = let most = name_most name (dropped_name dir name h) in omega (arith, most)
node_short (SetBlock ino number bytes) h =
    let stored : (ℕ × ℕ) × List ℕ = ((ino, number), bytes) in
    let most = most_bytes stored h in
    omega (arith, most)
node_short (CutBlocks ino old_size new_size) h = omega arith
node_short (DropInode ino) h = omega arith

-- and its type, which isn't that of a padding node
pub node_type : (change : Change) → type_of (node_of change) ≤ 4
node_type (SetInode ino node) = omega arith
node_type (SetEntry e) = omega arith
node_type (DropEntry dir name) = omega arith
node_type (SetBlock ino number bytes) = omega arith
node_type (CutBlocks ino old_size new_size) = omega arith
node_type (DropInode ino) = omega arith
