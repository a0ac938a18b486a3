-- The bytes that a group asks for.
use Rattle.std.proofs.Common.{◌≡◌, ℕ, ◌+◌, ◌*◌, ◌≤◌, IsTrue, List, [], ◌∷◌, length, sum_by, refl, sym, ◌∙◌, arith}
use Rattle.std.specs.List.{list_all}
use Rattle.std.proofs.lemmas.Bool.{and_parts}
use Rattle.std.proofs.lemmas.List.Sums.{sum_by-cons}
use Rattle.std.proofs.lemmas.Bool.Decides.{nat_tests}
use Rattle.fs_model.specs.declared.change.Change.{Change}
use Rattle.fs_model.specs.declared.change.Change.TheVariants.{SetInode, SetEntry, DropEntry, SetBlock, CutBlocks, DropInode}
use Rattle.fs_model.specs.Backing.{is_node}
use Rattle.fs_model.specs.Cover.{round_8}
use Rattle.fs_model.specs.Files.{Tree}
use Rattle.fs_model.specs.Need.{change_bytes}
use Rattle.op_groups.specs.Facts.{IsGone, bytes_asked}

-- in a tree in which what goes takes so many, the sums are one
pub asked_bytes : (tree : Tree) (gone : ℕ) (group : List Change) → IsGone tree gone group → sum_by (bytes_asked gone) group ≡ sum_by (change_bytes tree) group
asked_bytes tree gone [] h = refl
asked_bytes tree gone (change ∷ group) h =
    sum_by-cons (bytes_asked gone) change group ∙ (rw (← h.0, asked_bytes tree gone group h.1) (sym (sum_by-cons (change_bytes tree) change group)))

pub rounded : (n most : ℕ) → n ≤ 8 * most → round_8 n ≤ 8 * most
rounded n most h = omega arith

-- a node is no longer than an inode's with the longest target
pub one_little : (gone : ℕ) (change : Change) → gone ≤ 4256 → IsTrue (is_node change) → bytes_asked gone change ≤ 4256
one_little gone (SetInode ino inode) g h =
    let short : length inode.extra ≤ 4096 = grind (arith, nat_tests) in rounded (160 + length inode.extra) 532 (omega arith)
one_little gone (SetEntry entry) g h =
    let short : length entry.name ≤ 255 = grind (arith, nat_tests) in rounded (57 + length entry.name) 532 (omega arith)
one_little gone (DropEntry dir name) g h =
    let short : length name ≤ 255 = grind (arith, nat_tests) in rounded (57 + length name) 532 (omega arith)
one_little gone (SetBlock ino block bytes) g h =
    let short : length bytes ≤ 4096 = grind (arith, nat_tests) in rounded (48 + length bytes) 532 (omega arith)
one_little gone (CutBlocks ino old_size new_size) g h = omega arith
one_little gone (DropInode ino) g h = g

pub nodes_ask_little : (gone : ℕ) (group : List Change) → gone ≤ 4256 → IsTrue (list_all is_node group) → sum_by (bytes_asked gone) group ≤ 4256 * length group
nodes_ask_little gone [] g h = omega arith
nodes_ask_little gone (change ∷ group) g h =
    let p = and_parts (is_node change) (list_all is_node group) h in
    rw (sum_by-cons (bytes_asked gone) change group) (omega (arith, one_little gone change g p.0, nodes_ask_little gone group g p.1))
