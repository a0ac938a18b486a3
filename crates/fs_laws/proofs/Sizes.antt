-- The bytes that a group's nodes take at most.
use Rattle.std.proofs.Common.{◌≡◌, ℕ, ◌≤◌, Bool, true, false, cond, not, ◌&&◌, ◌||◌, List, [], ◌∷◌, length, Some, refl, arith}
use Rattle.std.specs.Prelude.{◌==◌, nat_le, sum_by, if◌then◌else◌, Option, None}
use Rattle.std.specs.List.{list_all}
use Rattle.std.specs.Option.{option_map_or}
use Rattle.std.specs.Ordering.{nat_cmp}
use Rattle.std.proofs.lemmas.List.Sums.{sum_by-cons}
use Rattle.std.proofs.lemmas.Bool.{false≢true, and_parts, leb-true}
use Rattle.fs_model.specs.declared.change.Change.{Change}
use Rattle.fs_model.specs.declared.change.Change.TheVariants.{SetInode, SetEntry, DropEntry, SetBlock, CutBlocks, DropInode}
use Rattle.fs_model.specs.declared.inode.Inode.{Inode}
use Rattle.fs_model.specs.declared.inode.Kind.{Kind}
use Rattle.fs_model.specs.Backing.{is_node}
use Rattle.fs_model.specs.Cover.{inode_bytes}
use Rattle.fs_model.specs.Files.{Tree, inode_at}
use Rattle.fs_model.specs.Need.{change_bytes}
use Rattle.fs_model.specs.Path.{is_empty}
use Rattle.fs_model.specs.Proper.{is_entry_node, same_kind, has_data, are_bytes, are_words, is_inode_node, is_name}
use Rattle.fs_laws.proofs.InodeKinds.{same_is}
use Rattle.fs_laws.specs.Maps.{all_at}
use Rattle.fs_laws.proofs.Nodes.{node_of, block_node_of}
use Rattle.fs_laws.specs.Orders.{numbers}
use Rattle.fs_laws.proofs.Walks.{entry_node_of}

-- the most bytes that a change's node takes
abbrev pub cap : Change → ℕ
cap (SetInode ino inode) = if has_data inode.kind then 4256 else 160
cap (SetEntry entry) = 312
cap (DropEntry dir name) = 312
cap (SetBlock ino block bytes) = 4144
cap (CutBlocks ino old_size new_size) = 56
cap (DropInode ino) = 4256

empty_short : (xs : List ℕ) → is_empty xs ≡ true → length xs ≡ 0
empty_short [] h = omega arith
empty_short (x ∷ xs) h = absurd (false≢true h)

inode_within : (number : ℕ) (i : Inode) → is_inode_node (number, i) ≡ true → inode_bytes i ≤ cap (SetInode number i)
inode_within number i h =
    let n = node_of number i h in by (has_data i.kind) (leb-true (length i.extra) 4096 n.short) n.own
  where
    by : (d : Bool) → length i.extra ≤ 4096 → (is_empty i.extra || d) ≡ true → inode_bytes i ≤ cond d 4256 160
    by true short own = omega (arith, short)
    by false short own = let none = empty_short i.extra (plain (is_empty i.extra) own) in omega (arith, none)
      where
        plain : (b : Bool) → (b || false) ≡ true → b ≡ true
        plain true t = t
        plain false t = t

pub cap_most : (c : Change) → cap c ≤ 4256
cap_most (SetInode ino inode) = by (has_data inode.kind)
  where
    by : (d : Bool) → cond d 4256 160 ≤ 4256
    by true = omega arith
    by false = omega arith
cap_most (SetEntry entry) = omega arith
cap_most (DropEntry dir name) = omega arith
cap_most (SetBlock ino block bytes) = omega arith
cap_most (CutBlocks ino old_size new_size) = omega arith
cap_most (DropInode ino) = omega arith

-- an inode of a kind without data of its own
pub cap_plain : (number : ℕ) (i : Inode) (kind : Kind) → has_data kind ≡ false → same_kind i.kind kind ≡ true → cap (SetInode number i) ≡ 160
cap_plain number i kind none same = let is = same_is i.kind kind same in rw (is, none) refl

name_short : (name : List ℕ) → is_name name ≡ true → length name ≤ 255
name_short name h =
    let p3 = and_parts (not (is_empty name) && nat_le (length name) 255 && are_bytes name) (list_all (λ b. not (b == 0) && not (b == 47)) name) h in
    let p2 = and_parts (not (is_empty name) && nat_le (length name) 255) (are_bytes name) p3.0 in
    leb-true (length name) 255 (and_parts (not (is_empty name)) (nat_le (length name) 255) p2.0).1

change_within : (tree : Tree) (c : Change) → list_all is_inode_node tree.inodes ≡ true → is_node c ≡ true → change_bytes tree c ≤ cap c
change_within tree (SetInode ino inode) inodes node = inode_within ino inode node
change_within tree (SetEntry entry) inodes node = let short = name_short entry.name (entry_node_of (entry.dir, entry.name) entry (and_parts (is_entry_node ((entry.dir, entry.name), entry)) (not (entry.ino == 0)) node).0).name in omega (arith, short)
change_within tree (DropEntry dir name) inodes node = let short = name_short name (and_parts (are_words (dir ∷ [])) (is_name name) node).1 in omega (arith, short)
change_within tree (SetBlock ino block bytes) inodes node = let short = (block_node_of ((ino, block), bytes) node).short in omega (arith, short)
change_within tree (CutBlocks ino old_size new_size) inodes node = omega arith
change_within tree (DropInode ino) inodes node = by (inode_at tree ino) refl
  where
    by : (o : Option Inode) → inode_at tree ino ≡ o → option_map_or inode_bytes o 160 ≤ 4256
    by None f = omega arith
    by (Some i) f =
        let it = inode_within ino i (all_at nat_cmp numbers is_inode_node tree.inodes ino i inodes f) in
        let most = cap_most (SetInode ino i) in
        omega (arith, it, most)

pub group_within : (tree : Tree) (group : List Change) → list_all is_inode_node tree.inodes ≡ true → list_all is_node group ≡ true → sum_by (change_bytes tree) group ≤ sum_by cap group
group_within tree [] inodes nodes = omega arith
group_within tree (c ∷ group) inodes nodes =
    let p = and_parts (is_node c) (list_all is_node group) nodes in
    let one = change_within tree c inodes p.0 in
    let rest = group_within tree group inodes p.1 in
    let left = sum_by-cons (change_bytes tree) c group in
    let right = sum_by-cons cap c group in
    omega (arith, one, rest, left, right)

some_bytes : (tree : Tree) (c : Change) → 1 ≤ change_bytes tree c
some_bytes tree (SetInode ino inode) = omega arith
some_bytes tree (SetEntry entry) = omega arith
some_bytes tree (DropEntry dir name) = omega arith
some_bytes tree (SetBlock ino block bytes) = omega arith
some_bytes tree (CutBlocks ino old_size new_size) = omega arith
some_bytes tree (DropInode ino) = by (inode_at tree ino)
  where
    by : (o : Option Inode) → 1 ≤ option_map_or inode_bytes o 160
    by None = omega arith
    by (Some i) = omega arith

-- each node has bytes
pub group_long : (tree : Tree) (group : List Change) → length group ≤ sum_by (change_bytes tree) group
group_long tree [] = omega arith
group_long tree (c ∷ group) =
    let one = some_bytes tree c in
    let rest = group_long tree group in
    let sums = sum_by-cons (change_bytes tree) c group in
    omega (arith, one, rest, sums)
