-- Numbers of inodes, blocks and entries that are nodes fit the bytes that nodes have for them.
use Rattle.std.proofs.Common.{ℕ, ◌+◌, ◌<◌, ◌^◌, List, arith, inl, inr}
use Rattle.std.specs.Prelude.{◌%◌, if◌then◌else◌, nat_le}
use Rattle.std.specs.Bool.{IsTrue}
use Rattle.std.proofs.lemmas.Bool.{cases_Bool, leb-true}
use Rattle.std.proofs.lemmas.Bool.Decides.{nat_tests}
use Rattle.ubifs_base.specs.R5.{r5_of, r5_from}
use Rattle.fs_model.specs.declared.inode.Inode.{Inode}
use Rattle.fs_model.specs.declared.inode.Kind.{Kind}
use Rattle.fs_model.specs.declared.inode.Kind.TheVariants.{File, Dir, Symlink, Block, Char, Fifo, Socket}
use Rattle.fs_model.specs.Proper.{is_block_node, is_inode_node}
use Rattle.group_nodes.specs.Nodes.{type_of_entry, type_bits}

-- a hash has 29 bits
above_two : (masked : ℕ) → masked < 2 ^ 29 → (if nat_le masked 2 then masked + 3 else masked) < 2 ^ 29
above_two masked h = elim (cases_Bool (nat_le masked 2)) [
  | inl e ↦ rw e (let few = leb-true masked 2 e in omega (arith, few))
  | inr e ↦ rw e h
]

pub r5_small : (name : List ℕ) → r5_of name < 2 ^ 29
unfolding r5_of
r5_small name = above_two (r5_from 0 name % 2 ^ 29) (omega arith)

-- the numbers of an inode
pub record AreWords (ino : ℕ) (node : Inode) : Type 0 where
  pub ino_fits : ino < 2 ^ 32
  pub uid : node.uid < 2 ^ 32
  pub gid : node.gid < 2 ^ 32
  pub flags : node.flags < 2 ^ 32
  pub nlink : node.nlink < 2 ^ 32
  pub size : node.size < 2 ^ 64
  pub atime : node.atime < 2 ^ 64
  pub ctime : node.ctime < 2 ^ 64
  pub mtime : node.mtime < 2 ^ 64

pub inode_words : (e : ℕ × Inode) → IsTrue (is_inode_node e) → AreWords e.0 e.1
inode_words e h = record {
  ino_fits = grind (arith, nat_tests);
  uid = grind (arith, nat_tests);
  gid = grind (arith, nat_tests);
  flags = grind (arith, nat_tests);
  nlink = grind (arith, nat_tests);
  size = grind (arith, nat_tests);
  atime = grind (arith, nat_tests);
  ctime = grind (arith, nat_tests);
  mtime = grind (arith, nat_tests);
}

pub mode_fits : (kind : Kind) (mode : ℕ) → mode < 4096 → type_bits kind + mode < 2 ^ 32
mode_fits File mode h = omega (arith, h)
mode_fits Dir mode h = omega (arith, h)
mode_fits Symlink mode h = omega (arith, h)
mode_fits Block mode h = omega (arith, h)
mode_fits Char mode h = omega (arith, h)
mode_fits Fifo mode h = omega (arith, h)
mode_fits Socket mode h = omega (arith, h)

-- the type of an entry
pub kind_fits : (kind : Kind) → type_of_entry kind < 256
kind_fits File = omega arith
kind_fits Dir = omega arith
kind_fits Symlink = omega arith
kind_fits Block = omega arith
kind_fits Char = omega arith
kind_fits Fifo = omega arith
kind_fits Socket = omega arith

-- the numbers of a block
pub block_ino : (b : (ℕ × ℕ) × List ℕ) → IsTrue (is_block_node b) → b.0.0 < 2 ^ 32
block_ino b h = grind (arith, nat_tests)

pub block_number : (b : (ℕ × ℕ) × List ℕ) → IsTrue (is_block_node b) → b.0.1 < 2 ^ 29
block_number b h = grind (arith, nat_tests)
