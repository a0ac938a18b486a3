use Rattle.std.proofs.Common.{refl}
use Rattle.media_leaf.specs.Inode.{inode_at}
use Rattle.media_leaf.proofs.ino_node.node_at.Goals as goal

pub returns : goal.returns
unfolding inode_at
returns c = rw (c.u32_at.ensures, c.u64_at.ensures, c.u64_at-2.ensures, c.u64_at-3.ensures, c.u64_at-4.ensures, c.u32_at-2.ensures, c.u32_at-3.ensures, c.u32_at-4.ensures, c.u32_at-5.ensures, c.u32_at-6.ensures, c.u32_at-7.ensures, c.u32_at-8.ensures, c.u32_at-9.ensures, c.in_ok-from_slice.ensures, c.split_at.ensures.back) refl
