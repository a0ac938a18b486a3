use Rattle.std.proofs.Common.{refl}
use Rattle.media_sys.specs.Superblock.{super_at}
use Rattle.media_sys.proofs.super_node.node_at.Goals as goal

pub returns : goal.returns
unfolding super_at
returns c =
    rw (
      c.u16_at.ensures,
      c.u64_at.ensures,
      c.u64_at-2.ensures,
      c.uuid_at.ensures,
      c.u32_at.ensures,
      c.u32_at-2.ensures,
      c.u32_at-3.ensures,
      c.u32_at-4.ensures,
      c.u32_at-5.ensures,
      c.u32_at-6.ensures,
      c.u32_at-7.ensures,
      c.u32_at-8.ensures,
      c.u32_at-9.ensures,
      c.u32_at-10.ensures,
      c.u32_at-11.ensures,
      c.u32_at-12.ensures,
      c.u32_at-13.ensures,
      c.u32_at-14.ensures,
      c.u32_at-15.ensures,
      c.u32_at-16.ensures,
    ) refl
