use Rattle.std.proofs.Common.{ap}
use Rattle.fs_model.specs.Same.{told_inodes}
use Rattle.buffered_files.proofs.law.alike_files_are_the_same.Goals as goal

pub returns : goal.returns
returns c a b h = record { inodes = ap told_inodes h.inodes; blocks = h.blocks; entries = h.entries; highest = h.highest; handles = h.handles }
