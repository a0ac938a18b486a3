use Rattle.fs_model.proofs.Ends.{WrittenSoFar}
use Rattle.fs_model.proofs.blocks.Blocks.write.Given as goal

-- the pages that are left make the rest of what is written, and no block ends behind the file or the bytes
abbrev pub invariant-loop-page : goal.invariant-loop-page
invariant-loop-page l = WrittenSoFar l.fn.self l.self l.ino l.offs l.n l.byte l.page l.page-end
