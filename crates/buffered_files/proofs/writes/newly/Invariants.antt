use Rattle.buffered_files.proofs.Written.{Counting}
use Rattle.buffered_files.proofs.writes.newly.Given as goal

abbrev pub invariant-loop-page : goal.invariant-loop-page
invariant-loop-page l = Counting l.kept.pages.dirty l.ino l.offs l.n l.page l.page-end l.count
