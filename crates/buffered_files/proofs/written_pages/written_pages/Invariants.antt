use Rattle.buffered_files.proofs.Written.{PagesSoFar}
use Rattle.buffered_files.proofs.written_pages.written_pages.Given as goal

-- the first pages are as they are written
abbrev pub invariant-loop-page : goal.invariant-loop-page
invariant-loop-page g l = PagesSoFar (g.B.Backing.outlook l.fn.backing) (g.B.Backing.outlook l.backing) (g.B.Backing.state l.fn.backing) (g.B.Backing.state l.backing) l.kept l.ino l.offs l.n l.byte l.page l.page-end l.pages.items
