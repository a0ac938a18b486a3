use Rattle.buffered_files.proofs.Filing.{Filing}
use Rattle.buffered_files.proofs.put.write_back_file.Given as goal

-- the pages of the tickets that are left are to be put
abbrev pub invariant-loop-ticket : goal.invariant-loop-ticket
invariant-loop-ticket g l = Filing (g.B.Backing.outlook l.fn.backing) (g.B.Backing.outlook l.backing) (g.B.Backing.state l.fn.backing) (g.B.Backing.state l.backing) l.fn.kept l.kept l.ino l.ticket-iterator.rest.items
