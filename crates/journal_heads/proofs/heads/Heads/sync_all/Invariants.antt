use Rattle.journal_heads.proofs.Syncing.{Syncing}
use Rattle.journal_heads.proofs.heads.Heads.sync_all.Given as goal

abbrev pub invariant-loop-head : goal.invariant-loop-head
invariant-loop-head g l = Syncing (g.V.Volume.state l.fn.volume) (g.V.Volume.state l.volume) l.fn.self l.self l.head
