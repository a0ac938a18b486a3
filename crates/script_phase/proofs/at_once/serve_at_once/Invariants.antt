use Rattle.plain_backing.specs.PlainBacking.{outlook_of}
use Rattle.vfs_ops.specs.Fs.{files_state}
use Rattle.script_phase.proofs.at_once.serve_at_once.Given as goal

-- the word that was just made, and the files as they are then
abbrev pub ghosts-ran : goal.ghosts-ran
ghosts-ran g a = record { word = a.word; pool = a.pool; start = record { files = files_state a.fs; outlook = outlook_of a.fs.backing; callers = a.ledger.callers } }
