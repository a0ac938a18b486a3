use Rattle.plain_backing.specs.PlainBacking.{outlook_of}
use Rattle.vfs_ops.specs.Fs.{files_state}
use Rattle.caller_tests.proofs.gate_tests.worked_on_fresh.Given as goal

-- the word that was just made, and the files as they are then
abbrev pub ghosts-worked_beside : goal.ghosts-worked_beside
ghosts-worked_beside g a = record { word = a.word; pool = a.pool; start = record { files = files_state a.fs; outlook = outlook_of a.fs.backing; callers = 1 } }
