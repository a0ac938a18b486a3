use Rattle.plain_backing.specs.PlainBacking.{outlook_of}
use Rattle.vfs_ops.specs.Fs.{files_state}
use Rattle.caller_tests.proofs.phase_tests.are_answered.Given as goal

-- the word that was just made, and the files as they are then
abbrev pub ghosts-told_by_phase : goal.ghosts-told_by_phase
ghosts-told_by_phase g a = record { word = a.word; pool = a.pool; start = record { files = files_state a.fs; outlook = outlook_of a.fs.backing; callers = 3 } }
