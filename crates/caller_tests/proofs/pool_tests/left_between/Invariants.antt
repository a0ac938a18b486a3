use Rattle.plain_backing.specs.PlainBacking.{outlook_of}
use Rattle.vfs_ops.specs.Fs.{files_state}
use Rattle.caller_tests.proofs.pool_tests.left_between.Given as goal

-- the word that was just made, and the files as they are then
abbrev pub ghosts-left_in_pool : goal.ghosts-left_in_pool
ghosts-left_in_pool g a = record { word = a.word; pool = a.pool; start = record { files = files_state a.fs; outlook = outlook_of a.fs.backing; callers = a.ledger.callers } }
