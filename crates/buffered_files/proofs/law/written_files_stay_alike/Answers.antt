use Rattle.buffered_files.proofs.WrittenAlike.{written_alike}
use Rattle.buffered_files.proofs.law.written_files_stay_alike.Goals as goal

pub returns : goal.returns
returns c a b ino inode now offs n byte = written_alike a b ino inode now offs n byte
