use Rattle.buffered_files.proofs.SizesAlike.{sizes_alike}
use Rattle.buffered_files.proofs.law.resized_files_stay_alike.Goals as goal

pub returns : goal.returns
returns c a b ino inode size now first second found plain alike = sizes_alike a b ino inode size now first second found plain alike
