use Rattle.fs_model.proofs.LookUps.{sets_inode, sets_entry, leaves_entries, sets_block, cuts_blocks, drops_inode}
use Rattle.fs_model.proofs.law.changes_are_seen.Goals as goal

pub returns : goal.returns
returns c = record { inode = sets_inode; entry = sets_entry; names = leaves_entries; block = sets_block; cut = cuts_blocks; dropped = drops_inode }
