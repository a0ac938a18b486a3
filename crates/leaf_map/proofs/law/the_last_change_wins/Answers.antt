use Rattle.leaf_map.proofs.Lasts.{last_block, last_entry, last_inode}
use Rattle.leaf_map.proofs.Sorted.{leaves_sorted}
use Rattle.leaf_map.proofs.law.the_last_change_wins.Goals as goal

pub returns : goal.returns
returns c = record { inode = last_inode; block = last_block; entry = last_entry; sorted = leaves_sorted }
