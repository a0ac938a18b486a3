use Rattle.node_table.proofs.DirtyLists.{dirty_kept}
use Rattle.node_table.proofs.Inserted.{root_kept, sound_kept, tree_kept}
use Rattle.node_table.proofs.laws.roots_stay.Goals as goal

pub returns : goal.returns
returns c = record { there = root_kept; sound = sound_kept; tree = tree_kept; dirty = dirty_kept }
