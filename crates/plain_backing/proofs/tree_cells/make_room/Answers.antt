use Rattle.plain_backing.proofs.Counted.{room_made}
use Rattle.plain_backing.proofs.tree_cells.make_room.Goals as goal

pub returns-in_ok-key-in-SetEntry-clause-made : goal.returns-in_ok-key-in-SetEntry-clause-made
returns-in_ok-key-in-SetEntry-clause-made c = room_made _ (record { inodes = c.args.cells.now.inodes; blocks = c.args.cells.now.blocks; entries = c.make_cell-in-SetEntry.new.map; highest = c.args.cells.now.highest; bytes = c.args.cells.now.bytes; orphans = c.args.cells.now.orphans }) _ _ c.in-SetEntry.is (rw c.in_ok-key-in-SetEntry.ensures at c.make_cell-in-SetEntry.ensures.made)

pub returns-in-SetBlock-clause-made : goal.returns-in-SetBlock-clause-made
returns-in-SetBlock-clause-made c = room_made _ (record { inodes = c.args.cells.now.inodes; blocks = c.make_cell-in-SetBlock.new.map; entries = c.args.cells.now.entries; highest = c.args.cells.now.highest; bytes = c.args.cells.now.bytes; orphans = c.args.cells.now.orphans }) _ _ c.in-SetBlock.is c.make_cell-in-SetBlock.ensures.made
