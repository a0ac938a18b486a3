-- What a keeper in memory shows: its files, and its calls.
use Rattle.std.specs.Prelude.{ℕ, List, Option, true}
use Rattle.std.specs.BTreeMap.{get_by_text}
use Rattle.io_edges.specs.Counts.{Calls}
use Rattle.io_edges.specs.Keeper.{KeeperState}
use Rattle.io_edges.specs.declared.mem_keeper.MemKeeper.{MemKeeper}

-- the bytes of the file of this name
abbrev pub content_of : MemKeeper → List ℕ → Option (List ℕ)
content_of keeper name = get_by_text keeper.files name

-- its calls of read and write
abbrev pub calls_of : MemKeeper → Calls
calls_of keeper = keeper.calls

-- all that there is to say of it
abbrev pub state_of : MemKeeper → KeeperState
state_of keeper = record { tells = true; content = content_of keeper; faults = (calls_of keeper).failed }
