use Rattle.std.proofs.Common.{Some}
use Rattle.std.specs.String.{string_bytes}
use Rattle.std.proofs.lemmas.Map.Text.{btree_map_updates_text}
use Rattle.io_edges.proofs.mem_keeper.MemKeeperKeeper.write.Goals as goal

pub returns-clause-written : goal.returns-clause-written
returns-clause-written c = λ other.
    let set = btree_map_updates_text (string_bytes c.in_ok-name.name) c.args.self.now.files c.insert.new.self (Some c.in_ok-bytes.bytes) c.in_ok-insert.ensures.updates other in
    rw (c.in_ok-name.ensures.ok, c.in_ok-bytes.ensures) at set
