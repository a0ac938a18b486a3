use Rattle.std.proofs.Common.{Some}
use Rattle.std.specs.String.{string_bytes}
use Rattle.std.proofs.lemmas.Map.Text.{btree_map_updates_text}
use Rattle.io_edges.proofs.mem_keeper.MemKeeperKeeper.write_pieces.Goals as goal

pub returns-clause-written : goal.returns-clause-written
returns-clause-written g c = λ other.
    let set = btree_map_updates_text (string_bytes c.in_ok-file.file) c.args.self.now.files c.insert.new.self (Some c.from_vec.result) c.in_ok-insert.ensures.updates other in
    rw (c.in_ok-file.ensures.ok, c.from_vec.ensures, c.in-Ok.ensures) at set
