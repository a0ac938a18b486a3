use Rattle.std.proofs.Common.{length}
use Rattle.node_fields.specs.PlaceLaws.{written_at}
use Rattle.node_fields.proofs.fields.put_bytes.Goals as goal

pub returns : goal.returns
returns c =
    let halves = c.split_at_mut.ensures in
    let bytes = c.args.bytes.now in
    written_at c.args.at (length bytes) c.split_at_mut.result.0.now c.copy_front.new.body c.split_at_mut.result.1.now c.args.body.now bytes halves.front_len c.copy_front.ensures halves.back
