use Rattle.byteorder.specs.Endian.{little_bytes}
use Rattle.node_fields.specs.PlaceLaws.{written_at}
use Rattle.node_fields.proofs.fields.put_u64.Goals as goal

pub returns-clause-place : goal.returns-clause-place
returns-clause-place c =
    let halves = c.split_at_mut.ensures in
    written_at c.args.at 8 c.split_at_mut.result.0.now c.write_u64.new.buf c.split_at_mut.result.1.now c.args.body.now (little_bytes 8 c.args.number) halves.front_len c.write_u64.ensures halves.back
