use Rattle.buffered_files.proofs.Reading.{piece_pushed}
use Rattle.buffered_files.proofs.reads.push_piece.Goals as goal

pub returns : goal.returns
returns c =
    piece_pushed c.args.out.now.items c.extend_from_slice.new.self.items c.args.bytes.now c.push_copies.new.out.items c.args.from c.args.count c.min-start.result c.min-end.result
    c.in_ok-extend_from_slice.ensures.items c.min-start.ensures c.min-end.ensures c.in_ok-push_copies.ensures.ok
