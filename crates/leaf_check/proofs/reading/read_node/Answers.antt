use Rattle.std.proofs.Common.{◌≡◌, ◌∙◌, ◌++◌, length, sym, ap}
use Rattle.leaf_check.proofs.WholeLeaves.{read_none, read_some}
use Rattle.leaf_check.proofs.ReadBytes.{read_bytes, taken_length, written_front}
use Rattle.leaf_check.proofs.reading.read_node.Goals as goal

pub returns-clause-some : goal.returns-clause-some
returns-clause-some g c =
    let contents = (g.V.Volume.state c.args.volume.now).holds in
    let leaf = c.args.leaf.now in
    let place = c.has_place.ensures.yes c.if-not-has_place.false in
    let bytes = c.in_ok-read.ensures.read ∙ read_bytes (contents leaf.lnum) leaf.offs _ leaf.len c.split_at_mut-bytes.ensures.front_len in
    let own : length c.read.new.out ≡ leaf.len = ap length bytes ∙ taken_length (contents leaf.lnum) leaf.offs leaf.len place.room in
    read_some c.whole_leaf.result contents leaf c.read.new.out (c.read.new.out ++ c.split_at_mut-bytes.result.1.now) bytes (written_front c.read.new.out c.split_at_mut-bytes.result.1.now leaf.len (sym own)) own place.room c.whole_leaf.ensures.some

pub returns-clause-none : goal.returns-clause-none
returns-clause-none g c =
    let contents = (g.V.Volume.state c.args.volume.now).holds in
    let leaf = c.args.leaf.now in
    read_none c.whole_leaf.result contents leaf c.read.new.out (c.in_ok-read.ensures.read ∙ read_bytes (contents leaf.lnum) leaf.offs _ leaf.len c.split_at_mut-bytes.ensures.front_len) c.whole_leaf.ensures.none
