use Rattle.std.proofs.Common.{◌≡◌, ◌∙◌, length, subst, sym, arith, rules}
use Rattle.group_nodes.specs.LengthLaws.{bytes_there, written_back}
use Rattle.shown_leaves.specs.Stored.{IsStoredIn}
use Rattle.shown_leaves.proofs.Lengths.{none_behind, none_longer, none_past}
use Rattle.shown_leaves.proofs.reading.read_node.Goals as goal

pub returns-then-lnum-leb_cnt-clause-read : goal.returns-then-lnum-leb_cnt-clause-read
returns-then-lnum-leb_cnt-clause-read g c =
    let past = c.if-lnum-leb_cnt.true in
    let count = c.leb_cnt.ensures in
    none_past ((g.V.Volume.state c.args.volume.now).holds c.args.lnum) c.args.offs c.args.len (g.met.V.Volume.none c.args.volume.now c.args.lnum (omega (arith, past, count)))

pub returns-then-offs-size-clause-read : goal.returns-then-offs-size-clause-read
returns-then-offs-size-clause-read g c =
    let past = c.if-offs-size.true in
    let size = c.leb_size-size.ensures in
    let less = c.if-lnum-leb_cnt.false in
    let count = c.leb_cnt.ensures in
    let long = g.met.V.Volume.leb_len c.args.volume.now c.args.lnum (omega (arith, less, count)) in
    none_behind ((g.V.Volume.state c.args.volume.now).holds c.args.lnum) c.args.offs c.args.len (omega (arith, past, size, long))

pub returns-then-count-gt-MOST_BYTES-clause-read : goal.returns-then-count-gt-MOST_BYTES-clause-read
returns-then-count-gt-MOST_BYTES-clause-read g c =
    let size = c.leb_size-size.ensures in
    let less = c.if-lnum-leb_cnt.false in
    let count = c.leb_cnt.ensures in
    let inside = c.if-offs-size.false in
    let more = c.if-count-gt-MOST_BYTES.true in
    let long = g.met.V.Volume.leb_len c.args.volume.now c.args.lnum (omega (arith, less, count)) in
    none_longer ((g.V.Volume.state c.args.volume.now).holds c.args.lnum) c.args.offs c.args.len c.min-count.result c.leb_size-size.result (long ∙ sym size) (omega (arith, inside)) c.min-count.ensures (omega (arith, more))

pub returns-clause-read : goal.returns-clause-read
returns-clause-read g c =
    let leb = (g.V.Volume.state c.args.volume.now).holds c.args.lnum in
    let size = c.leb_size-size.ensures in
    let less = c.if-lnum-leb_cnt.false in
    let count = c.leb_cnt.ensures in
    let long = g.met.V.Volume.leb_len c.args.volume.now c.args.lnum (omega (arith, less, count)) in
    let room : length c.deref_mut.result.now ≡ c.min-count.result = search rules in
    let back : c.deref.result.now ≡ c.read.new.out = c.deref.ensures.value ∙ written_back _ _ _ (search rules) in
    let there = back ∙ c.in_ok-read.ensures.read ∙ bytes_there leb c.args.offs c.args.len c.min-count.result c.leb_size-size.result (length c.deref_mut.result.now) (long ∙ sym size) c.min-count.ensures room in
    subst (λ bytes. IsStoredIn bytes c.in_ok-node.node) there c.in_ok-node.ensures
