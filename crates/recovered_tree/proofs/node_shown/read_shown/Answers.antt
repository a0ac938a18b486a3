use Rattle.std.proofs.Common.{◌≡◌, ◌∙◌, None, length, subst, sym, arith, rules}
use Rattle.group_nodes.specs.LengthLaws.{bytes_there, written_back}
use Rattle.recovered_tree.specs.Sets.{IsShownIn}
use Rattle.recovered_tree.proofs.NodeBytes.{none_behind, none_longer, none_past}
use Rattle.recovered_tree.proofs.node_shown.read_shown.Goals as goal

pub returns-then-lnum-leb_cnt-clause-shown : goal.returns-then-lnum-leb_cnt-clause-shown
returns-then-lnum-leb_cnt-clause-shown g c =
    let past = c.if-lnum-leb_cnt.true in
    let count = c.leb_cnt.ensures in
    none_past None ((g.V.Volume.state c.args.volume.now).holds c.args.lnum) c.args.offs c.args.len (g.met.V.Volume.none c.args.volume.now c.args.lnum (omega (arith, past, count)))

pub returns-then-offs-size-clause-shown : goal.returns-then-offs-size-clause-shown
returns-then-offs-size-clause-shown g c =
    let past = c.if-offs-size.true in
    let size = c.leb_size-size.ensures in
    let less = c.if-lnum-leb_cnt.false in
    let count = c.leb_cnt.ensures in
    let long = g.met.V.Volume.leb_len c.args.volume.now c.args.lnum (omega (arith, less, count)) in
    none_behind None ((g.V.Volume.state c.args.volume.now).holds c.args.lnum) c.args.offs c.args.len (omega (arith, past, size, long))

pub returns-then-count-gt-MOST_BYTES-clause-shown : goal.returns-then-count-gt-MOST_BYTES-clause-shown
returns-then-count-gt-MOST_BYTES-clause-shown g c =
    let size = c.leb_size-size.ensures in
    let less = c.if-lnum-leb_cnt.false in
    let count = c.leb_cnt.ensures in
    let inside = c.if-offs-size.false in
    let more = c.if-count-gt-MOST_BYTES.true in
    let long = g.met.V.Volume.leb_len c.args.volume.now c.args.lnum (omega (arith, less, count)) in
    none_longer None ((g.V.Volume.state c.args.volume.now).holds c.args.lnum) c.args.offs c.args.len c.min-count.result c.leb_size-size.result (long ∙ sym size) (omega (arith, inside)) c.min-count.ensures (omega (arith, more))

pub returns-clause-shown : goal.returns-clause-shown
returns-clause-shown g c =
    let leb = (g.V.Volume.state c.args.volume.now).holds c.args.lnum in
    let size = c.leb_size-size.ensures in
    let less = c.if-lnum-leb_cnt.false in
    let count = c.leb_cnt.ensures in
    let long = g.met.V.Volume.leb_len c.args.volume.now c.args.lnum (omega (arith, less, count)) in
    let room : length c.deref_mut.result.now ≡ c.min-count.result = search rules in
    let back : c.deref.result.now ≡ c.read.new.out = c.deref.ensures.value ∙ written_back _ _ _ (search rules) in
    let there = back ∙ c.in_ok-read.ensures.read ∙ bytes_there leb c.args.offs c.args.len c.min-count.result c.leb_size-size.result (length c.deref_mut.result.now) (long ∙ sym size) c.min-count.ensures room in
    subst (λ bytes. IsShownIn bytes c.in_ok-shown.shown) there c.in_ok-shown.ensures
