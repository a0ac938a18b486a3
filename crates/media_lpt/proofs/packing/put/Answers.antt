use Rattle.std.proofs.Common.{arith, rules}
use Rattle.media_lpt.proofs.PackingLemmas.{put_none, put_free, rest_free, put_rest}
use Rattle.media_lpt.proofs.packing.put.Goals as goal

pub returns-then-width-eq0-clause-put : goal.returns-then-width-eq0-clause-put
returns-then-width-eq0-clause-put c = put_none c.args.out.now c.args.bit c.args.width c.args.value (omega arith) c.requires.fits

pub add_above-requires-clause-free : goal.add_above-requires-clause-free
add_above-requires-clause-free c = rest_free c.args.out.now c.split_at_mut.result.0.now c.split_at_mut.result.1.now c.args.bit c.split_at_mut.ensures.value c.split_at_mut.ensures.front_len c.requires.free

pub returns-clause-put : goal.returns-clause-put
returns-clause-put c = put_rest c.args.out.now c.split_at_mut.result.0.now c.split_at_mut.result.1.now c.add_above.new.out c.args.bit c.args.width c.args.value
    c.split_at_mut.ensures.value c.split_at_mut.ensures.front_len (search rules) c.add_above.ensures

pub returns-then-width-eq0-clause-free : goal.returns-then-width-eq0-clause-free
returns-then-width-eq0-clause-free c = put_free c.args.out.now c.args.out.now c.args.bit c.args.width c.args.value c.requires.fits c.requires.free (put_none c.args.out.now c.args.bit c.args.width c.args.value (omega arith) c.requires.fits)

pub returns-clause-free : goal.returns-clause-free
returns-clause-free c = put_free c.args.out.now _ c.args.bit c.args.width c.args.value c.requires.fits c.requires.free
    (put_rest c.args.out.now c.split_at_mut.result.0.now c.split_at_mut.result.1.now c.add_above.new.out c.args.bit c.args.width c.args.value
    c.split_at_mut.ensures.value c.split_at_mut.ensures.front_len (search rules) c.add_above.ensures)
