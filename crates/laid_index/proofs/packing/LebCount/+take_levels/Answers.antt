use Rattle.std.proofs.Common.{rules, ◌≡◌, ◌<◌, ◌≤◌, ℕ, List, ◌++◌, ap, sym, ◌∙◌, arith, append_assoc}
use Rattle.ubifs_base.specs.RawOf.{raw_of}
use Rattle.laid_index.specs.Counted.{lebs_after}
use Rattle.laid_index.specs.Packing.{lens_above, level_lens}
use Rattle.laid_index.proofs.Counting.{counted_level}
use Rattle.laid_index.proofs.Packs.{ceil_half, ceil_some, lens_level, lens_root, level_last}
use Rattle.laid_index.proofs.packing.LebCount.+take_levels.Goals as goal

pub take_level-requires-clause-room : goal.take_level-requires-clause-room
take_level-requires-clause-room t c =
    counted_level (raw_of c.args.geometry.now) c.args.self.now c.args.geometry.now.fanout c.args.n c.args.geometry.now.in_range.fanout.0 c.requires.some c.requires.room

pub returns-then-n-fanout : goal.returns-then-n-fanout
returns-then-n-fanout t c =
    let f = c.args.geometry.now.fanout in
    let n = c.args.n in
    let le : n ≤ f = omega arith in
    record {
      after = λ lens. c.take_level.ensures.after lens
          ∙ ap (λ (l : List ℕ). lebs_after (raw_of c.args.geometry.now) c.args.self.now (l ++ lens)) (level_last f n c.requires.some le ∙ sym (lens_root f n c.requires.some le));
    }

pub take_levels-requires : goal.take_levels-requires
take_levels-requires t c =
    let geo = raw_of c.args.geometry.now in
    let f = geo.fanout in
    let n = c.args.n in
    let q = c.div_ceil.result in
    let wide = c.args.geometry.now.in_range.fanout.0 in
    let lt : f < n = c.if-n-fanout.false in
    let is = c.div_ceil.ensures in
    let half = ceil_half f n wide lt in
    let one = ceil_some f n (omega (arith, wide)) c.requires.some in
    let some : 0 < q = omega (arith, one, is) in
    let smaller : q < n = omega (arith, half, is, some) in
    let above = lens_above q f q in
    let split : lens_above n f n ≡ level_lens f n ++ above = lens_level f n wide lt ∙ ap (λ (k : ℕ). level_lens f n ++ lens_above k f k) (sym is) in
    let e = ap (lebs_after geo c.args.self.now) split in
    let room = c.requires.room in
    let after = c.take_level.ensures.after above in
    (search (rules, smaller), (some, (omega (arith, after, e, room), c.take_level.ensures.taken)))

pub returns : goal.returns
returns t c =
    let geo = raw_of c.args.geometry.now in
    let f = geo.fanout in
    let n = c.args.n in
    let q = c.div_ceil.result in
    let wide = c.args.geometry.now.in_range.fanout.0 in
    let above = lens_above q f q in
    let split : lens_above n f n ≡ level_lens f n ++ above = lens_level f n wide c.if-n-fanout.false ∙ ap (λ (k : ℕ). level_lens f n ++ lens_above k f k) (sym c.div_ceil.ensures) in
    record {
      after = λ lens. c.take_levels.ensures.after lens ∙ c.take_level.ensures.after (above ++ lens)
          ∙ ap (lebs_after geo c.args.self.now) (sym (append_assoc (level_lens f n) above lens) ∙ ap (λ (l : List ℕ). l ++ lens) (sym split));
    }
