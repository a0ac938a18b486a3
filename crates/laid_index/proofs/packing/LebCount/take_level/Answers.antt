use Rattle.std.proofs.Common.{◌≡◌, ◌-◌, ℕ, List, [], ◌∷◌, ◌++◌, ap, sym, ◌∙◌, arith}
use Rattle.ubifs_base.specs.RawOf.{raw_of}
use Rattle.laid_index.specs.Counted.{lebs_after}
use Rattle.laid_index.specs.Packing.{len_over, level_lens}
use Rattle.laid_index.proofs.Counting.{counted_first}
use Rattle.laid_index.proofs.Packs.{level_step}
use Rattle.laid_index.proofs.packing.LebCount.take_level.Goals as goal

pub take-requires-clause-room : goal.take-requires-clause-room
take-requires-clause-room c =
    let f = c.args.geometry.now.fanout in
    let wide = c.args.geometry.now.in_range.fanout.0 in
    let own = c.min-own.result in
    let left = c.taking.left in
    let step : level_lens f left ≡ len_over own ∷ level_lens f (left - own) = level_step f left own (omega (arith, wide)) (omega arith) (omega arith) in
    counted_first (raw_of c.args.geometry.now) c.taking.self c.args.self.now (len_over own) (level_lens f (left - own)) (level_lens f left) (level_lens f c.args.n) step (c.taking.invariant.0 []) c.requires.room

pub taking-preserved : goal.taking-preserved
taking-preserved c =
    let f = c.args.geometry.now.fanout in
    let wide = c.args.geometry.now.in_range.fanout.0 in
    let own = c.min-own.result in
    let left = c.taking.left in
    let step : level_lens f left ≡ len_over own ∷ level_lens f (left - own) = level_step f left own (omega (arith, wide)) (omega arith) (omega arith) in (
      λ lens. c.take.ensures.after (level_lens f (left - own) ++ lens) ∙ ap (λ (l : List ℕ). lebs_after (raw_of c.args.geometry.now) c.taking.self (l ++ lens)) (sym step) ∙ c.taking.invariant.0 lens,
      c.take.ensures.taken,
    )
