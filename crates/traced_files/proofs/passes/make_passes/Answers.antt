use Rattle.std.proofs.Common.{length, ap, ◌∙◌, arith}
use Rattle.traced_files.proofs.Passing.{length-fresh_passes}
use Rattle.traced_files.proofs.passes.make_passes.Goals as goal

pub push_reserved-requires : goal.push_reserved-requires
push_reserved-requires c =
    let i = c.loop-caller.invariant in
    omega (arith, ap length i.3 ∙ length-fresh_passes c.args.word.now c.args.pool.now c.loop-caller.caller, i.4)
