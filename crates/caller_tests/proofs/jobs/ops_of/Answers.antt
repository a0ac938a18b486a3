use Rattle.std.proofs.Common.{All, sym, subst}
use Rattle.std.proofs.lemmas.List.Elements.{All-nil, All-push}
use Rattle.fs_laws.specs.Sound.{IsCall}
use Rattle.caller_tests.proofs.jobs.ops_of.Goals as goal

pub loop-letter-init : goal.loop-letter-init
loop-letter-init c = subst (All IsCall) (sym c.new-ops.ensures.items) (All-nil IsCall)

pub loop-letter-preserved : goal.loop-letter-preserved
loop-letter-preserved c = subst (All IsCall) (sym c.in_ok-push.ensures.items) (All-push IsCall c.loop-letter.ops.items c.in_ok-op_of.field-0 c.loop-letter.invariant c.in_ok-op_of.ensures)

pub returns : goal.returns
returns c = c.loop-letter.invariant
