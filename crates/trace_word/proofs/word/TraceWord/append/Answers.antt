use Rattle.std.proofs.Common.{◌≡◌, ◌∙◌, rules, ap, sym, subst, length}
use Rattle.trace_word.specs.declared.view.Known.{Known}
use Rattle.trace_word.specs.States.{RecorderState}
use Rattle.trace_word.specs.Knowledge.{MayAppend}
use Rattle.trace_word.specs.Tokens.{of_recorder}
use Rattle.trace_word.proofs.Moves.{appends}
use Rattle.trace_word.proofs.word.TraceWord.append.Goals as goal

pub compare_exchange_with-requires : goal.compare_exchange_with-requires
compare_exchange_with-requires c =
    let known : (of_recorder c.recorder.inside.seat.me.0).known ≡ c.args.recorder.now.known = ap (λ (k : RecorderState). k.known) c.recorder.view_is in
    let may = subst (λ (k : Known). MayAppend c.args.line.now.caller k) (sym known) c.requires.claimed in
    (search rules, search rules, appends _ _ _ c.recorder.inside.seat.me _ _ c.recorder.invariant (c.requires.len.0 ∙ ap (λ (k : Known). length k.seen) (sym known)) may)
