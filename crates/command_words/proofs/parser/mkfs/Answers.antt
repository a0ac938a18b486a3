use Rattle.std.proofs.Common.{◌≡◌, ◌∙◌, ap₂}
use Rattle.std.proofs.lemmas.Result.{IfOk-weaker}
use Rattle.clap.specs.Words.{AddsArg, with_rule}
use Rattle.command_words.proofs.Subcommands.{either_false}
use Rattle.command_words.proofs.parser.mkfs.Goals as goal

pub returns : goal.returns
returns c =
    let local = either_false c.in_ok-arg.ensures.globals c.new.ensures.local c.word.ensures.1 in
    let shown = c.in_ok-arg.ensures.shape c.word.ensures.1 ∙ ap₂ with_rule c.new.ensures.app c.word.ensures.0 in
    IfOk-weaker c.arg-2.result _ _ (λ made (h : AddsArg _ _ made). ((h.shape c.word-2.ensures.1 ∙ ap₂ with_rule shown c.word-2.ensures.0), either_false h.globals local c.word-2.ensures.1)) c.arg-2.ensures
