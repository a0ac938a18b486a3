use Rattle.std.proofs.Common.{◌≡◌, ◌∙◌, ap₂}
use Rattle.std.proofs.lemmas.Result.{IfOk-weaker}
use Rattle.clap.specs.Words.{AddsArg, with_rule}
use Rattle.command_words.proofs.Subcommands.{either_false}
use Rattle.command_words.proofs.parser.of_image.Goals as goal

pub returns : goal.returns
returns c = IfOk-weaker c.arg.result _ _ (λ made (h : AddsArg _ _ made). ((h.shape c.word.ensures.1 ∙ ap₂ with_rule c.new.ensures.app c.word.ensures.0), either_false h.globals c.new.ensures.local c.word.ensures.1)) c.arg.ensures
