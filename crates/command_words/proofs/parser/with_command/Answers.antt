use Rattle.std.proofs.Common.{◌≡◌, ◌∙◌, ap, subst, IfOk}
use Rattle.std.proofs.lemmas.Result.{IfOk-weaker}
use Rattle.clap.specs.Words.{AddsSubcommand, App, app_of, with_subcommand}
use Rattle.command_words.specs.Parser.{IsSubcommand}
use Rattle.command_words.proofs.parser.with_command.Goals as goal

pub returns : goal.returns
returns c = λ shape is.
    let found : IsSubcommand shape c.in_ok-command.command = subst (λ r. IfOk r (IsSubcommand shape)) c.in_ok-command.was is in
    IfOk-weaker c.subcommand.result _ _ (λ made (h : AddsSubcommand _ _ made). h.shape found.1 ∙ ap (λ (a : App). with_subcommand (app_of c.args.program) a.top) found.0) c.subcommand.ensures
