use Rattle.std.proofs.Common.{◌∙◌, ap, map}
use Rattle.std.specs.String.{string_bytes}
use Rattle.clap.specs.Words.{is_simple, subcommand_of, takes}
use Rattle.command_words.proofs.Walked.{grammar_has, grammar_takes}
use Rattle.command_words.proofs.parser.parse.Goals as goal

pub unreachable-requires : goal.unreachable-requires
unreachable-requires c =
    let words = map string_bytes c.args.words.now in
    let taken = ap (λ app. takes app words) c.in_ok-program.ensures ∙ grammar_takes words c.requires in
    c.in_default.not-OutOfMemory (c.kind.ensures ∙ c.in-Err.ensures.passes taken)

pub returns-in-Ok : goal.returns-in-Ok
returns-in-Ok c =
    let has = (c.in-Ok.ensures.matches (ap is_simple c.in_ok-program.ensures)).1 in
    let words = map string_bytes c.args.words.now in
    grammar_has words c.in-Ok.matches c.requires (has ∙ ap (λ app. subcommand_of app words) c.in_ok-program.ensures)
