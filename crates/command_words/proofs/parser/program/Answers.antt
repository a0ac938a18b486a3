use Rattle.std.proofs.Common.{◌≡◌, ◌∙◌, ap, codes}
use Rattle.std.proofs.lemmas.Result.{IfOk-weaker}
use Rattle.clap.specs.Words.{App, with_subcommand}
use Rattle.command_words.specs.Parser.{image_shape, mkfs_shape, run_shape}
use Rattle.command_words.proofs.parser.program.Goals as goal

pub returns : goal.returns
returns c =
    let with_run = c.in_ok-program.ensures run_shape c.run.ensures ∙ ap (λ (a : App). with_subcommand a run_shape) c.bare.ensures in
    let with_mkfs = c.in_ok-program-2.ensures mkfs_shape c.mkfs.ensures ∙ ap (λ (a : App). with_subcommand a mkfs_shape) with_run in
    let with_check = c.in_ok-program-3.ensures (image_shape (codes "check")) c.of_image.ensures ∙ ap (λ (a : App). with_subcommand a (image_shape (codes "check"))) with_mkfs in
    IfOk-weaker c.with_command-4.result _ _ (λ made h. h ∙ ap (λ (a : App). with_subcommand a (image_shape (codes "dump"))) with_check) (c.with_command-4.ensures (image_shape (codes "dump")) c.of_image-2.ensures)
