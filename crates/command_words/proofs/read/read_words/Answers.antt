use Rattle.command_words.proofs.read.read_words.Goals as goal

pub returns-clause-some : goal.returns-clause-some
returns-clause-some c = c.said_command-command.ensures _ c.in_ok-matches.ensures
