use Rattle.traced_files.proofs.Leaving.{first_leaves}
use Rattle.traced_files.proofs.law.a_line_leaves_what_was_seen.Goals as goal

pub returns : goal.returns
returns c old new line grant left mode moment call ready after journal journal_after step =
    first_leaves (record { old = old; new = new; line = line; grant = grant; left = left }) c.laws.ensures
    (record { step = step; moment = moment; call = call; ready = ready; after = after; journal = journal; journal_after = journal_after; writes = λ none. mode })
