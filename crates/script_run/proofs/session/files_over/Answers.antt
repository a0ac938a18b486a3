use Rattle.script_run.proofs.session.files_over.Goals as goal

pub new-requires-clause-proper : goal.new-requires-clause-proper
new-requires-clause-proper c = c.requires.proper

pub returns-in-Ok-clause-backing : goal.returns-in-Ok-clause-backing
returns-in-Ok-clause-backing c = c.in-Ok.ensures.backing

pub returns-in-Ok-clause-bare : goal.returns-in-Ok-clause-bare
returns-in-Ok-clause-bare c =
    let opened = c.in-Ok.ensures.opened in
    record { pages = opened.dirty; inodes = opened.inodes; handles = opened.handles }
