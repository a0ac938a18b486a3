use Rattle.std.proofs.Common.{List, ap, ◌∙◌}
use Rattle.fs_model.specs.declared.change.Change.{Change}
use Rattle.fs_model.specs.Change.{apply}
use Rattle.fs_model.specs.Files.{Tree}
use Rattle.fs_model.specs.Orphan.{without_nameless}
use Rattle.fs_model.specs.Worked.{fresh}
use Rattle.operation_tests.proofs.SampleFits.{proper_on}
use Rattle.operation_tests.proofs.plain_backing_cut_tests.file_synced.Goals as goal

pub put_and_sync-requires-clause-proper : goal.put_and_sync-requires-clause-proper
put_and_sync-requires-clause-proper c = proper_on _ c.requires.fresh

pub returns-clause-left : goal.returns-clause-left
returns-clause-left c = λ put tree may.
    c.in-Ok-true.ensures.left c.in-Ok-true.field-0-test tree may
    ∙ ap (λ (tree : Tree). without_nameless (apply tree c.in_ok-group.group)) c.requires.fresh
    ∙ ap (λ (group : List Change). without_nameless (apply fresh.tree group)) c.in_ok-group.ensures
