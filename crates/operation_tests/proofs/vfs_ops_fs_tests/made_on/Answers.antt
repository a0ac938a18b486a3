use Rattle.operation_tests.proofs.SampleFits.{fits_on_fresh, orphans_on_fresh, page_on_fresh, proper_on}
use Rattle.operation_tests.proofs.vfs_ops_fs_tests.made_on.Goals as goal

pub put_and_read-requires-clause-proper : goal.put_and_read-requires-clause-proper
put_and_read-requires-clause-proper c = proper_on _ c.requires.fresh

pub put_and_read-requires-clause-group : goal.put_and_read-requires-clause-group
put_and_read-requires-clause-group c = fits_on_fresh _ c.in_ok-group.group c.args.bytes c.requires.enough c.requires.fresh c.in_ok-group.ensures

pub put_and_read-requires-clause-orphans : goal.put_and_read-requires-clause-orphans
put_and_read-requires-clause-orphans c = orphans_on_fresh _ c.in_ok-group.group _ _ c.requires.fresh c.in_ok-group.ensures

pub put_and_read-requires-clause-page : goal.put_and_read-requires-clause-page
put_and_read-requires-clause-page c = page_on_fresh _ c.in_ok-group.group c.in_ok-page.page c.requires.fresh c.in_ok-group.ensures c.in_ok-page.ensures
