use Rattle.std.proofs.Common.{arith}
use Rattle.buffered_files.proofs.Written.{counting_begins, counting_more, counting_ends}
use Rattle.buffered_files.proofs.writes.newly.Goals as goal

pub loop-page-init : goal.loop-page-init
loop-page-init c = counting_begins c.args.kept.now.pages.dirty c.args.ino c.args.offs c.args.n c.requires.some

pub loop-page-preserved : goal.loop-page-preserved
loop-page-preserved c = counting_more c.args.kept.now.pages.dirty c.args.ino c.args.offs c.args.n c.loop-page.page _ c.loop-page.count c.newly_one-count.result c.loop-page.invariant (omega arith) c.newly_one-count.ensures.one

pub returns : goal.returns
returns c = counting_ends c.args.kept.now.pages.dirty c.args.ino c.args.offs c.args.n c.loop-page.page _ c.loop-page.count c.loop-page.invariant (omega arith)
