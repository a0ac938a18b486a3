use Rattle.std.proofs.Common.{sym}
use Rattle.lpt_area.specs.Tree.{no_place}
use Rattle.lpt_area.proofs.LaidItems.{places-at, places-past}
use Rattle.lpt_area.proofs.levels.Level.place.Goals as goal

pub returns-then-at-self : goal.returns-then-at-self
returns-then-at-self c = sym (places-past c.args.lnum c.args.self.now.offs c.args.self.now.len c.args.self.now.count c.args.at no_place c.if-at-self.true)

pub returns : goal.returns
returns c = sym (places-at c.args.lnum c.args.self.now.offs c.args.self.now.len c.args.self.now.count c.args.at no_place c.if-at-self.false)
