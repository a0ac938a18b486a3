use Rattle.std.proofs.Common.{sym, ◌∙◌}
use Rattle.page_cache.proofs.Turning.{turned_by_name, last_there}
use Rattle.page_cache.proofs.page_list.PageList.turn.Goals as goal

pub returns-in-Some-clause-turned : goal.returns-in-Some-clause-turned
returns-in-Some-clause-turned g c =
    turned_by_name c.args.self.now c.turn_last.new.self c.in-Some.name c.args.ino c.args.from c.turn_last.result c.len-len.ensures.valid.0 (sym c.last_name.ensures ∙ c.in-Some.is) c.turn_last.ensures.count c.turn_last.ensures.list

pub returns-in-None-clause-turned : goal.returns-in-None-clause-turned
returns-in-None-clause-turned g c e es is =
    absurd (last_there c.args.self.now.entries es e is (sym c.last_name.ensures ∙ c.in-None.is))
