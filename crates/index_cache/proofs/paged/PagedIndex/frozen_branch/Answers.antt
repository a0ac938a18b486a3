use Rattle.index_cache.proofs.Written.{root_branch, root_whole, root_levelled}
use Rattle.index_cache.proofs.paged.PagedIndex.frozen_branch.Goals as goal

pub returns-in-Some-clause-first : goal.returns-in-Some-clause-first
returns-in-Some-clause-first c = root_branch c.args.self.now.table.nodes.items c.args.self.now.frozen c.in-Some.root c.branch_to_node.result c.in-Some.is c.branch_to_node.ensures

pub returns-in-None-clause-whole : goal.returns-in-None-clause-whole
returns-in-None-clause-whole c = root_whole c.args.self.now.table.nodes.items c.args.self.now.frozen

pub returns-in-Some-clause-whole : goal.returns-in-Some-clause-whole
returns-in-Some-clause-whole c = root_whole c.args.self.now.table.nodes.items c.args.self.now.frozen

pub returns-in-None-clause-levels : goal.returns-in-None-clause-levels
returns-in-None-clause-levels c =
    let t = c.args.self.now.table in
    root_levelled t.fanout t.nodes.items c.args.self.now.frozen t.sound

pub returns-in-Some-clause-levels : goal.returns-in-Some-clause-levels
returns-in-Some-clause-levels c =
    let t = c.args.self.now.table in
    root_levelled t.fanout t.nodes.items c.args.self.now.frozen t.sound
