use Rattle.std.proofs.Common.{◌∙◌, ap, sym, length}
use Rattle.std.specs.Prelude.{Option, Some}
use Rattle.index_media.specs.KeyedRow.{no_more}
use Rattle.table_nodes.specs.NodeView.{tree_at}
use Rattle.node_table.specs.Dirty.{dirty_below}
use Rattle.table_nodes.specs.declared.node.Root.{Root}
use Rattle.node_table.proofs.CopiedNodes.{root_copied}
use Rattle.node_table.proofs.CopiedNumbers.{no_numbers, root_numbers}
use Rattle.node_table.proofs.table.NodeTable.without_clean.Goals as goal

pub returns-in_ok-number-in-Some-clause-root : goal.returns-in_ok-number-in-Some-clause-root
returns-in_ok-number-in-Some-clause-root g c =
    let old = c.args.self.now.nodes.items in
    let key = c.in-Some.top.key in
    let copy = c.in_ok-number-in-Some in
    root_copied old c.copy_below.new.made.nodes.items c.args.root (Some (record { key = key; number = copy.number })) (copy.ensures.there key).there.0
    (copy.ensures.copied key no_more ∙ ap (λ (o : Option Root). tree_at old o) (sym c.in-Some.is)) c.requires.root

pub returns-in-None-clause-few : goal.returns-in-None-clause-few
returns-in-None-clause-few g c = no_numbers c.args.self.now.fanout (length (dirty_below c.args.self.now.nodes.items c.args.root)) c.new-table.result.nodes.items c.new-table.ensures.empty

pub returns-in_ok-number-in-Some-clause-few : goal.returns-in_ok-number-in-Some-clause-few
returns-in_ok-number-in-Some-clause-few g c =
    let self = c.args.self.now in
    root_numbers self.fanout self.nodes.items c.new-table.result.nodes.items c.copy_below.new.made.nodes.items c.args.root c.in-Some.top c.new-table.ensures.empty c.in-Some.is c.in_ok-number-in-Some.ensures.few
