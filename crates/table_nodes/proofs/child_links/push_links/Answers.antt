use Rattle.std.proofs.Common.{List, ◌∙◌, ◌++◌, ap, sym}
use Rattle.table_nodes.specs.Links.{row_before}
use Rattle.table_nodes.specs.NodeView.{node_views}
use Rattle.table_nodes.specs.NodeViewLaws.{none_opened}
use Rattle.table_nodes.specs.StubLaws.{links_shown}
use Rattle.table_nodes.specs.declared.link.Link.{Link}
use Rattle.table_nodes.proofs.child_links.push_links.Goals as goal

pub returns-in-None-clause-pushed : goal.returns-in-None-clause-pushed
returns-in-None-clause-pushed c = ap (row_before (node_views c.args.nodes.now) c.args.links.now.items) (sym (none_opened c.args.nodes.now c.args.number c.in-None.ensures.none))

pub returns-in_ok-extend_from_slice-in-Some-clause-pushed : goal.returns-in_ok-extend_from_slice-in-Some-clause-pushed
returns-in_ok-extend_from_slice-in-Some-clause-pushed c =
    let own = c.requires.sound in
    let there = c.in-Some.ensures.some in
    (links_shown own.0 c.args.nodes.now c.args.number c.in-Some.node.now c.args.links.now.items c.extend_from_slice.new.self.items own.1 there (c.requires.loaded c.in-Some.node.now there)
    (c.in_ok-extend_from_slice-in-Some.ensures.items ∙ ap (λ (l : List Link). c.args.links.now.items ++ l) c.as_slice.ensures.value) c.requires.there).shown

pub returns-in_ok-extend_from_slice-in-Some-clause-there : goal.returns-in_ok-extend_from_slice-in-Some-clause-there
returns-in_ok-extend_from_slice-in-Some-clause-there c =
    let own = c.requires.sound in
    let there = c.in-Some.ensures.some in
    (links_shown own.0 c.args.nodes.now c.args.number c.in-Some.node.now c.args.links.now.items c.extend_from_slice.new.self.items own.1 there (c.requires.loaded c.in-Some.node.now there)
    (c.in_ok-extend_from_slice-in-Some.ensures.items ∙ ap (λ (l : List Link). c.args.links.now.items ++ l) c.as_slice.ensures.value) c.requires.there).there
