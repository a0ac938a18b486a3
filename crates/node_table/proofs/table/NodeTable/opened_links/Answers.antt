use Rattle.std.proofs.Common.{List, ◌++◌, ap, sym, subst, ◌∙◌}
use Rattle.std.specs.Prelude.{slice_get}
use Rattle.table_nodes.specs.NodeView.{children_in, node_views}
use Rattle.table_nodes.specs.declared.link.Link.{Link}
use Rattle.node_table.specs.StandingLinks.{standing_loaded, standing_opened}
use Rattle.node_table.specs.Unloaded.{AreStandingLinks}
use Rattle.node_table.proofs.Adding.{opened_dirty}
use Rattle.node_table.proofs.Inserted.{made_row, all_there}
use Rattle.node_table.proofs.Removed.{links_fit}
use Rattle.node_table.proofs.table.NodeTable.opened_links.Goals as goal

pub invariant_of-self-clause-few : goal.invariant_of-self-clause-few
invariant_of-self-clause-few g c = c.push_opened.ensures.few c.args.self.now.few

pub invariant_of-self-clause-sound : goal.invariant_of-self-clause-sound
invariant_of-self-clause-sound g c = c.push_opened.ensures.opened.sound c.args.self.now.fanout c.args.self.now.sound

pub invariant_of-self-clause-clean : goal.invariant_of-self-clause-clean
invariant_of-self-clause-clean g c = c.push_opened.ensures.opened.clean c.args.self.now.clean

pub returns-in-Some-clause-children : goal.returns-in-Some-clause-children
returns-in-Some-clause-children g c =
    let old = c.args.self.now.nodes.items in
    sym (made_row old c.push_opened.new.nodes.items c.new-links.result.items c.push_opened.new.links.items (children_in (slice_get (node_views old) c.args.number)) c.new-links.ensures.items c.in_ok-push_opened.ensures.pushed)

pub invariant_of-self-clause-dirty : goal.invariant_of-self-clause-dirty
invariant_of-self-clause-dirty g c = opened_dirty c.args.self.now.nodes.items c.push_opened.new.nodes.items c.push_opened.ensures.opened c.args.self.now.dirty

pub returns-in-Some-clause-links : goal.returns-in-Some-clause-links
returns-in-Some-clause-links g c =
    let old = c.args.self.now.nodes.items in
    let new = c.push_opened.new.nodes.items in
    let links = c.push_opened.new.links.items in
    let u = c.in-Some.ensures.some in
    let reads = c.push_opened.ensures.reads in
    let shows = sym (made_row old new c.new-links.result.items links (children_in (slice_get (node_views old) c.args.number)) c.new-links.ensures.items c.in_ok-push_opened.ensures.pushed) in
    standing_opened (g.V.Volume.state c.args.volume.now) (g.V.Volume.state c.push_opened.new.volume) old new c.args.number u.node u.stub links reads.keeps reads.shape u.there u.is shows
    c.in_ok-push_opened.ensures.there c.requires.stands

pub returns-in_ok-extend_from_slice-in-Some-loaded_links-clause-links : goal.returns-in_ok-extend_from_slice-in-Some-loaded_links-clause-links
returns-in_ok-extend_from_slice-in-Some-loaded_links-clause-links g c =
    let s = c.args.self.now in
    let nodes = s.nodes.items in
    let found = c.in-Some-loaded_links in
    let own = found.own.now in
    let state = g.V.Volume.state c.args.volume.now in
    let within = all_there s.fanout nodes own (links_fit s.fanout nodes c.args.number own s.sound found.ensures.some) in
    let P : List Link → Type 0 = λ l. AreStandingLinks state nodes l in
    let items = c.in_ok-extend_from_slice-in-Some-loaded_links.ensures.items ∙ ap (λ (l : List Link). l ++ own) c.new-links.ensures.items in
    subst P (sym items) (standing_loaded state nodes c.args.number own found.ensures.unplaced within c.requires.stands)
