use Rattle.std.proofs.Common.{List, length, ap, sym, ◌∙◌, subst}
use Rattle.std.specs.Prelude.{Option, slice_get}
use Rattle.index_media.specs.KeyedRow.{no_more}
use Rattle.node_cache.specs.OnVolume.{IsOnVolume}
use Rattle.node_cache.specs.OnVolumeLaws.{on_volume_moved}
use Rattle.table_nodes.specs.Links.{row_before, AreLinksIn}
use Rattle.table_nodes.specs.NodeView.{NodeView, children_in, node_before, node_views}
use Rattle.table_nodes.specs.StubLaws.{opened_both, seen_kept, unplaced_kept}
use Rattle.table_nodes.specs.Stubs.{unplaced}
use Rattle.table_nodes.specs.declared.link.Link.{Link}
use Rattle.table_nodes.proofs.stub_client.open_second.Goals as goal

pub push_children-requires-clause-there : goal.push_children-requires-clause-there
push_children-requires-clause-there g c =
    let P : List Link → Type 0 = λ l. AreLinksIn (length c.args.nodes.now.items) l in
    subst P (sym c.new-links.ensures.items) tt

pub push_children-requires-2-clause-sound : goal.push_children-requires-2-clause-sound
push_children-requires-2-clause-sound g c = let own = c.requires.sound in (own.0, c.push_children.ensures.opened.sound own.0 own.1)

pub push_children-requires-2-clause-row : goal.push_children-requires-2-clause-row
push_children-requires-2-clause-row g c =
    let a = g.V.Volume.state c.args.volume.now in
    let b = g.V.Volume.state c.push_children.new.volume in
    let own = c.requires.second in
    let reads = c.push_children.ensures.reads in
    let same = unplaced_kept c.args.nodes.now.items c.push_children.new.nodes.items c.args.second c.push_children.ensures.opened.added c.requires.there in
    let P : Option NodeView → Type 0 = λ o. IsOnVolume b (node_before own.0 o no_more) in
    (own.0, subst P (sym same) (on_volume_moved a b (node_before own.0 (slice_get (node_views (unplaced c.args.nodes.now.items)) c.args.second) no_more) reads.keeps reads.shape own.1))

pub push_children-requires-2-clause-there : goal.push_children-requires-2-clause-there
push_children-requires-2-clause-there g c =
    let P : List Link → Type 0 = λ l. AreLinksIn (length c.push_children.new.nodes.items) l in
    subst P (sym c.new-made.ensures.items) tt

pub returns-clause-shown : goal.returns-clause-shown
returns-clause-shown g c =
    c.in_ok-push_children-2.ensures.pushed
    ∙ ap (λ (l : List Link). row_before (node_views c.push_children.new.nodes.items) l (children_in (slice_get (node_views c.push_children.new.nodes.items) c.args.second))) c.new-made.ensures.items
    ∙ ap children_in (seen_kept c.args.nodes.now.items c.push_children.new.nodes.items c.args.second c.push_children.ensures.opened.added c.requires.there)

pub returns-clause-opened : goal.returns-clause-opened
returns-clause-opened g c = opened_both c.args.nodes.now.items c.push_children.new.nodes.items c.push_children-2.new.nodes.items c.push_children.ensures.opened c.push_children-2.ensures.opened

pub returns-in_err-push_children-2-clause-opened : goal.returns-in_err-push_children-2-clause-opened
returns-in_err-push_children-2-clause-opened g c = opened_both c.args.nodes.now.items c.push_children.new.nodes.items c.push_children-2.new.nodes.items c.push_children.ensures.opened c.push_children-2.ensures.opened
