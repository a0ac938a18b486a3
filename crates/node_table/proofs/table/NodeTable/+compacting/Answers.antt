use Rattle.std.proofs.Common.{◌≡◌, ◌≤◌, ◌+◌, ◌*◌, List, [], ◌∷◌, ap, sym, refl, ◌∙◌, subst, arith, length, true, Vec, Global}
use Rattle.std.specs.Prelude.{None, OnOk}
use Rattle.index_media.specs.Clean.{placed_of}
use Rattle.index_media.specs.KeyedRow.{KeyedRow, no_more}
use Rattle.node_cache.specs.OnVolume.{IsOnVolume}
use Rattle.table_nodes.specs.LinkLaws.{node_pushed}
use Rattle.table_nodes.specs.Links.{row_before, AreLinksIn}
use Rattle.table_nodes.specs.NodeView.{node_view_of, node_views, row_of}
use Rattle.table_nodes.specs.declared.link.Link.{Link}
use Rattle.table_nodes.specs.declared.node.TableNode.{TableNode}
use Rattle.node_table.specs.Dirty.{dirty_among, dirty_from, dirty_lists}
use Rattle.node_table.specs.StandingLinks.{standing_none, standing_pushed}
use Rattle.node_table.specs.Unloaded.{are_unloaded_if_clean, AreStandingLinks}
use Rattle.node_table.specs.UnloadedLaws.{link_first}
use Rattle.node_table.specs.declared.table.NodeTable.{NodeTable}
use Rattle.node_table.proofs.CopiedNodes.{copies_sound, dirty_links, dirty_shown, leaf_copied, node_copied, placed_on, placed_shown, IsLinkCopied}
use Rattle.node_table.proofs.CopiedNumbers.{dirty_numbers, link_numbers, links_numbers, one_number}
use Rattle.node_table.proofs.Inserted.{made_row}
use Rattle.node_table.proofs.Rows.{linked_size, row_size}
use Rattle.node_table.proofs.table.NodeTable.+compacting.Goals as goal
use Rattle.node_table.proofs.table.NodeTable.+compacting.Goals.{copy_among-in-ToLeaf+in_ok-push-in-ToLeaf, copy_among-in-ToNode+in_ok-copy-in-ToNode+in_ok-push-in-ToNode}

pub copy_among-copy_among-requires : goal.copy_among-copy_among-requires
copy_among-copy_among-requires g t c κs within =
    let s = g.V.Volume.state c.args.volume.now in
    let seen = node_views c.args.self.now.nodes.items in
    let is = c.in-Some.ensures.cases.0 in
    let link = c.in-Some.link.now in
    let rest = c.in-Some.rest.now in
    let old = c.args.made.now.nodes.items in
    let was = c.args.copies.now.items in
    let size = linked_size seen link (row_of seen rest) in
    let same = ap (λ (v : List Link). row_size (row_of seen v)) is in
    let L : List Link → Type 0 = λ v. AreLinksIn (length c.args.self.now.nodes.items) v in
    let O : List Link → Type 0 = λ v. IsOnVolume s (row_of seen v) in
    let inside = subst L is c.requires.within in
    let stand = link_first s seen link (row_of seen rest) (subst O is c.requires.stands) in
    let new = c.match-link.made.nodes.items in
    let copies = c.match-link.copies.items in
    let step : IsLinkCopied s seen old new link was copies = elim c.match-link.branch [
      | copy_among-in-ToLeaf+in_ok-push-in-ToLeaf w ↦
          leaf_copied s seen old new w.in-ToLeaf.leaf link was w.push.new.self.items copies (ap (λ (m : NodeTable). m.nodes.items) w.made-is) w.in-ToLeaf.is
          (ap (λ (v : Vec Link Global). v.items) w.copies-is) w.in_ok-push-in-ToLeaf.ensures.items c.requires.there
      | copy_among-in-ToNode+in_ok-copy-in-ToNode+in_ok-push-in-ToNode w ↦
          let key = w.in-ToNode.key in
          let made = w.in_ok-copy-in-ToNode in
          let P : List TableNode → Type 0 = λ l. IsLinkCopied s seen old l link was copies in
          subst P (sym (ap (λ (m : NodeTable). m.nodes.items) w.made-is))
          (node_copied s seen old w.copy_below.new.made.nodes.items key w.in-ToNode.number made.copy link was w.push-in-ToNode.new.self.items copies made.ensures.added w.in-ToNode.is
          (ap (λ (v : Vec Link Global). v.items) w.copies-is) w.in_ok-push-in-ToNode.ensures.items (made.ensures.copied key) (made.ensures.there key) c.requires.there)
    ] in
    let fanout : c.match-link.made.fanout ≡ c.args.self.now.fanout = elim c.match-link.branch [
      | copy_among-in-ToLeaf+in_ok-push-in-ToLeaf w ↦ ap (λ (m : NodeTable). m.fanout) w.made-is ∙ c.requires.fanout
      | copy_among-in-ToNode+in_ok-copy-in-ToNode+in_ok-push-in-ToNode w ↦ ap (λ (m : NodeTable). m.fanout) w.made-is ∙ w.in_ok-copy-in-ToNode.ensures.fanout ∙ c.requires.fanout
    ] in
    let clean : are_unloaded_if_clean new ≡ true = elim c.match-link.branch [
      | copy_among-in-ToLeaf+in_ok-push-in-ToLeaf w ↦ ap (λ (m : NodeTable). are_unloaded_if_clean m.nodes.items) w.made-is ∙ c.requires.clean
      | copy_among-in-ToNode+in_ok-copy-in-ToNode+in_ok-push-in-ToNode w ↦ ap (λ (m : NodeTable). are_unloaded_if_clean m.nodes.items) w.made-is ∙ w.in_ok-copy-in-ToNode.ensures.clean
    ] in
    (omega (arith, size, same), (within, (inside.1, (stand.1, (step.there, (fanout, clean))))))

pub copy_among-returns-after-link-clause-copied : goal.copy_among-returns-after-link-clause-copied
copy_among-returns-after-link-clause-copied g t c =
    let s = g.V.Volume.state c.args.volume.now in
    let seen = node_views c.args.self.now.nodes.items in
    let link = c.in-Some.link.now in
    let rest = c.in-Some.rest.now in
    let old = c.args.made.now.nodes.items in
    let was = c.args.copies.now.items in
    let new = c.match-link.made.nodes.items in
    let copies = c.match-link.copies.items in
    let step : IsLinkCopied s seen old new link was copies = elim c.match-link.branch [
      | copy_among-in-ToLeaf+in_ok-push-in-ToLeaf w ↦
          leaf_copied s seen old new w.in-ToLeaf.leaf link was w.push.new.self.items copies (ap (λ (m : NodeTable). m.nodes.items) w.made-is) w.in-ToLeaf.is
          (ap (λ (v : Vec Link Global). v.items) w.copies-is) w.in_ok-push-in-ToLeaf.ensures.items c.requires.there
      | copy_among-in-ToNode+in_ok-copy-in-ToNode+in_ok-push-in-ToNode w ↦
          let key = w.in-ToNode.key in
          let made = w.in_ok-copy-in-ToNode in
          let P : List TableNode → Type 0 = λ l. IsLinkCopied s seen old l link was copies in
          subst P (sym (ap (λ (m : NodeTable). m.nodes.items) w.made-is))
          (node_copied s seen old w.copy_below.new.made.nodes.items key w.in-ToNode.number made.copy link was w.push-in-ToNode.new.self.items copies made.ensures.added w.in-ToNode.is
          (ap (λ (v : Vec Link Global). v.items) w.copies-is) w.in_ok-push-in-ToNode.ensures.items (made.ensures.copied key) (made.ensures.there key) c.requires.there)
    ] in
    let Q : KeyedRow → Type 0 = λ r. OnOk c.copy_among.result (row_before (node_views c.copy_among.new.made.nodes.items) c.copy_among.new.copies.items no_more ≡ r) in
    subst Q (step.copied (row_of seen rest) ∙ ap (λ (v : List Link). row_before (node_views old) was (row_of seen v)) (sym c.in-Some.ensures.cases.0)) c.copy_among.ensures.copied

pub copy_among-returns-after-link-clause-few : goal.copy_among-returns-after-link-clause-few
copy_among-returns-after-link-clause-few g t c =
    let f = c.args.self.now.fanout in
    let known = dirty_lists c.args.self.now.nodes.items in
    let link = c.in-Some.link.now in
    let old = c.args.made.now.nodes.items in
    let new = c.match-link.made.nodes.items in
    let step : length new ≤ length old + f * length (dirty_among known (link ∷ [])) + 1 = elim c.match-link.branch [
      | copy_among-in-ToLeaf+in_ok-push-in-ToLeaf w ↦ let same = ap (λ (m : NodeTable). length m.nodes.items) w.made-is in omega (arith, same)
      | copy_among-in-ToNode+in_ok-copy-in-ToNode+in_ok-push-in-ToNode w ↦
          let made = ap (λ (m : NodeTable). length m.nodes.items) w.made-is in
          let one = link_numbers f known (length old) (length w.copy_below.new.made.nodes.items) w.in-ToNode.key w.in-ToNode.number w.in_ok-copy-in-ToNode.ensures.few in
          let same = ap (λ (l : Link). f * length (dirty_among known (l ∷ []))) w.in-ToNode.is in
          omega (arith, made, one, same)
    ] in
    links_numbers f known c.args.links.now c.in-Some.rest.now link (length old) (length new) (length c.copy_among.new.made.nodes.items) c.copy_among.result c.in-Some.ensures.cases.0 step c.copy_among.ensures.few

pub copy_below-add_unloaded-requires : goal.copy_below-add_unloaded-requires
copy_below-add_unloaded-requires g t c =
    let seen = node_views c.args.self.now.nodes.items in
    let n = c.in-Some.node.now in
    let own = c.requires.stands in
    record {
      row = (
        placed_of (node_view_of seen n).children,
        placed_on (g.V.Volume.state c.args.volume.now) c.args.self.now.fanout c.args.made.now.fanout own.0 seen c.args.number n c.in-Some-place.place c.branch_to_place.result c.requires.fanout c.in-Some-place.is c.branch_to_place.ensures
            c.in-Some.ensures.seen c.in-Some.ensures.sound own.1,
      );
    }

pub copy_below-returns-in_ok-copy-in-Some-place-clause-copied : goal.copy_below-returns-in_ok-copy-in-Some-place-clause-copied
copy_below-returns-in_ok-copy-in-Some-place-clause-copied g t c = λ key rest.
    let s = g.V.Volume.state c.args.volume.now in
    let seen = node_views c.args.self.now.nodes.items in
    let n = c.in-Some.node.now in
    let own = c.requires.stands in
    let on = placed_on s c.args.self.now.fanout c.args.made.now.fanout own.0 seen c.args.number n c.in-Some-place.place c.branch_to_place.result c.requires.fanout c.in-Some-place.is c.branch_to_place.ensures
    c.in-Some.ensures.seen c.in-Some.ensures.sound own.1 in
    c.in_ok-copy-in-Some-place.ensures.shown (placed_of (node_view_of seen n).children) on key rest
    ∙ placed_shown s own.0 seen c.args.number n c.in-Some-place.place c.branch_to_place.result c.in-Some-place.is c.branch_to_place.ensures c.in-Some.ensures.seen own.1 key rest

pub copy_below-copy_among-requires : goal.copy_below-copy_among-requires
copy_below-copy_among-requires g t c κs within =
    let s = g.V.Volume.state c.args.volume.now in
    let self = c.args.self.now in
    let n = c.in-Some.node.now in
    let own = c.requires.stands in
    let p = dirty_links s self.fanout own.0 self.nodes.items c.args.number n c.as_slice.result.now c.in-None-place.is c.as_slice.ensures.value c.in-Some.ensures.seen c.in-Some.ensures.sound own.1 in
    let whole = ap row_size p.children in
    let E : List Link → Type 0 = λ v. AreStandingLinks s c.args.made.now.nodes.items v in
    (omega (arith, whole), (within, (p.within, (p.stands, (subst E (sym c.new-copies.ensures.items) (standing_none s c.args.made.now.nodes.items), (c.requires.fanout, c.requires.clean))))))

pub copy_below-add-requires-clause-sound : goal.copy_below-add-requires-clause-sound
copy_below-add-requires-clause-sound g t c =
    let self = c.args.self.now in
    let seen = node_views self.nodes.items in
    let links = c.as_slice.result.now in
    let made = made_row c.args.made.now.nodes.items c.copy_among.new.made.nodes.items c.new-copies.result.items c.copy_among.new.copies.items (row_of seen links) c.new-copies.ensures.items c.in_ok-copy_among-in-None-place.ensures.copied in
    copies_sound self.fanout c.copy_among.new.made.fanout seen c.in-Some.node.now links (row_of (node_views c.copy_among.new.made.nodes.items) c.copy_among.new.copies.items)
    (c.in_ok-copy_among-in-None-place.ensures.fanout ∙ c.requires.fanout) c.in-None-place.is c.as_slice.ensures.value made c.in-Some.ensures.sound

pub copy_below-returns-in_ok-copy-in-None-place-clause-copied : goal.copy_below-returns-in_ok-copy-in-None-place-clause-copied
copy_below-returns-in_ok-copy-in-None-place-clause-copied g t c = λ key rest.
    let s = g.V.Volume.state c.args.volume.now in
    let self = c.args.self.now in
    let seen = node_views self.nodes.items in
    let n = c.in-Some.node.now in
    let links = c.as_slice.result.now in
    let own = c.requires.stands in
    let old = c.copy_among.new.made.nodes.items in
    let node : TableNode = record { level = n.level; place = None; links = c.copy_among.new.copies; beyond = None } in
    let made = made_row c.args.made.now.nodes.items old c.new-copies.result.items c.copy_among.new.copies.items (row_of seen links) c.new-copies.ensures.items c.in_ok-copy_among-in-None-place.ensures.copied in
    let p = dirty_links s self.fanout own.0 self.nodes.items c.args.number n links c.in-None-place.is c.as_slice.ensures.value c.in-Some.ensures.seen c.in-Some.ensures.sound own.1 in
    let copy = c.in_ok-copy-in-None-place in
    node_pushed old c.add.new.self.nodes.items node copy.copy key [] rest copy.ensures.added copy.ensures.number tt
    ∙ dirty_shown self.nodes.items c.args.number n (row_of (node_views old) node.links.items) c.in-None-place.is c.in-Some.ensures.seen (p.children ∙ sym made) key rest

pub copy_below-returns-in_ok-copy-in-None-place-clause-there : goal.copy_below-returns-in_ok-copy-in-None-place-clause-there
copy_below-returns-in_ok-copy-in-None-place-clause-there g t c = λ key.
    let s = g.V.Volume.state c.args.volume.now in
    let old = c.copy_among.new.made.nodes.items in
    let node : TableNode = record { level = c.in-Some.node.now.level; place = None; links = c.copy_among.new.copies; beyond = None } in
    let copy = c.in_ok-copy-in-None-place in
    standing_pushed s old c.add.new.self.nodes.items node copy.copy key [] copy.ensures.added copy.ensures.number refl c.in_ok-copy_among-in-None-place.ensures.there (standing_none s old)

pub copy_below-returns-in_ok-copy-in-Some-place-clause-few : goal.copy_below-returns-in_ok-copy-in-Some-place-clause-few
copy_below-returns-in_ok-copy-in-Some-place-clause-few g t c =
    let self = c.args.self.now in
    let added = c.in_ok-copy-in-Some-place.ensures.added in
    one_number self.fanout (length (dirty_from self.nodes.items c.args.number)) c.args.made.now.nodes.items c.add_unloaded.new.self.nodes.items added.0 added.1

pub copy_below-returns-in_ok-copy-in-None-place-clause-few : goal.copy_below-returns-in_ok-copy-in-None-place-clause-few
copy_below-returns-in_ok-copy-in-None-place-clause-few g t c =
    let self = c.args.self.now in
    let n = c.in-Some.node.now in
    let node : TableNode = record { level = n.level; place = None; links = c.copy_among.new.copies; beyond = None } in
    dirty_numbers self.fanout self.nodes.items c.args.made.now.nodes.items c.copy_among.new.made.nodes.items c.add.new.self.nodes.items c.args.number n node c.as_slice.result.now self.sound c.in-Some.ensures.some
    c.in-None-place.is c.as_slice.ensures.value c.in-Some.ensures.sound c.in_ok-copy_among-in-None-place.ensures.few c.in_ok-copy-in-None-place.ensures.added
