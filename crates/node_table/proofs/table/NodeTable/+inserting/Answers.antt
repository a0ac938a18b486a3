use Rattle.std.proofs.Common.{ℕ, None, List, ◌≡◌, true, ◌∷◌, ◌++◌, ap, sym, subst, ◌∙◌, arith}
use Rattle.std.specs.Prelude.{OnOk, slice_get}
use Rattle.index_tree.specs.Shape.{fits}
use Rattle.index_media.specs.Insertion.{inserted_by_keys}
use Rattle.index_media.specs.KeyedRow.{KeyedRow, no_more, bare}
use Rattle.table_nodes.specs.NodeView.{node_views, row_of, children_in}
use Rattle.table_nodes.specs.NodeViewLaws.{children_fit}
use Rattle.table_nodes.specs.Links.{row_before}
use Rattle.table_nodes.specs.LinkLaws.{added_both, links_in_added}
use Rattle.table_nodes.specs.declared.link.Link.{Link}
use Rattle.table_nodes.specs.declared.link.Link.TheVariants.{ToNode}
use Rattle.node_table.specs.Staging.{insertion_passes}
use Rattle.node_table.specs.StandingLinks.{standing_none, standing_on}
use Rattle.node_table.specs.Unloaded.{AreStandingLinks, DoLinksStand}
use Rattle.node_table.specs.UnloadedLaws.{first_stands, others_stand}
use Rattle.node_table.proofs.Changed.{reads_both, reads_failed, reads_wanting}
use Rattle.node_table.proofs.Inserted.{all_standing, among_none, among_passed, among_leaf, among_made, among_node, behind_standing, below_made, below_grown, leaf_standing, passed_standing, rest_fits}
use Rattle.node_table.proofs.Rows.{row_size, linked_size}
use Rattle.node_table.proofs.Walked.{rest_small}
use Rattle.node_table.proofs.table.NodeTable.+inserting.Goals as goal

pub insert_among-insert_among-requires : goal.insert_among-insert_among-requires
insert_among-insert_among-requires g t c κs within =
    let s = g.V.Volume.state c.args.volume.now in
    let old = c.args.self.now.nodes.items in
    let seen = node_views old in
    let f = c.args.self.now.fanout in
    let is = c.in-Some.ensures.cases.0 in
    let links = c.args.links.now in
    let link = c.in-Some.link.now in
    let rest = c.in-Some.rest.now in
    let small = rest_small seen links rest link is in
    let stands = others_stand s old links rest link is c.requires.stands in
    let there = passed_standing s f old links rest c.args.made.now.items _ link is c.in_ok-push-in-Some.ensures.items c.requires.sound c.requires.stands c.requires.there in
    (omega (arith, small, c.decreases), (within, ((rest_fits f seen link rest links is c.requires.sound).1, (there, (c.requires.key, (stands, c.requires.kept))))))

pub insert_among-insert_below-requires : goal.insert_among-insert_below-requires
insert_among-insert_below-requires g t c κs within =
    let s = g.V.Volume.state c.args.volume.now in
    let old = c.args.self.now.nodes.items in
    let links = c.args.links.now in
    let rest = c.in-Some.rest.now in
    let link = ToNode c.in-ToNode.key c.in-ToNode.number in
    let is = c.in-Some.ensures.cases.0 ∙ ap (λ (l : Link). l ∷ rest) c.in-ToNode.is in
    let size = linked_size (node_views old) link (row_of (node_views old) rest) in
    let same = ap (λ v. row_size (row_of (node_views old) v)) is in
    (omega (arith, size, same, c.decreases), (within, (c.requires.there, (c.requires.key, (first_stands s old links rest link is c.requires.stands, c.requires.kept)))))

pub insert_among-returns-then-goes_on-clause-made : goal.insert_among-returns-then-goes_on-clause-made
insert_among-returns-then-goes_on-clause-made g t c =
    let seen = node_views c.args.self.now.nodes.items in
    let f = c.args.self.now.fanout in
    let link = c.in-Some.link.now in
    let rest = c.in-Some.rest.now in
    let Q : KeyedRow → Type 0 = λ r. OnOk c.insert_among.result (row_before (node_views c.insert_among.new.self.nodes.items) c.insert_among.new.made.items no_more ≡ r) in
    subst Q (ap (λ v. row_before seen v (inserted_by_keys f c.args.leaf (row_of seen rest))) c.in_ok-push-in-Some.ensures.items
    ∙ among_passed seen f c.args.leaf link rest c.args.links.now c.args.made.now.items c.in-Some.ensures.cases.0 (sym c.goes_on.ensures ∙ c.if-goes_on.true))
    c.insert_among.ensures.made

pub insert_among-returns-in_ok-push-in-None-clause-made : goal.insert_among-returns-in_ok-push-in-None-clause-made
insert_among-returns-in_ok-push-in-None-clause-made g t c =
    let seen = node_views c.args.self.now.nodes.items in
    ap (λ v. row_before seen v no_more) c.in_ok-push-in-None.ensures.items
    ∙ among_none seen c.args.self.now.fanout c.args.leaf c.args.links.now c.args.made.now.items c.in-None.ensures.cases

pub insert_among-returns-in_ok-push-in-None-clause-there : goal.insert_among-returns-in_ok-push-in-None-clause-there
insert_among-returns-in_ok-push-in-None-clause-there g t c =
    leaf_standing (g.V.Volume.state c.args.volume.now) c.args.self.now.nodes.items c.args.made.now.items _ c.args.leaf c.in_ok-push-in-None.ensures.items c.requires.there

pub insert_among-returns-in_ok-extend_from_slice-in-ToLeaf-clause-made : goal.insert_among-returns-in_ok-extend_from_slice-in-ToLeaf-clause-made
insert_among-returns-in_ok-extend_from_slice-in-ToLeaf-clause-made g t c =
    let seen = node_views c.args.self.now.nodes.items in
    let items = c.in_ok-extend_from_slice-in-ToLeaf.ensures.items ∙ ap (λ (v : List Link). v ++ c.args.links.now) c.in_ok-push-in-ToLeaf.ensures.items in
    ap (λ v. row_before seen v no_more) items
    ∙ among_leaf seen c.args.self.now.fanout c.args.leaf c.in-ToLeaf.field-0 c.in-Some.rest.now c.args.links.now c.args.made.now.items
    (c.in-Some.ensures.cases.0 ∙ ap (λ (l : Link). l ∷ c.in-Some.rest.now) c.in-ToLeaf.is)
    (ap (λ l. insertion_passes c.args.leaf l c.in-Some.rest.now) (sym c.in-ToLeaf.is) ∙ sym c.goes_on.ensures ∙ c.if-goes_on.false)

pub insert_among-returns-in_ok-extend_from_slice-in-ToLeaf-clause-there : goal.insert_among-returns-in_ok-extend_from_slice-in-ToLeaf-clause-there
insert_among-returns-in_ok-extend_from_slice-in-ToLeaf-clause-there g t c =
    let s = g.V.Volume.state c.args.volume.now in
    let old = c.args.self.now.nodes.items in
    all_standing s c.args.self.now.fanout old c.args.links.now c.push-in-ToLeaf.new.self.items _ c.in_ok-extend_from_slice-in-ToLeaf.ensures.items c.requires.sound c.requires.stands
    (leaf_standing s old c.args.made.now.items c.push-in-ToLeaf.new.self.items c.args.leaf c.in_ok-push-in-ToLeaf.ensures.items c.requires.there)

pub insert_among-returns-in_ok-extend_from_slice-in-ToNode-clause-made : goal.insert_among-returns-in_ok-extend_from_slice-in-ToNode-clause-made
insert_among-returns-in_ok-extend_from_slice-in-ToNode-clause-made g t c =
    let rest = c.in-Some.rest.now in
    let now = c.insert_below.new.self.nodes.items in
    ap (λ v. row_before (node_views now) v no_more) c.in_ok-extend_from_slice-in-ToNode.ensures.items
    ∙ among_node c.args.self.now.fanout c.args.self.now.nodes.items now c.args.leaf c.in-ToNode.key c.in-ToNode.number rest c.args.links.now c.args.made.now.items c.insert_below.new.made.items
    (c.in-Some.ensures.cases.0 ∙ ap (λ (l : Link). l ∷ rest) c.in-ToNode.is) c.in_ok-insert_below-in-ToNode.ensures.added c.requires.sound
    (ap (λ l. insertion_passes c.args.leaf l rest) (sym c.in-ToNode.is) ∙ sym c.goes_on.ensures ∙ c.if-goes_on.false) c.in_ok-insert_below-in-ToNode.ensures.made

pub insert_among-returns-in_ok-extend_from_slice-in-ToNode-clause-there : goal.insert_among-returns-in_ok-extend_from_slice-in-ToNode-clause-there
insert_among-returns-in_ok-extend_from_slice-in-ToNode-clause-there g t c =
    let a = g.V.Volume.state c.args.volume.now in
    let b = g.V.Volume.state c.insert_below.new.volume in
    let below = c.in_ok-insert_below-in-ToNode.ensures in
    behind_standing a b c.args.self.now.fanout c.args.self.now.nodes.items c.insert_below.new.self.nodes.items c.args.links.now c.in-Some.rest.now c.insert_below.new.made.items _ c.in-Some.link.now below.reads.keeps below.reads.shape
    below.added c.in-Some.ensures.cases.0 c.in_ok-extend_from_slice-in-ToNode.ensures.items c.requires.sound c.requires.stands below.there

pub insert_below-insert_among-requires : goal.insert_below-insert_among-requires
insert_below-insert_among-requires g t c κs within =
    let b = g.V.Volume.state c.opened_copy.new.volume in
    let mid = c.opened_copy.new.self.nodes.items in
    let seen = node_views mid in
    let own = c.in_ok-node.ensures in
    let node = c.in_ok-node.node in
    let given = c.as_slice.ensures.value in
    let same = ap row_size own.children ∙ ap (λ v. row_size (row_of seen v)) (sym given) in
    let S : List Link → Type 0 = λ v. DoLinksStand b mid v in
    let N : List Link → Type 0 = λ v. AreStandingLinks b mid v in
    let F : List Link → Type 0 = λ v. fits c.opened_copy.new.self.fanout (bare (row_of seen v)) ≡ true in
    let G : ℕ → Type 0 = λ n. fits n (bare (row_of seen node.links.items)) ≡ true in
    let fit = subst G (sym own.fanout) (children_fit c.args.self.now.fanout (record { level = node.level; place = None; children = row_of seen node.links.items }) own.sound) in (
      omega (arith, same, c.decreases),
      (within, (subst F (sym given) fit, (subst N (sym c.new-links.ensures.items) (standing_none b mid), (c.requires.key, (subst S (sym given) own.links.stand, own.kept))))),
    )

pub insert_below-push_parted-requires-clause-grown : goal.insert_below-push_parted-requires-clause-grown
insert_below-push_parted-requires-clause-grown g t c =
    let f = c.args.self.now.fanout in
    let mid = c.opened_copy.new.self in
    let among = c.insert_among.new.self in
    let node = c.in_ok-node.node in
    let row = row_of (node_views mid.nodes.items) node.links.items in
    let made = among_made mid.fanout f mid.nodes.items among.nodes.items c.args.leaf c.new-links.result.items c.insert_among.new.made.items c.as_slice-2.result.now c.as_slice.result.now node.links.items
    c.new-links.ensures.items c.as_slice-2.ensures.value c.as_slice.ensures.value c.in_ok-node.ensures.fanout c.in_ok-insert_among.ensures.made in
    below_grown f among.fanout node.level c.args.leaf row _ c.args.self.now.least (c.in_ok-insert_among.ensures.fanout ∙ c.in_ok-node.ensures.fanout) c.requires.key c.in_ok-node.ensures.sound made

pub insert_below-push_parted-requires-clause-there : goal.insert_below-push_parted-requires-clause-there
insert_below-push_parted-requires-clause-there g t c =
    let old = c.args.self.now.nodes.items in
    let mid = c.opened_copy.new.self.nodes.items in
    let now = c.insert_among.new.self.nodes.items in
    links_in_added old now c.args.made.now.items (added_both old mid now c.in_ok-node.ensures.added c.in_ok-insert_among.ensures.added) c.requires.there.there

pub insert_below-returns-clause-made : goal.insert_below-returns-clause-made
insert_below-returns-clause-made g t c = λ rest.
    let f = c.args.self.now.fanout in
    let old = c.args.self.now.nodes.items in
    let mid = c.opened_copy.new.self in
    let among = c.insert_among.new.self in
    let now = among.nodes.items in
    let node = c.in_ok-node.node in
    let row = row_of (node_views mid.nodes.items) node.links.items in
    let made = among_made mid.fanout f mid.nodes.items now c.args.leaf c.new-links.result.items c.insert_among.new.made.items c.as_slice-2.result.now c.as_slice.result.now node.links.items
    c.new-links.ensures.items c.as_slice-2.ensures.value c.as_slice.ensures.value c.in_ok-node.ensures.fanout c.in_ok-insert_among.ensures.made in
    c.in_ok-push_parted.ensures.made rest
    ∙ below_made f among.fanout old now c.args.leaf c.args.top.key c.lower_key.result c.args.made.now.items c.as_slice-2.result.now row (children_in (slice_get (node_views old) c.args.top.number)) rest
    (c.in_ok-insert_among.ensures.fanout ∙ c.in_ok-node.ensures.fanout) (added_both old mid.nodes.items now c.in_ok-node.ensures.added c.in_ok-insert_among.ensures.added) c.requires.there.there c.lower_key.ensures made
    c.in_ok-node.ensures.children

pub insert_below-returns-clause-there : goal.insert_below-returns-clause-there
insert_below-returns-clause-there g t c =
    let first = g.V.Volume.state c.args.volume.now in
    let second = g.V.Volume.state c.opened_copy.new.volume in
    let third = g.V.Volume.state c.insert_among.new.volume in
    let old = c.args.self.now.nodes.items in
    let mid = c.opened_copy.new.self.nodes.items in
    let now = c.insert_among.new.self.nodes.items in
    let made = c.args.made.now.items in
    let one = c.in_ok-node.ensures in
    let two = c.in_ok-insert_among.ensures in
    let own = standing_on second third mid now made two.reads.keeps two.reads.shape two.added (standing_on first second old mid made one.reads.keeps one.reads.shape one.added c.requires.there) in
    let S : List Link → Type 0 = λ v. AreStandingLinks third now v in
    c.in_ok-push_parted.ensures.stands own (subst S (sym c.as_slice-2.ensures.value) two.there)

pub insert_below-returns-in_err-insert_among-clause-added : goal.insert_below-returns-in_err-insert_among-clause-added
insert_below-returns-in_err-insert_among-clause-added g t c = added_both c.args.self.now.nodes.items c.opened_copy.new.self.nodes.items c.insert_among.new.self.nodes.items c.in_ok-node.ensures.added c.insert_among.ensures.added

pub insert_below-returns-in_err-insert_among-clause-fanout : goal.insert_below-returns-in_err-insert_among-clause-fanout
insert_below-returns-in_err-insert_among-clause-fanout g t c = c.insert_among.ensures.fanout ∙ c.in_ok-node.ensures.fanout

pub insert_below-returns-in_err-insert_among-clause-reads : goal.insert_below-returns-in_err-insert_among-clause-reads
insert_below-returns-in_err-insert_among-clause-reads g t c =
    let a = g.V.Volume.state c.args.volume.now in
    let b = g.V.Volume.state c.opened_copy.new.volume in
    let d = g.V.Volume.state c.insert_among.new.volume in
    reads_failed a b d c.in_ok-node.node c.in_err-insert_among.field-0.0 c.from_residual-in_err-insert_among.result c.from_residual-in_err-insert_among.ensures.1 c.in_ok-node.ensures.reads c.in_err-insert_among.ensures.reads

pub insert_below-returns-in_err-push_parted-clause-added : goal.insert_below-returns-in_err-push_parted-clause-added
insert_below-returns-in_err-push_parted-clause-added g t c =
    added_both c.args.self.now.nodes.items c.insert_among.new.self.nodes.items c.push_parted.new.self.nodes.items
    (added_both c.args.self.now.nodes.items c.opened_copy.new.self.nodes.items c.insert_among.new.self.nodes.items c.in_ok-node.ensures.added c.insert_among.ensures.added) c.push_parted.ensures.added

pub insert_below-returns-in_err-push_parted-clause-fanout : goal.insert_below-returns-in_err-push_parted-clause-fanout
insert_below-returns-in_err-push_parted-clause-fanout g t c = c.push_parted.ensures.fanout ∙ c.insert_among.ensures.fanout ∙ c.in_ok-node.ensures.fanout

pub insert_below-returns-in_err-push_parted-clause-reads : goal.insert_below-returns-in_err-push_parted-clause-reads
insert_below-returns-in_err-push_parted-clause-reads g t c =
    let a = g.V.Volume.state c.args.volume.now in
    let b = g.V.Volume.state c.opened_copy.new.volume in
    let d = g.V.Volume.state c.insert_among.new.volume in
    reads_wanting a d c.in_ok-node.node c.from_residual-in_err-push_parted.result c.from_residual-in_err-push_parted.ensures.1 (reads_both a b d c.in_ok-node.node _ c.in_ok-node.node c.in_ok-node.ensures.reads c.in_ok-insert_among.ensures.reads)

pub insert_below-returns-clause-added : goal.insert_below-returns-clause-added
insert_below-returns-clause-added g t c =
    added_both c.args.self.now.nodes.items c.insert_among.new.self.nodes.items c.push_parted.new.self.nodes.items
    (added_both c.args.self.now.nodes.items c.opened_copy.new.self.nodes.items c.insert_among.new.self.nodes.items c.in_ok-node.ensures.added c.insert_among.ensures.added) c.push_parted.ensures.added

pub insert_below-returns-clause-fanout : goal.insert_below-returns-clause-fanout
insert_below-returns-clause-fanout g t c = c.push_parted.ensures.fanout ∙ c.insert_among.ensures.fanout ∙ c.in_ok-node.ensures.fanout

pub insert_below-returns-clause-reads : goal.insert_below-returns-clause-reads
insert_below-returns-clause-reads g t c =
    let a = g.V.Volume.state c.args.volume.now in
    let b = g.V.Volume.state c.opened_copy.new.volume in
    let d = g.V.Volume.state c.insert_among.new.volume in
    reads_both a b d c.in_ok-node.node _ _ c.in_ok-node.ensures.reads c.in_ok-insert_among.ensures.reads
