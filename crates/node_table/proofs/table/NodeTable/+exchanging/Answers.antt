use Rattle.std.proofs.Common.{None, Bool, true, false, List, ℕ, ◌≡◌, ◌∷◌, ◌++◌, ◌-◌, ◌<◌, [], ap, sym, refl, subst, ◌∙◌, arith, length}
use Rattle.std.proofs.lemmas.Bool.Decides.{nat_tests}
use Rattle.std.specs.Prelude.{IfOk, OnOk, slice_get}
use Rattle.index_tree.specs.Removal.{holds}
use Rattle.index_tree.specs.Shape.{contents, done, fits}
use Rattle.index_media.specs.InsertionSound.{fit_node}
use Rattle.index_media.specs.KeyedRow.{KeyedRow, no_more, bare}
use Rattle.node_table.specs.Exchange.{exchanged_row, links_to}
use Rattle.table_nodes.specs.LinkLaws.{added_both, added_none, links_kept}
use Rattle.table_nodes.specs.NodeView.{node_views, row_of}
use Rattle.table_nodes.specs.Sound.{IsSoundView}
use Rattle.table_nodes.specs.Links.{row_before}
use Rattle.node_table.specs.StandingLinks.{standing_both, standing_first, standing_none, standing_on, standing_rest}
use Rattle.node_table.specs.Unloaded.{AreStandingLinks, DoLinksStand}
use Rattle.node_table.specs.UnloadedLaws.{first_stands}
use Rattle.node_table.specs.Walk.{inside}
use Rattle.table_nodes.specs.declared.link.Link.{Link}
use Rattle.table_nodes.specs.declared.link.Link.TheVariants.{ToNode}
use Rattle.node_table.proofs.Changed.{reads_both, reads_failed, reads_then, reads_wanting}
use Rattle.node_table.proofs.Exchanged.{lower_inside, behind_bounded, found_outside, found_inside, other_leaf, none_among, among_out, among_taken, among_below, among_beside, among_on, rest_kept, below_stays, below_gone, below_left, left_sound}
use Rattle.node_table.proofs.Exchanged.{links_to_standing, root_link, standing_through}
use Rattle.node_table.proofs.Inserted.{first_there, rest_fits, row_kept, made_row, row_standing}
use Rattle.node_table.proofs.Rows.{row_size, linked_size}
use Rattle.node_table.proofs.Walked.{rest_small}
use Rattle.node_table.proofs.table.NodeTable.+exchanging.Goals as goal

pub exchange_among-exchange_among-requires : goal.exchange_among-exchange_among-requires
exchange_among-exchange_among-requires g t c κs within =
    let a = g.V.Volume.state c.args.volume.now in
    let old = c.args.self.now.nodes.items in
    let seen = node_views old in
    let f = c.args.self.now.fanout in
    let is = c.in-Some.ensures.cases.0 in
    let link = c.in-Some.link.now in
    let links = c.args.links.now in
    let rest = c.in-Some.rest.now in
    let made = c.args.made.now.items in
    let small = rest_small seen links rest link is in
    let own = row_standing a f old links c.requires.sound c.requires.stands in
    let P : List Link → Type 0 = λ v. AreStandingLinks a old v in
    let pushed = subst P (sym c.in_ok-push-in-Some.ensures.items) (standing_both a old made (link ∷ []) c.requires.there (standing_first a old links rest link is own)) in (
      omega (arith, small, c.decreases),
      (
        within,
        (
          (rest_fits f seen link rest links is c.requires.sound).1,
          (behind_bounded seen link rest links is c.requires.bounded, (pushed, (c.requires.key, ((standing_rest a old links rest link is own).stand, c.requires.kept)))),
        ),
      ),
    )

pub exchange_among-returns-then-begin_below-clause-found : goal.exchange_among-returns-then-begin_below-clause-found
exchange_among-returns-then-begin_below-clause-found g t c =
    let seen = node_views c.args.self.now.nodes.items in
    let gone = c.args.gone.now in
    let is = c.in-Some.ensures.cases.0 in
    let link = c.in-Some.link.now in
    let rest = c.in-Some.rest.now in
    let above = c.begin_below.ensures.positive c.if-begin_below.true in
    let out = lower_inside seen (c.rank.result - 1) gone link rest c.args.links.now is (omega (arith, above, c.rank.ensures)) c.requires.bounded (c.begin_below.ensures.begins c.if-begin_below.true) in
    let Q : Bool → Type 0 = λ b. IfOk c.exchange_among.result (λ found. found ≡ b) in
    subst Q (found_outside seen gone link rest c.args.links.now is out) c.exchange_among.ensures.found

pub exchange_among-returns-then-begin_below-clause-made : goal.exchange_among-returns-then-begin_below-clause-made
exchange_among-returns-then-begin_below-clause-made g t c =
    let seen = node_views c.args.self.now.nodes.items in
    let gone = c.args.gone.now in
    let is = c.in-Some.ensures.cases.0 in
    let link = c.in-Some.link.now in
    let rest = c.in-Some.rest.now in
    let above = c.begin_below.ensures.positive c.if-begin_below.true in
    let out = lower_inside seen (c.rank.result - 1) gone link rest c.args.links.now is (omega (arith, above, c.rank.ensures)) c.requires.bounded (c.begin_below.ensures.begins c.if-begin_below.true) in
    let Q : KeyedRow → Type 0 = λ r. OnOk c.exchange_among.result (row_before (node_views c.exchange_among.new.self.nodes.items) c.exchange_among.new.made.items no_more ≡ r) in
    subst Q (ap (λ v. row_before seen v (exchanged_row gone c.args.come (row_of seen rest))) c.in_ok-push-in-Some.ensures.items
    ∙ among_out seen gone c.args.come link rest c.args.links.now c.args.made.now.items is out)
    c.exchange_among.ensures.made

pub exchange_among-returns-then-same_leaf-clause-made : goal.exchange_among-returns-then-same_leaf-clause-made
exchange_among-returns-then-same_leaf-clause-made g t c =
    let seen = node_views c.args.self.now.nodes.items in
    let rest = c.in-Some.rest.now in
    let is = c.in-Some.ensures.cases.0 ∙ ap (λ (l : Link). l ∷ rest) c.in-ToLeaf.is in
    let items = c.in_ok-extend_from_slice-in-ToLeaf.ensures.items ∙ ap (λ (v : List Link). v ++ rest) c.in_ok-push_leaf-in-ToLeaf.ensures in
    ap (λ v. row_before seen v no_more) items
    ∙ among_taken seen c.args.gone.now c.in-ToLeaf.leaf c.args.come rest c.args.links.now c.args.made.now.items is (sym c.same_leaf.ensures ∙ c.if-same_leaf.true)

pub exchange_among-returns-then-same_leaf-clause-there : goal.exchange_among-returns-then-same_leaf-clause-there
exchange_among-returns-then-same_leaf-clause-there g t c =
    let a = g.V.Volume.state c.args.volume.now in
    let old = c.args.self.now.nodes.items in
    let links = c.args.links.now in
    let rest = c.in-Some.rest.now in
    let made = c.args.made.now.items in
    let come = c.args.come in
    let items = c.in_ok-extend_from_slice-in-ToLeaf.ensures.items ∙ ap (λ (v : List Link). v ++ rest) c.in_ok-push_leaf-in-ToLeaf.ensures in
    let own = row_standing a c.args.self.now.fanout old links c.requires.sound c.requires.stands in
    let P : List Link → Type 0 = λ v. AreStandingLinks a old v in
    subst P (sym items)
    (standing_both a old (made ++ links_to come) rest (standing_both a old made (links_to come) c.requires.there (links_to_standing a old come))
    (standing_rest a old links rest c.in-Some.link.now c.in-Some.ensures.cases.0 own))

pub exchange_among-exchange_among-requires-in-ToLeaf : goal.exchange_among-exchange_among-requires-in-ToLeaf
exchange_among-exchange_among-requires-in-ToLeaf g t c κs within =
    let a = g.V.Volume.state c.args.volume.now in
    let old = c.args.self.now.nodes.items in
    let seen = node_views old in
    let f = c.args.self.now.fanout in
    let is = c.in-Some.ensures.cases.0 in
    let link = c.in-Some.link.now in
    let links = c.args.links.now in
    let rest = c.in-Some.rest.now in
    let made = c.args.made.now.items in
    let small = rest_small seen links rest link is in
    let own = row_standing a f old links c.requires.sound c.requires.stands in
    let P : List Link → Type 0 = λ v. AreStandingLinks a old v in
    let pushed = subst P (sym c.in_ok-push-in-ToLeaf.ensures.items) (standing_both a old made (link ∷ []) c.requires.there (standing_first a old links rest link is own)) in (
      omega (arith, small, c.decreases),
      (
        within,
        (
          (rest_fits f seen link rest links is c.requires.sound).1,
          (behind_bounded seen link rest links is c.requires.bounded, (pushed, (c.requires.key, ((standing_rest a old links rest link is own).stand, c.requires.kept)))),
        ),
      ),
    )

pub exchange_among-exchange_below-requires : goal.exchange_among-exchange_below-requires
exchange_among-exchange_below-requires g t c κs within =
    let a = g.V.Volume.state c.args.volume.now in
    let old = c.args.self.now.nodes.items in
    let seen = node_views old in
    let links = c.args.links.now in
    let rest = c.in-Some.rest.now in
    let link = ToNode c.in-ToNode.key c.in-ToNode.number in
    let is = c.in-Some.ensures.cases.0 ∙ ap (λ (l : Link). l ∷ rest) c.in-ToNode.is in
    let size = linked_size seen link (row_of seen rest) in
    let same = ap (λ v. row_size (row_of seen v)) is in
    let there = first_there c.args.self.now.fanout old link rest links is c.requires.sound in
    let stands = first_stands a old links rest link is c.requires.stands in
    (omega (arith, size, same, c.decreases), (within, (there, (c.requires.there, (c.requires.key, (stands, c.requires.kept))))))

pub exchange_among-returns-then-branch-clause-found : goal.exchange_among-returns-then-branch-clause-found
exchange_among-returns-then-branch-clause-found g t c =
    let seen = node_views c.args.self.now.nodes.items in
    let rest = c.in-Some.rest.now in
    let is = c.in-Some.ensures.cases.0 ∙ ap (λ (l : Link). l ∷ rest) c.in-ToNode.is in
    found_inside seen c.args.gone.now (ToNode c.in-ToNode.key c.in-ToNode.number) rest c.args.links.now is (sym c.in_ok-exchange_below-in-ToNode.ensures.found ∙ c.if-branch.true)

pub exchange_among-returns-then-branch-clause-made : goal.exchange_among-returns-then-branch-clause-made
exchange_among-returns-then-branch-clause-made g t c =
    let old = c.args.self.now.nodes.items in
    let now = c.exchange_below.new.self.nodes.items in
    let rest = c.in-Some.rest.now in
    let is = c.in-Some.ensures.cases.0 ∙ ap (λ (l : Link). l ∷ rest) c.in-ToNode.is in
    ap (λ v. row_before (node_views now) v no_more) c.in_ok-extend_from_slice-in-ToNode.ensures.items
    ∙ among_below c.args.self.now.fanout old now c.args.gone.now c.args.come c.in-ToNode.key c.in-ToNode.number rest c.args.links.now c.args.made.now.items c.exchange_below.new.made.items
    is c.in_ok-exchange_below-in-ToNode.ensures.added c.requires.sound (sym c.in_ok-exchange_below-in-ToNode.ensures.found ∙ c.if-branch.true) c.in_ok-exchange_below-in-ToNode.ensures.made

pub exchange_among-returns-then-branch-clause-there : goal.exchange_among-returns-then-branch-clause-there
exchange_among-returns-then-branch-clause-there g t c =
    let a = g.V.Volume.state c.args.volume.now in
    let b = g.V.Volume.state c.exchange_below.new.volume in
    let old = c.args.self.now.nodes.items in
    let now = c.exchange_below.new.self.nodes.items in
    let links = c.args.links.now in
    let rest = c.in-Some.rest.now in
    let reads = c.exchange_below.ensures.reads in
    let own = row_standing a c.args.self.now.fanout old links c.requires.sound c.requires.stands in
    let back = standing_on a b old now rest reads.keeps reads.shape c.exchange_below.ensures.added (standing_rest a old links rest c.in-Some.link.now c.in-Some.ensures.cases.0 own) in
    let P : List Link → Type 0 = λ v. AreStandingLinks b now v in
    subst P (sym c.in_ok-extend_from_slice-in-ToNode.ensures.items) (standing_both b now c.exchange_below.new.made.items rest c.in_ok-exchange_below-in-ToNode.ensures.there back)

pub exchange_among-exchange_among-requires-then-begin_within : goal.exchange_among-exchange_among-requires-then-begin_within
exchange_among-exchange_among-requires-then-begin_within g t c κs within =
    let a = g.V.Volume.state c.args.volume.now in
    let b = g.V.Volume.state c.exchange_below.new.volume in
    let old = c.args.self.now.nodes.items in
    let now = c.exchange_below.new.self.nodes.items in
    let seen = node_views old in
    let f = c.args.self.now.fanout in
    let is = c.in-Some.ensures.cases.0 in
    let link = c.in-Some.link.now in
    let links = c.args.links.now in
    let rest = c.in-Some.rest.now in
    let reads = c.exchange_below.ensures.reads in
    let added = c.exchange_below.ensures.added in
    let fit = (rest_fits f seen link rest links is c.requires.sound).1 in
    let kept = rest_kept f c.exchange_below.new.self.fanout old now rest c.exchange_below.ensures.fanout added fit (behind_bounded seen link rest links is c.requires.bounded) in
    let small = rest_small seen links rest link is in
    let later = ap row_size (row_kept f old now rest added fit) in
    let own = row_standing a f old links c.requires.sound c.requires.stands in
    let back = standing_on a b old now rest reads.keeps reads.shape added (standing_rest a old links rest link is own) in (
      omega (arith, small, later, c.decreases),
      (within, (kept.0, (kept.1, (c.in_ok-exchange_below-in-ToNode.ensures.there, (c.requires.key, (back.stand, c.exchange_below.ensures.kept)))))),
    )

pub exchange_among-returns-then-begin_within-clause-found : goal.exchange_among-returns-then-begin_within-clause-found
exchange_among-returns-then-begin_within-clause-found g t c =
    let old = c.args.self.now.nodes.items in
    let now = c.exchange_below.new.self.nodes.items in
    let seen = node_views old in
    let gone = c.args.gone.now in
    let rest = c.in-Some.rest.now in
    let fit = (rest_fits c.args.self.now.fanout seen c.in-Some.link.now rest c.args.links.now c.in-Some.ensures.cases.0 c.requires.sound).1 in
    let is = c.in-Some.ensures.cases.0 ∙ ap (λ (l : Link). l ∷ rest) c.in-ToNode.is in
    let same = ap (λ (r : KeyedRow). holds gone (contents (bare r))) (row_kept c.args.self.now.fanout old now rest c.in_ok-exchange_below-in-ToNode.ensures.added fit) in
    let Q : Bool → Type 0 = λ b. IfOk c.exchange_among-then-begin_within.result (λ found. found ≡ b) in
    subst Q (same ∙ found_outside seen gone (ToNode c.in-ToNode.key c.in-ToNode.number) rest c.args.links.now is (sym c.in_ok-exchange_below-in-ToNode.ensures.found ∙ c.if-branch.false))
    c.exchange_among-then-begin_within.ensures.found

pub exchange_among-returns-then-begin_within-clause-made : goal.exchange_among-returns-then-begin_within-clause-made
exchange_among-returns-then-begin_within-clause-made g t c =
    let old = c.args.self.now.nodes.items in
    let now = c.exchange_below.new.self.nodes.items in
    let rest = c.in-Some.rest.now in
    let fit = (rest_fits c.args.self.now.fanout (node_views old) c.in-Some.link.now rest c.args.links.now c.in-Some.ensures.cases.0 c.requires.sound).1 in
    let is = c.in-Some.ensures.cases.0 ∙ ap (λ (l : Link). l ∷ rest) c.in-ToNode.is in
    let Q : KeyedRow → Type 0 = λ r. OnOk c.exchange_among-then-begin_within.result (row_before (node_views c.exchange_among-then-begin_within.new.self.nodes.items) c.exchange_among-then-begin_within.new.made.items no_more ≡ r) in
    subst Q (among_on c.args.self.now.fanout old now c.args.gone.now c.args.come c.in-ToNode.key c.in-ToNode.number rest c.args.links.now c.args.made.now.items c.exchange_below.new.made.items
    is c.in_ok-exchange_below-in-ToNode.ensures.added c.requires.sound fit (sym c.in_ok-exchange_below-in-ToNode.ensures.found ∙ c.if-branch.false) c.in_ok-exchange_below-in-ToNode.ensures.made)
    c.exchange_among-then-begin_within.ensures.made

pub exchange_among-returns-in_ok-push-in-ToLeaf-clause-made : goal.exchange_among-returns-in_ok-push-in-ToLeaf-clause-made
exchange_among-returns-in_ok-push-in-ToLeaf-clause-made g t c =
    let seen = node_views c.args.self.now.nodes.items in
    let gone = c.args.gone.now in
    let link = c.in-Some.link.now in
    let rest = c.in-Some.rest.now in
    let O : Link → Type 0 = λ l. holds gone (contents (bare (inside seen l))) ≡ false in
    let out = subst O (sym c.in-ToLeaf.is) (other_leaf seen gone c.in-ToLeaf.leaf (sym c.same_leaf.ensures ∙ c.if-same_leaf.false)) in
    let Q : KeyedRow → Type 0 = λ r. OnOk c.exchange_among-in-ToLeaf.result (row_before (node_views c.exchange_among-in-ToLeaf.new.self.nodes.items) c.exchange_among-in-ToLeaf.new.made.items no_more ≡ r) in
    subst Q (ap (λ v. row_before seen v (exchanged_row gone c.args.come (row_of seen rest))) c.in_ok-push-in-ToLeaf.ensures.items
    ∙ among_out seen gone c.args.come link rest c.args.links.now c.args.made.now.items c.in-Some.ensures.cases.0 out)
    c.exchange_among-in-ToLeaf.ensures.made

pub exchange_among-returns-in_ok-extend_from_slice-in-ToNode-2-clause-found : goal.exchange_among-returns-in_ok-extend_from_slice-in-ToNode-2-clause-found
exchange_among-returns-in_ok-extend_from_slice-in-ToNode-2-clause-found g t c =
    let rest = c.in-Some.rest.now in
    let is = c.in-Some.ensures.cases.0 ∙ ap (λ (l : Link). l ∷ rest) c.in-ToNode.is in
    sym (none_among (node_views c.args.self.now.nodes.items) c.rank-in-ToNode.result c.args.gone.now (ToNode c.in-ToNode.key c.in-ToNode.number) rest c.args.links.now is c.rank-in-ToNode.ensures c.requires.bounded
    (sym c.begin_within.ensures ∙ c.if-begin_within.false) (sym c.in_ok-exchange_below-in-ToNode.ensures.found ∙ c.if-branch.false))

pub exchange_among-returns-in_ok-extend_from_slice-in-ToNode-2-clause-made : goal.exchange_among-returns-in_ok-extend_from_slice-in-ToNode-2-clause-made
exchange_among-returns-in_ok-extend_from_slice-in-ToNode-2-clause-made g t c =
    let old = c.args.self.now.nodes.items in
    let now = c.exchange_below.new.self.nodes.items in
    let rest = c.in-Some.rest.now in
    let is = c.in-Some.ensures.cases.0 ∙ ap (λ (l : Link). l ∷ rest) c.in-ToNode.is in
    let out = sym c.in_ok-exchange_below-in-ToNode.ensures.found ∙ c.if-branch.false in
    let none = none_among (node_views old) c.rank-in-ToNode.result c.args.gone.now (ToNode c.in-ToNode.key c.in-ToNode.number) rest c.args.links.now is c.rank-in-ToNode.ensures c.requires.bounded
    (sym c.begin_within.ensures ∙ c.if-begin_within.false) out in
    ap (λ v. row_before (node_views now) v no_more) c.in_ok-extend_from_slice-in-ToNode-2.ensures.items
    ∙ among_beside c.args.self.now.fanout old now c.args.gone.now c.args.come c.in-ToNode.key c.in-ToNode.number rest c.args.links.now c.args.made.now.items c.exchange_below.new.made.items
    is c.in_ok-exchange_below-in-ToNode.ensures.added c.requires.sound out none c.in_ok-exchange_below-in-ToNode.ensures.made

pub exchange_among-returns-in_ok-extend_from_slice-in-ToNode-2-clause-there : goal.exchange_among-returns-in_ok-extend_from_slice-in-ToNode-2-clause-there
exchange_among-returns-in_ok-extend_from_slice-in-ToNode-2-clause-there g t c =
    let a = g.V.Volume.state c.args.volume.now in
    let b = g.V.Volume.state c.exchange_below.new.volume in
    let old = c.args.self.now.nodes.items in
    let now = c.exchange_below.new.self.nodes.items in
    let links = c.args.links.now in
    let rest = c.in-Some.rest.now in
    let reads = c.exchange_below.ensures.reads in
    let own = row_standing a c.args.self.now.fanout old links c.requires.sound c.requires.stands in
    let back = standing_on a b old now rest reads.keeps reads.shape c.exchange_below.ensures.added (standing_rest a old links rest c.in-Some.link.now c.in-Some.ensures.cases.0 own) in
    let P : List Link → Type 0 = λ v. AreStandingLinks b now v in
    subst P (sym c.in_ok-extend_from_slice-in-ToNode-2.ensures.items) (standing_both b now c.exchange_below.new.made.items rest c.in_ok-exchange_below-in-ToNode.ensures.there back)

pub exchange_below-opened_copy-requires-clause-stands : goal.exchange_below-opened_copy-requires-clause-stands
exchange_below-opened_copy-requires-clause-stands g t c = (c.args.top.key, c.requires.stands)

pub exchange_below-exchange_among-requires : goal.exchange_below-exchange_among-requires
exchange_below-exchange_among-requires g t c κs within =
    let m = g.V.Volume.state c.opened_copy.new.volume in
    let mid = c.opened_copy.new.self.nodes.items in
    let seen = node_views mid in
    let links = c.as_slice.result.now in
    let value = sym c.as_slice.ensures.value in
    let whole = ap row_size (c.in_ok-node.ensures.children ∙ ap (row_of seen) value) in
    let S : List Link → Type 0 = λ v. IsSoundView c.args.self.now.fanout (record { level = c.in_ok-node.node.level; place = None; children = row_of seen v }) in
    let sound = subst S value c.in_ok-node.ensures.sound in
    let F : ℕ → Type 0 = λ n. fits n (bare (row_of seen links)) ≡ true in
    let fit = subst F (sym c.opened_copy.ensures.fanout) (fit_node c.args.self.now.fanout (bare (row_of seen links)) done sound.0).children in
    let L : List Link → Type 0 = λ v. DoLinksStand m mid v in
    let M : List Link → Type 0 = λ v. AreStandingLinks m mid v in
    let none = subst M (sym c.new-links.ensures.items) (standing_none m mid) in (
      omega (arith, whole, c.decreases),
      (within, (fit, (sound.2, (none, (c.requires.key, (subst L value c.in_ok-node.ensures.links.stand, c.opened_copy.ensures.kept)))))),
    )

pub exchange_below-take_back-requires : goal.exchange_below-take_back-requires
exchange_below-take_back-requires g t c =
    let same = c.len-number.ensures in
    record {
      before = (
        c.args.self.now,
        added_both c.args.self.now.nodes.items c.opened_copy.new.self.nodes.items c.exchange_among.new.self.nodes.items c.opened_copy.ensures.added c.exchange_among.ensures.added,
        sym (c.exchange_among.ensures.fanout ∙ c.opened_copy.ensures.fanout),
        omega (arith, same),
      );
    }

pub exchange_below-returns-then-is_empty-clause-made : goal.exchange_below-returns-then-is_empty-clause-made
exchange_below-returns-then-is_empty-clause-made g t c = λ rest.
    let old = c.args.self.now.nodes.items in
    let mid = c.opened_copy.new.self.nodes.items in
    let now = c.exchange_among.new.self.nodes.items in
    let last = c.take_back.new.self.nodes.items in
    let seen = node_views mid in
    let gone = c.args.gone.now in
    let come = c.args.come in
    let was = c.args.made.now.items in
    let links = c.exchange_among.new.made.items in
    let row = row_of seen c.as_slice.result.now in
    let children = c.in_ok-node.ensures.children ∙ ap (row_of seen) (sym c.as_slice.ensures.value) in
    let made = made_row mid now c.new-links.result.items links _ c.new-links.ensures.items c.in_ok-exchange_among.ensures.made in
    let S : List Link → Type 0 = λ v. IsSoundView c.args.self.now.fanout (record { level = c.in_ok-node.node.level; place = None; children = row_of seen v }) in
    let sound = subst S (sym c.as_slice.ensures.value) c.in_ok-node.ensures.sound in
    let none : length links ≡ 0 = grind (arith, nat_tests, c.is_empty.ensures, c.if-is_empty.true, c.exchange_among.new.made.ok.0) in
    let added = added_both old mid now c.in_ok-node.ensures.added c.in_ok-exchange_among.ensures.added in
    let same = c.len-number.ensures in
    let back = c.take_back.ensures.nodes old added (omega (arith, same)) in
    links_kept old last was rest (added_none old last back) c.requires.there.there ∙ sym (links_kept old now was rest added c.requires.there.there)
    ∙ below_gone old now gone come c.args.top.key (slice_get (node_views old) c.args.top.number) row was links rest c.exchange_keeps_nodes.ensures.number added c.requires.there.there
    children (fit_node c.args.self.now.fanout (bare row) done sound.0).least (sym c.in_ok-exchange_among.ensures.found ∙ c.if-branch.true) made none

pub exchange_below-returns-then-is_empty-clause-there : goal.exchange_below-returns-then-is_empty-clause-there
exchange_below-returns-then-is_empty-clause-there g t c =
    let a = g.V.Volume.state c.args.volume.now in
    let m = g.V.Volume.state c.opened_copy.new.volume in
    let b = g.V.Volume.state c.exchange_among.new.volume in
    let old = c.args.self.now.nodes.items in
    let last = c.take_back.new.self.nodes.items in
    let opens = c.opened_copy.ensures.reads in
    let reads = c.exchange_among.ensures.reads in
    let same = c.len-number.ensures in
    let back = c.take_back.ensures.nodes old (added_both old c.opened_copy.new.self.nodes.items c.exchange_among.new.self.nodes.items c.opened_copy.ensures.added c.exchange_among.ensures.added) (omega (arith, same)) in
    standing_through a m b old old last c.args.made.now.items opens.keeps opens.shape reads.keeps reads.shape (added_none old old refl) (added_none old last back) c.requires.there

pub exchange_below-returns-then-is_empty-clause-added : goal.exchange_below-returns-then-is_empty-clause-added
exchange_below-returns-then-is_empty-clause-added g t c =
    let old = c.args.self.now.nodes.items in
    let same = c.len-number.ensures in
    added_none old c.take_back.new.self.nodes.items
    (c.take_back.ensures.nodes old (added_both old c.opened_copy.new.self.nodes.items c.exchange_among.new.self.nodes.items c.opened_copy.ensures.added c.exchange_among.ensures.added) (omega (arith, same)))

pub exchange_below-push_node-requires-clause-sound : goal.exchange_below-push_node-requires-clause-sound
exchange_below-push_node-requires-clause-sound g t c =
    let mid = c.opened_copy.new.self.nodes.items in
    let now = c.exchange_among.new.self.nodes.items in
    let seen = node_views mid in
    let gone = c.args.gone.now in
    let come = c.args.come in
    let links = c.exchange_among.new.made.items in
    let row = row_of seen c.as_slice.result.now in
    let made = made_row mid now c.new-links.result.items links _ c.new-links.ensures.items c.in_ok-exchange_among.ensures.made in
    let S : List Link → Type 0 = λ v. IsSoundView c.args.self.now.fanout (record { level = c.in_ok-node.node.level; place = None; children = row_of seen v }) in
    let sound = subst S (sym c.as_slice.ensures.value) c.in_ok-node.ensures.sound in
    let some : 0 < length links = grind (arith, nat_tests, c.is_empty.ensures, c.if-is_empty.false, c.exchange_among.new.made.ok.0) in
    left_sound c.args.self.now.fanout c.exchange_among.new.self.fanout c.in_ok-node.node.level now (exchanged_row gone come row) links
    (c.exchange_keeps_nodes.ensures.sound c.args.self.now.fanout c.in_ok-node.node.level gone come row c.requires.key sound) (c.exchange_among.ensures.fanout ∙ c.opened_copy.ensures.fanout) made some

pub exchange_below-push_node-requires-clause-there : goal.exchange_below-push_node-requires-clause-there
exchange_below-push_node-requires-clause-there g t c =
    let a = g.V.Volume.state c.args.volume.now in
    let m = g.V.Volume.state c.opened_copy.new.volume in
    let b = g.V.Volume.state c.exchange_among.new.volume in
    let old = c.args.self.now.nodes.items in
    let mid = c.opened_copy.new.self.nodes.items in
    let now = c.exchange_among.new.self.nodes.items in
    let made = c.args.made.now.items in
    let opens = c.opened_copy.ensures.reads in
    let reads = c.exchange_among.ensures.reads in
    (standing_through a m b old mid now made opens.keeps opens.shape reads.keeps reads.shape c.opened_copy.ensures.added c.exchange_among.ensures.added c.requires.there).there

pub exchange_below-returns-then-branch-clause-made : goal.exchange_below-returns-then-branch-clause-made
exchange_below-returns-then-branch-clause-made g t c = λ rest.
    let old = c.args.self.now.nodes.items in
    let mid = c.opened_copy.new.self.nodes.items in
    let now = c.exchange_among.new.self.nodes.items in
    let seen = node_views mid in
    let gone = c.args.gone.now in
    let come = c.args.come in
    let links = c.exchange_among.new.made.items in
    let row = row_of seen c.as_slice.result.now in
    let children = c.in_ok-node.ensures.children ∙ ap (row_of seen) (sym c.as_slice.ensures.value) in
    let made = made_row mid now c.new-links.result.items links _ c.new-links.ensures.items c.in_ok-exchange_among.ensures.made in
    let some : 0 < length links = grind (arith, nat_tests, c.is_empty.ensures, c.if-is_empty.false, c.exchange_among.new.made.ok.0) in
    let added = added_both old mid now c.in_ok-node.ensures.added c.in_ok-exchange_among.ensures.added in
    c.in_ok-push_node.ensures.made rest
    ∙ below_left old now gone come c.args.top.key (slice_get (node_views old) c.args.top.number) row c.args.made.now.items links rest added c.requires.there.there
    children (sym c.in_ok-exchange_among.ensures.found ∙ c.if-branch.true) made some

pub exchange_below-returns-then-branch-clause-there : goal.exchange_below-returns-then-branch-clause-there
exchange_below-returns-then-branch-clause-there g t c =
    let a = g.V.Volume.state c.args.volume.now in
    let m = g.V.Volume.state c.opened_copy.new.volume in
    let b = g.V.Volume.state c.exchange_among.new.volume in
    let old = c.args.self.now.nodes.items in
    let mid = c.opened_copy.new.self.nodes.items in
    let now = c.exchange_among.new.self.nodes.items in
    let made = c.args.made.now.items in
    let opens = c.opened_copy.ensures.reads in
    let reads = c.exchange_among.ensures.reads in
    let front = standing_through a m b old mid now made opens.keeps opens.shape reads.keeps reads.shape c.opened_copy.ensures.added c.exchange_among.ensures.added c.requires.there in
    c.in_ok-push_node.ensures.stands front c.in_ok-exchange_among.ensures.there

pub exchange_below-take_back-requires-2 : goal.exchange_below-take_back-requires-2
exchange_below-take_back-requires-2 g t c =
    let same = c.len-number.ensures in
    record { before = (c.args.self.now, added_both c.args.self.now.nodes.items c.opened_copy.new.self.nodes.items c.exchange_among.new.self.nodes.items c.opened_copy.ensures.added c.exchange_among.ensures.added, sym (c.exchange_among.ensures.fanout ∙ c.opened_copy.ensures.fanout), omega (arith, same)) }

pub exchange_below-returns-clause-made : goal.exchange_below-returns-clause-made
exchange_below-returns-clause-made g t c = λ rest.
    let old = c.args.self.now.nodes.items in
    let mid = c.opened_copy.new.self.nodes.items in
    let now = c.exchange_among.new.self.nodes.items in
    let last = c.take_back-2.new.self.nodes.items in
    let seen = node_views mid in
    let row = row_of seen c.as_slice.result.now in
    let children = c.in_ok-node.ensures.children ∙ ap (row_of seen) (sym c.as_slice.ensures.value) in
    let same = c.len-number.ensures in
    let back = c.take_back-2.ensures.nodes old (added_both old mid now c.in_ok-node.ensures.added c.in_ok-exchange_among.ensures.added) (omega (arith, same)) in
    ap (λ v. row_before (node_views last) v rest) c.in_ok-push.ensures.items
    ∙ below_stays old last c.args.gone.now c.args.come c.args.top.key c.args.top.number row c.args.made.now.items rest c.requires.top (added_none old last back) c.requires.there.there
    children (sym c.in_ok-exchange_among.ensures.found ∙ c.if-branch.false)

pub exchange_below-returns-clause-there : goal.exchange_below-returns-clause-there
exchange_below-returns-clause-there g t c =
    let a = g.V.Volume.state c.args.volume.now in
    let m = g.V.Volume.state c.opened_copy.new.volume in
    let b = g.V.Volume.state c.exchange_among.new.volume in
    let old = c.args.self.now.nodes.items in
    let mid = c.opened_copy.new.self.nodes.items in
    let now = c.exchange_among.new.self.nodes.items in
    let last = c.take_back-2.new.self.nodes.items in
    let made = c.args.made.now.items in
    let opens = c.opened_copy.ensures.reads in
    let reads = c.exchange_among.ensures.reads in
    let link = ToNode c.args.top.key c.args.top.number in
    let own = root_link a old c.args.top c.requires.top c.requires.stands in
    let same = c.len-number.ensures in
    let back = c.take_back-2.ensures.nodes old (added_both old mid now c.opened_copy.ensures.added c.exchange_among.ensures.added) (omega (arith, same)) in
    let P : List Link → Type 0 = λ v. AreStandingLinks b last v in
    subst P (sym c.in_ok-push.ensures.items)
    (standing_through a m b old old last (made ++ link ∷ []) opens.keeps opens.shape reads.keeps reads.shape (added_none old old refl) (added_none old last back) (standing_both a old made (link ∷ []) c.requires.there own))

pub exchange_below-returns-in_err-push-clause-added : goal.exchange_below-returns-in_err-push-clause-added
exchange_below-returns-in_err-push-clause-added g t c =
    let old = c.args.self.now.nodes.items in
    let same = c.len-number.ensures in
    added_none old c.take_back-2.new.self.nodes.items
    (c.take_back-2.ensures.nodes old (added_both old c.opened_copy.new.self.nodes.items c.exchange_among.new.self.nodes.items c.opened_copy.ensures.added c.exchange_among.ensures.added) (omega (arith, same)))

pub exchange_below-returns-clause-added : goal.exchange_below-returns-clause-added
exchange_below-returns-clause-added g t c =
    let old = c.args.self.now.nodes.items in
    let same = c.len-number.ensures in
    added_none old c.take_back-2.new.self.nodes.items
    (c.take_back-2.ensures.nodes old (added_both old c.opened_copy.new.self.nodes.items c.exchange_among.new.self.nodes.items c.opened_copy.ensures.added c.exchange_among.ensures.added) (omega (arith, same)))

pub exchange_below-returns-clause-same : goal.exchange_below-returns-clause-same
exchange_below-returns-clause-same g t c = λ none.
    let old = c.args.self.now.nodes.items in
    let same = c.len-number.ensures in
    c.take_back-2.ensures.nodes old (added_both old c.opened_copy.new.self.nodes.items c.exchange_among.new.self.nodes.items c.opened_copy.ensures.added c.exchange_among.ensures.added) (omega (arith, same))

pub exchange_below-returns-in_err-exchange_among-clause-added : goal.exchange_below-returns-in_err-exchange_among-clause-added
exchange_below-returns-in_err-exchange_among-clause-added g t c = added_both c.args.self.now.nodes.items c.opened_copy.new.self.nodes.items c.exchange_among.new.self.nodes.items c.in_ok-node.ensures.added c.exchange_among.ensures.added

pub exchange_below-returns-in_err-exchange_among-clause-fanout : goal.exchange_below-returns-in_err-exchange_among-clause-fanout
exchange_below-returns-in_err-exchange_among-clause-fanout g t c = c.exchange_among.ensures.fanout ∙ c.in_ok-node.ensures.fanout

pub exchange_below-returns-in_err-exchange_among-clause-reads : goal.exchange_below-returns-in_err-exchange_among-clause-reads
exchange_below-returns-in_err-exchange_among-clause-reads g t c =
    let a = g.V.Volume.state c.args.volume.now in
    let b = g.V.Volume.state c.opened_copy.new.volume in
    let d = g.V.Volume.state c.exchange_among.new.volume in
    reads_failed a b d c.in_ok-node.node c.in_err-exchange_among.field-0.0 c.from_residual-in_err-exchange_among.result c.from_residual-in_err-exchange_among.ensures.1 c.in_ok-node.ensures.reads c.in_err-exchange_among.ensures.reads

pub exchange_below-returns-then-is_empty-clause-found : goal.exchange_below-returns-then-is_empty-clause-found
exchange_below-returns-then-is_empty-clause-found g t c =
    let gone = c.args.gone.now in
    let children = c.in_ok-node.ensures.children ∙ ap (row_of (node_views c.opened_copy.new.self.nodes.items)) (sym c.as_slice.ensures.value) in
    sym c.if-branch.true ∙ c.in_ok-exchange_among.ensures.found ∙ sym (ap (λ (r : KeyedRow). holds gone (contents (bare r))) children)

pub exchange_below-returns-then-is_empty-clause-fanout : goal.exchange_below-returns-then-is_empty-clause-fanout
exchange_below-returns-then-is_empty-clause-fanout g t c = c.take_back.ensures.fanout ∙ c.exchange_among.ensures.fanout ∙ c.in_ok-node.ensures.fanout

pub exchange_below-returns-then-is_empty-clause-reads : goal.exchange_below-returns-then-is_empty-clause-reads
exchange_below-returns-then-is_empty-clause-reads g t c =
    let a = g.V.Volume.state c.args.volume.now in
    let b = g.V.Volume.state c.opened_copy.new.volume in
    let d = g.V.Volume.state c.exchange_among.new.volume in
    reads_both a b d c.in_ok-node.node _ true c.in_ok-node.ensures.reads c.in_ok-exchange_among.ensures.reads

pub exchange_below-returns-in_err-push_node-clause-added : goal.exchange_below-returns-in_err-push_node-clause-added
exchange_below-returns-in_err-push_node-clause-added g t c =
    added_both c.args.self.now.nodes.items c.exchange_among.new.self.nodes.items c.push_node.new.self.nodes.items
    (added_both c.args.self.now.nodes.items c.opened_copy.new.self.nodes.items c.exchange_among.new.self.nodes.items c.in_ok-node.ensures.added c.exchange_among.ensures.added) c.push_node.ensures.added

pub exchange_below-returns-in_err-push_node-clause-fanout : goal.exchange_below-returns-in_err-push_node-clause-fanout
exchange_below-returns-in_err-push_node-clause-fanout g t c = c.push_node.ensures.fanout ∙ c.exchange_among.ensures.fanout ∙ c.in_ok-node.ensures.fanout

pub exchange_below-returns-then-branch-clause-found : goal.exchange_below-returns-then-branch-clause-found
exchange_below-returns-then-branch-clause-found g t c =
    let gone = c.args.gone.now in
    let children = c.in_ok-node.ensures.children ∙ ap (row_of (node_views c.opened_copy.new.self.nodes.items)) (sym c.as_slice.ensures.value) in
    sym c.if-branch.true ∙ c.in_ok-exchange_among.ensures.found ∙ sym (ap (λ (r : KeyedRow). holds gone (contents (bare r))) children)

pub exchange_below-returns-then-branch-clause-added : goal.exchange_below-returns-then-branch-clause-added
exchange_below-returns-then-branch-clause-added g t c =
    added_both c.args.self.now.nodes.items c.exchange_among.new.self.nodes.items c.push_node.new.self.nodes.items
    (added_both c.args.self.now.nodes.items c.opened_copy.new.self.nodes.items c.exchange_among.new.self.nodes.items c.in_ok-node.ensures.added c.exchange_among.ensures.added) c.push_node.ensures.added

pub exchange_below-returns-then-branch-clause-fanout : goal.exchange_below-returns-then-branch-clause-fanout
exchange_below-returns-then-branch-clause-fanout g t c = c.push_node.ensures.fanout ∙ c.exchange_among.ensures.fanout ∙ c.in_ok-node.ensures.fanout

pub exchange_below-returns-then-branch-clause-reads : goal.exchange_below-returns-then-branch-clause-reads
exchange_below-returns-then-branch-clause-reads g t c =
    let a = g.V.Volume.state c.args.volume.now in
    let b = g.V.Volume.state c.opened_copy.new.volume in
    let d = g.V.Volume.state c.exchange_among.new.volume in
    reads_both a b d c.in_ok-node.node _ true c.in_ok-node.ensures.reads c.in_ok-exchange_among.ensures.reads

pub exchange_below-returns-in_err-push-clause-fanout : goal.exchange_below-returns-in_err-push-clause-fanout
exchange_below-returns-in_err-push-clause-fanout g t c = c.take_back-2.ensures.fanout ∙ c.exchange_among.ensures.fanout ∙ c.in_ok-node.ensures.fanout

pub exchange_below-returns-in_err-push-clause-reads : goal.exchange_below-returns-in_err-push-clause-reads
exchange_below-returns-in_err-push-clause-reads g t c =
    let a = g.V.Volume.state c.args.volume.now in
    let b = g.V.Volume.state c.opened_copy.new.volume in
    let d = g.V.Volume.state c.exchange_among.new.volume in
    reads_wanting a d true c.from_residual-in_err-push.result c.from_residual-in_err-push.ensures.1 (reads_both a b d c.in_ok-node.node _ true c.in_ok-node.ensures.reads c.in_ok-exchange_among.ensures.reads)

pub exchange_below-returns-clause-found : goal.exchange_below-returns-clause-found
exchange_below-returns-clause-found g t c =
    let gone = c.args.gone.now in
    let children = c.in_ok-node.ensures.children ∙ ap (row_of (node_views c.opened_copy.new.self.nodes.items)) (sym c.as_slice.ensures.value) in
    sym c.if-branch.false ∙ c.in_ok-exchange_among.ensures.found ∙ sym (ap (λ (r : KeyedRow). holds gone (contents (bare r))) children)

pub exchange_below-returns-clause-fanout : goal.exchange_below-returns-clause-fanout
exchange_below-returns-clause-fanout g t c = c.take_back-2.ensures.fanout ∙ c.exchange_among.ensures.fanout ∙ c.in_ok-node.ensures.fanout

pub exchange_below-returns-clause-reads : goal.exchange_below-returns-clause-reads
exchange_below-returns-clause-reads g t c =
    let a = g.V.Volume.state c.args.volume.now in
    let b = g.V.Volume.state c.opened_copy.new.volume in
    let d = g.V.Volume.state c.exchange_among.new.volume in
    reads_both a b d c.in_ok-node.node _ false c.in_ok-node.ensures.reads c.in_ok-exchange_among.ensures.reads

pub exchange_among-returns-then-begin_within-clause-added : goal.exchange_among-returns-then-begin_within-clause-added
exchange_among-returns-then-begin_within-clause-added g t c = added_both c.args.self.now.nodes.items c.exchange_below.new.self.nodes.items c.exchange_among-then-begin_within.new.self.nodes.items c.in_ok-exchange_below-in-ToNode.ensures.added c.exchange_among-then-begin_within.ensures.added

pub exchange_among-returns-then-begin_within-clause-fanout : goal.exchange_among-returns-then-begin_within-clause-fanout
exchange_among-returns-then-begin_within-clause-fanout g t c = c.exchange_among-then-begin_within.ensures.fanout ∙ c.in_ok-exchange_below-in-ToNode.ensures.fanout

pub exchange_among-returns-then-begin_within-clause-reads : goal.exchange_among-returns-then-begin_within-clause-reads
exchange_among-returns-then-begin_within-clause-reads g t c =
    let a = g.V.Volume.state c.args.volume.now in
    let b = g.V.Volume.state c.exchange_below.new.volume in
    let d = g.V.Volume.state c.exchange_among-then-begin_within.new.volume in
    reads_then a b d _ c.exchange_among-then-begin_within.result c.in_ok-exchange_below-in-ToNode.ensures.reads c.exchange_among-then-begin_within.ensures.reads

pub exchange_below-returns-in_err-push_node-clause-reads : goal.exchange_below-returns-in_err-push_node-clause-reads
exchange_below-returns-in_err-push_node-clause-reads g t c =
    let a = g.V.Volume.state c.args.volume.now in
    let b = g.V.Volume.state c.opened_copy.new.volume in
    let d = g.V.Volume.state c.exchange_among.new.volume in
    reads_wanting a d true c.from_residual-in_err-push_node.result c.from_residual-in_err-push_node.ensures.1 (reads_both a b d c.in_ok-node.node _ true c.in_ok-node.ensures.reads c.in_ok-exchange_among.ensures.reads)
