use Rattle.std.proofs.Common.{ℕ, true, List, ◌≡◌, ◌∷◌, ◌++◌, ◌-◌, ◌^◌, ◌<◌, [], ap, sym, refl, subst, ◌∙◌, arith, length}
use Rattle.std.proofs.lemmas.Bool.Decides.{nat_tests}
use Rattle.std.specs.Prelude.{IfOk, OnOk, min, slice_get}
use Rattle.index_tree.specs.RangeRemoval.{within_range}
use Rattle.index_tree.specs.Shape.{contents, done, fits}
use Rattle.index_tree.specs.declared.leaf.Leaf.{Leaf}
use Rattle.index_media.specs.InsertionSound.{fit_node}
use Rattle.index_media.specs.KeyedRange.{pruned_by_keys}
use Rattle.index_media.specs.KeyedRow.{KeyedRow, no_more, bare}
use Rattle.table_nodes.specs.LinkLaws.{added_both, added_none, links_in_added, links_kept}
use Rattle.table_nodes.specs.Links.{row_before}
use Rattle.table_nodes.specs.NodeView.{node_views, row_of}
use Rattle.table_nodes.specs.declared.link.Link.{Link}
use Rattle.table_nodes.specs.declared.link.Link.TheVariants.{ToNode}
use Rattle.node_table.specs.StandingLinks.{standing_both, standing_none, standing_on}
use Rattle.node_table.specs.Unloaded.{AreStandingLinks}
use Rattle.node_table.specs.UnloadedLaws.{first_stands, others_stand}
use Rattle.node_table.specs.Walk.{inside}
use Rattle.node_table.proofs.Changed.{reads_both, reads_failed, reads_wanting}
use Rattle.node_table.proofs.Exchanged.{behind_bounded, rest_kept, left_sound}
use Rattle.node_table.proofs.Inserted.{first_there, rest_there, rest_fits, row_kept, made_row}
use Rattle.node_table.proofs.Pruned.{link_lower, links_higher, range_apart, range_behind, range_inside, both_gone, none_gone, some_gone, among_passed, among_last, among_more, leaf_stays, below_same, below_emptied, below_left}
use Rattle.node_table.proofs.Pruned.{copy_sound, standing_twice}
use Rattle.node_table.proofs.Rows.{row_size, linked_size}
use Rattle.node_table.proofs.Walked.{rest_small}
use Rattle.node_table.proofs.table.NodeTable.+pruning.Goals as goal

pub prune_among-prune_among-requires : goal.prune_among-prune_among-requires
prune_among-prune_among-requires g t c κs within =
    let s = g.V.Volume.state c.args.volume.now in
    let old = c.args.self.now.nodes.items in
    let seen = node_views old in
    let f = c.args.self.now.fanout in
    let is = c.in-Some.ensures.cases.0 in
    let link = c.in-Some.link.now in
    let rest = c.in-Some.rest.now in
    let small = rest_small seen c.args.links.now rest link is in
    let one : AreStandingLinks s old (link ∷ []) =
    record { there = (first_there f old link rest c.args.links.now is c.requires.sound, tt); stand = first_stands s old c.args.links.now rest link is c.requires.stands } in
    let there = subst (λ (v : List Link). AreStandingLinks s old v) (sym c.in_ok-push-in-Some.ensures.items) (standing_both s old c.args.made.now.items (link ∷ []) c.requires.there one) in (
      omega (arith, small, c.decreases),
      (
        within,
        (
          (rest_fits f seen link rest c.args.links.now is c.requires.sound).1,
          (behind_bounded seen link rest c.args.links.now is c.requires.bounded, (there, (others_stand s old c.args.links.now rest link is c.requires.stands, c.requires.kept))),
        ),
      ),
    )

pub prune_among-returns-then-begin_below-clause-gone : goal.prune_among-returns-then-begin_below-clause-gone
prune_among-returns-then-begin_below-clause-gone g t c =
    let seen = node_views c.args.self.now.nodes.items in
    let is = c.in-Some.ensures.cases.0 in
    let link = c.in-Some.link.now in
    let rest = c.in-Some.rest.now in
    let above = c.begin_below.ensures.positive c.if-begin_below.true in
    let low = link_lower seen c.args.from c.args.to link rest c.args.links.now is above c.requires.bounded (c.begin_below.ensures.begins c.if-begin_below.true) in
    let Q : List Leaf → Type 0 = λ v. IfOk c.prune_among.result (λ gone. gone ≡ min (length v) (2 ^ 64 - 1)) in
    subst Q (sym (range_behind seen c.args.from c.args.to link rest c.args.links.now is low)) c.prune_among.ensures.gone

pub prune_among-returns-then-begin_below-clause-made : goal.prune_among-returns-then-begin_below-clause-made
prune_among-returns-then-begin_below-clause-made g t c =
    let seen = node_views c.args.self.now.nodes.items in
    let is = c.in-Some.ensures.cases.0 in
    let link = c.in-Some.link.now in
    let rest = c.in-Some.rest.now in
    let from = c.args.from in
    let to = c.args.to in
    let above = c.begin_below.ensures.positive c.if-begin_below.true in
    let low = link_lower seen from to link rest c.args.links.now is above c.requires.bounded (c.begin_below.ensures.begins c.if-begin_below.true) in
    let Q : KeyedRow → Type 0 = λ r. OnOk c.prune_among.result (row_before (node_views c.prune_among.new.self.nodes.items) c.prune_among.new.made.items no_more ≡ r) in
    subst Q (ap (λ v. row_before seen v (pruned_by_keys from to (row_of seen rest))) c.in_ok-push-in-Some.ensures.items
    ∙ among_passed c.pruning_keeps_nodes.ensures.same c.args.self.now.fanout from to seen link rest c.args.links.now c.args.made.now.items is c.requires.sound low)
    c.prune_among.ensures.made

pub prune_among-prune_link-requires : goal.prune_among-prune_link-requires
prune_among-prune_link-requires g t c κs within =
    let s = g.V.Volume.state c.args.volume.now in
    let old = c.args.self.now.nodes.items in
    let seen = node_views old in
    let is = c.in-Some.ensures.cases.0 in
    let link = c.in-Some.link.now in
    let rest = c.in-Some.rest.now in
    let size = linked_size seen link (row_of seen rest) in
    let same = ap (λ v. row_size (row_of seen v)) is in (
      omega (arith, size, same, c.decreases),
      (
        within,
        (
          first_there c.args.self.now.fanout old link rest c.args.links.now is c.requires.sound,
          (c.requires.there, (first_stands s old c.args.links.now rest link is c.requires.stands, c.requires.kept)),
        ),
      ),
    )

pub prune_among-returns-then-not-begin_within-clause-gone : goal.prune_among-returns-then-not-begin_within-clause-gone
prune_among-returns-then-not-begin_within-clause-gone g t c =
    let seen = node_views c.args.self.now.nodes.items in
    let is = c.in-Some.ensures.cases.0 in
    let link = c.in-Some.link.now in
    let rest = c.in-Some.rest.now in
    let none = links_higher seen c.args.from c.args.to link rest c.args.links.now is c.requires.bounded (sym c.begin_within.ensures ∙ c.if-not-begin_within.true) in
    c.in_ok-here-in-Some.ensures.gone
    ∙ ap (λ (v : List Leaf). min (length v) (2 ^ 64 - 1)) (sym (range_inside seen c.args.from c.args.to link rest c.args.links.now is none))

pub prune_among-returns-then-not-begin_within-clause-made : goal.prune_among-returns-then-not-begin_within-clause-made
prune_among-returns-then-not-begin_within-clause-made g t c =
    let old = c.args.self.now.nodes.items in
    let now = c.prune_link.new.self.nodes.items in
    let f = c.args.self.now.fanout in
    let from = c.args.from in
    let to = c.args.to in
    let is = c.in-Some.ensures.cases.0 in
    let link = c.in-Some.link.now in
    let rest = c.in-Some.rest.now in
    let none = links_higher (node_views old) from to link rest c.args.links.now is c.requires.bounded (sym c.begin_within.ensures ∙ c.if-not-begin_within.true) in
    ap (λ v. row_before (node_views now) v no_more) c.in_ok-extend_from_slice-in-Some.ensures.items
    ∙ among_last c.pruning_keeps_nodes.ensures.same f from to old now link rest c.args.links.now c.args.made.now.items c.prune_link.new.made.items
    is c.in_ok-here-in-Some.ensures.added c.requires.sound (rest_fits f (node_views old) link rest c.args.links.now is c.requires.sound).1 none c.in_ok-here-in-Some.ensures.made

pub prune_among-returns-then-not-begin_within-clause-there : goal.prune_among-returns-then-not-begin_within-clause-there
prune_among-returns-then-not-begin_within-clause-there g t c =
    let a = g.V.Volume.state c.args.volume.now in
    let b = g.V.Volume.state c.prune_link.new.volume in
    let old = c.args.self.now.nodes.items in
    let now = c.prune_link.new.self.nodes.items in
    let is = c.in-Some.ensures.cases.0 in
    let link = c.in-Some.link.now in
    let rest = c.in-Some.rest.now in
    let here = c.in_ok-here-in-Some.ensures in
    let behind : AreStandingLinks a old rest =
    record { there = rest_there c.args.self.now.fanout old link rest c.args.links.now is c.requires.sound; stand = others_stand a old c.args.links.now rest link is c.requires.stands } in
    subst (λ (v : List Link). AreStandingLinks b now v) (sym c.in_ok-extend_from_slice-in-Some.ensures.items)
    (standing_both b now c.prune_link.new.made.items rest here.there (standing_on a b old now rest here.reads.keeps here.reads.shape here.added behind))

pub prune_among-prune_among-requires-in-Some : goal.prune_among-prune_among-requires-in-Some
prune_among-prune_among-requires-in-Some g t c κs within =
    let a = g.V.Volume.state c.args.volume.now in
    let b = g.V.Volume.state c.prune_link.new.volume in
    let old = c.args.self.now.nodes.items in
    let now = c.prune_link.new.self.nodes.items in
    let seen = node_views old in
    let f = c.args.self.now.fanout in
    let is = c.in-Some.ensures.cases.0 in
    let link = c.in-Some.link.now in
    let rest = c.in-Some.rest.now in
    let here = c.in_ok-here-in-Some.ensures in
    let fit = (rest_fits f seen link rest c.args.links.now is c.requires.sound).1 in
    let kept = rest_kept f c.prune_link.new.self.fanout old now rest here.fanout here.added fit (behind_bounded seen link rest c.args.links.now is c.requires.bounded) in
    let behind : AreStandingLinks a old rest =
    record { there = rest_there f old link rest c.args.links.now is c.requires.sound; stand = others_stand a old c.args.links.now rest link is c.requires.stands } in
    let stands = standing_on a b old now rest here.reads.keeps here.reads.shape here.added behind in
    let small = rest_small seen c.args.links.now rest link is in
    let later = ap row_size (row_kept f old now rest here.added fit) in
    (omega (arith, small, later, c.decreases), (within, (kept.0, (kept.1, (here.there, (stands.stand, here.kept))))))

pub prune_among-returns-in_ok-behind-in-Some-clause-gone : goal.prune_among-returns-in_ok-behind-in-Some-clause-gone
prune_among-returns-in_ok-behind-in-Some-clause-gone g t c =
    let old = c.args.self.now.nodes.items in
    let now = c.prune_link.new.self.nodes.items in
    let f = c.args.self.now.fanout in
    let from = c.args.from in
    let to = c.args.to in
    let is = c.in-Some.ensures.cases.0 in
    let link = c.in-Some.link.now in
    let rest = c.in-Some.rest.now in
    let fit = (rest_fits f (node_views old) link rest c.args.links.now is c.requires.sound).1 in
    let behind = c.in_ok-behind-in-Some.ensures.gone
    ∙ ap (λ (r : KeyedRow). min (length (within_range from to (contents (bare r)))) (2 ^ 64 - 1)) (row_kept f old now rest c.in_ok-here-in-Some.ensures.added fit) in
    c.saturating_add.ensures
    ∙ both_gone (2 ^ 64 - 1) c.in_ok-here-in-Some.here c.in_ok-behind-in-Some.behind (within_range from to (contents (bare (inside (node_views old) link))))
    (within_range from to (contents (bare (row_of (node_views old) rest)))) (within_range from to (contents (bare (row_of (node_views old) c.args.links.now))))
    (range_apart (node_views old) from to link rest c.args.links.now is) c.in_ok-here-in-Some.ensures.gone behind

pub prune_among-returns-in_ok-behind-in-Some-clause-made : goal.prune_among-returns-in_ok-behind-in-Some-clause-made
prune_among-returns-in_ok-behind-in-Some-clause-made g t c =
    let old = c.args.self.now.nodes.items in
    let now = c.prune_link.new.self.nodes.items in
    let f = c.args.self.now.fanout in
    let is = c.in-Some.ensures.cases.0 in
    let link = c.in-Some.link.now in
    let rest = c.in-Some.rest.now in
    c.in_ok-behind-in-Some.ensures.made
    ∙ among_more f c.args.from c.args.to old now link rest c.args.links.now c.args.made.now.items c.prune_link.new.made.items is c.in_ok-here-in-Some.ensures.added
    (rest_fits f (node_views old) link rest c.args.links.now is c.requires.sound).1 c.in_ok-here-in-Some.ensures.made

pub prune_below-prune_among-requires : goal.prune_below-prune_among-requires
prune_below-prune_among-requires g t c κs within =
    let b = g.V.Volume.state c.opened_copy.new.volume in
    let f = c.args.self.now.fanout in
    let mid = c.opened_copy.new.self.nodes.items in
    let slice = c.as_slice.ensures.value in
    let node = c.in_ok-node.ensures in
    let sound = copy_sound f c.in_ok-node.node.level mid c.in_ok-node.node.links.items c.as_slice.result.now slice node.sound in
    let fit = fit_node f (bare (row_of (node_views mid) c.as_slice.result.now)) done sound.0 in
    let F : ℕ → Type 0 = λ n. fits n (bare (row_of (node_views mid) c.as_slice.result.now)) ≡ true in
    let stands = subst (λ (v : List Link). AreStandingLinks b mid v) (sym slice) node.links in
    let none = subst (λ (v : List Link). AreStandingLinks b mid v) (sym c.new-links.ensures.items) (standing_none b mid) in
    let size = ap row_size (node.children ∙ ap (row_of (node_views mid)) (sym slice)) in
    (omega (arith, size, c.decreases), (within, (subst F (sym node.fanout) fit.children, (sound.2, (none, (stands.stand, node.kept))))))

pub prune_below-take_back-requires : goal.prune_below-take_back-requires
prune_below-take_back-requires g t c =
    let same = c.len-number.ensures in
    record { before = (c.args.self.now, added_both c.args.self.now.nodes.items c.opened_copy.new.self.nodes.items c.prune_among.new.self.nodes.items c.in_ok-node.ensures.added c.in_ok-gone.ensures.added, sym (c.in_ok-gone.ensures.fanout ∙ c.in_ok-node.ensures.fanout), omega (arith, same)) }

pub prune_below-returns-then-gone-eq0-clause-made : goal.prune_below-returns-then-gone-eq0-clause-made
prune_below-returns-then-gone-eq0-clause-made g t c = λ rest.
    let old = c.args.self.now.nodes.items in
    let mid = c.opened_copy.new.self.nodes.items in
    let last = c.take_back.new.self.nodes.items in
    let f = c.args.self.now.fanout in
    let from = c.args.from in
    let to = c.args.to in
    let row = row_of (node_views mid) c.as_slice.result.now in
    let children = c.in_ok-node.ensures.children ∙ ap (row_of (node_views mid)) (sym c.as_slice.ensures.value) in
    let sound = copy_sound f c.in_ok-node.node.level mid c.in_ok-node.node.links.items c.as_slice.result.now c.as_slice.ensures.value c.in_ok-node.ensures.sound in
    let fit = fit_node f (bare row) done sound.0 in
    let zero : c.in_ok-gone.gone ≡ 0 = grind (arith, nat_tests, c.if-gone-eq0.true) in
    let none = none_gone (2 ^ 64 - 1) c.in_ok-gone.gone (within_range from to (contents (bare row))) (omega arith) c.in_ok-gone.ensures.gone zero in
    let same = c.len-number.ensures in
    let back = c.take_back.ensures.nodes old (added_both old mid c.prune_among.new.self.nodes.items c.in_ok-node.ensures.added c.in_ok-gone.ensures.added) (omega (arith, same)) in
    ap (λ v. row_before (node_views last) v rest) c.in_ok-push.ensures.items
    ∙ below_same c.pruning_keeps_nodes.ensures.same f from to old last c.args.top.key c.args.top.number row c.args.made.now.items rest c.requires.top (added_none old last back) c.requires.there.there
    children fit.least fit.children none

pub prune_below-returns-then-gone-eq0-clause-there : goal.prune_below-returns-then-gone-eq0-clause-there
prune_below-returns-then-gone-eq0-clause-there g t c =
    let a = g.V.Volume.state c.args.volume.now in
    let b = g.V.Volume.state c.opened_copy.new.volume in
    let d = g.V.Volume.state c.prune_among.new.volume in
    let old = c.args.self.now.nodes.items in
    let last = c.take_back.new.self.nodes.items in
    let made = c.args.made.now.items in
    let link = ToNode c.args.top.key c.args.top.number in
    let one : AreStandingLinks a old (link ∷ []) = record { there = (c.requires.top, tt); stand = c.requires.stands } in
    let same = c.len-number.ensures in
    let back = c.take_back.ensures.nodes old (added_both old c.opened_copy.new.self.nodes.items c.prune_among.new.self.nodes.items c.in_ok-node.ensures.added c.in_ok-gone.ensures.added) (omega (arith, same)) in
    subst (λ (v : List Link). AreStandingLinks d last v) (sym c.in_ok-push.ensures.items)
    (standing_twice a b d old old last (made ++ link ∷ []) c.in_ok-node.ensures.reads.keeps c.in_ok-node.ensures.reads.shape c.in_ok-gone.ensures.reads.keeps c.in_ok-gone.ensures.reads.shape
    (added_none old old refl) (added_none old last back) (standing_both a old made (link ∷ []) c.requires.there one))

pub prune_below-returns-in_err-push-clause-added : goal.prune_below-returns-in_err-push-clause-added
prune_below-returns-in_err-push-clause-added g t c =
    let old = c.args.self.now.nodes.items in
    let same = c.len-number.ensures in
    added_none old c.take_back.new.self.nodes.items
    (c.take_back.ensures.nodes old (added_both old c.opened_copy.new.self.nodes.items c.prune_among.new.self.nodes.items c.in_ok-node.ensures.added c.in_ok-gone.ensures.added) (omega (arith, same)))

pub prune_below-returns-then-gone-eq0-clause-added : goal.prune_below-returns-then-gone-eq0-clause-added
prune_below-returns-then-gone-eq0-clause-added g t c =
    let old = c.args.self.now.nodes.items in
    let same = c.len-number.ensures in
    added_none old c.take_back.new.self.nodes.items
    (c.take_back.ensures.nodes old (added_both old c.opened_copy.new.self.nodes.items c.prune_among.new.self.nodes.items c.in_ok-node.ensures.added c.in_ok-gone.ensures.added) (omega (arith, same)))

pub prune_below-returns-then-gone-eq0-clause-same : goal.prune_below-returns-then-gone-eq0-clause-same
prune_below-returns-then-gone-eq0-clause-same g t c = λ none.
    let old = c.args.self.now.nodes.items in
    let same = c.len-number.ensures in
    c.take_back.ensures.nodes old (added_both old c.opened_copy.new.self.nodes.items c.prune_among.new.self.nodes.items c.in_ok-node.ensures.added c.in_ok-gone.ensures.added) (omega (arith, same))

pub prune_below-take_back-requires-then-is_empty : goal.prune_below-take_back-requires-then-is_empty
prune_below-take_back-requires-then-is_empty g t c =
    let same = c.len-number.ensures in
    record { before = (c.args.self.now, added_both c.args.self.now.nodes.items c.opened_copy.new.self.nodes.items c.prune_among.new.self.nodes.items c.in_ok-node.ensures.added c.in_ok-gone.ensures.added, sym (c.in_ok-gone.ensures.fanout ∙ c.in_ok-node.ensures.fanout), omega (arith, same)) }

pub prune_below-returns-then-is_empty-clause-made : goal.prune_below-returns-then-is_empty-clause-made
prune_below-returns-then-is_empty-clause-made g t c = λ rest.
    let old = c.args.self.now.nodes.items in
    let mid = c.opened_copy.new.self.nodes.items in
    let now = c.prune_among.new.self.nodes.items in
    let last = c.take_back-then-is_empty.new.self.nodes.items in
    let made = c.args.made.now.items in
    let links = c.prune_among.new.made.items in
    let row = row_of (node_views mid) c.as_slice.result.now in
    let children = c.in_ok-node.ensures.children ∙ ap (row_of (node_views mid)) (sym c.as_slice.ensures.value) in
    let left = made_row mid now c.new-links.result.items links _ c.new-links.ensures.items c.in_ok-gone.ensures.made in
    let none : length links ≡ 0 = grind (arith, nat_tests, c.is_empty.ensures, c.if-is_empty.true, c.prune_among.new.made.ok.0) in
    let added = added_both old mid now c.in_ok-node.ensures.added c.in_ok-gone.ensures.added in
    let same = c.len-number.ensures in
    let back = c.take_back-then-is_empty.ensures.nodes old added (omega (arith, same)) in
    links_kept old last made rest (added_none old last back) c.requires.there.there ∙ sym (links_kept old now made rest added c.requires.there.there)
    ∙ below_emptied c.args.from c.args.to old now c.args.top.key (slice_get (node_views old) c.args.top.number) row made links rest added c.requires.there.there children left none

pub prune_below-returns-then-is_empty-clause-there : goal.prune_below-returns-then-is_empty-clause-there
prune_below-returns-then-is_empty-clause-there g t c =
    let old = c.args.self.now.nodes.items in
    let same = c.len-number.ensures in
    let back = c.take_back-then-is_empty.ensures.nodes old
    (added_both old c.opened_copy.new.self.nodes.items c.prune_among.new.self.nodes.items c.in_ok-node.ensures.added c.in_ok-gone.ensures.added) (omega (arith, same)) in
    standing_twice (g.V.Volume.state c.args.volume.now) (g.V.Volume.state c.opened_copy.new.volume) (g.V.Volume.state c.prune_among.new.volume)
    old old c.take_back-then-is_empty.new.self.nodes.items c.args.made.now.items
    c.in_ok-node.ensures.reads.keeps c.in_ok-node.ensures.reads.shape c.in_ok-gone.ensures.reads.keeps c.in_ok-gone.ensures.reads.shape
    (added_none old old refl) (added_none old c.take_back-then-is_empty.new.self.nodes.items back) c.requires.there

pub prune_below-returns-then-is_empty-clause-added : goal.prune_below-returns-then-is_empty-clause-added
prune_below-returns-then-is_empty-clause-added g t c =
    let old = c.args.self.now.nodes.items in
    let same = c.len-number.ensures in
    added_none old c.take_back-then-is_empty.new.self.nodes.items
    (c.take_back-then-is_empty.ensures.nodes old (added_both old c.opened_copy.new.self.nodes.items c.prune_among.new.self.nodes.items c.in_ok-node.ensures.added c.in_ok-gone.ensures.added) (omega (arith, same)))

pub prune_below-push_node-requires-clause-sound : goal.prune_below-push_node-requires-clause-sound
prune_below-push_node-requires-clause-sound g t c =
    let mid = c.opened_copy.new.self.nodes.items in
    let now = c.prune_among.new.self.nodes.items in
    let f = c.args.self.now.fanout in
    let from = c.args.from in
    let to = c.args.to in
    let level = c.in_ok-node.node.level in
    let links = c.prune_among.new.made.items in
    let row = row_of (node_views mid) c.as_slice.result.now in
    let made = made_row mid now c.new-links.result.items links _ c.new-links.ensures.items c.in_ok-gone.ensures.made in
    let sound = copy_sound f level mid c.in_ok-node.node.links.items c.as_slice.result.now c.as_slice.ensures.value c.in_ok-node.ensures.sound in
    let some : 0 < length links = grind (arith, nat_tests, c.is_empty.ensures, c.if-is_empty.false, c.prune_among.new.made.ok.0) in
    left_sound f c.prune_among.new.self.fanout level now (pruned_by_keys from to row) links
    (c.pruning_keeps_nodes.ensures.sound f level from to row sound) (c.in_ok-gone.ensures.fanout ∙ c.in_ok-node.ensures.fanout) made some

pub prune_below-push_node-requires-clause-there : goal.prune_below-push_node-requires-clause-there
prune_below-push_node-requires-clause-there g t c =
    let old = c.args.self.now.nodes.items in
    let mid = c.opened_copy.new.self.nodes.items in
    let now = c.prune_among.new.self.nodes.items in
    links_in_added old now c.args.made.now.items (added_both old mid now c.in_ok-node.ensures.added c.in_ok-gone.ensures.added) c.requires.there.there

pub prune_below-returns-clause-made : goal.prune_below-returns-clause-made
prune_below-returns-clause-made g t c = λ rest.
    let old = c.args.self.now.nodes.items in
    let mid = c.opened_copy.new.self.nodes.items in
    let now = c.prune_among.new.self.nodes.items in
    let from = c.args.from in
    let to = c.args.to in
    let links = c.prune_among.new.made.items in
    let row = row_of (node_views mid) c.as_slice.result.now in
    let children = c.in_ok-node.ensures.children ∙ ap (row_of (node_views mid)) (sym c.as_slice.ensures.value) in
    let made = made_row mid now c.new-links.result.items links _ c.new-links.ensures.items c.in_ok-gone.ensures.made in
    let some : 0 < length links = grind (arith, nat_tests, c.is_empty.ensures, c.if-is_empty.false, c.prune_among.new.made.ok.0) in
    let more : 0 < c.in_ok-gone.gone = grind (arith, nat_tests, c.if-gone-eq0.false) in
    let gone = some_gone (2 ^ 64 - 1) c.in_ok-gone.gone (within_range from to (contents (bare row))) c.in_ok-gone.ensures.gone more in
    let added = added_both old mid now c.in_ok-node.ensures.added c.in_ok-gone.ensures.added in
    c.in_ok-push_node.ensures.made rest
    ∙ below_left from to old now c.args.top.key (slice_get (node_views old) c.args.top.number) row c.args.made.now.items links rest added c.requires.there.there children made gone some

pub prune_below-returns-clause-there : goal.prune_below-returns-clause-there
prune_below-returns-clause-there g t c =
    let b = g.V.Volume.state c.prune_among.new.volume in
    c.in_ok-push_node.ensures.stands
    (standing_twice (g.V.Volume.state c.args.volume.now) (g.V.Volume.state c.opened_copy.new.volume) b
    c.args.self.now.nodes.items c.opened_copy.new.self.nodes.items c.prune_among.new.self.nodes.items c.args.made.now.items
    c.in_ok-node.ensures.reads.keeps c.in_ok-node.ensures.reads.shape c.in_ok-gone.ensures.reads.keeps c.in_ok-gone.ensures.reads.shape
    c.in_ok-node.ensures.added c.in_ok-gone.ensures.added c.requires.there)
    c.in_ok-gone.ensures.there

pub prune_link-returns-in_ok-push-in-ToLeaf-clause-made : goal.prune_link-returns-in_ok-push-in-ToLeaf-clause-made
prune_link-returns-in_ok-push-in-ToLeaf-clause-made g t c = λ rest.
    let seen = node_views c.args.self.now.nodes.items in
    ap (λ v. row_before seen v rest) c.in_ok-push-in-ToLeaf.ensures.items
    ∙ leaf_stays seen c.args.from c.args.to c.in-ToLeaf.leaf c.args.link.now c.args.made.now.items rest c.in-ToLeaf.is (sym c.is_in_range.ensures ∙ c.if-is_in_range.false)

pub prune_link-returns-in_ok-push-in-ToLeaf-clause-there : goal.prune_link-returns-in_ok-push-in-ToLeaf-clause-there
prune_link-returns-in_ok-push-in-ToLeaf-clause-there g t c =
    let s = g.V.Volume.state c.args.volume.now in
    let old = c.args.self.now.nodes.items in
    let one : AreStandingLinks s old (c.args.link.now ∷ []) = record { there = (c.requires.link, tt); stand = c.requires.stands } in
    subst (λ (v : List Link). AreStandingLinks s old v) (sym c.in_ok-push-in-ToLeaf.ensures.items)
    (standing_both s old c.args.made.now.items (c.args.link.now ∷ []) c.requires.there one)

pub prune_below-returns-in_err-gone-clause-added : goal.prune_below-returns-in_err-gone-clause-added
prune_below-returns-in_err-gone-clause-added g t c = added_both c.args.self.now.nodes.items c.opened_copy.new.self.nodes.items c.prune_among.new.self.nodes.items c.in_ok-node.ensures.added c.prune_among.ensures.added

pub prune_below-returns-in_err-gone-clause-fanout : goal.prune_below-returns-in_err-gone-clause-fanout
prune_below-returns-in_err-gone-clause-fanout g t c = c.prune_among.ensures.fanout ∙ c.in_ok-node.ensures.fanout

pub prune_below-returns-in_err-gone-clause-reads : goal.prune_below-returns-in_err-gone-clause-reads
prune_below-returns-in_err-gone-clause-reads g t c =
    let a = g.V.Volume.state c.args.volume.now in
    let b = g.V.Volume.state c.opened_copy.new.volume in
    let d = g.V.Volume.state c.prune_among.new.volume in
    reads_failed a b d c.in_ok-node.node c.in_err-gone.field-0.0 c.from_residual-in_err-gone.result c.from_residual-in_err-gone.ensures.1 c.in_ok-node.ensures.reads c.in_err-gone.ensures.reads

pub prune_below-returns-in_err-push-clause-fanout : goal.prune_below-returns-in_err-push-clause-fanout
prune_below-returns-in_err-push-clause-fanout g t c = c.take_back.ensures.fanout ∙ c.prune_among.ensures.fanout ∙ c.in_ok-node.ensures.fanout

pub prune_below-returns-then-gone-eq0-clause-gone : goal.prune_below-returns-then-gone-eq0-clause-gone
prune_below-returns-then-gone-eq0-clause-gone g t c =
    let from = c.args.from in
    let to = c.args.to in
    let children = c.in_ok-node.ensures.children ∙ ap (row_of (node_views c.opened_copy.new.self.nodes.items)) (sym c.as_slice.ensures.value) in
    c.in_ok-gone.ensures.gone ∙ sym (ap (λ (r : KeyedRow). min (length (within_range from to (contents (bare r)))) (2 ^ 64 - 1)) children)

pub prune_below-returns-then-gone-eq0-clause-fanout : goal.prune_below-returns-then-gone-eq0-clause-fanout
prune_below-returns-then-gone-eq0-clause-fanout g t c = c.take_back.ensures.fanout ∙ c.prune_among.ensures.fanout ∙ c.in_ok-node.ensures.fanout

pub prune_below-returns-then-gone-eq0-clause-reads : goal.prune_below-returns-then-gone-eq0-clause-reads
prune_below-returns-then-gone-eq0-clause-reads g t c =
    let a = g.V.Volume.state c.args.volume.now in
    let b = g.V.Volume.state c.opened_copy.new.volume in
    let d = g.V.Volume.state c.prune_among.new.volume in
    reads_both a b d c.in_ok-node.node _ _ c.in_ok-node.ensures.reads c.in_ok-gone.ensures.reads

pub prune_below-returns-then-is_empty-clause-gone : goal.prune_below-returns-then-is_empty-clause-gone
prune_below-returns-then-is_empty-clause-gone g t c =
    let from = c.args.from in
    let to = c.args.to in
    let children = c.in_ok-node.ensures.children ∙ ap (row_of (node_views c.opened_copy.new.self.nodes.items)) (sym c.as_slice.ensures.value) in
    c.in_ok-gone.ensures.gone ∙ sym (ap (λ (r : KeyedRow). min (length (within_range from to (contents (bare r)))) (2 ^ 64 - 1)) children)

pub prune_below-returns-then-is_empty-clause-fanout : goal.prune_below-returns-then-is_empty-clause-fanout
prune_below-returns-then-is_empty-clause-fanout g t c = c.take_back-then-is_empty.ensures.fanout ∙ c.prune_among.ensures.fanout ∙ c.in_ok-node.ensures.fanout

pub prune_below-returns-then-is_empty-clause-reads : goal.prune_below-returns-then-is_empty-clause-reads
prune_below-returns-then-is_empty-clause-reads g t c =
    let a = g.V.Volume.state c.args.volume.now in
    let b = g.V.Volume.state c.opened_copy.new.volume in
    let d = g.V.Volume.state c.prune_among.new.volume in
    reads_both a b d c.in_ok-node.node _ _ c.in_ok-node.ensures.reads c.in_ok-gone.ensures.reads

pub prune_below-returns-in_err-push_node-clause-added : goal.prune_below-returns-in_err-push_node-clause-added
prune_below-returns-in_err-push_node-clause-added g t c =
    added_both c.args.self.now.nodes.items c.prune_among.new.self.nodes.items c.push_node.new.self.nodes.items
    (added_both c.args.self.now.nodes.items c.opened_copy.new.self.nodes.items c.prune_among.new.self.nodes.items c.in_ok-node.ensures.added c.prune_among.ensures.added) c.push_node.ensures.added

pub prune_below-returns-in_err-push_node-clause-fanout : goal.prune_below-returns-in_err-push_node-clause-fanout
prune_below-returns-in_err-push_node-clause-fanout g t c = c.push_node.ensures.fanout ∙ c.prune_among.ensures.fanout ∙ c.in_ok-node.ensures.fanout

pub prune_below-returns-clause-gone : goal.prune_below-returns-clause-gone
prune_below-returns-clause-gone g t c =
    let from = c.args.from in
    let to = c.args.to in
    let children = c.in_ok-node.ensures.children ∙ ap (row_of (node_views c.opened_copy.new.self.nodes.items)) (sym c.as_slice.ensures.value) in
    c.in_ok-gone.ensures.gone ∙ sym (ap (λ (r : KeyedRow). min (length (within_range from to (contents (bare r)))) (2 ^ 64 - 1)) children)

pub prune_below-returns-clause-added : goal.prune_below-returns-clause-added
prune_below-returns-clause-added g t c =
    added_both c.args.self.now.nodes.items c.prune_among.new.self.nodes.items c.push_node.new.self.nodes.items
    (added_both c.args.self.now.nodes.items c.opened_copy.new.self.nodes.items c.prune_among.new.self.nodes.items c.in_ok-node.ensures.added c.prune_among.ensures.added) c.push_node.ensures.added

pub prune_below-returns-clause-fanout : goal.prune_below-returns-clause-fanout
prune_below-returns-clause-fanout g t c = c.push_node.ensures.fanout ∙ c.prune_among.ensures.fanout ∙ c.in_ok-node.ensures.fanout

pub prune_below-returns-clause-reads : goal.prune_below-returns-clause-reads
prune_below-returns-clause-reads g t c =
    let a = g.V.Volume.state c.args.volume.now in
    let b = g.V.Volume.state c.opened_copy.new.volume in
    let d = g.V.Volume.state c.prune_among.new.volume in
    reads_both a b d c.in_ok-node.node _ _ c.in_ok-node.ensures.reads c.in_ok-gone.ensures.reads

pub prune_among-returns-in_err-behind-in-Some-clause-added : goal.prune_among-returns-in_err-behind-in-Some-clause-added
prune_among-returns-in_err-behind-in-Some-clause-added g t c = added_both c.args.self.now.nodes.items c.prune_link.new.self.nodes.items c.prune_among-in-Some.new.self.nodes.items c.in_ok-here-in-Some.ensures.added c.prune_among-in-Some.ensures.added

pub prune_among-returns-in_err-behind-in-Some-clause-fanout : goal.prune_among-returns-in_err-behind-in-Some-clause-fanout
prune_among-returns-in_err-behind-in-Some-clause-fanout g t c = c.prune_among-in-Some.ensures.fanout ∙ c.in_ok-here-in-Some.ensures.fanout

pub prune_among-returns-in_ok-behind-in-Some-clause-added : goal.prune_among-returns-in_ok-behind-in-Some-clause-added
prune_among-returns-in_ok-behind-in-Some-clause-added g t c = added_both c.args.self.now.nodes.items c.prune_link.new.self.nodes.items c.prune_among-in-Some.new.self.nodes.items c.in_ok-here-in-Some.ensures.added c.prune_among-in-Some.ensures.added

pub prune_among-returns-in_ok-behind-in-Some-clause-fanout : goal.prune_among-returns-in_ok-behind-in-Some-clause-fanout
prune_among-returns-in_ok-behind-in-Some-clause-fanout g t c = c.prune_among-in-Some.ensures.fanout ∙ c.in_ok-here-in-Some.ensures.fanout

pub prune_among-returns-in_ok-behind-in-Some-clause-reads : goal.prune_among-returns-in_ok-behind-in-Some-clause-reads
prune_among-returns-in_ok-behind-in-Some-clause-reads g t c =
    let a = g.V.Volume.state c.args.volume.now in
    let b = g.V.Volume.state c.prune_link.new.volume in
    let d = g.V.Volume.state c.prune_among-in-Some.new.volume in
    reads_both a b d c.in_ok-here-in-Some.here c.in_ok-behind-in-Some.behind _ c.in_ok-here-in-Some.ensures.reads c.in_ok-behind-in-Some.ensures.reads

pub prune_below-returns-in_err-push-clause-reads : goal.prune_below-returns-in_err-push-clause-reads
prune_below-returns-in_err-push-clause-reads g t c =
    let a = g.V.Volume.state c.args.volume.now in
    let b = g.V.Volume.state c.opened_copy.new.volume in
    let d = g.V.Volume.state c.prune_among.new.volume in
    let gone = c.in_ok-gone.gone in
    reads_wanting a d gone c.from_residual-in_err-push.result c.from_residual-in_err-push.ensures.1 (reads_both a b d c.in_ok-node.node gone gone c.in_ok-node.ensures.reads c.in_ok-gone.ensures.reads)

pub prune_below-returns-in_err-push_node-clause-reads : goal.prune_below-returns-in_err-push_node-clause-reads
prune_below-returns-in_err-push_node-clause-reads g t c =
    let a = g.V.Volume.state c.args.volume.now in
    let b = g.V.Volume.state c.opened_copy.new.volume in
    let d = g.V.Volume.state c.prune_among.new.volume in
    let gone = c.in_ok-gone.gone in
    reads_wanting a d gone c.from_residual-in_err-push_node.result c.from_residual-in_err-push_node.ensures.1 (reads_both a b d c.in_ok-node.node gone gone c.in_ok-node.ensures.reads c.in_ok-gone.ensures.reads)

pub prune_among-returns-in_err-behind-in-Some-clause-reads : goal.prune_among-returns-in_err-behind-in-Some-clause-reads
prune_among-returns-in_err-behind-in-Some-clause-reads g t c =
    let a = g.V.Volume.state c.args.volume.now in
    let b = g.V.Volume.state c.prune_link.new.volume in
    let d = g.V.Volume.state c.prune_among-in-Some.new.volume in
    reads_failed a b d c.in_ok-here-in-Some.here c.in_err-behind-in-Some.field-0.0 c.from_residual-in_err-behind-in-Some.result c.from_residual-in_err-behind-in-Some.ensures.1 c.in_ok-here-in-Some.ensures.reads c.in_err-behind-in-Some.ensures.reads
