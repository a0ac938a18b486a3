use Rattle.std.proofs.Common.{◌≡◌, ◌-◌, ◌+◌, ◌≤◌, ◌++◌, ℕ, List, length, true, arith, refl, ap, sym, ◌∙◌, subst}
use Rattle.std.specs.Int.{div_ceil}
use Rattle.ubifs_base.specs.Geometry.{index_nodes_per_leb}
use Rattle.ubifs_base.specs.RawOf.{raw_of}
use Rattle.index_tree.specs.Shape.{fits}
use Rattle.index_media.specs.KeyedRow.{KeyedRow, bare}
use Rattle.index_cache.specs.Paged.{dirty_of, fanout_of, frozen_of, keyed_tree_of}
use Rattle.index_cache.specs.declared.paged.PagedIndex.{PagedIndex}
use Rattle.index_commit.specs.Ordered.{AreKeysInOrder}
use Rattle.index_commit.specs.Rooms.{IsIndexLaidOut}
use Rattle.index_commit.specs.Standing.{AreOutside}
use Rattle.index_commit.specs.Written.{IsIndexAt}
use Rattle.index_commit.specs.declared.index_at.IndexAt.{IndexAt}
use Rattle.node_table.specs.Placing.{KeepsPlaces}
use Rattle.commit_steps.specs.UnderWayLaws.{outside_of}
use Rattle.mounted_index.specs.Committed.{IsShortOf, IsWrittenAt}
use Rattle.mounted_index.specs.Shown.{StandsIn}
use Rattle.mounted_index.specs.ShownLaws.{StandsIn-index}
use Rattle.table_nodes.specs.Stubs.{unplaced}
use Rattle.mounted_index.proofs.Committed.{frozen_dirty, index_as, if_ok_done, nodes_are, number_most, number_same, seen_at, seen_stands, short_of, some_nodes, stands_more, want_of, written_stands}
use Rattle.mounted_index.proofs.commit.write_seen.Goals as goal

pub write_index-requires-clause-outside : goal.write_index-requires-clause-outside
write_index-requires-clause-outside g c =
    let a = g.V.Volume.state c.args.volume.now in
    let lebs = c.args.lebs.now in
    let own = c.requires.stands in
    let A : KeyedRow → Type 0 = λ r. AreOutside a.holds lebs r in
    subst A (sym c.freeze.ensures.frozen) (outside_of a.holds own.0 lebs (keyed_tree_of c.args.index.now) own.2 own.1.within)

pub returns-clause-at : goal.returns-clause-at
returns-clause-at g c =
    let a = g.V.Volume.state c.args.volume.now in
    let b = g.V.Volume.state c.write_index.new.volume in
    let geo = raw_of c.args.geometry.now in
    let lebs = c.args.lebs.now in
    let old = c.args.index.now in
    let begun = c.freeze.new.self in
    let final = c.write_index.new.index in
    let nodes = c.write_index.new.sqnum - c.args.sqnum.now in
    let own = c.requires.stands in
    let kept = c.write_index.ensures.index.kept in
    let F : KeyedRow → Type 0 = λ r. fits (fanout_of begun) (bare r) ≡ true in
    let same : frozen_of begun ≡ keyed_tree_of begun = c.freeze.ensures.frozen ∙ sym c.freeze.ensures.tree in
    let fit = subst F (sym same) c.trees_are_sound.ensures.fits in
    if_ok_done (λ (at : IndexAt). IsIndexAt b geo.fanout lebs begun final at × IsIndexLaidOut geo lebs nodes begun final at) (IsWrittenAt b geo lebs nodes (keyed_tree_of old) (keyed_tree_of final)) c.write_index.result
    (λ done at h.
    let stands = seen_stands a b own.0 lebs old begun final c.args.sqnum.now c.write_index.new.sqnum c.write_index.ensures.answer.0.shape c.requires.lebs own.2 (c.write_index.ensures.standing done).0
    kept.roots.root c.freeze.ensures.tree own.1 in
    seen_at b geo lebs (lebs ++ own.0) nodes old begun final at h kept.roots c.freeze.ensures.root c.freeze.ensures.seen c.freeze.ensures.frozen c.trees_are_sound.ensures.seen
    (c.dirty_nodes_are_distinct.ensures begun fit) stands)
    c.write_index.ensures.written

pub returns-clause-tree : goal.returns-clause-tree
returns-clause-tree g c =
    let K : KeyedRow → Type 0 = λ r. KeepsPlaces r (keyed_tree_of c.write_index.new.index) in
    subst K c.freeze.ensures.tree c.write_index.ensures.index.kept.tree

pub returns-clause-index : goal.returns-clause-index
returns-clause-index g c =
    let a = g.V.Volume.state c.args.volume.now in
    let b = g.V.Volume.state c.write_index.new.volume in
    let own = c.requires.stands in
    let kept = c.write_index.ensures.index.kept in
    written_stands a b own.0 c.args.lebs.now c.args.index.now c.write_index.new.index c.write_index.ensures.answer.0.shape own.2 c.write_index.ensures.works.0 own.1 (kept.unplaced ∙ ap unplaced c.freeze.ensures.nodes)
    (kept.roots.root ∙ c.freeze.ensures.seen)

pub returns-then-dirty_nodes-gt-MOST_NODES-clause-index : goal.returns-then-dirty_nodes-gt-MOST_NODES-clause-index
returns-then-dirty_nodes-gt-MOST_NODES-clause-index g c =
    let a = g.V.Volume.state c.args.volume.now in
    let old = c.args.index.now in
    let own = c.requires.stands in
    index_as a old c.freeze.new.self c.freeze.ensures.nodes c.freeze.ensures.seen (StandsIn-index a own.0 old (keyed_tree_of old) refl own.1)

pub returns-clause-want : goal.returns-clause-want
returns-clause-want g c =
    let old = c.args.index.now in
    let begun = c.freeze.new.self in
    let final = c.write_index.new.index in
    let answer = c.write_index.ensures.answer in
    let taken = c.write_index.ensures.index in
    want_of _ _ _ _ _ c.write_index.result answer.1 answer.4
    (λ full. (full.0, ap keyed_tree_of full.1 ∙ c.freeze.ensures.tree, number_same begun final c.args.sqnum.now c.write_index.new.sqnum taken full.1))
    (λ none. (none.volume, ap keyed_tree_of none.index ∙ c.freeze.ensures.tree, none.number))

pub returns-clause-same : goal.returns-clause-same
returns-clause-same g c =
    let begun = c.freeze.new.self in
    let answer = c.write_index.ensures.answer in
    let items = λ (x : PagedIndex). x.table.nodes.items in
    let seen = λ (x : PagedIndex). x.root in
    want_of _ _ _ _ _ c.write_index.result answer.1 answer.4 (λ full. (ap items full.1 ∙ c.freeze.ensures.nodes, ap seen full.1 ∙ c.freeze.ensures.seen))
    (λ none. (ap items none.index ∙ c.freeze.ensures.nodes, ap seen none.index ∙ c.freeze.ensures.seen))

pub returns-clause-stands : goal.returns-clause-stands
returns-clause-stands g c = λ kept stands two done.
    let a = g.V.Volume.state c.args.volume.now in
    let b = g.V.Volume.state c.write_index.new.volume in
    seen_stands a b kept c.args.lebs.now c.args.index.now c.freeze.new.self c.write_index.new.index c.args.sqnum.now c.write_index.new.sqnum c.write_index.ensures.answer.0.shape c.requires.lebs two
    (c.write_index.ensures.standing done).0 c.write_index.ensures.index.kept.roots.root c.freeze.ensures.tree stands

pub returns-clause-order : goal.returns-clause-order
returns-clause-order g c = λ order.
    let O : KeyedRow → Type 0 = λ r. AreKeysInOrder r in
    c.write_index.ensures.answer.3 (subst O (sym c.freeze.ensures.frozen) order)

pub returns-clause-nodes : goal.returns-clause-nodes
returns-clause-nodes g c =
    nodes_are (raw_of c.args.geometry.now) (g.V.Volume.state c.args.volume.now) (g.V.Volume.state c.write_index.new.volume) c.args.lebs.now c.freeze.new.self c.write_index.new.index c.args.sqnum.now c.write_index.new.sqnum
    c.write_index.result c.write_index.ensures.index c.write_index.ensures.works.1 (λ done. (c.write_index.ensures.standing done).1)

pub returns-clause-full : goal.returns-clause-full
returns-clause-full g c =
    let begun = c.freeze.new.self in
    let q = index_nodes_per_leb (raw_of c.args.geometry.now) in
    let F : List ℕ → Type 0 = λ l. IsShortOf (div_ceil (length l) q) (length c.args.lebs.now) c.write_index.result in
    subst F (frozen_dirty c.args.index.now begun c.freeze.ensures.nodes c.freeze.ensures.root) (short_of _ (div_ceil (length (dirty_of begun)) q) (length c.args.lebs.now) c.write_index.result c.write_index.ensures.answer.1)

pub returns-clause-number : goal.returns-clause-number
returns-clause-number g c =
    let begun = c.freeze.new.self in
    let final = c.write_index.new.index in
    let geo = c.args.geometry.now in
    let taken = c.write_index.ensures.index in
    let number = taken.number in
    let most = taken.most in
    let N : List ℕ → Type 0 = λ l. c.write_index.new.sqnum ≤ c.args.sqnum.now + length l in (
      omega (arith, number),
      number_most _ (index_nodes_per_leb (raw_of geo)) (length c.args.lebs.now) c.args.sqnum.now c.write_index.new.sqnum begun final c.write_index.result (some_nodes geo) taken.most c.write_index.ensures.answer.1,
      subst N (frozen_dirty c.args.index.now begun c.freeze.ensures.nodes c.freeze.ensures.root) (omega (arith, most)),
    )

pub returns-then-dirty_nodes-gt-MOST_NODES-clause-stands : goal.returns-then-dirty_nodes-gt-MOST_NODES-clause-stands
returns-then-dirty_nodes-gt-MOST_NODES-clause-stands g c = λ kept stands two fine.
    let a = g.V.Volume.state c.args.volume.now in
    let S : KeyedRow → Type 0 = λ r. StandsIn a (c.args.lebs.now ++ kept) r in
    subst S (sym c.freeze.ensures.tree) (stands_more a kept c.args.lebs.now (keyed_tree_of c.args.index.now) c.requires.lebs stands)
