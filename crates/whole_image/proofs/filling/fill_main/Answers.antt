use Rattle.std.proofs.Common.{rules, ◌≡◌, ◌+◌, List, length, ap, sym, ◌∙◌, subst, None, arith}
use Rattle.std.specs.Prelude.{IsTrue, map}
use Rattle.ubifs_base.specs.RawOf.{raw_of}
use Rattle.ubi_volume.specs.MemVolume.{state_of}
use Rattle.media_sys.specs.Index.{in_order}
use Rattle.index_tree.specs.Keyed.{HaveKeys}
use Rattle.index_tree.specs.declared.leaf.Leaf.{Leaf}
use Rattle.index_media.specs.PlacedRow.{branch_to}
use Rattle.laid_index.specs.Packing.{index_used}
use Rattle.whole_image.proofs.Filled.{all_laid}
use Rattle.whole_image.proofs.filling.fill_main.Goals as goal

pub lay_index-requires-clause-keys : goal.lay_index-requires-clause-keys
lay_index-requires-clause-keys c =
    let geo = raw_of c.args.geometry.now in
    let stand = c.laid_leaves_stand.ensures.stand geo c.args.tree.now (state_of c.lay_tree.new.volume).holds c.in_ok-leaves.field-0 c.args.geometry.now.in_range c.in_ok-leaves.ensures.laid in
    let P : List Leaf → Type 0 = λ leaves. HaveKeys leaves in
    subst P (sym (c.deref.ensures.value ∙ stand.2)) (c.laid_leaves_are_in_order.ensures.keys geo (state_of c.lay_tree.new.volume).holds c.args.tree.now stand.0 c.in_ok-leaves.field-0.used.items stand.1)

pub lay_index-requires-clause-order : goal.lay_index-requires-clause-order
lay_index-requires-clause-order c =
    let geo = raw_of c.args.geometry.now in
    let stand = c.laid_leaves_stand.ensures.stand geo c.args.tree.now (state_of c.lay_tree.new.volume).holds c.in_ok-leaves.field-0 c.args.geometry.now.in_range c.in_ok-leaves.ensures.laid in
    let P : List Leaf → Type 0 = λ leaves. IsTrue (in_order None (map branch_to leaves)) in
    subst P (sym (c.deref.ensures.value ∙ stand.2)) (c.laid_leaves_are_in_order.ensures.order geo (state_of c.lay_tree.new.volume).holds c.args.tree.now stand.0 c.in_ok-leaves.field-0.used.items c.requires.proper stand.1)

pub returns-clause-laid : goal.returns-clause-laid
returns-clause-laid c =
    let geo = raw_of c.args.geometry.now in
    let v1 = state_of c.lay_tree.new.volume in
    let v2 = state_of c.open_masters.new.volume in
    let v3 = state_of c.lay_index.new.volume in
    let laid = c.in_ok-leaves.field-0 in
    let stand = c.laid_leaves_stand.ensures.stand geo c.args.tree.now v1.holds laid c.args.geometry.now.in_range c.in_ok-leaves.ensures.laid in
    let lebs : c.len-lebs.result ≡ length laid.used.items = search rules in
    let many : c.len.result ≡ length laid.leaves.items = search rules in
    let need : c.index_lebs-need.result ≡ length (index_used geo c.len.result) = c.index_lebs-need.ensures in
    let same : length (index_used geo c.len.result) ≡ length (index_used geo (length c.deref.result.now)) = ap (λ n. length (index_used geo n)) (many ∙ ap length (sym c.deref.ensures.value)) in
    let test = c.if-need-room.false in
    let mains = c.main_lebs.ensures in
    let main = c.main_first.ensures in
    let room = (c.laid_leaves_stand.ensures.room geo c.args.tree.now v1.holds laid c.in_ok-leaves.ensures.laid).0 in
    let size2 : v2.leb_size ≡ geo.leb_size = c.open_masters.ensures.shape.leb_size ∙ c.lay_tree.ensures.shape.leb_size ∙ c.requires.volume.leb_size in
    all_laid (record {
      shows = c.live_nodes_are_laid_as_their_tree.ensures.shows;
      laid = c.live_nodes_are_laid_as_their_tree.ensures.laid;
      disjoint = c.nodes_in_order_are_apart.ensures.disjoint;
      distinct = c.nodes_in_order_are_apart.ensures.distinct;
      leaves = c.laid_lebs_have_their_properties.ensures.leaves;
    }) c.laid_leaves_stand.ensures.kept geo c.args.geometry.now.in_range c.args.tree.now c.requires.proper c.requires.plain v1 v2 v3 laid stand
    (c.laid_leaves_stand.ensures.unwritten geo c.args.tree.now v1.holds laid c.in_ok-leaves.ensures.laid)
    c.in_ok-open_masters.ensures.opened c.open_masters.ensures.others c.deref.result.now c.deref.ensures.value (c.main_first.result + c.len-lebs.result) _ (omega (arith, main, lebs))
    c.in_ok-index.index c.in_ok-index.ensures.laid c.lay_index.ensures.others (omega (arith, need, same, test, mains, lebs, room)) size2 (c.lay_index.ensures.shape.leb_size ∙ size2) c.highest.result c.highest.ensures c.in_ok-leaves.ensures.laid.packed
    (c.laid_leaves_are_in_order.ensures.some c.args.tree.now stand.0 c.requires.proper stand.1.are)
