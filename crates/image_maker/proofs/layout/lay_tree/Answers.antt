use Rattle.std.proofs.Common.{arith, refl}
use Rattle.ubifs_base.specs.RawOf.{raw_of}
use Rattle.ubi_volume.specs.MemVolume.{state_of}
use Rattle.image_maker.proofs.Fresh.{IsNew, tree_ready, last_room, last_some, last_closed}
use Rattle.image_maker.proofs.LayingLemmas.{IsImage-laid}
use Rattle.image_maker.specs.Leaves.{live_leaves}
use Rattle.image_maker.proofs.TreeNodes.{plain_modes}
use Rattle.image_maker.proofs.layout.lay_tree.Goals as goal

pub lay_inodes-requires-clause-ready : goal.lay_inodes-requires-clause-ready
lay_inodes-requires-clause-ready c =
    let raw = raw_of c.args.geometry.now in
    let first = c.in_ok-open_leb.ensures in
    let new : IsNew raw c.in_ok-open_leb.open_leb = record { lnum = first.lnum; sqnum = first.sqnum; bytes = first.bytes; leaves = first.leaves; used = first.used } in
    tree_ready raw c.args.tree.now _ _ c.args.geometry.now.in_range c.requires.proper c.requires.few c.requires.room c.requires.volume new

pub lay_inodes-requires-clause-modes : goal.lay_inodes-requires-clause-modes
lay_inodes-requires-clause-modes c = plain_modes c.args.tree.now c.requires.proper

pub close-requires-clause-room : goal.close-requires-clause-room
close-requires-clause-room c =
    let raw = raw_of c.args.geometry.now in
    let first = c.in_ok-open_leb.ensures in
    let new : IsNew raw c.in_ok-open_leb.open_leb = record { lnum = first.lnum; sqnum = first.sqnum; bytes = first.bytes; leaves = first.leaves; used = first.used } in
    let ready = tree_ready raw c.args.tree.now c.in_ok-open_leb.open_leb (state_of c.args.volume.now) c.args.geometry.now.in_range c.requires.proper c.requires.few c.requires.room c.requires.volume new in
    let room = last_room raw c.args.tree.now _ _ _ _ ready c.in_ok-lay_inodes.ensures.laid in
    omega (arith, room)

pub close-requires-clause-some : goal.close-requires-clause-some
close-requires-clause-some c = last_some (raw_of c.args.geometry.now) c.args.tree.now _ _ _ _ c.requires.proper c.in_ok-lay_inodes.ensures.laid

pub returns-clause-laid : goal.returns-clause-laid
returns-clause-laid c =
    let raw = raw_of c.args.geometry.now in
    let first = c.in_ok-open_leb.ensures in
    let new : IsNew raw c.in_ok-open_leb.open_leb = record { lnum = first.lnum; sqnum = first.sqnum; bytes = first.bytes; leaves = first.leaves; used = first.used } in
    let ready = tree_ready raw c.args.tree.now c.in_ok-open_leb.open_leb (state_of c.args.volume.now) c.args.geometry.now.in_range c.requires.proper c.requires.few c.requires.room c.requires.volume new in
    let room = last_room raw c.args.tree.now _ _ _ _ ready c.in_ok-lay_inodes.ensures.laid in
    last_closed raw c.args.tree.now _ _ _ _ _ _ _ c.args.geometry.now.in_range c.requires.proper c.requires.few c.requires.volume new room refl refl refl c.in_ok-lay_inodes.ensures.laid c.in_ok-close.ensures.closed

pub returns-clause-image : goal.returns-clause-image
returns-clause-image c = IsImage-laid (raw_of c.args.geometry.now) (live_leaves c.args.tree.now) _ _ (returns-clause-laid c)
