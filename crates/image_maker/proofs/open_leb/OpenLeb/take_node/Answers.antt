use Rattle.std.proofs.Common.{sym, ◌∙◌, arith}
use Rattle.ubifs_base.specs.RawOf.{raw_of}
use Rattle.ubi_volume.specs.MemVolume.{state_of}
use Rattle.group_nodes.specs.Nodes.{node_of}
use Rattle.image_maker.proofs.LayingLemmas.{IsLaid-append}
use Rattle.image_maker.proofs.Packing.{taken_packs}
use Rattle.image_maker.proofs.open_leb.OpenLeb.take_node.Goals as goal

pub returns-clause-laid : goal.returns-clause-laid
returns-clause-laid c = λ leaves laid.
    IsLaid-append (raw_of c.args.geometry.now) leaves (node_of c.args.leaf.now) c.make_room.new.self c.append.new.self (state_of c.make_room.new.volume).holds
    c.in_ok-append.ensures (c.in_ok-make_room.ensures.laid leaves laid)

pub returns-clause-packed : goal.returns-clause-packed
returns-clause-packed c = λ leaves.
    let node = node_of c.args.leaf.now in
    let fits = c.in_ok-make_room.ensures.fits in
    let len = c.text_len-len.ensures.len in
    taken_packs (raw_of c.args.geometry.now) c.make_room.new.self c.append.new.self node leaves c.in_ok-append.ensures (omega (arith, fits, len))
    ∙ c.in_ok-make_room.ensures.packed node leaves (sym len)
