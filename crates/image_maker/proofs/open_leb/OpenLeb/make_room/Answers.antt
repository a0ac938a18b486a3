use Rattle.std.proofs.Common.{arith}
use Rattle.ubifs_base.specs.RawOf.{raw_of}
use Rattle.image_maker.proofs.LayingLemmas.{IsLaid-close}
use Rattle.image_maker.proofs.Packing.{closed_packs}
use Rattle.image_maker.proofs.open_leb.OpenLeb.make_room.Goals as goal

pub returns-clause-laid : goal.returns-clause-laid
returns-clause-laid c = λ leaves laid. IsLaid-close (raw_of c.args.geometry.now) leaves _ _ _ _ (omega arith) (omega arith) (omega arith) c.in_ok-close.ensures.closed laid

pub returns-clause-packed : goal.returns-clause-packed
returns-clause-packed c = λ next leaves len.
    let size = c.args.geometry.now.in_range.leb_size.0 in
    closed_packs (raw_of c.args.geometry.now) _ _ _ _ next leaves c.in_ok-close.ensures.closed (omega (arith, len)) (omega (arith, len, size))
