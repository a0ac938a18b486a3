use Rattle.ubi_volume.proofs.LoadedLebs.{final_lebs, final_blank}
use Rattle.ubi_volume.proofs.mem_volume.MemVolume.new.Goals as goal

pub returns-clause-no_past : goal.returns-clause-no_past
returns-clause-no_past c =
    let lebs = c.in_ok-lebs.lebs.items in
    final_lebs lebs c.new.result c.new.ensures (final_blank c.args.shape.leb_size lebs c.in_ok-lebs.ensures.blank)
