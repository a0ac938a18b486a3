use Rattle.std.proofs.Common.{rules}
use Rattle.ubi_volume.proofs.LebWork.{replaced_works, UnmapFrom}
use Rattle.ubi_volume.proofs.mem_volume.MemVolumeVolume.unmap.Goals as goal

pub returns-in-Runs-clause-works : goal.returns-in-Runs-clause-works
returns-in-Runs-clause-works c =
    let v = c.args.self.now in
    let call = c.unmap_leb in
    replaced_works v _ call.new.lebs c.next.new.self v.shape.leb_size c.args.lnum _ (UnmapFrom v.shape.leb_size c.args.lnum)
    c.deref_mut.ensures.value call.ensures.changed call.ensures.left (search rules)

pub returns-then-digit-eq1-clause-works : goal.returns-then-digit-eq1-clause-works
returns-then-digit-eq1-clause-works c =
    let v = c.args.self.now in
    let call = c.unmap_leb-then-digit-eq1 in
    replaced_works v _ call.new.lebs c.next.new.self v.shape.leb_size c.args.lnum _ (UnmapFrom v.shape.leb_size c.args.lnum)
    c.deref_mut-then-digit-eq1.ensures.value call.ensures.changed call.ensures.left (search rules)
