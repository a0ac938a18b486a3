use Rattle.std.proofs.Common.{rules, length}
use Rattle.ubi_volume.proofs.LebWork.{replaced_works, torn_from, WriteFrom}
use Rattle.ubi_volume.proofs.mem_volume.MemVolumeVolume.write.Goals as goal

pub returns-in-Runs-clause-works : goal.returns-in-Runs-clause-works
returns-in-Runs-clause-works c =
    let v = c.args.self.now in
    let call = c.write_leb in
    let n = length c.args.bytes.now in
    replaced_works v c.deref_mut.result.now call.new.lebs c.next.new.self v.shape.leb_size c.args.lnum _ (WriteFrom c.args.lnum c.args.offs n)
    c.deref_mut.ensures.value call.ensures.put (torn_from c.deref_mut.result.now call.new.lebs c.args.lnum c.args.offs n call.ensures.torn call.ensures.left) (search rules)

pub returns-in-Struck-clause-works : goal.returns-in-Struck-clause-works
returns-in-Struck-clause-works c =
    let v = c.args.self.now in
    let call = c.tear_leb in
    let n = length c.args.bytes.now in
    let before = c.deref_mut-in-Struck.result.now in
    replaced_works v before call.new.lebs c.next.new.self v.shape.leb_size c.args.lnum _ (WriteFrom c.args.lnum c.args.offs n)
    c.deref_mut-in-Struck.ensures.value call.ensures.put (torn_from before call.new.lebs c.args.lnum c.args.offs n call.ensures.torn call.ensures.left) (search rules)
