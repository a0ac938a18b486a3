use Rattle.std.proofs.Common.{rules}
use Rattle.ubi_volume.proofs.LoadedLebs.{AreLoaded-push, behind_leb, front_of}
use Rattle.ubi_volume.proofs.loading.loaded_lebs.Goals as goal

pub loop-lnum-preserved : goal.loop-lnum-preserved
loop-lnum-preserved c =
    let size = c.args.shape.leb_size in
    let image = c.args.bytes.now in
    let lnum = c.loop-lnum.lnum in
    let rest = c.loop-lnum.rest.now in
    let before = c.loop-lnum.invariant in (
      search rules,
      search (rules, behind_leb size lnum image rest before.1),
      search (rules, AreLoaded-push, front_of size lnum image rest before.1),
    )
