use Rattle.std.proofs.Common.{List, ℕ, refl, subst}
use Rattle.io_edges.specs.Keeper.{SetsFile}
use Rattle.ubifs_tools.proofs.mkfs.write_volume.Goals as goal

pub returns-in-Ok-clause-written : goal.returns-in-Ok-clause-written
returns-in-Ok-clause-written g c =
    let P : List ℕ → Type 0 = λ bytes. SetsFile (g.K.Keeper.state c.args.keeper.now) c.args.image.now bytes (g.K.Keeper.state c.write_pieces.new.self) in
    (refl, λ tells. subst P c.new-lebs.ensures (c.in-Ok.ensures.written tells), c.write_pieces.ensures.telling)
