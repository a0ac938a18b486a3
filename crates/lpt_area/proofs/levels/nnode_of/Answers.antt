use Rattle.std.proofs.Common.{sym, ◌*◌, subst, ℕ, get_or}
use Rattle.ubifs_base.specs.RawOf.{raw_of}
use Rattle.media_lpt.specs.declared.nnode.LptPlace.{LptPlace}
use Rattle.lpt_area.specs.Laid.{places}
use Rattle.lpt_area.specs.Tree.{no_place}
use Rattle.lpt_area.proofs.LaidItems.{four-items}
use Rattle.lpt_area.proofs.NodeFits.{nnode_fits, place_is, IsFit}
use Rattle.lpt_area.proofs.levels.nnode_of.Goals as goal

pub returns-clause-node : goal.returns-clause-node
returns-clause-node c =
    let geo = raw_of c.args.geo.now in
    let b = c.args.below.now in
    let P : LptPlace → Type 0 = IsFit geo in
    let fit : (k : ℕ) → IsFit geo (get_or (places c.args.lnum b.offs b.len b.count) k no_place) = λ k. place_is geo c.args.lnum b.offs b.len b.count k c.args.geo.now.in_range c.requires.low c.requires.high c.requires.some c.requires.room in
    nnode_fits geo _ _ _ _ c.args.geo.now.in_range (subst P (sym c.place.ensures) (fit _)) (subst P (sym c.place-2.ensures) (fit _)) (subst P (sym c.place-3.ensures) (fit _)) (subst P (sym c.place-4.ensures) (fit _))

pub returns-clause-says : goal.returns-clause-says
returns-clause-says c =
    let b = c.args.below.now in
    rw (c.place.ensures, c.place-2.ensures, c.place-3.ensures, c.place-4.ensures) (sym (four-items no_place (4 * c.args.number) (places c.args.lnum b.offs b.len b.count)))
