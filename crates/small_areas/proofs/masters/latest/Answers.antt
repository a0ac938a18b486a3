use Rattle.std.proofs.Common.{ℕ, List, Option, IfSome, sym, subst}
use Rattle.small_areas.proofs.TwoMasters.{later_found}
use Rattle.small_areas.specs.Later.{IsReadOf}
use Rattle.small_areas.specs.Masters.{IsLatest}
use Rattle.small_areas.specs.declared.placed_master.PlacedMaster.{PlacedMaster}
use Rattle.small_areas.proofs.masters.latest.Goals as goal

pub returns-clause-found : goal.returns-clause-found
returns-clause-found g c =
    let one = (g.V.Volume.state c.args.volume.now).holds 1 in
    let two = (g.V.Volume.state c.args.volume.now).holds 2 in
    let P : Option PlacedMaster → Type 0 = λ o. IfSome o (IsLatest one two) in
    let Q : List ℕ → Type 0 = λ leb. IsReadOf 2 leb c.in_ok-two.two in
    let second = subst Q (c.in_ok-one.ensures.keeps.holds 2) c.in_ok-two.ensures.read in
    subst P (sym c.later.ensures) (later_found one two c.in_ok-one.one c.in_ok-two.two c.in_ok-one.ensures.read second)
