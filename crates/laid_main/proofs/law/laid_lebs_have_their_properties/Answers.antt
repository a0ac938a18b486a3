use Rattle.std.proofs.Common.{◌-◌, ◌+◌, ◌++◌, ◌∙◌, false, true, length, replicate}
use Rattle.std.specs.Prelude.{map}
use Rattle.ubifs_base.specs.Areas.{main_lebs}
use Rattle.lpt_area.specs.Tree.{empty_leb}
use Rattle.laid_main.specs.Props.{prop_behind}
use Rattle.laid_main.proofs.Laid.{are_possible, behind_those, ends, of_its_kind, sums}
use Rattle.laid_main.proofs.law.laid_lebs_have_their_properties.Goals as goal

pub returns-clause-possible : goal.returns-clause-possible
returns-clause-possible c geo leaves index g taken also few = are_possible geo g leaves index taken also few

pub returns-clause-sums : goal.returns-clause-sums
returns-clause-sums c geo leaves index nodes below g taken also takes above i prop has = sums geo g leaves index nodes below taken also takes above i prop has

pub returns-clause-ends : goal.returns-clause-ends
returns-clause-ends c geo contents leaves index g filled also i prop has not_all = ends geo g contents leaves index filled also i prop has not_all

pub returns-clause-leaves : goal.returns-clause-leaves
returns-clause-leaves c geo leaves index i lt =
    of_its_kind (λ bytes. prop_behind geo bytes false) leaves (map (λ bytes. prop_behind geo bytes true) index ++ replicate (main_lebs geo - (length leaves + length index)) (empty_leb geo)) i lt

pub returns-clause-index : goal.returns-clause-index
returns-clause-index c geo leaves index i lt =
    let rest = replicate (main_lebs geo - (length leaves + length index)) (empty_leb geo) in
    behind_those (λ bytes. prop_behind geo bytes false) leaves (map (λ bytes. prop_behind geo bytes true) index ++ rest) i
    ∙ of_its_kind (λ bytes. prop_behind geo bytes true) index rest i lt
