use Rattle.std.proofs.Common.{List, ℕ, subst, sym}
use Rattle.ubifs_tools.specs.Making.{IsMadeOf, IsVolumeMade}
use Rattle.ubifs_tools.specs.declared.mkfs.MadeVolume.{MadeVolume}
use Rattle.ubifs_tools.proofs.mkfs.make.Goals as goal

pub returns-in-BadGeometry : goal.returns-in-BadGeometry
returns-in-BadGeometry c = λ files text is.
    let P : MadeVolume → Type 0 = λ d. IsVolumeMade files text d in
    subst P c.in-BadGeometry.is (c.in_ok-line.ensures files text is)

pub returns-in_ok-image-in-Done : goal.returns-in_ok-image-in-Done
returns-in_ok-image-in-Done c = λ files text is.
    let P : MadeVolume → Type 0 = λ d. IsVolumeMade files text d in
    let Q : List ℕ → Type 0 = λ bytes. IsMadeOf files text c.in-Done.text.items bytes in
    subst Q (sym c.in_ok-image-in-Done.ensures) (subst P c.in-Done.is (c.in_ok-line.ensures files text is))
