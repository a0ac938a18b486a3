use Rattle.std.proofs.Common.{subst}
use Rattle.ubifs_tools.specs.Making.{IsMkfsMade, made_geometry}
use Rattle.ubifs_tools.specs.Performed.{IsRunOn}
use Rattle.ubifs_tools.specs.declared.beginning.RunOn.{RunOn}
use Rattle.ubifs_tools.specs.declared.perform.Performed.{Performed}
use Rattle.ubifs_tools.proofs.Performing.{made_done}
use Rattle.ubifs_tools.proofs.Sequel.{told_bytes, told_holds}
use Rattle.ubifs_tools.proofs.perform.run_made.Goals as goal

pub returns-in-BadGeometry : goal.returns-in-BadGeometry
returns-in-BadGeometry g c = λ files new text script begins is is_script.
    let P : Performed → Type 0 = λ p. IsMkfsMade files text p in
    record { parts = c.args.parts.items; script = is_script; manifest = begins; none = subst P c.in-BadGeometry.is (c.in_ok-line.ensures files text is) }

-- what was made is sound
pub returns-in-Unsound : goal.returns-in-Unsound
returns-in-Unsound g c = λ files new text script begins is is_script.
    let P : Performed → Type 0 = λ p. IsMkfsMade files text p in
    let Q : RunOn → Type 0 = λ r. IsRunOn c.in-Done.image.items c.args.parts.items r in
    let made = subst P c.in-Done.is (c.in_ok-line.ensures files text is) in
    let laws = c.the_bytes_of_a_volume_hold_what_it_holds.ensures in
    let holds = told_holds laws.files (made_geometry made.volume made.tree) made.tree c.in-Done.text.items c.in-Done.image.items made.made in
    absurd (c.one_text_is_told.ensures.never c.in-Done.image.items c.in-Unsound.line.items holds.image
    (told_bytes laws.bytes (made_geometry made.volume made.tree) made.tree c.in-Done.text.items c.in-Done.image.items made.made) holds.holds (subst Q c.in-Unsound.is c.in_ok-line-in-Done.ensures))

pub returns : goal.returns
returns g c = λ files new text script begins is is_script.
    let P : Performed → Type 0 = λ p. IsMkfsMade files text p in
    let Q : RunOn → Type 0 = λ r. IsRunOn c.in-Done.image.items c.args.parts.items r in
    made_done files text script c.in-Done.text.items c.in-Done.image.items c.args.parts.items c.in-Ended.output.text.items c.in-Ended.output.image.items begins
    (subst P c.in-Done.is (c.in_ok-line.ensures files text is)) is_script (subst Q c.in-Ended.is c.in_ok-line-in-Done.ensures)
