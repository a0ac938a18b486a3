use Rattle.std.proofs.Common.{◌≡◌, ℕ, sym, subst}
use Rattle.std.specs.Prelude.{None}
use Rattle.media_sys.specs.declared.master.Master.{Master}
use Rattle.small_areas.specs.Addresses.{addresses_of, first_past}
use Rattle.lpt_area.specs.Tree.{IsTreeIn}
use Rattle.sound_image.proofs.AloneTexts.{blank_orphans}
use Rattle.sound_image.proofs.ListLebs.{list_leb_orphans}
use Rattle.sound_image.proofs.laws.what_is_written_meets_the_rules.Goals as goal

pub returns-clause-master : goal.returns-clause-master
returns-clause-master c contents geo fresh latest is_latest is_fresh placed =
    let P : Master → Type 0 = λ m. first_past (addresses_of geo m) ≡ None in
    record { is_latest = is_latest; in_areas = subst P (sym is_fresh) placed }

pub returns-clause-properties : goal.returns-clause-properties
returns-clause-properties c contents geo props at master h lnum offs =
    let P : ℕ → Type 0 = λ k. IsTreeIn geo k (contents k) (record { lnum = k; offs = at.offs }) props in
    let Q : ℕ → Type 0 = λ o. IsTreeIn geo master.lpt_lnum (contents master.lpt_lnum) (record { lnum = master.lpt_lnum; offs = o }) props in
    subst Q (sym offs) (subst P (sym lnum) h.tree)

pub returns-clause-orphans : goal.returns-clause-orphans
returns-clause-orphans c = list_leb_orphans

pub returns-clause-none : goal.returns-clause-none
returns-clause-none c = blank_orphans
