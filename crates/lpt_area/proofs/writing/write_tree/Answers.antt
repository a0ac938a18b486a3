use Rattle.std.proofs.Common.{◌≡◌, ℕ, List, inl, inr, refl, rules, length, take, sym, ◌∙◌, ap, arith, subst, length-take-le}
use Rattle.std.proofs.lemmas.Grind
use Rattle.std.proofs.lemmas.List.{take_at}
use native.Mathlib.Omega
use Rattle.ubi_volume.specs.Volume.{filled}
use Rattle.ubifs_base.specs.RawOf.{raw_of}
use Rattle.lpt_area.specs.Written.{IsTreeLeb}
use Rattle.lpt_area.proofs.Kept.{memory_cause, not_volume}
use Rattle.lpt_area.proofs.OldTree.{changes_at, changes_none, is_written, keeps_trees}
use Rattle.lpt_area.proofs.writing.write_tree.Goals as goal

pub returns-in_err-change-clause-old_stays : goal.returns-in_err-change-clause-old_stays
returns-in_err-change-clause-old_stays g c =
    keeps_trees (raw_of c.args.geo.now) (g.V.Volume.state c.args.volume.now) (g.V.Volume.state c.change.new.self) c.next_lpt-lnum.result c.args.after c.next_lpt-lnum.ensures.other (_, c.change.ensures.works)

pub returns-clause-old_stays : goal.returns-clause-old_stays
returns-clause-old_stays g c =
    keeps_trees (raw_of c.args.geo.now) (g.V.Volume.state c.args.volume.now) (g.V.Volume.state c.change.new.self) c.next_lpt-lnum.result c.args.after c.next_lpt-lnum.ensures.other (_, c.change.ensures.works)

pub returns-clause-done : goal.returns-clause-done
returns-clause-done g c =
    let same : c.deref.result.now ≡ c.lay_tree.new.leb = c.deref.ensures.value ∙ take_at _ _ _ (search rules) in
    let n = c.in_ok-at.at.nhead_offs in
    let P : List ℕ → Type 0 = λ leb. IsTreeLeb (raw_of c.args.geo.now) c.next_lpt-lnum.result c.args.props.now (filled c.args.geo.now.leb_size (take n leb)) c.in_ok-at.at in
    let size = c.lay_tree.ensures.size in
    let fits = c.in_ok-at.ensures.fits in
    let long : length c.deref.result.now ≡ c.args.geo.now.leb_size = ap length same ∙ search (rules, size) in
    is_written (raw_of c.args.geo.now) (g.V.Volume.state c.args.volume.now) (g.V.Volume.state c.change.new.self) c.args.props.now c.args.after c.next_lpt-lnum.result _ c.in_ok-at.at
    c.next_lpt-lnum.ensures.next c.next_lpt-lnum.ensures.other c.requires.geometry.leb_size (length-take-le n c.deref.result.now (omega (arith, long, fits))) (subst P (sym same) c.in_ok-at.ensures.laid) c.in_ok-change.ensures.done

pub returns-in_err-leb-clause-done : goal.returns-in_err-leb-clause-done
returns-in_err-leb-clause-done g c = grind (Omega.arith, Grind.common_steps) steps 2000000

pub returns-in_err-leb-clause-any_moment : goal.returns-in_err-leb-clause-any_moment
returns-in_err-leb-clause-any_moment g c = changes_none _ _

pub returns-in_err-leb-clause-old_stays : goal.returns-in_err-leb-clause-old_stays
returns-in_err-leb-clause-old_stays g c = keeps_trees _ _ _ c.next_lpt-lnum.result _ c.next_lpt-lnum.ensures.other (changes_none _ _)

pub returns-in_err-leb-clause-cause : goal.returns-in_err-leb-clause-cause
returns-in_err-leb-clause-cause g c = memory_cause _ _ _ c.from_residual.ensures.1 (omega arith)

pub returns-in_err-leb-clause-sure : goal.returns-in_err-leb-clause-sure
returns-in_err-leb-clause-sure g c = λ s. inr (s, (refl, not_volume _ c.from_residual.ensures.1))

pub returns-in_err-at-clause-done : goal.returns-in_err-at-clause-done
returns-in_err-at-clause-done g c = grind (Omega.arith, Grind.common_steps) steps 2000000

pub returns-in_err-at-clause-any_moment : goal.returns-in_err-at-clause-any_moment
returns-in_err-at-clause-any_moment g c = changes_none _ _

pub returns-in_err-at-clause-old_stays : goal.returns-in_err-at-clause-old_stays
returns-in_err-at-clause-old_stays g c = keeps_trees _ _ _ c.next_lpt-lnum.result _ c.next_lpt-lnum.ensures.other (changes_none _ _)

pub returns-in_err-at-clause-cause : goal.returns-in_err-at-clause-cause
returns-in_err-at-clause-cause g c = memory_cause _ _ _ c.from_residual-in_err-at.ensures.1 (omega arith)

pub returns-in_err-at-clause-sure : goal.returns-in_err-at-clause-sure
returns-in_err-at-clause-sure g c = λ s. inr (s, (refl, not_volume _ c.from_residual-in_err-at.ensures.1))

pub returns-in_err-change-clause-done : goal.returns-in_err-change-clause-done
returns-in_err-change-clause-done g c = grind (Omega.arith, Grind.common_steps) steps 2000000

pub returns-in_err-change-clause-any_moment : goal.returns-in_err-change-clause-any_moment
returns-in_err-change-clause-any_moment g c = changes_at _ _ c.next_lpt-lnum.result _ c.next_lpt-lnum.ensures.next (_, c.change.ensures.works)

pub returns-in_err-change-clause-cause : goal.returns-in_err-change-clause-cause
returns-in_err-change-clause-cause g c = grind (Omega.arith, Grind.common_steps) steps 2000000

pub returns-in_err-change-clause-sure : goal.returns-in_err-change-clause-sure
returns-in_err-change-clause-sure g c = grind (Omega.arith, Grind.common_steps) steps 2000000

pub returns-clause-any_moment : goal.returns-clause-any_moment
returns-clause-any_moment g c = changes_at _ _ c.next_lpt-lnum.result _ c.next_lpt-lnum.ensures.next (_, c.change.ensures.works)

pub returns-clause-cause : goal.returns-clause-cause
returns-clause-cause g c = c.in_ok-change.ensures.cause

pub returns-clause-sure : goal.returns-clause-sure
returns-clause-sure g c = λ s. elim (c.change.ensures.sure s) [ inl gone ↦ inl gone | inr fine ↦ inr (fine.0, (fine.1.0, tt)) ]

pub change-requires-clause-lnum : goal.change-requires-clause-lnum
change-requires-clause-lnum g c = grind (Omega.arith, Grind.common_steps) steps 2000000

pub change-requires-clause-range : goal.change-requires-clause-range
change-requires-clause-range g c = grind (Omega.arith, Grind.common_steps) steps 2000000

pub change-requires-clause-units : goal.change-requires-clause-units
change-requires-clause-units g c = grind (Omega.arith, Grind.common_steps) steps 2000000

pub lay_tree-requires-clause-room : goal.lay_tree-requires-clause-room
lay_tree-requires-clause-room g c = grind (Omega.arith, Grind.common_steps) steps 2000000
