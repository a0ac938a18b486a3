use Rattle.std.proofs.Common.{ℕ, Option, sym, subst}
use Rattle.std.specs.Prelude.{IfSome, IsNone}
use Rattle.ubifs_base.specs.RawOf.{raw_of}
use Rattle.lprops_tree.specs.MainArea.{MainArea}
use Rattle.lprops_tree.specs.Picks.{IsCollectable, IsVictim}
use Rattle.lprops_tree.proofs.Picking.{victim, no_victim}
use Rattle.lprops_tree.proofs.props.Props.pick_victim.Goals as goal

pub returns-clause-found : goal.returns-clause-found
returns-clause-found c =
    let area : MainArea = record { geo = raw_of c.self.inside.geo; lebs = c.self.inside.lebs.items } in
    let P : MainArea → Type 0 = λ v. IfSome c.pick.result (λ lnum. IsVictim v c.args.most lnum) in
    let Q : Option ℕ → Type 0 = λ v. IfSome v (λ lnum. IsVictim area c.args.most lnum) in
    subst P c.self.view_is (subst Q (sym c.pick.ensures) (victim area c.self.inside.free c.self.inside.leaves c.self.inside.totals c.best.result c.args.most c.self.invariant c.best.ensures))

pub returns-clause-none : goal.returns-clause-none
returns-clause-none c =
    let area : MainArea = record { geo = raw_of c.self.inside.geo; lebs = c.self.inside.lebs.items } in
    let P : MainArea → Type 0 = λ v. IsNone c.pick.result → (lnum : ℕ) → IsCollectable v c.args.most lnum → ⊥ in
    let Q : Option ℕ → Type 0 = λ v. IsNone v → (lnum : ℕ) → IsCollectable area c.args.most lnum → ⊥ in
    subst P c.self.view_is (subst Q (sym c.pick.ensures) (no_victim area c.self.inside.free c.self.inside.leaves c.self.inside.totals c.best.result c.args.most c.self.invariant c.best.ensures))
