use Rattle.std.proofs.Common.{ℕ, Option, sym, subst}
use Rattle.std.specs.Prelude.{IfSome, IsNone}
use Rattle.ubifs_base.specs.RawOf.{raw_of}
use Rattle.lprops_tree.specs.MainArea.{MainArea}
use Rattle.lprops_tree.specs.Picks.{IsFreeLeb, IsLowestFree}
use Rattle.lprops_tree.proofs.Picking.{lowest_free, no_free}
use Rattle.lprops_tree.proofs.props.Props.pick_empty.Goals as goal

pub returns-clause-found : goal.returns-clause-found
returns-clause-found c =
    let area : MainArea = record { geo = raw_of c.self.inside.geo; lebs = c.self.inside.lebs.items } in
    let P : MainArea → Type 0 = λ v. IfSome c.pick.result (λ lnum. IsLowestFree v lnum) in
    let Q : Option ℕ → Type 0 = λ v. IfSome v (λ lnum. IsLowestFree area lnum) in
    subst P c.self.view_is (subst Q (sym c.pick.ensures) (lowest_free area c.self.inside.free c.self.inside.leaves c.self.inside.totals c.best.result c.self.invariant c.best.ensures))

pub returns-clause-none : goal.returns-clause-none
returns-clause-none c =
    let area : MainArea = record { geo = raw_of c.self.inside.geo; lebs = c.self.inside.lebs.items } in
    let P : MainArea → Type 0 = λ v. IsNone c.pick.result → (lnum : ℕ) → IsFreeLeb v lnum → ⊥ in
    let Q : Option ℕ → Type 0 = λ v. IsNone v → (lnum : ℕ) → IsFreeLeb area lnum → ⊥ in
    subst P c.self.view_is (subst Q (sym c.pick.ensures) (no_free area c.self.inside.free c.self.inside.leaves c.self.inside.totals c.best.result c.self.invariant c.best.ensures))
