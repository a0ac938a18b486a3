use Rattle.std.proofs.Common.{◌≡◌, ◌⊎◌, ℕ, ◌+◌, ap, sym, subst, ◌∙◌}
use Rattle.vfs_ops.specs.Fs.{files_state}
use Rattle.credited_files.specs.Calls.{IsFullFor}
use Rattle.credited_files.proofs.Moving.{of_refill}
use Rattle.credited_files.proofs.credits.covered.Goals as goal

pub returns-clause-all : goal.returns-clause-all
returns-clause-all g c =
    let old = files_state c.args.fs.now in
    let new = files_state c.step-outcome.new.self in
    let h = of_refill old new c.args.n c.step-outcome.result c.step-outcome.ensures.step in
    subst (λ (m : ℕ). (m ≡ c.args.n) ⊎ ((m ≡ 0) × IsFullFor old.backing c.args.n × (new ≡ old))) (sym c.granted.ensures) h.all

pub returns-clause-only : goal.returns-clause-only
returns-clause-only g c = (of_refill (files_state c.args.fs.now) (files_state c.step-outcome.new.self) c.args.n c.step-outcome.result c.step-outcome.ensures.step).only

pub returns-clause-credits : goal.returns-clause-credits
returns-clause-credits g c =
    let old = files_state c.args.fs.now in
    let h = of_refill old (files_state c.step-outcome.new.self) c.args.n c.step-outcome.result c.step-outcome.ensures.step in
    h.credits ∙ ap (λ (m : ℕ). old.backing.space.credits + m) (sym c.granted.ensures)
