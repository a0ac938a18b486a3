use Rattle.std.proofs.Common.{◌≡◌, ℕ, IfOk, Result, Ok, Err, refl, sym, subst}
use Rattle.std.specs.Prelude.{Option, Some}
use Rattle.ubifs_base.specs.RawOf.{raw_of}
use Rattle.small_areas.specs.Orphans.{orphan_limit}
use Rattle.fs_model.specs.Backing.{BackingState}
use Rattle.fs_model.specs.declared.backing_answers.Mode.TheVariants.{ReadWrite}
use Rattle.plain_backing.specs.declared.backing.PlainBacking.{PlainBacking}
use Rattle.plain_backing.specs.PlainBacking.{Covers, backing_state_of, new_state}
use Rattle.script_run.specs.Run.{LeavesOnly}
use Rattle.script_run.proofs.Leaving.{new_leaves}
use Rattle.script_run.proofs.PhaseRuns.{ok_then}
use Rattle.script_run.proofs.opening.backing_of.Goals as goal

-- what holds of a state holds of that of the backing that is made
state_says : {E : Type 0} (r : Result PlainBacking E) (s : BackingState) (Q : BackingState → Type 0) → Q s → IfOk r (λ backing. backing_state_of backing ≡ s) → IfOk r (λ backing. Q (backing_state_of backing))
state_says (Ok backing) s Q q is = subst Q (sym is) q
state_says (Err e) s Q q is = is

pub returns-clause-left : goal.returns-clause-left
returns-clause-left c =
    let made : PlainBacking → Type 0 = λ backing. backing_state_of backing ≡ new_state (raw_of c.args.geometry) c.args.tree c.args.space c.orphan_limit.result ReadWrite in
    ok_then c.new.result made (λ backing. LeavesOnly (backing_state_of backing).journal c.args.tree)
    (λ backing is. new_leaves backing (raw_of c.args.geometry) c.args.tree c.args.space c.orphan_limit.result ReadWrite is) c.new.ensures.state

pub returns-clause-tree : goal.returns-clause-tree
returns-clause-tree c = state_says c.new.result (new_state (raw_of c.args.geometry) c.args.tree c.args.space c.orphan_limit.result ReadWrite) (λ (s : BackingState). s.tree ≡ c.args.tree) refl c.new.ensures.state

pub returns-clause-geometry : goal.returns-clause-geometry
returns-clause-geometry c = state_says c.new.result (new_state (raw_of c.args.geometry) c.args.tree c.args.space c.orphan_limit.result ReadWrite) (λ (s : BackingState). s.geometry ≡ raw_of c.args.geometry) refl c.new.ensures.state

pub returns-clause-credits : goal.returns-clause-credits
returns-clause-credits c = state_says c.new.result (new_state (raw_of c.args.geometry) c.args.tree c.args.space c.orphan_limit.result ReadWrite) (λ (s : BackingState). s.space.credits ≡ 0) c.requires.credits c.new.ensures.state

pub returns-clause-mode : goal.returns-clause-mode
returns-clause-mode c = state_says c.new.result (new_state (raw_of c.args.geometry) c.args.tree c.args.space c.orphan_limit.result ReadWrite) (λ (s : BackingState). s.mode ≡ ReadWrite) refl c.new.ensures.state

pub returns-clause-faults : goal.returns-clause-faults
returns-clause-faults c = state_says c.new.result (new_state (raw_of c.args.geometry) c.args.tree c.args.space c.orphan_limit.result ReadWrite) (λ (s : BackingState). s.faults ≡ 0) refl c.new.ensures.state

pub returns-clause-strike : goal.returns-clause-strike
returns-clause-strike c =
    let none : PlainBacking → Type 0 = λ backing. ◌≡◌ {A = Option ℕ} (Some backing.numbers.strike) (Some 0) in
    ok_then c.new.result none (λ backing. backing.numbers.strike ≡ 0) (λ backing is. cc) c.new.ensures.strike

pub returns-clause-covers : goal.returns-clause-covers
returns-clause-covers c = state_says c.new.result (new_state (raw_of c.args.geometry) c.args.tree c.args.space c.orphan_limit.result ReadWrite) Covers c.requires.covers c.new.ensures.state

pub returns-clause-orphans : goal.returns-clause-orphans
returns-clause-orphans c = state_says c.new.result (new_state (raw_of c.args.geometry) c.args.tree c.args.space c.orphan_limit.result ReadWrite) (λ (s : BackingState). s.orphan_limit ≡ orphan_limit c.args.geometry.leb_size) c.orphan_limit.ensures c.new.ensures.state

pub returns-clause-closed : goal.returns-clause-closed
returns-clause-closed c = state_says c.new.result (new_state (raw_of c.args.geometry) c.args.tree c.args.space c.orphan_limit.result ReadWrite) (λ (s : BackingState). s.closed ≡ 0) refl c.new.ensures.state

pub returns-clause-weight : goal.returns-clause-weight
returns-clause-weight c = state_says c.new.result (new_state (raw_of c.args.geometry) c.args.tree c.args.space c.orphan_limit.result ReadWrite) (λ (s : BackingState). (s.space.weight ≡ c.args.space.weight) × (s.space.index ≡ c.args.space.index)) (refl, refl) c.new.ensures.state
