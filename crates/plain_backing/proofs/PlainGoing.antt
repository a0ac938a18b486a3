-- What the calls of a backing in memory keep to.
use Rattle.std.proofs.Common.{◌≡◌, ℕ, zero, suc, ◌-◌, refl, sym, ap, subst, inr, arith, Ok, Some}
use Rattle.std.specs.Prelude.{◌≢◌}
use Rattle.ubifs_base.specs.declared.raw_geometry.RawGeometry.{RawGeometry}
use Rattle.plain_backing.specs.declared.numbers.Numbers.{Numbers}
use Rattle.fs_model.specs.Backing.{Strikes, StaysSure}
use Rattle.fs_model.specs.Files.{Tree}
use Rattle.plain_backing.specs.Story.{Story}
use Rattle.plain_backing.specs.PlainBacking.{backing_state_with, outlook_with, counted_call, Covers}

-- one call nearer to the one that fails
struck : (T : Type 0) (strike : ℕ) (x : T) → strike ≢ 1 → Strikes (Some strike) (Some (strike - 1)) (Ok x)
struck T zero x h = (refl, tt)
struck T (suc zero) x h = absurd (h refl)
struck T (suc (suc n)) x h = let e : suc (suc n) - 1 ≡ suc n = omega arith in (ap (λ s. Some s) e, tt)

-- a call that is done
pub sure_after : (T : Type 0) (geo : RawGeometry) (tree after : Tree) (s t : Story) (old new : Numbers) (x : T) → old.strike ≢ 1 → new.strike ≡ old.strike - 1 → new.faults ≡ old.faults
    → (Covers (backing_state_with geo tree old s) → Covers (backing_state_with geo after new t))
    → StaysSure (outlook_with geo tree old s) (outlook_with geo after new t) (backing_state_with geo tree old s) (backing_state_with geo after new t) (Ok x)
sure_after T geo tree after s t old new x h strike faults goes =
    let P : ℕ → Type 0 = λ n. Strikes (Some old.strike) (Some n) (Ok x) in
    record {
      sure = λ both. inr ((rw (strike, both.0) refl, goes both.1), faults, tt);
      spent = λ never. never;
      strike = subst P (sym strike) (struck T old.strike x h);
      untouched = tt;
    }

-- one that leaves the tree as it is
pub sure_still : (T : Type 0) (geo : RawGeometry) (tree : Tree) (s t : Story) (old new : Numbers) (x : T) → new ≡ counted_call old → old.strike ≢ 1
    → StaysSure (outlook_with geo tree old s) (outlook_with geo tree new t) (backing_state_with geo tree old s) (backing_state_with geo tree new t) (Ok x)
sure_still T geo tree s t old new x e h =
    let P : Numbers → Type 0 = λ n. Covers (backing_state_with geo tree n t) in
    sure_after T geo tree tree s t old new x h (ap (λ (n : Numbers). n.strike) e) (ap (λ (n : Numbers). n.faults) e) (λ covers. subst P (sym e) covers)
