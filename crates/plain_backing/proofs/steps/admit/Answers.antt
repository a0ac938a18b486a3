use Rattle.std.proofs.Common.{◌≤◌, ◌+◌, ◌<◌, ◌^◌, ℕ, subst, refl}
use Rattle.ubifs_base.specs.RawOf.{raw_of}
use Rattle.fs_model.specs.Cover.{needed}
use Rattle.plain_backing.proofs.Covered.{few_credits}
use Rattle.plain_backing.proofs.steps.admit.Goals as goal

pub returns-clause-ok : goal.returns-clause-ok
returns-clause-ok c =
    let geo = c.args.geo.now in
    let space = c.args.space.now in
    let need = c.args.need.now in
    let P : ℕ → Type 0 = λ n. n ≤ c.room-sides.result.limit in
    let Q : ℕ → Type 0 = λ n. needed space need ≤ n in
    let covered = subst Q c.room-sides.ensures.limit (subst P c.room-sides.ensures.need c.if-sides.false) in
    let R : ℕ → Type 0 = λ n. n + need.credits < 2 ^ 40 in
    (refl, subst R c.requires.credits (few_credits (raw_of geo) geo.in_range space need c.requires.main covered))
