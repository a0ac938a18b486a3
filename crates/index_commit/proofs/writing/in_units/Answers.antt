use Rattle.std.proofs.Common.{◌≡◌, ◌+◌, ◌-◌, ◌*◌, ◌/◌, ◌%◌, ℕ, ap, ◌∙◌, arith}
use Rattle.std.proofs.lemmas.Nat.{mod-mul-add}
use Rattle.index_commit.proofs.writing.in_units.Goals as goal

pub returns-clause-whole : goal.returns-clause-whole
returns-clause-whole c =
    let u = c.args.geometry.now.min_io in
    let q = (c.args.len + (u - 1)) / u in
    let some = c.args.geometry.now.in_range.min_io.1 in
    let e : q * u ≡ q * u + 0 = omega arith in
    ap (λ (n : ℕ). n % u) e ∙ mod-mul-add q u 0 (omega (arith, some))
