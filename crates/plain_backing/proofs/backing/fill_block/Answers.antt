use Rattle.std.proofs.Common.{◌≡◌, ℕ, length, ap, ◌∙◌, arith, length-take}
use Rattle.std.specs.Prelude.{min, List}
use Rattle.plain_backing.proofs.backing.fill_block.Goals as goal

turned : (a b : ℕ) → min a b ≡ min b a
turned a b = grind arith

pub returns-clause-count : goal.returns-clause-count
returns-clause-count c =
    let stored = c.args.stored.now in
    ap (λ (bytes : List ℕ). length bytes) c.front_of-front.ensures.part ∙ length-take 4096 stored ∙ turned 4096 (length stored)
