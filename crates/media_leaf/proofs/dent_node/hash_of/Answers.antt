use Rattle.std.proofs.Common.{ℕ, ◌<◌, ◌^◌, subst, sym}
use Rattle.media_leaf.proofs.EntryLemmas.{r5_of-lt}
use Rattle.media_leaf.proofs.dent_node.hash_of.Goals as goal

pub returns-clause-bits : goal.returns-clause-bits
returns-clause-bits c = let P : ℕ → Type 0 = λ n. n < 2 ^ 29 in subst P (sym c.r5.ensures) (r5_of-lt c.args.name.now)
