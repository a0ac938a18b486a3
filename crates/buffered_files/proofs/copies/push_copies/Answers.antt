use Rattle.std.proofs.Common.{ap, ◌∙◌, ◌++◌, ℕ, List}
use Rattle.std.proofs.lemmas.List.{take-replicate}
use Rattle.buffered_files.proofs.copies.push_copies.Goals as goal

pub returns-clause-ok : goal.returns-clause-ok
returns-clause-ok c = c.in_ok-extend_from_slice.ensures.items ∙ ap (λ (xs : List ℕ). c.args.out.now.items ++ xs) (take-replicate c.args.n 4096 c.args.byte c.requires)
