use Rattle.std.proofs.Common.{◌≡◌, ℕ, max, fold, drop}
use Rattle.leb_scan.specs.declared.found.Found.{Found}
use Rattle.journal_scan.specs.Journal.{greatest_number_found}
use Rattle.journal_scan.proofs.leaves.greatest.Given as goal

-- the greatest of those so far, and then of the others
abbrev pub invariant-loop-found : goal.invariant-loop-found
invariant-loop-found l = fold (λ (n : ℕ) (x : Found). max n x.sqnum) l.most (drop l.found-index l.founds) ≡ greatest_number_found l.founds
