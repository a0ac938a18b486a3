-- Counts of faults and of calls. A count that reached 2 ^ 64 - 1 stays there.
use Rattle.std.specs.Prelude.{◌≡◌, ◌↔◌, ℕ, ◌+◌, min, List, Contains}

-- the count after one more
abbrev pub next_count : ℕ → ℕ
next_count count = min (count + 1) 18446744073709551615

-- the numbers of the calls that are to fail, counted from 1, how many calls were made, and how many of them failed
pub record Calls : Type 0 where
  pub listed : List ℕ
  pub made : ℕ
  pub failed : ℕ

-- one call more, which fails exactly where its number is listed
pub record TakesCall (old new : Calls) (Fails : Type 0) : Type 0 where
  pub listed : new.listed ≡ old.listed
  pub made : new.made ≡ next_count old.made
  pub fails : Fails ↔ Contains old.listed new.made
  pub failed : Fails → new.failed ≡ next_count old.failed
  pub kept : ¬ Fails → new.failed ≡ old.failed
