-- Who wins a tournament.
use Rattle.std.specs.Prelude.{◌≡◌, ℕ, ◌+◌, ◌*◌, ◌<◌, ◌≤◌, nat_le, if◌then◌else◌, List, length, get_or}
use Rattle.lprops_tree.specs.declared.candidate.Candidate.{Candidate}

-- what is compared: used bytes, and of as many the number
abbrev pub rank : Candidate → ℕ
rank one = one.used * 4294967296 + one.number

-- of two the one of the lower rank
abbrev pub winner : Candidate → Candidate → Candidate
winner a b = if nat_le (rank a) (rank b) then a else b

-- who stands for a LEB that may not be picked
abbrev pub nobody : Candidate
nobody = record { used = 4294967295; number = 4294967295 }

-- the node at a place
abbrev pub node : List Candidate → ℕ → Candidate
node nodes i = get_or nodes i nobody

-- the candidates are the second half, and each node before them but node 0 is the winner of its children, which stand at twice its place and behind
pub record IsTournament (count : ℕ) (nodes : List Candidate) : Type 0 where
  pub some : 0 < count
  pub halves : length nodes ≡ 2 * count
  pub won : (i : ℕ) → 0 < i → i < count → node nodes i ≡ winner (node nodes (2 * i)) (node nodes (2 * i + 1))

-- one of the candidates, of the lowest rank
pub record IsWinner (candidates : List Candidate) (one : Candidate) : Type 0 where
  pub among : (k : ℕ) × (k < length candidates) × (get_or candidates k nobody ≡ one)
  pub lowest : (k : ℕ) → k < length candidates → rank one ≤ rank (get_or candidates k nobody)
