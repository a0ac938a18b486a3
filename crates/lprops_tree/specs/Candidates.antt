-- Who stands for a LEB in each of the two tournaments.
use Rattle.std.specs.Prelude.{ℕ, ◌==◌, nat_lt, ◌||◌, if◌then◌else◌, Option, Some, None}
use Rattle.media_lpt.specs.declared.leb_kind.LebKind.{LebKind}
use Rattle.media_lpt.specs.declared.leb_kind.LebKind.TheVariants.{Free, Leaf, Index, Bud, Taken}
use Rattle.lprops_tree.specs.declared.candidate.Candidate.{Candidate}
use Rattle.lprops_tree.specs.Tournament.{nobody}

-- a free LEB is picked by its number
abbrev pub free_candidate : ℕ → LebKind → Candidate
free_candidate lnum Free = record { used = 0; number = lnum }
free_candidate lnum Leaf = nobody
free_candidate lnum Index = nobody
free_candidate lnum Bud = nobody
free_candidate lnum Taken = nobody

-- a leaf LEB is picked by its used bytes and its number
abbrev pub leaf_candidate : ℕ → ℕ → LebKind → Candidate
leaf_candidate used lnum Free = nobody
leaf_candidate used lnum Leaf = record { used = used; number = lnum }
leaf_candidate used lnum Index = nobody
leaf_candidate used lnum Bud = nobody
leaf_candidate used lnum Taken = nobody

-- the winner's number, unless it is nobody or has more used bytes
abbrev pub picked : Candidate → ℕ → Option ℕ
picked best most = if best.number == 4294967295 || nat_lt most best.used then None else Some best.number
