-- Which leaves stand at their copies after all.
use Rattle.std.specs.Prelude.{◌≡◌, ℕ, ◌&&◌, not, is_some, Bool, if◌then◌else◌, List, [], ◌∷◌, filter, fold, Option, Some, None}
use Rattle.std.specs.BTreeMap.{BTreeMap, get, is_at}
use Rattle.std.specs.List.{list_any}
use Rattle.std.specs.Ordering.{nat_cmp}
use Rattle.index_tree.specs.declared.leaf.Leaf.{Leaf}
use Rattle.index_tree.specs.Removal.{holds}
use Rattle.leaf_map.specs.Kept.{Kept, Placed}
use Rattle.leaf_map.specs.Parts.{Named, is_named}
use Rattle.journal_scan.specs.declared.journal_node.JournalNode.{JournalNode}
use Rattle.log_replay.specs.declared.application.Place.{Place}
use Rattle.log_replay.specs.declared.candidate.Candidate.{Candidate}
use Rattle.log_replay.specs.declared.read_leaf.ReadLeaf.{ReadLeaf}
use Rattle.log_replay.specs.Placing.{is_key, moved_to}
use Rattle.log_replay.specs.Settling.{copy_at}

-- a leaf in a LEB that the log doesn't name
abbrev pub candidate_of : BTreeMap ℕ ℕ → ReadLeaf → Option Candidate
candidate_of named read = by read.node
  where
    by : Option JournalNode → Option Candidate
    by None = None
    by (Some node) = if is_some (get nat_cmp named node.lnum) then None else Some (record { leaf = read.leaf; copy = read.copy })

abbrev pub with_candidate : Option Candidate → List Candidate → List Candidate
with_candidate None candidates = candidates
with_candidate (Some candidate) candidates = candidate ∷ candidates

-- the leaves in such LEBs
abbrev pub candidates_of : BTreeMap ℕ ℕ → List ReadLeaf → List Candidate
candidates_of named [] = []
candidates_of named (read ∷ reads) = with_candidate (candidate_of named read) (candidates_of named reads)

-- whether a leaf of a LEB stands among these and has no copy
abbrev pub stays_in : List Leaf → ℕ → Candidate → Bool
stays_in xs lnum candidate = is_at (nat_cmp candidate.leaf.lnum) lnum && not (is_some candidate.copy) && is_key candidate.leaf.key && holds candidate.leaf xs

-- the LEBs in which such a leaf stands
abbrev pub Stay : List Leaf → List Candidate → BTreeMap ℕ Bool → Type 0
Stay xs candidates stays = (lnum : ℕ) → is_some (get nat_cmp stays lnum) ≡ list_any (stays_in xs lnum) candidates

-- leaves with one at its copy, if all of its LEB go
abbrev pub moved_one : (ℕ → Bool) → List Leaf → Candidate → List Leaf
moved_one stays xs candidate = if stays candidate.leaf.lnum then xs else by candidate.copy
  where
    by : Option Place → List Leaf
    by None = xs
    by (Some place) = moved_to place candidate.leaf xs

-- leaves with all that go at their copies
abbrev pub moved_all : List Candidate → List Leaf → List Leaf
moved_all candidates xs = fold (moved_one (λ lnum. list_any (stays_in xs lnum) candidates)) xs candidates

-- the leaves in LEBs that aren't named
abbrev pub outside : List Named → List Kept → List Kept
outside named kept = filter (λ x. not (is_named named x.leaf.lnum)) kept

-- a leaf, and where a copy of its node stands
abbrev pub candidate_at : List Placed → Kept → Candidate
candidate_at copies x = record { leaf = x.leaf; copy = copy_at copies x }
