-- What is told of a committed leaf.
use Rattle.std.specs.Prelude.{◌≡◌, ℕ, ◌+◌, ◌≤◌, IfNone, IfSome, IsTrue, false, List, None, length, map, take, drop}
use Rattle.std.specs.List.{filter}
use Rattle.ubifs_base.specs.NodeLaws.{IsBytes}
use Rattle.index_tree.specs.declared.leaf.Leaf.{Leaf}
use Rattle.leaf_map.specs.Parts.{Committed}
use Rattle.log_replay.specs.Replay.{told_committed}
use Rattle.log_replay.specs.Settling.{HasGrammar}
use Rattle.log_replay.specs.declared.committed_leaf.CommittedLeaf.{CommittedLeaf}
use Rattle.sound_image.specs.Leaves.{HasItsNode, IsFoundAt}
use Rattle.leaf_check.specs.LeafReads.{HasWholeLeaf}
use Rattle.leaf_check.specs.declared.leaf_answer.LeafAnswer.{LeafAnswer}
use Rattle.leaf_check.specs.declared.leaf_bytes.LeafBytes.{LeafBytes}

-- this is told of a leaf: itself, and what stands at its place
pub record IsCommittedRead (contents : ℕ → List ℕ) (leaf : Leaf) (told : CommittedLeaf) : Type 0 where
  pub committed : Committed
  pub leaf_is : committed.leaf ≡ leaf
  pub found : IsFoundAt contents leaf committed.found
  pub grammar : HasGrammar committed
  pub is : told ≡ told_committed committed

-- and it is called intact only if its place has its node
pub record IsLeafAnswer (contents : ℕ → List ℕ) (leaf : Leaf) (answer : LeafAnswer) : Type 0 where
  pub told : IsCommittedRead contents leaf answer.told
  pub intact : IsTrue answer.intact → HasItsNode contents leaf

-- nothing is told of it
abbrev pub nothing_told : Leaf → LeafAnswer
nothing_told leaf = record { told = record { leaf = leaf; found = None }; intact = false }

-- at a leaf's place these bytes stand, and they are as many as it is long
pub record HasBytes (contents : ℕ → List ℕ) (leaf : Leaf) (bytes : List ℕ) : Type 0 where
  pub fits : IsBytes (contents leaf.lnum)
  pub room : leaf.offs + leaf.len ≤ length (contents leaf.lnum)
  pub is : bytes ≡ take leaf.len (drop leaf.offs (contents leaf.lnum))

-- what was read for a leaf: the bytes at its place, or none where no whole leaf node stands
pub record IsReadFor (contents : ℕ → List ℕ) (leaf : Leaf) (read : LeafBytes) : Type 0 where
  pub leaf_is : read.leaf ≡ leaf
  pub some : IfSome read.bytes (λ bytes. HasBytes contents leaf bytes.items)
  pub none : IfNone read.bytes (HasWholeLeaf contents leaf → ⊥)

-- an answer is that of the leaf for which this was read, whatever volume it was read from
abbrev pub IsAnswerTo : LeafBytes → LeafAnswer → Type 0
IsAnswerTo read answer = (contents : ℕ → List ℕ) (leaf : Leaf) → IsReadFor contents leaf read → IsLeafAnswer contents leaf answer

-- those leaves that are called intact
abbrev pub intact_leaves : List LeafAnswer → List Leaf
intact_leaves answers = map (λ (answer : LeafAnswer). answer.told.leaf) (filter (λ (answer : LeafAnswer). answer.intact) answers)
