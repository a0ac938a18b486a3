-- What stands at a place, and what is told there of leaves.
use Rattle.std.specs.Prelude.{◌≡◌, ◌⊎◌, ℕ, ◌<◌, ◌==◌, if◌then◌else◌, List, Option, Some, None, IfSome}
use Rattle.ubifs_base.specs.NodeType.{type_number}
use Rattle.media_leaf.specs.LeafNode.{LeafNode}
use Rattle.media_sys.specs.declared.feature.Feature.{Feature}
use Rattle.leb_scan.specs.Text.{StandsAt, leaf}
use Rattle.leb_scan.specs.declared.found.Found.{Found}
use Rattle.index_tree.specs.declared.leaf.Leaf.{Leaf}
use Rattle.sound_image.specs.Frames.{NeedsFeature}
use Rattle.sound_image.specs.LeafBreaches.{IsLeafMisfit, key_type}
use Rattle.sound_image.specs.Wrong.{IsFirstWrong, IsOneOf, Misfit, Wrong, differs, needs, type_byte}
use Rattle.leaf_check.specs.declared.standing.Standing.{Standing}

-- bytes begin with this: the feature that is needed there, the leaf node, and the byte that stands for a type
pub record TellsStanding (rest : List ℕ) (standing : Standing) : Type 0 where
  pub needed : IfSome standing.feature (NeedsFeature rest 0)
  pub only : (what : Feature) → NeedsFeature rest 0 what → standing.feature ≡ Some what
  pub stands : IfSome standing.node (λ found. (node : LeafNode) × StandsAt rest 0 found (leaf node))
  pub one : (found : Found) (node : LeafNode) → StandsAt rest 0 found (leaf node) → standing.node ≡ Some found
  pub byte_is : standing.byte ≡ type_byte rest 0

-- the type of the nodes of a leaf's key
abbrev pub leaf_number : Leaf → ℕ
leaf_number x = type_number (key_type x.key)

-- what is told of a leaf there, if no feature is needed
abbrev pub known_misfit : Standing → Leaf → Misfit
known_misfit standing x = by standing.node
  where
    by : Option Found → Misfit
    by None = differs (leaf_number x) standing.byte
    by (Some found) = if type_number found.kind == leaf_number x then differs x.len found.len else differs (leaf_number x) standing.byte

-- what is told of a leaf there
abbrev pub standing_misfit : Standing → Leaf → Misfit
standing_misfit standing x = by standing.feature
  where
    by : Option Feature → Misfit
    by None = known_misfit standing x
    by (Some what) = needs what

-- one of these leaves has its place here, where this stands, and this is told of it
pub record IsStandingWrong (standing : Standing) (here : Leaf) (leaves : List Leaf) (at : Wrong) : Type 0 where
  pub one : Leaf
  pub is_one : IsOneOf one leaves
  pub lnum : one.lnum ≡ here.lnum
  pub offs : one.offs ≡ here.offs
  pub at_lnum : at.lnum ≡ here.lnum
  pub at_offs : at.offs ≡ here.offs
  pub misfit : at.misfit ≡ standing_misfit standing one

-- one of these leaves is told so at its place
pub record IsPlacedWrong (contents : ℕ → List ℕ) (leaves : List Leaf) (at : Wrong) : Type 0 where
  pub one : Leaf
  pub is_one : IsOneOf one leaves
  pub lnum : at.lnum ≡ one.lnum
  pub offs : at.offs ≡ one.offs
  pub misfit : IsLeafMisfit contents one at.misfit

-- this is told first of them, and none stands before its place
pub record IsFirstPlaced (contents : ℕ → List ℕ) (leaves : List Leaf) (at : Wrong) : Type 0 where
  pub first : IsFirstWrong (IsPlacedWrong contents leaves) at
  pub low : (other : Leaf) → IsOneOf other leaves → (other.lnum < at.lnum) ⊎ ((other.lnum ≡ at.lnum) × (other.offs < at.offs)) → ⊥
