-- The rule on what stands in buds (`replay_bud` of Linux fs/ubifs).
use Rattle.std.specs.Prelude.{◌≡◌, ◌⊎◌, ℕ, IsTrue, List, All, map}
use Rattle.std.specs.List.{AllByRecursion}
use Rattle.ubifs_base.specs.declared.node_type.NodeType.{NodeType}
use Rattle.ubifs_base.specs.declared.node_type.NodeType.TheVariants as types
use Rattle.leb_scan.specs.Text.{nodes_of}
use Rattle.leb_scan.specs.declared.found.Found.{Found}
use Rattle.bud_log.specs.declared.head_at.HeadAt.{HeadAt}
use Rattle.journal_scan.specs.Journal.{BudRead, IsBudRead}
use Rattle.journal_scan.specs.Stands.{is_leaf_type}
use Rattle.journal_scan.specs.declared.bud_text.BudText.{BudText}
use Rattle.sound_image.specs.Frames.{IsKnownAt}

-- a LEB that the log names, with its bytes
abbrev pub bud_text : (ℕ → List ℕ) → HeadAt → BudText
bud_text contents at = record { head = at.head; lnum = at.lnum; from = at.offs; bytes = contents at.lnum }

-- a node of this type may stand in a bud: a leaf node, or a padding node
abbrev pub MayStandInBud : NodeType → Type 0
MayStandInBud type = IsTrue (is_leaf_type type) ⊎ (type ≡ types.Padding)

-- what was read of a bud is its text; each of its nodes may stand there; and neither a node nor the tail needs an unknown feature
pub record IsSoundBud (one : BudRead) : Type 0 where
  pub is_read : IsBudRead one
  pub kinds : All (λ (found : Found). MayStandInBud found.kind) (nodes_of is_read.items)
  pub known : All (λ (found : Found). IsKnownAt one.bud.bytes found.offs) (nodes_of is_read.items)
  pub tail : IsKnownAt one.bud.bytes is_read.end

-- Of each bud, in the order of the log, this was read: up to its tail it has leaf nodes of the grammar and padding, and none needs an unknown feature.
pub record HasBuds (contents : ℕ → List ℕ) (buds : List HeadAt) (reads : List BudRead) : Type 0 where
  pub of_buds : map (λ x. x.bud) reads ≡ map (bud_text contents) buds
  pub sound : AllByRecursion IsSoundBud reads
