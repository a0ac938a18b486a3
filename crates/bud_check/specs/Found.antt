-- What is told of buds that meet their rule.
use Rattle.std.specs.Prelude.{◌≡◌, ℕ, Bool, true, false, List, map}
use Rattle.std.specs.List.{AllByRecursion, list_all}
use Rattle.ubifs_base.specs.declared.node_type.NodeType.{NodeType}
use Rattle.ubifs_base.specs.declared.node_type.NodeType.TheVariants as types
use Rattle.bud_log.specs.declared.head_at.HeadAt.{HeadAt}
use Rattle.fs_model.specs.Path.{is_empty}
use Rattle.journal_scan.specs.Journal.{BudRead, IsJournalRead}
use Rattle.journal_scan.specs.declared.bud_text.BudText.{BudText}
use Rattle.sound_image.specs.Buds.{HasBuds, IsSoundBud, bud_text}
use Rattle.bud_check.specs.declared.buds_found.BudsFound.{BudsFound}

-- whether a node of this type is padding
abbrev pub is_padding : NodeType → Bool
is_padding types.Padding = true
is_padding other = false

-- whether no bud of these holds a node, padding aside; the nodes of a group that isn't whole count too
abbrev pub hold_none : List BudRead → Bool
hold_none reads = list_all (λ read. is_empty read.nodes) reads

-- these texts are those of sound buds, and this is what they say
pub record IsFoundInTexts (texts : List BudText) (found : BudsFound) : Type 0 where
  pub journal : IsJournalRead texts found.read
  pub sound : AllByRecursion IsSoundBud journal.reads
  pub clean : found.clean ≡ hold_none journal.reads

-- The rule on buds holds of these, this is what they say as a mount reads them, and it is told whether none holds a node.
pub record AreFoundBuds (contents : ℕ → List ℕ) (buds : List HeadAt) (found : BudsFound) : Type 0 where
  pub journal : IsJournalRead (map (bud_text contents) buds) found.read
  pub rule : HasBuds contents buds journal.reads
  pub clean : found.clean ≡ hold_none journal.reads
