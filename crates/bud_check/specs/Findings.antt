-- What is wrong in buds, and what of it is told first.
use Rattle.std.specs.Prelude.{◌≡◌, ◌⊎◌, ℕ, ◌<◌, ◌≤◌, ◌%◌, Bool, true, false, List, Option, Some, None, if◌then◌else◌}
use Rattle.ubifs_base.specs.NodeType.{type_number}
use Rattle.ubifs_base.specs.declared.node_type.NodeType.{NodeType}
use Rattle.ubifs_base.specs.declared.node_type.NodeType.TheVariants as types
use Rattle.ubifs_base.specs.declared.raw_geometry.RawGeometry.{RawGeometry}
use Rattle.media_sys.specs.declared.feature.Feature.{Feature}
use Rattle.leb_scan.specs.declared.found.Found.{Found}
use Rattle.bud_log.specs.declared.head_at.HeadAt.{HeadAt}
use Rattle.journal_scan.specs.declared.bud_text.BudText.{BudText}
use Rattle.sound_image.specs.Breaches.{IsWrongInBud}
use Rattle.sound_image.specs.Buds.{MayStandInBud}
use Rattle.sound_image.specs.Frames.{NeedsFeature}
use Rattle.sound_image.specs.Wrong.{IsFirstWrong, IsOneOf, Misfit, Wrong, comes_before, differs, needs}
use Rattle.sound_image.specs.declared.breach.Breach.{Breach}
use Rattle.sound_image.specs.declared.breach.Breach.TheVariants.{Feature as NeedsOne, Damaged}
use Rattle.sound_image.specs.declared.rule.Rule.TheVariants.{Buds}
use Rattle.bud_check.specs.declared.bud_wrong.BudMisfit.{BudMisfit}
use Rattle.bud_check.specs.declared.bud_wrong.BudMisfit.TheVariants.{Needs, Unwanted}
use Rattle.bud_check.specs.declared.bud_wrong.BudWrong.{BudWrong}

-- whether a node of this type may stand in a bud
abbrev pub may_stand : NodeType → Bool
may_stand types.Inode = true
may_stand types.Data = true
may_stand types.Entry = true
may_stand types.Attribute = true
may_stand types.Truncation = true
may_stand types.Padding = true
may_stand other = false

-- what is wrong at a place, as the rules tell it: of a type that may not stand in a bud, 1 is wanted
abbrev pub misfit_told : BudMisfit → Misfit
misfit_told (Needs what) = needs what
misfit_told (Unwanted kind) = differs 1 kind

abbrev pub wrong_told : BudWrong → Wrong
wrong_told wrong = record { lnum = wrong.lnum; offs = wrong.offs; misfit = misfit_told wrong.misfit }

-- this is wrong first; or there is none, and nothing is wrong
abbrev pub IsFirstFound : (Wrong → Type 0) → Option BudWrong → Type 0
IsFirstFound IsWrong None = (at : Wrong) → IsWrong at → ⊥
IsFirstFound IsWrong (Some found) = IsFirstWrong IsWrong (wrong_told found)

-- of one and, if it is there, another, that which comes first
abbrev pub sooner_wrong : BudWrong → Option BudWrong → Option BudWrong
sooner_wrong a None = Some a
sooner_wrong a (Some b) = if comes_before (wrong_told b) (wrong_told a) then Some b else Some a

-- of two, if they are there, that which comes first
abbrev pub first_of_two : Option BudWrong → Option BudWrong → Option BudWrong
first_of_two None b = b
first_of_two (Some a) b = sooner_wrong a b

-- what is wrong at a node of a text: it may not stand there, or needs a feature
pub record IsWrongFound (leb : List ℕ) (lnum : ℕ) (found : Found) (at : Wrong) : Type 0 where
  pub in_leb : at.lnum ≡ lnum
  pub here : at.offs ≡ found.offs
  pub wrong : ((MayStandInBud found.kind → ⊥) × (at.misfit ≡ differs 1 (type_number found.kind))) ⊎ ((what : Feature) × NeedsFeature leb found.offs what × (at.misfit ≡ needs what))

-- a text's tail needs a feature
pub record IsWrongEnd (leb : List ℕ) (lnum end : ℕ) (at : Wrong) : Type 0 where
  pub in_leb : at.lnum ≡ lnum
  pub here : at.offs ≡ end
  pub wrong : (what : Feature) × NeedsFeature leb end what × (at.misfit ≡ needs what)

-- what is wrong in the text of a bud
abbrev pub IsWrongText : BudText → Wrong → Type 0
IsWrongText bud at = IsWrongInBud (λ lnum. bud.bytes) (record { head = bud.head; lnum = bud.lnum; offs = bud.from }) at

-- in one of these texts
abbrev pub IsWrongTexts : List BudText → Wrong → Type 0
IsWrongTexts texts at = (bud : BudText) × IsOneOf bud texts × IsWrongText bud at

-- as a breach of the rule on buds
abbrev pub breach_told : BudWrong → Breach
breach_told wrong = by wrong.misfit
  where
    by : BudMisfit → Breach
    by (Needs what) = NeedsOne what wrong.lnum wrong.offs
    by (Unwanted kind) = Damaged Buds wrong.lnum wrong.offs 1 kind

-- a LEB of the volume
abbrev pub IsInVolume : ℕ → HeadAt → Type 0
IsInVolume leb_cnt bud = bud.lnum < leb_cnt

-- a bud is a LEB of the volume, and what it says begins inside it, at a multiple of 8
pub record IsBudPlace (geo : RawGeometry) (bud : HeadAt) : Type 0 where
  pub high : bud.lnum < geo.leb_cnt
  pub inside : bud.offs ≤ geo.leb_size
  pub even : bud.offs % 8 ≡ 0
