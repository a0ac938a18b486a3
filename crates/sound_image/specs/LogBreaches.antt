-- What breaks the rule on the log, in five parts.
use Rattle.std.specs.Prelude.{◌≡◌, ◌≢◌, ◌⊎◌, ℕ, ◌-◌, ◌*◌, ◌/◌, ◌%◌, ◌<◌, ◌≤◌, ◌==◌, if◌then◌else◌, IsFalse, List, [], ◌∷◌, ◌++◌, Option, Some, None, length}
use Rattle.std.specs.Option.{option_or}
use Rattle.ubifs_base.specs.Areas.{main_first}
use Rattle.ubifs_base.specs.declared.node_type.NodeType.TheVariants as types
use Rattle.ubifs_base.specs.declared.raw_geometry.RawGeometry.{RawGeometry}
use Rattle.media_sys.specs.declared.master.Master.{Master}
use Rattle.media_sys.specs.declared.ref_node.RefNode.{RefNode}
use Rattle.leb_scan.specs.declared.found.Found.{Found}
use Rattle.leb_scan.specs.declared.tail.Tail.TheVariants.{Torn}
use Rattle.small_areas.specs.Addresses.{in_area, in_leb, past_limit}
use Rattle.small_areas.specs.declared.misplaced.Misplaced.{Misplaced}
use Rattle.bud_log.specs.Log.{IsLogLeb, Stops}
use Rattle.bud_log.specs.LogText.{LogText, IsLogTextOf, IsReferenceAt, BeginsCommit, begins_with, start_of}
use Rattle.bud_log.specs.Writing.{IsAmong, IsChain}
use Rattle.sound_image.specs.Log.{ends_in_start}
use Rattle.sound_image.specs.Wrong.{IsFirstOr, IsFirstWrong, IsOneOf, Wrong, differs, type_byte}

-- first: the log begins with no commit start, or with that of another commit
pub record LacksItsStart (contents : ℕ → List ℕ) (master : Master) (at : Wrong) : Type 0 where
  pub text : LogText
  pub is_text : IsLogTextOf (contents master.log_lnum) master.log_lnum text
  pub lnum : at.lnum ≡ master.log_lnum
  pub offs : at.offs ≡ 0
  pub wrong : ((start_of (begins_with text.nodes) ≡ None) × (at.misfit ≡ differs 10 (type_byte (contents master.log_lnum) 0)))
      ⊎ ((cmt_no : ℕ) × BeginsCommit (contents master.log_lnum) (begins_with text.nodes) (Some cmt_no) × (cmt_no ≢ master.cmt_no) × (at.misfit ≡ differs master.cmt_no cmt_no))

-- the texts that are read of a log that begins with the start of this commit
pub record IsReadOfLog (contents : ℕ → List ℕ) (geo : RawGeometry) (from start : ℕ) (texts : List LogText) : Type 0 where
  pub first : LogText
  pub more : List LogText
  pub whole : texts ≡ first ∷ more
  pub past : ℕ
  pub chain : IsChain contents geo from start first more past
  pub stops : Stops contents from start past

-- the multiple of 8 at or below an offset, and the offset, where it is none itself
abbrev pub uneven : ℕ → Option Misplaced
uneven offs = if offs % 8 == 0 then None else Some (record { wanted = offs / 8 * 8; found = offs })

-- what is wrong with the place that a reference names, first: its LEB is no main LEB, its offset passes the LEB, or is no multiple of 8
abbrev pub misnamed : RawGeometry → RefNode → Option Misplaced
misnamed geo node = option_or (past_limit (in_area node.lnum (main_first geo) geo.leb_cnt)) (option_or (past_limit (in_leb node.offs geo.leb_size)) (uneven node.offs))

-- second: a reference of one of the texts names a place that is none of a main LEB; the limit is that of an address
pub record NamesNoMain (contents : ℕ → List ℕ) (geo : RawGeometry) (texts : List LogText) (at : Wrong) : Type 0 where
  pub text : LogText
  pub one : IsOneOf text texts
  pub found : Found
  pub stands : IsOneOf found text.nodes
  pub kind : found.kind ≡ types.Reference
  pub node : RefNode
  pub is : IsReferenceAt (contents text.ends.lnum) found node
  pub wanted : ℕ
  pub there : ℕ
  pub past : misnamed geo node ≡ Some (record { wanted = wanted; found = there })
  pub at_is : at ≡ record { lnum = text.ends.lnum; offs = found.offs; misfit = differs wanted there }

-- third: a text has a torn tail, and the next one begins with no commit start
pub record IsTornWithin (contents : ℕ → List ℕ) (texts : List LogText) (at : Wrong) : Type 0 where
  pub before : List LogText
  pub text : LogText
  pub next : LogText
  pub behind : List LogText
  pub parts : texts ≡ before ++ (text ∷ (next ∷ behind))
  pub torn : text.ends.tail ≡ Torn
  pub none : start_of (begins_with next.nodes) ≡ None
  pub at_is : at ≡ record { lnum = next.ends.lnum; offs = 0; misfit = differs 10 (type_byte (contents next.ends.lnum) 0) }

-- fourth: all LEBs of the ring are read, and the last isn't a further commit start alone
pub record HasNoneSpare (geo : RawGeometry) (texts : List LogText) (at : Wrong) : Type 0 where
  pub first : LogText
  pub more : List LogText
  pub whole : texts ≡ first ∷ more
  pub all : geo.log_lebs ≤ length texts
  pub no_start : IsFalse (ends_in_start more)
  pub before : List LogText
  pub last : LogText
  pub parts : texts ≡ before ++ (last ∷ [])
  pub at_is : at ≡ record { lnum = last.ends.lnum; offs = 0; misfit = differs (geo.log_lebs - 1) geo.log_lebs }

-- fifth: a LEB of the ring that isn't read begins with a greater number
pub record LooksNewer (contents : ℕ → List ℕ) (geo : RawGeometry) (start : ℕ) (texts : List LogText) (at : Wrong) : Type 0 where
  pub in_log : IsLogLeb geo at.lnum
  pub other : IsAmong at.lnum texts → ⊥
  pub text : LogText
  pub is_text : IsLogTextOf (contents at.lnum) at.lnum text
  pub found : Found
  pub begins : begins_with text.nodes ≡ Some found
  pub newer : start < found.sqnum
  pub offs : at.offs ≡ 0
  pub values : at.misfit ≡ differs start found.sqnum

-- the second to the fifth, of these texts
abbrev pub IsBrokenIn : (ℕ → List ℕ) → RawGeometry → ℕ → List LogText → Wrong → Type 0
IsBrokenIn contents geo start texts at = IsFirstOr (NamesNoMain contents geo texts) (IsFirstOr (IsTornWithin contents texts) (IsFirstOr (HasNoneSpare geo texts) (IsFirstWrong (LooksNewer contents geo start texts)))) at

-- and of what is read
abbrev pub IsBrokenBehindStart : (ℕ → List ℕ) → RawGeometry → Master → Wrong → Type 0
IsBrokenBehindStart contents geo master at = (start : ℕ) × (texts : List LogText) × IsReadOfLog contents geo master.log_lnum start texts × IsBrokenIn contents geo start texts at

-- The log is broken here: by the first part of the five by which something is wrong, at its first place.
abbrev pub IsBrokenLog : (ℕ → List ℕ) → RawGeometry → Master → Wrong → Type 0
IsBrokenLog contents geo master at = IsFirstOr (LacksItsStart contents master) (IsBrokenBehindStart contents geo master) at
