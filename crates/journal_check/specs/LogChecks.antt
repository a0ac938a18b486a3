-- What a check of the log has seen.
use Rattle.std.specs.Prelude.{◌≡◌, ◌≢◌, ◌⊎◌, ℕ, ◌-◌, nat_lt, ◌==◌, ◌||◌, if◌then◌else◌, IsFalse, List, [], ◌∷◌, ◌++◌, Option, Some, None, length, map}
use Rattle.std.specs.List.{list_any}
use Rattle.std.specs.Option.{option_or}
use Rattle.ubifs_base.specs.declared.node_type.NodeType.TheVariants as types
use Rattle.ubifs_base.specs.declared.raw_geometry.RawGeometry.{RawGeometry}
use Rattle.media_sys.specs.declared.master.Master.{Master}
use Rattle.media_sys.specs.declared.ref_node.RefNode.{RefNode}
use Rattle.leb_scan.specs.Text.{IsText, nodes_of}
use Rattle.leb_scan.specs.declared.found.Found.{Found}
use Rattle.leb_scan.specs.declared.item.Item.{Item}
use Rattle.leb_scan.specs.declared.tail.Tail.{Tail}
use Rattle.leb_scan.specs.declared.tail.Tail.TheVariants.{Clean, Torn}
use Rattle.small_areas.specs.declared.misplaced.Misplaced.{Misplaced}
use Rattle.bud_log.specs.Log.{IsLogLeb, Stops, references_of}
use Rattle.bud_log.specs.LogText.{BeginsCommit, IsReferenceAt, IsLogTextOf, LogText, Refer, begins_with, is_start_alone, start_of}
use Rattle.bud_log.specs.Writing.{IsChain}
use Rattle.bud_log.specs.Seen.{IsSeen}
use Rattle.bud_log.specs.declared.seen.Seen.{Seen}
use Rattle.sound_image.specs.Log.{HasLog, ends_in_start}
use Rattle.sound_image.specs.LogBreaches.{IsBrokenLog, IsTornWithin, LooksNewer, NamesNoMain, misnamed}
use Rattle.sound_image.specs.Wrong.{IsOneOf, Wrong, differs, type_byte}
use Rattle.image_check.specs.WrongValues.{IsFirstOf, sooner_of, wrong_at}
use Rattle.image_check.specs.declared.wrong_value.WrongValue.{WrongValue}
use Rattle.journal_check.specs.declared.log_verdict.LogVerdict.{LogVerdict}
use Rattle.journal_check.specs.declared.log_verdict.LogVerdict.TheVariants.{Broken, Sound}
use Rattle.journal_check.specs.declared.read_lebs.ReadLebs.{ReadLebs}

-- one of these nodes of a LEB is a reference that names a place that is none of a main LEB
pub record IsMisnamedAmong (geo : RawGeometry) (leb : List ℕ) (lnum : ℕ) (nodes : List Found) (at : Wrong) : Type 0 where
  pub found : Found
  pub stands : IsOneOf found nodes
  pub kind : found.kind ≡ types.Reference
  pub node : RefNode
  pub is : IsReferenceAt leb found node
  pub wanted : ℕ
  pub there : ℕ
  pub past : misnamed geo node ≡ Some (record { wanted = wanted; found = there })
  pub at_is : at ≡ record { lnum = lnum; offs = found.offs; misfit = differs wanted there }

-- the LEB of the last of these texts; 0 if there is none
abbrev pub last_lnum : List LogText → ℕ
last_lnum [] = 0
last_lnum (text ∷ []) = text.ends.lnum
last_lnum (text ∷ (next ∷ more)) = last_lnum (next ∷ more)

-- and its tail; a clean one if there is none
abbrev pub last_tail : List LogText → Tail
last_tail [] = Clean
last_tail (text ∷ []) = text.ends.tail
last_tail (text ∷ (next ∷ more)) = last_tail (next ∷ more)

-- of the texts that were read: their LEBs, their references, what is wrong first by the second and by the third part of the rule, and their end
pub record IsReadAs (contents : ℕ → List ℕ) (geo : RawGeometry) (texts : List LogText) (read : ReadLebs) : Type 0 where
  pub lnums : read.lnums.items ≡ map (λ (text : LogText). text.ends.lnum) texts
  pub references : read.references.items ≡ references_of texts
  pub misnamed : IsFirstOf (NamesNoMain contents geo texts) read.misnamed
  pub torn : IsFirstOf (IsTornWithin contents texts) read.torn
  pub last : read.last ≡ last_lnum texts
  pub tail : read.tail ≡ last_tail texts

-- what is wrong with a LEB that was read behind this tail, if it begins with no commit start: the type of a commit start is wanted
abbrev pub torn_behind : Tail → ℕ → List ℕ → Option ℕ → Option WrongValue
torn_behind Clean lnum leb start = None
torn_behind Torn lnum leb (Some number) = None
torn_behind Torn lnum leb None = Some (record { lnum = lnum; offs = 0; wanted = 10; found = type_byte leb 0 })

-- the references of a text were added to others, and of those that name no place of a main LEB this is the first
pub record AreTaken (geo : RawGeometry) (leb : List ℕ) (lnum : ℕ) (old new : List RefNode) (first : Option WrongValue) : Type 0 where
  pub items : List Item
  pub end : ℕ
  pub tail : Tail
  pub is_text : IsText leb 0 items end tail
  pub references : List RefNode
  pub refer : Refer leb (nodes_of items) references
  pub are : new ≡ old ++ references
  pub is_first : IsFirstOf (IsMisnamedAmong geo leb lnum (nodes_of items)) first

-- a text was added to those that were read
pub record IsAddedTo (geo : RawGeometry) (leb : List ℕ) (lnum : ℕ) (seen : Seen) (old new : ReadLebs) : Type 0 where
  pub text : LogText
  pub is_text : IsLogTextOf leb lnum text
  pub begins : seen.begins ≡ begins_with text.nodes
  pub lnums : new.lnums.items ≡ old.lnums.items ++ lnum ∷ []
  pub references : new.references.items ≡ old.references.items ++ text.references
  pub misnamed : Option WrongValue
  pub is_misnamed : IsFirstOf (IsMisnamedAmong geo leb lnum text.nodes) misnamed
  pub misnamed_is : new.misnamed ≡ sooner_of old.misnamed misnamed
  pub torn_is : new.torn ≡ sooner_of old.torn (torn_behind old.tail lnum leb (start_of (begins_with text.nodes)))
  pub last_is : new.last ≡ lnum
  pub tail_is : new.tail ≡ text.ends.tail
  pub alone_is : new.alone ≡ is_start_alone text.nodes

-- the log was read from its first LEB up to this one
pub record IsReadUpTo (contents : ℕ → List ℕ) (geo : RawGeometry) (from number lnum : ℕ) (read : ReadLebs) : Type 0 where
  pub first : LogText
  pub more : List LogText
  pub chain : IsChain contents geo from number first more lnum
  pub are : IsReadAs contents geo (first ∷ more) read
  pub alone : read.alone ≡ ends_in_start more

-- all of the log was read
pub record IsReadWhole (contents : ℕ → List ℕ) (geo : RawGeometry) (from number : ℕ) (read : ReadLebs) : Type 0 where
  pub first : LogText
  pub more : List LogText
  pub past : ℕ
  pub chain : IsChain contents geo from number first more past
  pub stops : Stops contents from number past
  pub are : IsReadAs contents geo (first ∷ more) read
  pub alone : read.alone ≡ ends_in_start more

-- a log begins with no commit start, or with that of another commit than this
pub record IsOtherStart (leb : List ℕ) (lnum : ℕ) (begins : Option Found) (cmt_no : ℕ) (at : WrongValue) : Type 0 where
  pub lnum_is : at.lnum ≡ lnum
  pub offs_is : at.offs ≡ 0
  pub wrong : ((start_of begins ≡ None) × (at.wanted ≡ 10) × (at.found ≡ type_byte leb 0))
      ⊎ ((other : ℕ) × BeginsCommit leb begins (Some other) × (other ≢ cmt_no) × (at.wanted ≡ cmt_no) × (at.found ≡ other))

-- what is wrong with a value, at this place
abbrev pub differing_at : ℕ → ℕ → Option Misplaced → Option WrongValue
differing_at lnum offs None = None
differing_at lnum offs (Some found) = Some (record { lnum = lnum; offs = offs; wanted = found.wanted; found = found.found })

-- what is wrong with a LEB that isn't read and begins with this node: its number is above this one
abbrev pub newer_at : ℕ → ℕ → Option Found → Option WrongValue
newer_at number lnum None = None
newer_at number lnum (Some found) = if nat_lt number found.sqnum then Some (record { lnum = lnum; offs = 0; wanted = number; found = found.sqnum }) else None

-- Of the LEBs of the log whose numbers aren't among these, each was seen; and of those that begin with a number above this one, this is the first.
pub record IsFirstNewer (contents : ℕ → List ℕ) (geo : RawGeometry) (number : ℕ) (lnums : List ℕ) (first : Option WrongValue) : Type 0 where
  pub least : (texts : List LogText) → lnums ≡ map (λ (text : LogText). text.ends.lnum) texts → IsFirstOf (LooksNewer contents geo number texts) first
  pub seen : (lnum : ℕ) → IsLogLeb geo lnum → IsFalse (list_any (λ k. k == lnum) lnums) → (seen : Seen) × IsSeen (contents lnum) seen

-- what is wrong if all LEBs of the ring were read, and the last is no further commit start alone
abbrev pub none_spare : RawGeometry → ReadLebs → Option WrongValue
none_spare geo read = if read.alone || nat_lt (length read.lnums.items) geo.log_lebs then None else Some (record { lnum = read.last; offs = 0; wanted = geo.log_lebs - 1; found = geo.log_lebs })

-- nothing was read
pub record IsFresh (read : ReadLebs) : Type 0 where
  pub lnums : read.lnums.items ≡ []
  pub references : read.references.items ≡ []
  pub misnamed : read.misnamed ≡ None
  pub torn : read.torn ≡ None
  pub last : read.last ≡ 0
  pub tail : read.tail ≡ Clean

-- what is wrong first by the second to the fifth part of the rule; the fifth is told by itself
abbrev pub first_broken : RawGeometry → ReadLebs → Option WrongValue → Option WrongValue
first_broken geo read newer = option_or read.misnamed (option_or read.torn (option_or (none_spare geo read) newer))

abbrev pub verdict_by : ReadLebs → Option WrongValue → LogVerdict
verdict_by read None = Sound (record { references = read.references })
verdict_by read (Some at) = Broken at

-- the answer, once all was read
abbrev pub verdict_of : RawGeometry → ReadLebs → Option WrongValue → LogVerdict
verdict_of geo read newer = verdict_by read (first_broken geo read newer)

-- a check's answer: the rule on the log holds, and these are its references; or it is broken here
abbrev pub IsJudgedLog : (ℕ → List ℕ) → RawGeometry → Master → LogVerdict → Type 0
IsJudgedLog contents geo master (Sound log) = (texts : List LogText) × HasLog contents geo master texts × (log.references.items ≡ references_of texts)
IsJudgedLog contents geo master (Broken at) = IsBrokenLog contents geo master (wrong_at at)
