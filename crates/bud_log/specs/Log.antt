-- The log: which of the ring's LEBs are read from one of them on, which buds they name, and where the log ends.
use Rattle.std.specs.Prelude.{◌≡◌, ◌≢◌, ◌⊎◌, ℕ, ◌+◌, ◌<◌, ◌≤◌, nat_lt, max, if◌then◌else◌, IsTrue, IsFalse, Option, Some, None, List, [], ◌∷◌, ◌++◌, fold}
use Rattle.ubifs_base.specs.Areas.{lpt_first}
use Rattle.ubifs_base.specs.declared.raw_geometry.RawGeometry.{RawGeometry}
use Rattle.media_sys.specs.declared.ref_node.RefNode.{RefNode}
use Rattle.bud_log.specs.Buds.{buds_of}
use Rattle.bud_log.specs.LogText.{LogText, IsLogTextOf, begins_with, start_of, BeginsCommit, is_later, greatest_found, is_start_alone}
use Rattle.bud_log.specs.declared.head_at.HeadAt.{HeadAt}
use Rattle.bud_log.specs.declared.log_end.LogEnd.{LogEnd}
use Rattle.bud_log.specs.declared.log_read.LogRead.{LogRead}

-- a LEB of the log, which begins behind the masters and ends before the properties
pub record IsLogLeb (geo : RawGeometry) (lnum : ℕ) : Type 0 where
  pub low : 3 ≤ lnum
  pub high : lnum < lpt_first geo

-- the log LEB behind another, round the ring
abbrev pub next_leb : RawGeometry → ℕ → ℕ
next_leb geo lnum = if nat_lt (lnum + 1) (lpt_first geo) then lnum + 1 else 3

-- from this LEB on, these texts are read, each of a LEB that begins with a greater number and isn't the first again, up to this LEB
abbrev pub Run : (ℕ → List ℕ) → RawGeometry → ℕ → ℕ → ℕ → List LogText → ℕ → Type 0
Run contents geo from number lnum [] past = lnum ≡ past
Run contents geo from number lnum (text ∷ texts) past =
    (lnum ≢ from) × IsLogTextOf (contents lnum) lnum text × IsTrue (is_later number (begins_with text.nodes)) × Run contents geo from number (next_leb geo lnum) texts past

-- and this LEB isn't read: it is the first again, or doesn't begin with a greater number
abbrev pub Stops : (ℕ → List ℕ) → ℕ → ℕ → ℕ → Type 0
Stops contents from number past = (past ≡ from) ⊎ ((text : LogText) × IsLogTextOf (contents past) past text × IsFalse (is_later number (begins_with text.nodes)))

-- the texts that are read behind the first, which begins with a commit start of this number, or with none
abbrev pub AreFurther : (ℕ → List ℕ) → RawGeometry → ℕ → Option ℕ → List LogText → Type 0
AreFurther contents geo from None more = more ≡ []
AreFurther contents geo from (Some number) more = (past : ℕ) × Run contents geo from number (next_leb geo from) more past × Stops contents from number past

-- the references of these texts, one text behind another
abbrev pub references_of : List LogText → List RefNode
references_of [] = []
references_of (text ∷ texts) = text.references ++ references_of texts

-- the greatest of a number and the sequence numbers of all nodes of these texts
abbrev pub greatest_of : ℕ → List LogText → ℕ
greatest_of low texts = fold (λ n (text : LogText). max n (greatest_found text.nodes)) low texts

-- where the log ends: where the last text does, or the one before it where the last is a commit start alone, and not the first
abbrev pub log_end_of : LogEnd → List LogText → LogEnd
log_end_of first [] = first
log_end_of first (text ∷ []) = if is_start_alone text.nodes then first else text.ends
log_end_of first (text ∷ (other ∷ more)) = log_end_of text.ends (other ∷ more)

-- the number of the commit with whose start a log begins, if it begins with one, the buds that it names, the greatest sequence number of its nodes, and where it ends
pub record Log : Type 0 where
  pub commit : Option ℕ
  pub buds : List HeadAt
  pub sqnum : ℕ
  pub ends : LogEnd

-- what the log says that is read from this LEB on
pub record IsLog (contents : ℕ → List ℕ) (geo : RawGeometry) (from : ℕ) (log : Log) : Type 0 where
  pub first : LogText
  pub more : List LogText
  pub is_first : IsLogTextOf (contents from) from first
  pub are_further : AreFurther contents geo from (start_of (begins_with first.nodes)) more
  pub commit : BeginsCommit (contents from) (begins_with first.nodes) log.commit
  pub buds : log.buds ≡ buds_of (references_of (first ∷ more))
  pub sqnum : log.sqnum ≡ greatest_of 0 (first ∷ more)
  pub ends : log.ends ≡ log_end_of first.ends more

-- a log as it was read
abbrev pub log_of : LogRead → Log
log_of read = record { commit = read.commit; buds = read.buds.items; sqnum = read.sqnum; ends = record { lnum = read.lnum; offs = read.offs; tail = read.tail } }
