-- The rule on the log (`ubifs_replay_journal` and `replay_log_leb` of Linux fs/ubifs).
use Rattle.std.specs.Prelude.{◌≡◌, ◌⊎◌, ⊤, ℕ, ◌%◌, ◌<◌, ◌≤◌, Bool, false, IsTrue, IsSome, Some, List, [], ◌∷◌, length}
use Rattle.std.specs.List.{AllByRecursion}
use Rattle.ubifs_base.specs.Areas.{main_first}
use Rattle.ubifs_base.specs.declared.raw_geometry.RawGeometry.{RawGeometry}
use Rattle.media_sys.specs.declared.master.Master.{Master}
use Rattle.media_sys.specs.declared.ref_node.RefNode.{RefNode}
use Rattle.leb_scan.specs.declared.tail.Tail.TheVariants.{Clean}
use Rattle.bud_log.specs.Log.{IsLogLeb, Stops, references_of}
use Rattle.bud_log.specs.LogText.{LogText, BeginsCommit, begins_with, start_of, is_start_alone}
use Rattle.bud_log.specs.Writing.{IsAmong, IsOlder, IsChain}

-- a reference names a place of a main LEB, at which a node may stand
pub record NamesMain (geo : RawGeometry) (node : RefNode) : Type 0 where
  pub low : main_first geo ≤ node.lnum
  pub high : node.lnum < geo.leb_cnt
  pub inside : node.offs ≤ geo.leb_size
  pub even : node.offs % 8 ≡ 0

-- of texts that are read one after another, each but the last has a clean tail, or the next one begins with a commit start
abbrev pub EndWhole : List LogText → Type 0
EndWhole [] = ⊤
EndWhole (text ∷ []) = ⊤
EndWhole (text ∷ (next ∷ more)) = ((text.ends.tail ≡ Clean) ⊎ IsSome (start_of (begins_with next.nodes))) × EndWhole (next ∷ more)

-- whether there are further texts, of which the last is a commit start alone
abbrev pub ends_in_start : List LogText → Bool
ends_in_start [] = false
ends_in_start (text ∷ []) = is_start_alone text.nodes
ends_in_start (text ∷ (next ∷ more)) = ends_in_start (next ∷ more)

-- From the LEB that the master names, these texts are read, and no more. The first begins with the start of the master's
-- commit; their references name main LEBs; one with a torn tail is the last, or is followed by one that begins with a commit
-- start. A LEB of the ring isn't read, or the last further one is a commit start alone. And no LEB of the ring that isn't read
-- begins with a number above the first commit start's.
pub record HasLog (contents : ℕ → List ℕ) (geo : RawGeometry) (master : Master) (texts : List LogText) : Type 0 where
  pub first : LogText
  pub more : List LogText
  pub whole : texts ≡ first ∷ more
  pub start : ℕ
  pub past : ℕ
  pub chain : IsChain contents geo master.log_lnum start first more past
  pub stops : Stops contents master.log_lnum start past
  pub commit : BeginsCommit (contents master.log_lnum) (begins_with first.nodes) (Some master.cmt_no)
  pub named : AllByRecursion (NamesMain geo) (references_of texts)
  pub torn : EndWhole texts
  pub spare : (length texts < geo.log_lebs) ⊎ IsTrue (ends_in_start more)
  pub older : (lnum : ℕ) → IsLogLeb geo lnum → (IsAmong lnum texts → ⊥) → IsOlder start lnum (contents lnum)
