-- A log that was read.
use Rattle.std.proofs.Common.{◌≡◌, ℕ, ◌<◌, List, ◌∷◌, Option, Some, None, length, refl, ap, subst, inl, inr}
use Rattle.std.specs.Prelude.{◌⊎◌, ◌==◌, IsTrue, if◌then◌else◌}
use Rattle.std.specs.List.{AllByRecursion}
use Rattle.ubifs_base.specs.NodeType.{type_number}
use Rattle.ubifs_base.specs.declared.node_type.NodeType.{NodeType}
use Rattle.ubifs_base.specs.declared.node_type.NodeType.TheVariants as types
use Rattle.ubifs_base.specs.declared.raw_geometry.RawGeometry.{RawGeometry}
use Rattle.media_sys.specs.declared.master.Master.{Master}
use Rattle.leb_scan.specs.declared.found.Found.{Found}
use Rattle.bud_log.specs.Log.{AreFurther, IsLog, IsLogLeb, Log, references_of}
use Rattle.bud_log.specs.LogText.{BeginsCommit, begins_with, start_of}
use Rattle.bud_log.specs.Writing.{IsAmong, IsOlder}
use Rattle.sound_image.specs.Log.{EndWhole, HasLog, NamesMain, ends_in_start}

-- what begins with the start of a commit begins with that node's number
begins_start : (leb : List ℕ) (begins : Option Found) (cmt_no : ℕ) → BeginsCommit leb begins (Some cmt_no) → (start : ℕ) × (start_of begins ≡ Some start)
begins_start leb None cmt_no h = absurd cc
begins_start leb (Some found) cmt_no (inl (kind, e)) = absurd cc
begins_start leb (Some found) cmt_no (inr (kind, node, is, e)) =
    let told : NodeType → Option ℕ = λ k. if type_number k == type_number types.CommitStart then Some found.sqnum else None in
    (found.sqnum, ap told kind)

pub read_log_has : (contents : ℕ → List ℕ) (geo : RawGeometry) (master : Master) (log : Log) (h : IsLog contents geo master.log_lnum log) → log.commit ≡ Some master.cmt_no
    → AllByRecursion (NamesMain geo) (references_of (h.first ∷ h.more)) → EndWhole (h.first ∷ h.more)
    → (length (h.first ∷ h.more) < geo.log_lebs) ⊎ IsTrue (ends_in_start h.more)
    → ((start lnum : ℕ) → start_of (begins_with h.first.nodes) ≡ Some start → IsLogLeb geo lnum → (IsAmong lnum (h.first ∷ h.more) → ⊥) → IsOlder start lnum (contents lnum))
    → HasLog contents geo master (h.first ∷ h.more)
read_log_has contents geo master log h commit named torn spare older =
    let P : Option ℕ → Type 0 = λ c. BeginsCommit (contents master.log_lnum) (begins_with h.first.nodes) c in
    let own = subst P commit h.commit in
    let begins = begins_start (contents master.log_lnum) (begins_with h.first.nodes) master.cmt_no own in
    let Q : Option ℕ → Type 0 = λ start. AreFurther contents geo master.log_lnum start h.more in
    let further = subst Q begins.1 h.are_further in
    record {
      first = h.first;
      more = h.more;
      whole = refl;
      start = begins.0;
      past = further.0;
      chain = record { is_first = h.is_first; starts = begins.1; run = further.1 };
      stops = further.2;
      commit = own;
      named = named;
      torn = torn;
      spare = spare;
      older = λ lnum in_log none. older begins.0 lnum begins.1 in_log none;
    }
