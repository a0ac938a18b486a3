-- A LEB has one text.
use Rattle.std.proofs.Common.{◌≡◌, ℕ, List, Option, Some, None, refl, ap, inl, inr}
use Rattle.std.specs.Prelude.{◌==◌, if◌then◌else◌}
use Rattle.ubifs_base.specs.NodeType.{type_number}
use Rattle.ubifs_base.specs.declared.node_type.NodeType.{NodeType}
use Rattle.ubifs_base.specs.declared.node_type.NodeType.TheVariants as types
use Rattle.leb_scan.specs.Text.{nodes_of}
use Rattle.leb_scan.specs.declared.found.Found.{Found}
use Rattle.bud_log.specs.LogText.{BeginsCommit, IsLogTextOf, LogText, start_of}
use Rattle.bud_log.specs.References.{some_references}
use Rattle.bud_log.specs.Seen.{IsSeen}
use Rattle.bud_log.specs.declared.seen.Seen.{Seen}

-- a LEB that was seen has this text
pub text_seen : (leb : List ℕ) (lnum : ℕ) (seen : Seen) (h : IsSeen leb seen) → (text : LogText) × IsLogTextOf leb lnum text × (text.nodes ≡ nodes_of h.items)
text_seen leb lnum seen h =
    let some = some_references leb h.items 0 seen.offs h.is_text.stand in (
      record { nodes = nodes_of h.items; references = some.0; ends = record { lnum = lnum; offs = seen.offs; tail = seen.tail } },
      record { items = h.items; is_text = h.is_text; here = refl; nodes = refl; refer = some.1 },
      refl,
    )

-- what begins with the start of a commit begins with that node's number
pub begins_start : (leb : List ℕ) (begins : Option Found) (cmt_no : ℕ) → BeginsCommit leb begins (Some cmt_no) → (start : ℕ) × (start_of begins ≡ Some start)
begins_start leb None cmt_no h = absurd cc
begins_start leb (Some found) cmt_no (inl (kind, e)) = absurd cc
begins_start leb (Some found) cmt_no (inr (kind, node, is, e)) =
    let told : NodeType → Option ℕ = λ k. if type_number k == type_number types.CommitStart then Some found.sqnum else None in
    (found.sqnum, ap told kind)
