-- The rules on free and dirty space (`dbg_check_lprops` with `scan_check_cb` of Linux fs/ubifs).
use Rattle.std.specs.Prelude.{◌≡◌, ◌≢◌, ℕ, ◌+◌, ◌-◌, ◌<◌, ◌==◌, IsTrue, List, [], ◌++◌, Some, drop, filter, map}
use Rattle.ubifs_base.specs.declared.raw_geometry.RawGeometry.{RawGeometry}
use Rattle.media_lpt.specs.declared.lprop.Lprop.{Lprop}
use Rattle.media_sys.specs.declared.branch.Branch.{Branch}
use Rattle.media_sys.specs.declared.master.Master.{Master}
use Rattle.leb_scan.specs.Text.{is_blank}
use Rattle.index_tree.specs.Shape.{contents as leaves_in}
use Rattle.index_media.specs.PlacedRow.{PlacedRow, plain, branch_to, all_nodes, bytes_taken}
use Rattle.bud_log.specs.Log.{references_of}
use Rattle.bud_log.specs.LogText.{LogText}
use Rattle.sound_image.specs.Properties.{prop_of}

-- the bytes that nodes and leaves of the committed index take of a LEB, each rounded up to 8
abbrev pub committed_bytes : PlacedRow → ℕ → ℕ
committed_bytes placed lnum = bytes_taken (filter (λ (branch : Branch). branch.lnum == lnum) (all_nodes placed ++ map branch_to (leaves_in (plain placed))))

-- Of each main LEB, the free and dirty bytes and those of the committed index are all its bytes.
abbrev pub HasSums : RawGeometry → List Lprop → PlacedRow → Type 0
HasSums geo props placed = (lnum : ℕ) (prop : Lprop) → prop_of geo props lnum ≡ Some prop → prop.free + prop.dirty + committed_bytes placed lnum ≡ geo.leb_size

-- Where the log names no bud, the free bytes at the end of a main LEB are unwritten, unless all its bytes are free or index nodes go on there.
abbrev pub HasErasedEnds : (ℕ → List ℕ) → RawGeometry → Master → List Lprop → List LogText → Type 0
HasErasedEnds contents geo master props log =
    references_of log ≡ [] → (lnum : ℕ) (prop : Lprop) → prop_of geo props lnum ≡ Some prop → 0 < prop.free → prop.free < geo.leb_size
    → lnum ≢ master.ihead_lnum → IsTrue (is_blank (drop (geo.leb_size - prop.free) (contents lnum)))
