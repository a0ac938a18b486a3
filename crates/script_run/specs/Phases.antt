-- What a script does whose callers are at work at once: its phases, and the lines of another kind between them.
use Rattle.std.specs.Prelude.{◌≡◌, ℕ, ◌+◌, ◌-◌, ◌*◌, ◌≤◌, ◌==◌, ◌&&◌, max, Bool, true, false, None, List, [], ◌∷◌, ◌++◌, All}
use Rattle.std.specs.List.{flat_map, list_all}
use Rattle.ubifs_base.specs.declared.raw_geometry.RawGeometry.{RawGeometry}
use Rattle.small_areas.specs.Orphans.{orphan_limit}
use Rattle.fs_model.specs.declared.backing_answers.Mode.TheVariants.{ReadWrite}
use Rattle.fs_model.specs.declared.trace.TraceLine.{TraceLine}
use Rattle.fs_model.specs.Cover.{index_lebs}
use Rattle.fs_model.specs.Journal.{MayLeave}
use Rattle.fs_model.specs.Legal.{AreLines, Opening, Place, Present, count_in, sides_in}
use Rattle.fs_model.specs.Orphan.{without_nameless}
use Rattle.buffered_files.specs.Alike.{IsAlike}
use Rattle.traced_files.specs.History.{AreRoomsTold, IsRoomAsked, grown_weight, is_flushed}
use Rattle.traced_files.specs.Seen.{LeavesSeen}
use Rattle.script_text.specs.declared.part.Part.{Part}
use Rattle.script_text.specs.declared.part.Part.TheVariants.{Line, Workers}
use Rattle.script_text.specs.Reply.{reply_line}
use Rattle.script_phase.specs.declared.lines.CallerLine.{CallerLine}
use Rattle.script_phase.specs.Phases.{callers_in, is_memory, ops_by, traced_by}
use Rattle.script_run.specs.Run.{IsScriptCovered, IsScriptPart, IsLineServed, ScriptRunning, clean_space, orphans_told}
use Rattle.script_run.specs.Stored.{IsUnder}

-- What a phase of so many callers opens on: the files as callers see them, the index with all dirty pages put, and the room that is left in the list of orphans. The volume may be written, and never failed.
abbrev pub opened_on : RawGeometry → ℕ → ScriptRunning → Opening
opened_on geo callers here = record {
  geometry = geo;
  callers = callers;
  files = here.files;
  space = clean_space geo here;
  dirty = 0;
  orphan_room = orphan_limit geo.leb_size - orphans_told here;
  orphan_limit = orphan_limit geo.leb_size;
  mode = ReadWrite;
  faults = 0;
  outlook = record { sure = Unit {0}; spent = ⊥; strike = None };
}

-- what a phase leaves, with the sides of each refusal for want of room; no volume failed
abbrev pub left_by : RawGeometry → ScriptRunning → List TraceLine → ScriptRunning → Present
left_by geo before trace after = record { files = after.files; refused = flat_map sides_in trace; mode = ReadWrite; faults = 0; outlook = (opened_on geo 0 before).outlook }

-- the place before the first line
abbrev pub place_at : ScriptRunning → Place
place_at here = record { before = []; files = here.files; orphans = 0 }

-- what a trace prints: its lines, in its order, each with its caller's number
abbrev pub trace_text : List TraceLine → List ℕ
trace_text trace = flat_map (λ line. reply_line line.caller line.number line.reply) trace

-- Callers were at work at once. Their lines are one trace.
pub record AreServedTogether (geo : RawGeometry) (before : ScriptRunning) (lines : List CallerLine) (text : List ℕ) (after : ScriptRunning) : Type 0 where
  pub trace : List TraceLine
  -- Each caller's lines stand in it, each once and in order, and no others; they have the phase's time.
  pub own : (caller : ℕ) → traced_by caller trace ≡ ops_by caller lines
  pub time : All (λ line. line.now ≡ before.now) trace
  -- Each is numbered by its caller, and answered as the plain operation answers on the files that the line before it left; or it is refused: for want of room if it may ask for room, with no less room than the lines leave, or since the next list of orphans is full. None was refused for want of memory, or by a fault of the volume.
  pub last : Place
  pub answered : AreLines (opened_on geo (callers_in lines) before) ReadWrite (place_at before) trace last
  pub asked : All IsRoomAsked trace
  pub rooms : AreRoomsTold (opened_on geo (callers_in lines) before) trace
  pub memory : All (λ line. is_memory line.reply ≡ false) trace
  pub faultless : flat_map count_in trace ≡ []
  pub printed : text ≡ trace_text trace
  -- Callers see the files behind the last line, but for zeros at the ends of blocks. What is stored is under them.
  pub same : IsAlike last.files after.files
  pub under : IsUnder after.stored after.files
  -- What a cut leaves was seen behind some of the lines, and no sync of its place was done since; if none was, a cut might have left it before. It may leave what is stored.
  pub left : LeavesSeen before.files before.journal trace after.journal
  pub stored : MayLeave after.journal (without_nameless after.stored)
  -- Behind a flush that was done that is stored which they see, as long as nothing but questions is asked.
  pub flushed : is_flushed trace ≡ true → after.stored ≡ after.files.tree
  -- The index weighs no more than the lines may add: what neither writes nor has a group adds nothing. It takes no more LEBs than before, or than twice those that it asks for. The next list of orphans has as much room as the lines left of it.
  pub weight : after.weight ≤ grown_weight (opened_on geo (callers_in lines) before) trace
  pub index : after.index ≤ max before.index (2 * index_lebs geo (grown_weight (opened_on geo (callers_in lines) before) trace))
  pub orphans : orphan_limit geo.leb_size - orphans_told before ≤ (orphan_limit geo.leb_size - orphans_told after) + last.orphans
  pub rest : after ≡ record before { files = after.files; stored = after.stored; journal = after.journal; weight = after.weight; index = after.index; closed = after.closed; number = 0 }

-- One caller's lines, each on what the one before it left.
abbrev pub AreServed : RawGeometry → ScriptRunning → List CallerLine → List ℕ → ScriptRunning → Type 0
AreServed geo before [] text after = (text ≡ []) × (after ≡ before)
AreServed geo before (line ∷ lines) text after =
    (first : List ℕ) × (next : ScriptRunning) × (rest : List ℕ) × IsLineServed geo before line.caller line.op first next × AreServed geo next lines rest after × (text ≡ first ++ rest)

-- whether there is no line, or one caller alone beside no worker
abbrev pub is_alone : ℕ → List CallerLine → Bool
is_alone workers [] = true
is_alone workers (line ∷ lines) = (workers == 0) && list_all (λ other. other.caller == line.caller) lines

-- A phase: one caller's lines after one another if it is alone, and else one trace.
abbrev pub IsPhaseOf : Bool → RawGeometry → ScriptRunning → List CallerLine → List ℕ → ScriptRunning → Type 0
IsPhaseOf true geo before lines text after = AreServed geo before lines text after
IsPhaseOf false geo before lines text after = AreServedTogether geo before lines text after

abbrev pub IsPhase : RawGeometry → ScriptRunning → List CallerLine → List ℕ → ScriptRunning → Type 0
IsPhase geo before lines text after = IsPhaseOf (is_alone before.workers lines) geo before lines text after

-- A line of another kind ends the phase whose lines stand before it. All that was promised has room then.
pub record IsTurn (geo : RawGeometry) (before : ScriptRunning) (lines : List CallerLine) (part : Part) (text : List ℕ) (after : ScriptRunning) : Type 0 where
  pub middle : ScriptRunning
  pub first : List ℕ
  pub phase : IsPhase geo before lines first middle
  pub covered : IsScriptCovered geo middle
  pub line : List ℕ
  pub control : IsScriptPart geo middle part line after
  pub printed : text ≡ first ++ line

-- where a script is, and the lines of the phase that has begun, which wait
pub record ScriptPlace : Type 0 where
  pub here : ScriptRunning
  pub lines : List CallerLine

-- one more line of a script: a caller's line waits, and one of another kind ends the phase
abbrev pub HasAdvanced : RawGeometry → ScriptPlace → Part → List ℕ → ScriptPlace → Type 0
HasAdvanced geo old (Line caller op) text new = (text ≡ []) × (new ≡ record { here = old.here; lines = old.lines ++ (record { caller = caller; op = op }) ∷ [] })
HasAdvanced geo old part text new = IsTurn geo old.here old.lines part text new.here × (new.lines ≡ [])

-- A script, from the lines on of a phase that has begun: each phase, and the line of another kind behind it.
abbrev pub ArePhases : RawGeometry → ScriptRunning → List CallerLine → List Part → List ℕ → ScriptRunning → Type 0
ArePhases geo before lines [] text after = IsPhase geo before lines text after
ArePhases geo before lines (Line caller op ∷ parts) text after = ArePhases geo before (lines ++ (record { caller = caller; op = op }) ∷ []) parts text after
ArePhases geo before lines (part ∷ parts) text after =
    (front : List ℕ) × (next : ScriptRunning) × (rest : List ℕ) × IsTurn geo before lines part front next × ArePhases geo next [] parts rest after × (text ≡ front ++ rest)

-- a line of this caller, or of another kind that asks for no worker
abbrev pub IsOfOne : ℕ → Part → Type 0
IsOfOne one (Line caller op) = caller ≡ one
IsOfOne one (Workers count) = count ≡ 0
IsOfOne one part = Unit {0}
