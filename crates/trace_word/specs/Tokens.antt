-- The tokens' seats, as contracts see them.
use Rattle.std.specs.Prelude.{◌≡◌, true, false, []}
use Rattle.atomic_table.specs.declared.shared.Seat.{Seat}
use Rattle.fs_model.specs.declared.trace.TraceLine.{TraceLine}
use Rattle.trace_word.specs.declared.view.RecorderView.{RecorderView}
use Rattle.trace_word.specs.declared.view.GuestView.{GuestView}
use Rattle.trace_word.specs.declared.view.TraceView.{TraceView}
use Rattle.trace_word.specs.declared.view.TraceView.TheVariants.{Recorder, Guest}
use Rattle.trace_word.specs.Knowledge.{none_known}
use Rattle.trace_word.specs.States.{RecorderState, PassState, NoteState}

abbrev pub of_recorder : TraceView → RecorderView
of_recorder (Recorder k) = k
of_recorder (Guest g) = record { known = none_known; passes = 0 }

abbrev pub of_guest : TraceView → GuestView
of_guest (Recorder k) = record { known = none_known; is_pass = false; caller = 0; claim = 0 }
of_guest (Guest g) = g

abbrev pub recorder_state : Seat TraceLine TraceView → RecorderState
recorder_state s = let v = of_recorder s.me.0 in record { word = s.table_id; known = v.known; passes = v.passes }

abbrev pub IsRecorder : Seat TraceLine TraceView → Type 0
IsRecorder s = s.me ≡ (Recorder (of_recorder s.me.0), [])

abbrev pub pass_state : Seat TraceLine TraceView → PassState
pass_state s = let v = of_guest s.me.0 in record { word = s.table_id; known = v.known; caller = v.caller; claim = v.claim }

abbrev pub IsPass : Seat TraceLine TraceView → Type 0
IsPass s = (s.me ≡ (Guest (of_guest s.me.0), [])) × ((of_guest s.me.0).is_pass ≡ true)

abbrev pub note_state : Seat TraceLine TraceView → NoteState
note_state s = record { word = s.table_id; known = (of_guest s.me.0).known }

abbrev pub IsNote : Seat TraceLine TraceView → Type 0
IsNote s = (s.me ≡ (Guest (of_guest s.me.0), [])) × ((of_guest s.me.0).is_pass ≡ false)
