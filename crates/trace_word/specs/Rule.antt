-- The rule of a trace's word.
use Rattle.std.specs.Prelude.{◌≡◌, ℕ, ◌<◌, ◌≤◌, ◌==◌, ◌&&◌, if◌then◌else◌, List, [], ◌∷◌, map, length, sum_by, count_by, All}
use mathlib.Core.List.{IsPrefix}
use Rattle.fs_model.specs.declared.trace.TraceLine.{TraceLine}
use Rattle.trace_word.specs.Knowledge.{lines_of}
use Rattle.atomic_table.specs.Table.{State}
use Rattle.trace_word.specs.declared.view.Known.{Known}
use Rattle.trace_word.specs.declared.view.RecorderView.{RecorderView}
use Rattle.trace_word.specs.declared.view.GuestView.{GuestView}
use Rattle.trace_word.specs.declared.view.TraceView.{TraceView}
use Rattle.trace_word.specs.declared.view.TraceView.TheVariants.{Recorder, Guest}
use Rattle.trace_word.specs.Knowledge.{none_known}

-- how many passes the caller has, and how many lines they have claimed
abbrev pub passes_of : ℕ → List GuestView → ℕ
passes_of caller guests = count_by (λ g. g.is_pass && g.caller == caller) guests

abbrev pub claims_of : ℕ → List GuestView → ℕ
claims_of caller guests = sum_by (λ g. if g.is_pass && g.caller == caller then g.claim else 0) guests

-- all lists are beginnings of the trace, and no claim that was shown is above what its caller has claimed
pub record FitsTrace (trace : List TraceLine) (guests : List GuestView) (known : Known) : Type 0 where
  pub begins : IsPrefix known.seen trace
  pub began : All (λ e. IsPrefix e trace) known.earlier
  pub fair : All (λ s. s.1 ≤ claims_of s.0 guests) known.shown

-- The word is the length of the recorder's list, and what all know fits that list. No caller has two passes, and one that comes later has none. The list has of no caller more lines than it has claimed.
pub record IsTraceKept (word : ℕ) (recorder : RecorderView) (guests : List GuestView) : Type 0 where
  pub counted : word ≡ length recorder.known.seen
  pub recorder_fits : FitsTrace recorder.known.seen guests recorder.known
  pub guests_fit : All (λ g. FitsTrace recorder.known.seen guests g.known) guests
  pub different : (caller : ℕ) → passes_of caller guests ≤ 1
  pub later : (caller : ℕ) → recorder.passes < caller → passes_of caller guests ≡ 0
  pub claimed : (caller : ℕ) → lines_of caller recorder.known.seen ≤ claims_of caller guests

-- the table has the length for its one word, and what the recorder knows before what the others know
abbrev pub KeepsTrace : State TraceLine TraceView → Type 0
KeepsTrace table = (word : ℕ) × (recorder : RecorderView) × (guests : List GuestView) × (table.words ≡ word ∷ []) × (table.views ≡ Recorder recorder ∷ map Guest guests) × IsTraceKept word recorder guests

-- the recorder of an empty trace
abbrev pub opened_recorder : TraceView
opened_recorder = Recorder (record { known = none_known; passes = 0 })
