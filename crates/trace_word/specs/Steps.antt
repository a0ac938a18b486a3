-- What each kind of step makes of what its owner knows, and what it tells.
use Rattle.std.specs.Prelude.{◌≡◌, ℕ, ◌+◌, ◌<◌, ◌≤◌, true, false, All}
use mathlib.Core.Option.{Option, none, some}
use mathlib.Core.List.{IsPrefix}
use Rattle.atomic_table.specs.Table.{Me, Step}
use Rattle.fs_model.specs.declared.trace.TraceLine.{TraceLine}
use Rattle.trace_word.specs.Knowledge.{lines_of}
use Rattle.trace_word.specs.declared.view.TraceView.{TraceView}
use Rattle.trace_word.specs.declared.view.TraceView.TheVariants.{Recorder, Guest}
use Rattle.trace_word.specs.Knowledge.{none_known, known_joined, known_told, with_line, note_of, claim_note}

abbrev Knows : Type 0
Knows = Me TraceLine TraceView

abbrev Kind : Type 0
Kind = Step TraceLine

-- append: the recorder's list gets the line that is announced
abbrev pub appended : Option TraceLine → TraceView → TraceView
appended (some l) (Recorder k) = Recorder (record { known = with_line l k.known; passes = k.passes })
appended none v = v
appended (some l) (Guest g) = Guest g

abbrev pub Appends : Kind → Knows → ℕ → Knows → Type 0
Appends kind me n new = new ≡ (appended kind.said me.0, me.1)

-- claim: a line more
abbrev pub claimed : TraceView → TraceView
claimed (Recorder k) = Recorder k
claimed (Guest g) = Guest (record { known = g.known; is_pass = g.is_pass; caller = g.caller; claim = g.claim + 1 })

abbrev pub Claims : Kind → Knows → ℕ → Knows → Type 0
Claims kind me n new = new ≡ (claimed me.0, me.1)

-- look: what the rule says of the lists of the recorder, or of a pass
abbrev pub TellsOfLists : TraceView → Type 0
TellsOfLists (Recorder k) = All (λ e. IsPrefix e k.known.seen) k.known.earlier × ((caller : ℕ) → k.passes < caller → lines_of caller k.known.seen ≡ 0)
TellsOfLists (Guest g) = g.is_pass ≡ true → (lines_of g.caller g.known.seen ≤ g.claim) × All (λ e. lines_of g.caller e ≤ g.claim) g.known.earlier

abbrev pub LooksAtTrace : Kind → Knows → ℕ → Knows → Type 0
LooksAtTrace kind me n new = (new ≡ me) × TellsOfLists me.0

-- split: a note of the recorder, or of a pass
abbrev pub new_note : TraceView → TraceView
new_note (Recorder k) = Guest (record { known = note_of k.known; is_pass = false; caller = 0; claim = 0 })
new_note (Guest g) = Guest (record { known = claim_note g.caller g.claim g.known; is_pass = false; caller = 0; claim = 0 })

-- split: the pass of the next caller
abbrev pub with_pass_out : TraceView → TraceView
with_pass_out (Recorder k) = Recorder (record { known = k.known; passes = k.passes + 1 })
with_pass_out (Guest g) = Guest g

abbrev pub new_pass : TraceView → TraceView
new_pass (Recorder k) = Guest (record { known = none_known; is_pass = true; caller = k.passes + 1; claim = 0 })
new_pass (Guest g) = Guest g

-- join: what a note says is taken over
abbrev pub with_note : TraceView → TraceView → TraceView
with_note (Recorder k) (Guest n) = Recorder (record { known = known_told k.known n.known; passes = k.passes })
with_note (Guest g) (Guest n) = Guest (record { known = known_joined g.known n.known; is_pass = g.is_pass; caller = g.caller; claim = g.claim })
with_note v (Recorder k) = v

abbrev pub spent_note : TraceView
spent_note = Guest (record { known = none_known; is_pass = false; caller = 0; claim = 0 })
