-- What a phase leaves of a backing of which no call fails, and in which mode its lines are.
use Rattle.std.proofs.Common.{◌≡◌, ◌⊎◌, inl, inr, ℕ, ◌≤◌, List, [], ◌∷◌, ◌++◌, length, refl, sym, ap, subst, ◌∙◌, arith}
use Rattle.std.specs.List.{flat_map}
use Rattle.std.proofs.lemmas.Bool.{false≢true}
use Rattle.ubifs_base.specs.Faults.{Rose}
use Rattle.fs_model.specs.declared.backing_answers.Mode.{Mode}
use Rattle.fs_model.specs.declared.backing_answers.Mode.TheVariants.{ReadWrite}
use Rattle.fs_model.specs.declared.refusal.NoSpace.{NoSpace}
use Rattle.fs_model.specs.declared.trace.TraceLine.{TraceLine}
use Rattle.fs_model.specs.Legal.{AreLines, Opening, Place, behind, count_in}
use Rattle.buffered_files.specs.declared.kept.Kept.{Kept}
use Rattle.plain_backing.specs.declared.backing.PlainBacking.{PlainBacking}
use Rattle.plain_backing.specs.PlainBacking.{Covers, outlook_of, backing_state_of}
use Rattle.plain_backing.specs.Spending.{is_spent}
use Rattle.vfs_ops.specs.FilesState.{FilesState}
use Rattle.traced_files.specs.History.{IsHistory, IsModeAfter, IsSureSince, LinesLead, Rise, first_place, opening_of}
use Rattle.script_phase.specs.declared.lines.CallerLine.{CallerLine}
use Rattle.script_phase.specs.Phases.{IsOneTrace, IsUnfailing, callers_in}
use Rattle.script_phase.proofs.Found.{IsFound}

-- files over a plain backing
abbrev pub over : PlainBacking → Kept → List NoSpace → FilesState
over backing kept refused = record { backing = backing_state_of backing; kept = kept; refused = refused }

-- the opening of a phase over it
abbrev pub opened_over : PlainBacking → Kept → List NoSpace → ℕ → Opening
opened_over backing kept refused callers = opening_of (over backing kept refused) (outlook_of backing) callers

no_count : (a count b : ℕ) → b ≡ 0 → Rose a count → count ≤ b → ⊥
no_count a count b e (inl less) few = omega (arith, e, less, few)
no_count a count b e (inr most) few = omega (arith, e, most, few)

-- a backing that never failed can still be written
still_open : (opening : Opening) (new : PlainBacking) → opening.mode ≡ ReadWrite → (backing_state_of new).faults ≡ 0 → IsModeAfter opening (backing_state_of new).mode (backing_state_of new).faults → (backing_state_of new).mode ≡ ReadWrite
still_open opening new was none (inl same) = same ∙ was
still_open opening new was none (inr (open_was, inl lost)) = absurd (no_count opening.faults lost.0 (backing_state_of new).faults none lost.2 lost.3)
still_open opening new was none (inr (open_was, inr lost)) = absurd (false≢true (sym new.unspent ∙ ap is_spent lost.2))

-- no call of the backing failed, and none will
pub unfailing_after : (old new : PlainBacking) (before after : Kept) (noted refused : List NoSpace) (callers : ℕ) (lines : List TraceLine) → IsUnfailing old before
    → IsHistory (opened_over old before noted callers) noted lines (over new after refused)
    → IsSureSince (opened_over old before noted callers) (backing_state_of new).faults (outlook_of new)
    → (backing_state_of new).space.credits ≡ length after.pages.dirty → IsUnfailing new after
unfailing_after old new before after noted refused callers lines was history since credits = by (since was.sure)
  where
    by : ⊥ ⊎ (((new.numbers.strike ≡ 0) × Covers (backing_state_of new)) × ((backing_state_of new).faults ≡ (backing_state_of old).faults)) → IsUnfailing new after
    by (inl spent) = absurd spent
    by (inr (sure, same)) = record {
      mode = still_open (opened_over old before noted callers) new was.mode (same ∙ was.faults) history.mode;
      faults = same ∙ was.faults;
      sure = sure;
      credits = credits;
    }

-- lines behind lines
pub lines_behind : (opening : Opening) (mode : Mode) (place middle last : Place) (first rest : List TraceLine) → AreLines opening mode place first middle → AreLines opening mode middle rest last → AreLines opening mode place (first ++ rest) last
lines_behind opening mode place middle last [] rest is more = subst (λ (p : Place). AreLines opening mode p rest last) (sym is) more
lines_behind opening mode place middle last (line ∷ first) rest (number, after, how, on) more =
    (number, after, how, lines_behind opening mode (behind place line after) middle last first rest on more)

-- in one mode lines lead from the opening on
open_lines : (opening : Opening) (mode : Mode) (lines : List TraceLine) (last : Place) → opening.mode ≡ ReadWrite → mode ≡ ReadWrite → LinesLead opening mode lines last → AreLines opening ReadWrite (first_place opening) lines last
open_lines opening mode lines last was is h =
    subst (λ (ls : List TraceLine). AreLines opening ReadWrite (first_place opening) ls last) (sym h.all) (lines_behind opening ReadWrite (first_place opening) h.middle last h.first h.rest
    (subst (λ (m : Mode). AreLines opening m (first_place opening) h.first h.middle) was h.opened)
    (subst (λ (m : Mode). AreLines opening m h.middle h.rest last) is h.closed))

no_rise : (b c : ℕ) (cs : List ℕ) → Rise b (c ∷ cs) 0 → ⊥
no_rise b c [] h = no_count b c 0 refl h.0 h.1
no_rise b c (d ∷ ds) h = no_rise c d ds h.1

-- if no fault is counted, no line tells of one
none_told : (b : ℕ) (cs : List ℕ) → Rise b cs 0 → cs ≡ []
none_told b [] h = refl
none_told b (c ∷ cs) h = absurd (no_rise b c cs h)

-- a phase's trace, from its history
pub trace_of : (old new : PlainBacking) (before after : Kept) (noted refused : List NoSpace) (now : ℕ) (lines : List CallerLine) (trace : List TraceLine)
    → IsUnfailing old before → IsUnfailing new after → IsHistory (opened_over old before noted (callers_in lines)) noted trace (over new after refused)
    → IsFound now lines trace → IsOneTrace (opened_over old before noted (callers_in lines)) now lines trace (over new after refused)
trace_of old new before after noted refused now lines trace was is h found = record {
  own = found.own;
  time = found.time;
  last = h.last;
  answered = open_lines (opened_over old before noted (callers_in lines)) (backing_state_of new).mode trace h.last was.mode is.mode h.leads;
  asked = h.asked;
  rooms = h.rooms;
  memory = found.memory;
  faultless = none_told (backing_state_of old).faults (flat_map count_in trace) (subst (Rise (backing_state_of old).faults (flat_map count_in trace)) is.faults h.counts);
  same = h.same;
  flushed = h.flushed is.mode;
  weight = h.weight is.mode;
  orphans = h.orphans;
}
