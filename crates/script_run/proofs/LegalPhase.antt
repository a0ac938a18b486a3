-- The trace of a phase of many callers is legal.
use Rattle.std.proofs.Common.{inl, inr, ℕ, List, [], ◌∷◌, refl, sym, ap, subst}
use Rattle.std.specs.Prelude.{IsTrue, nat_le}
use Rattle.std.specs.List.{list_all}
use Rattle.std.specs.Ordering.{nat_cmp}
use Rattle.std.proofs.lemmas.List.{append-nil}
use Rattle.ubifs_base.specs.declared.raw_geometry.RawGeometry.{RawGeometry}
use Rattle.fs_model.specs.Files.{Files}
use Rattle.fs_model.specs.Legal.{IsLegal}
use Rattle.fs_model.specs.Proper.{ascends}
use Rattle.fs_model.specs.Same.{IsSame, told_inodes}
use Rattle.buffered_files.specs.Alike.{IsAlike}
use Rattle.script_phase.specs.declared.lines.CallerLine.{CallerLine}
use Rattle.script_phase.specs.Phases.{callers_in}
use Rattle.script_run.specs.Phases.{AreServedTogether, left_by, opened_on}
use Rattle.script_run.specs.Run.{ScriptRunning}

alike_same : (a b : Files) → IsAlike a b → IsSame a b
alike_same a b h = record { inodes = ap told_inodes h.inodes; blocks = h.blocks; entries = h.entries; highest = h.highest; handles = h.handles }

pub legal_phase : (geo : RawGeometry) (before after : ScriptRunning) (lines : List CallerLine) (text : List ℕ) → (phase : AreServedTogether geo before lines text after) → IsLegal (opened_on geo (callers_in lines) before) phase.trace (left_by geo before phase.trace after)
legal_phase geo before after lines text phase = record {
  first = phase.trace;
  rest = [];
  all = sym (append-nil phase.trace);
  middle = phase.last;
  last = phase.last;
  opened = phase.answered;
  closed = refl;
  files = alike_same phase.last.files after.files phase.same;
  mode = inl refl;
  refused = refl;
  counts = subst (λ (cs : List ℕ). IsTrue (ascends nat_cmp (0 ∷ cs))) (sym phase.faultless) refl;
  faults = subst (λ (cs : List ℕ). IsTrue (list_all (λ count. nat_le count 0) (0 ∷ cs))) (sym phase.faultless) refl;
  sure = λ sure. inr (sure, refl);
}
