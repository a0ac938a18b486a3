-- A history opens, and it is legal.
use Rattle.std.proofs.Common.{◌≡◌, inl, inr, ℕ, ◌<◌, List, [], ◌∷◌, ◌++◌, length, refl, sym, ap, ◌∙◌, arith}
use Rattle.std.specs.Prelude.{drop}
use Rattle.std.specs.List.{flat_map}
use Rattle.std.proofs.lemmas.Bool.{false≢true}
use Rattle.std.proofs.lemmas.List.{append-nil, length-append}
use Rattle.std.proofs.lemmas.List.Elements.{All-nil}
use Rattle.ubifs_base.specs.Faults.{Rose}
use Rattle.fs_model.specs.declared.refusal.NoSpace.{NoSpace}
use Rattle.fs_model.specs.declared.trace.TraceLine.{TraceLine}
use Rattle.fs_model.specs.Backing.{Outlook}
use Rattle.fs_model.specs.Files.{Files}
use Rattle.fs_model.specs.Legal.{IsLegal, IsModeSince, Opening, sides_in}
use Rattle.fs_model.specs.Same.{IsSame}
use Rattle.fs_laws.specs.Sound.{IsSound}
use Rattle.buffered_files.specs.Alike.{IsAlike}
use Rattle.vfs_ops.specs.FilesState.{FilesState, present_in}
use Rattle.traced_files.specs.History.{IsRoomAsked, IsHistory, IsModeAfter, IsSureSince, first_place, opening_of, present_of}
use Rattle.traced_files.proofs.Counts.{rise_ascends, rise_bounds}

drop_all : {A : Type 0} (xs ys : List A) → drop (length xs) (xs ++ ys) ≡ ys
drop_all [] ys = refl
drop_all (x ∷ xs) ys = drop_all xs ys

mode_since : (opening : Opening) (noted : List NoSpace) (now : FilesState) (outlook : Outlook) → now.backing.faults < 18446744073709551615 → IsModeAfter opening now.backing.mode now.backing.faults → IsModeSince opening (present_of noted now outlook)
mode_since opening noted now outlook below (inl same) = inl same
mode_since opening noted now outlook below (inr (was, inl lost)) = inr (was, inl (lost.0, lost.1, rose lost.2, lost.3))
  where
    rose : Rose opening.faults lost.0 → opening.faults < lost.0
    rose (inl less) = less
    rose (inr end) = let few = lost.3 in absurd (omega (arith, end, few, below))
mode_since opening noted now outlook below (inr (was, inr spent)) = inr (was, inr spent)

-- below the end of the count of faults a history is legal
pub history_is_legal : ((a b : Files) → IsAlike a b → IsSame a b) → (opening : Opening) (noted : List NoSpace) (lines : List TraceLine) (now : FilesState) (outlook : Outlook) → IsHistory opening noted lines now → IsSureSince opening now.backing.faults outlook → now.backing.faults < 18446744073709551615
    → IsLegal opening lines (present_of noted now outlook)
history_is_legal same opening noted lines now outlook h sure below = record {
  first = h.leads.first;
  rest = h.leads.rest;
  all = h.leads.all;
  middle = h.leads.middle;
  last = h.last;
  opened = h.leads.opened;
  closed = h.leads.closed;
  files = same h.last.files (present_in now) h.same;
  mode = mode_since opening noted now outlook below h.mode;
  refused = ap (λ (x : List NoSpace). drop (length noted) x) h.refused ∙ drop_all noted (flat_map sides_in lines);
  counts = rise_ascends opening.faults _ now.backing.faults h.counts below;
  faults = rise_bounds opening.faults _ now.backing.faults h.counts below;
  sure = sure;
}

alike_same : (files : Files) → IsAlike files files
alike_same files = record { inodes = refl; blocks = refl; entries = refl; highest = refl; handles = refl; sizes = λ ino inode found file. refl }

no_line : (before : List TraceLine) (line : TraceLine) (rest : List TraceLine) → [] ≡ before ++ line ∷ rest → ⊥
no_line before line rest none =
    let long = ap length none in
    let parts = length-append before (line ∷ rest) in
    omega (arith, long, parts)

-- the history of no line
pub history_opens : (state : FilesState) (outlook : Outlook) (callers : ℕ) → IsSound (present_in state) → IsHistory (opening_of state outlook callers) state.refused [] state
history_opens state outlook callers sound = record {
  last = first_place (opening_of state outlook callers);
  leads = record { first = []; rest = []; all = refl; middle = first_place (opening_of state outlook callers); opened = refl; closed = refl };
  replayed = refl;
  same = alike_same (present_in state);
  sound = sound;
  mode = inl refl;
  refused = sym (append-nil state.refused);
  asked = All-nil IsRoomAsked;
  rooms = λ before line rest none. absurd (no_line before line rest none);
  counts = omega arith;
  faults = omega arith;
  geometry = refl;
  main = refl;
  limit = refl;
  orphans = omega arith;
  weight = λ is. record { weight = omega arith; index = omega arith };
  flushed = λ is behind. absurd (false≢true behind);
}
