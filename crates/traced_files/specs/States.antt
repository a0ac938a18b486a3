-- What contracts see of a pass, and of files whose lines are kept.
use Rattle.std.specs.Prelude.{ℕ, zero, suc, List, [], ◌∷◌, ◌++◌}
use Rattle.atomic_table.specs.Seated.{TableId}
use Rattle.fs_model.specs.declared.trace.TraceLine.{TraceLine}
use Rattle.vfs_ops.specs.FilesState.{FilesState}

-- a pass: its trace's word, its pool, whose it is, how many calls it has made, the place of the last, and the trace as it was seen then
pub record TracedPassState : Type 0 where
  pub word : TableId
  pub pool : TableId
  pub caller : ℕ
  pub made : ℕ
  pub last : ℕ
  pub seen : List TraceLine

-- the pass of a caller who has made no call
abbrev pub fresh_pass : TableId → TableId → ℕ → TracedPassState
fresh_pass word pool caller = record { word = word; pool = pool; caller = caller; made = 0; last = 0; seen = [] }

-- those of the callers from 1 on, in order
abbrev pub fresh_passes : TableId → TableId → ℕ → List TracedPassState
fresh_passes word pool zero = []
fresh_passes word pool (suc n) = fresh_passes word pool n ++ fresh_pass word pool (suc n) ∷ []

-- files whose lines are kept: the files over their backing, and the lines
pub record TracedState : Type 0 where
  pub files : FilesState
  pub trace : List TraceLine

-- the name of no word
abbrev pub no_word : TableId
no_word = record { words = 0; slots = 0; views_name = 0; atom = 0; block = 0; offset = 0; slot_names = [] }
