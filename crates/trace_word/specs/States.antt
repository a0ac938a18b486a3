-- What contracts see of the tokens.
use Rattle.std.specs.Prelude.{ℕ}
use Rattle.atomic_table.specs.Seated.{TableId}
use Rattle.trace_word.specs.declared.view.Known.{Known}

-- the recorder: which word it is of, what it knows, and how many passes it has made
pub record RecorderState : Type 0 where
  pub word : TableId
  pub known : Known
  pub passes : ℕ

-- a pass: which word it is of, what it knows, whose it is, and its claim
pub record PassState : Type 0 where
  pub word : TableId
  pub known : Known
  pub caller : ℕ
  pub claim : ℕ

-- a note: which word it is of, and what it carries
pub record NoteState : Type 0 where
  pub word : TableId
  pub known : Known
