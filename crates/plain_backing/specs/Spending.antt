-- Whether a backing is read-only since a number is used up.
use Rattle.std.specs.Prelude.{Bool, true, false}
use Rattle.fs_model.specs.declared.backing_answers.Mode.{Mode}
use Rattle.fs_model.specs.declared.backing_answers.Mode.TheVariants.{ReadOnly}
use Rattle.fs_model.specs.declared.refusal.Cause.TheVariants.{Spent}

abbrev pub is_spent : Mode → Bool
is_spent (ReadOnly (Spent sqnum cmt_no)) = true
is_spent mode = false
