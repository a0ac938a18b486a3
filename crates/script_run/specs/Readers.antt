-- What a session on a volume that may only be read stands for, and what it keeps.
use Rattle.std.specs.Prelude.{◌≡◌}
use Rattle.fs_model.specs.declared.backing_answers.Mode.TheVariants.{ReadOnly}
use Rattle.fs_model.specs.declared.refusal.Cause.{Cause}
use Rattle.fs_model.specs.Files.{Files}
use Rattle.buffered_files.specs.declared.kept.Kept.{Kept}
use Rattle.buffered_files.specs.Calls.{full_weight}
use Rattle.buffered_files.specs.Present.{present}
use Rattle.plain_backing.specs.declared.backing.PlainBacking.{PlainBacking}
use Rattle.plain_backing.specs.PlainBacking.{backing_state_of}
use Rattle.script_run.specs.Reading.{Reading}
use Rattle.script_run.specs.declared.reader.Reader.{Reader}

-- the files as callers see them
abbrev pub seen_over : PlainBacking → Kept → Files
seen_over backing kept = present (backing_state_of backing).tree kept

-- where the script is
abbrev pub reading_of : Reader → Reading
reading_of reader = record { files = seen_over reader.fs.backing reader.fs.kept; mounted = reader.mounted; now = reader.now; numbers = reader.numbers }

-- The backing is read-only with this cause, and its index weighs nothing: so no page is dirty.
pub record IsBackingClosed (cause : Cause) (backing : PlainBacking) (kept : Kept) : Type 0 where
  pub mode : (backing_state_of backing).mode ≡ ReadOnly cause
  pub light : full_weight (backing_state_of backing) kept ≡ 0
