-- Which operations have a plan of their own.
use Rattle.std.specs.Prelude.{Bool, true, false}
use Rattle.fs_model.specs.declared.op.Op.{Op}
use Rattle.fs_model.specs.declared.op.Op.TheVariants.{Truncate}

-- whether it cuts an open file
abbrev pub is_truncate : Op → Bool
is_truncate (Truncate slot size) = true
is_truncate op = false
