-- What is told of an answer.
use Rattle.std.specs.Prelude.{◌≡◌, ◌⊎◌, true}
use Rattle.fs_model.specs.declared.refusal.Refusal.TheVariants.{Enomem}
use Rattle.fs_model.specs.declared.reply.Reply.{Reply}
use Rattle.fs_model.specs.declared.reply.Reply.TheVariants.{Refused}
use Rattle.vfs_ops.specs.Replies.{holds_bytes}

-- an answer is told as it is, or, where it holds bytes, as want of memory for a copy of them
abbrev pub IsToldAs : Reply → Reply → Type 0
IsToldAs answer told = (told ≡ answer) ⊎ ((holds_bytes answer ≡ true) × (told ≡ Refused Enomem))
