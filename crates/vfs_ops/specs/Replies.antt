-- Kinds of replies, and outcomes that are alike.
use Rattle.std.specs.Prelude.{◌≡◌, Bool, true, false, Ok, Err}
use Rattle.fs_model.specs.declared.reply.Reply.{Reply}
use Rattle.fs_model.specs.declared.reply.Reply.TheVariants.{Bytes, List as Listed, Target, Refused}
use Rattle.fs_model.specs.Outcome.{Outcome}
use Rattle.buffered_files.specs.Alike.{IsAlike}

-- whether an operation is refused
abbrev pub is_refusal : Reply → Bool
is_refusal (Refused refusal) = true
is_refusal reply = false

-- whether a reply holds bytes: those that were read, names, or where a symbolic link leads
abbrev pub holds_bytes : Reply → Bool
holds_bytes (Bytes bytes) = true
holds_bytes (Listed rows) = true
holds_bytes (Target bytes) = true
holds_bytes reply = false

-- the same reply, and files that are alike; or the same refusal
abbrev pub IsAlikeOutcome : Outcome → Outcome → Type 0
IsAlikeOutcome (Ok a) (Ok b) = (a.0 ≡ b.0) × IsAlike a.1 b.1
IsAlikeOutcome (Err a) (Err b) = a ≡ b
IsAlikeOutcome a b = ⊥
