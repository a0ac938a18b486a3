-- Which calls a run makes, and which reply ends it.
use Rattle.std.specs.Prelude.{Bool, true, false}
use Rattle.fs_model.specs.declared.refusal.Refusal.TheVariants.{Eio, Enomem}
use Rattle.fs_model.specs.declared.reply.Reply.{Reply}
use Rattle.fs_model.specs.declared.reply.Reply.TheVariants.{Refused}
use Rattle.fs_laws.specs.Sound.{IsCall}
use Rattle.script_text.specs.declared.part.Part.{Part}
use Rattle.script_text.specs.declared.part.Part.TheVariants.{Line}

-- an operation that gives bytes
abbrev pub IsPartCalled : Part → Type 0
IsPartCalled (Line caller op) = IsCall op
IsPartCalled part = Unit {0}

-- whether there was no memory for it, or the volume failed
abbrev pub is_fault : Reply → Bool
is_fault (Refused Enomem) = true
is_fault (Refused (Eio count)) = true
is_fault reply = false
