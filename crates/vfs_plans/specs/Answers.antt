-- What a question about the files comes to over a backing, which may fail.
use Rattle.std.specs.Prelude.{◌≡◌, ◌≢◌, ◌⊎◌, Result, Err}
use Rattle.fs_model.specs.declared.backing_answers.Mode.TheVariants.{ReadWrite}
use Rattle.fs_model.specs.declared.refusal.Refusal.{Refusal}
use Rattle.fs_model.specs.declared.refusal.Refusal.TheVariants.{Eio, Enomem}
use Rattle.fs_model.specs.Backing.{BackingState, Outlook, Goes, Reads, Rose}
use Rattle.buffered_files.specs.Calls.{SureGoes}

-- a fault of the backing in this call, told as a refusal; the backing is read-only then. Want of memory is free
abbrev pub IsFault : BackingState → BackingState → Refusal → Type 0
IsFault old new (Eio count) = Rose old.faults new.faults × (count ≡ new.faults) × (new.mode ≢ ReadWrite)
IsFault old new Enomem = Unit {0}
IsFault old new refusal = ⊥

-- refused as the definition says, or for a fault
abbrev pub IsRefused : {A : Type 0} → BackingState → BackingState → Result A Refusal → Refusal → Type 0
IsRefused old new plain refusal = (plain ≡ Err refusal) ⊎ IsFault old new refusal

-- what calls keep to that look at the files alone
pub record Looks (before after : Outlook) (old new : BackingState) : Type 0 where
  pub reads : Reads old new
  pub goes : Goes 0 old new
  pub sure : SureGoes before after old new
