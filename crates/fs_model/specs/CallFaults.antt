-- How an operation is refused for a backing's fault.
use Rattle.fs_model.specs.declared.backing_answers.StoreFault.{StoreFault}
use Rattle.fs_model.specs.declared.backing_answers.StoreFault.TheVariants.{Memory, Volume, ReadOnly as IsReadOnly}
use Rattle.fs_model.specs.declared.refusal.Refusal.{Refusal}
use Rattle.fs_model.specs.declared.refusal.Refusal.TheVariants.{Eio, Enomem, Erofs}

-- the refusal that tells a backing's fault
abbrev pub refusal_of : StoreFault → Refusal
refusal_of Memory = Enomem
refusal_of (Volume count) = Eio count
refusal_of (IsReadOnly cause) = Erofs cause
