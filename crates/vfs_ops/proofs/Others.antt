-- Who leaves the dirty pages of other files, and a store that is read-only.
use Rattle.std.proofs.Common.{◌≡◌, ℕ, true, Some, None, Option, sym, ap, subst, ◌∙◌}
use Rattle.std.specs.Prelude.{IsSome}
use Rattle.std.proofs.lemmas.Bool.{false≢true}
use Rattle.fs_model.specs.declared.op.Op.{Op}
use Rattle.fs_model.specs.declared.backing_answers.Mode.{Mode}
use Rattle.fs_model.specs.declared.backing_answers.Mode.TheVariants.{ReadWrite}
use Rattle.fs_model.specs.declared.op.Op.TheVariants.{Fsync, Flush}
use Rattle.fs_model.specs.Backing.{BackingState}
use Rattle.buffered_files.specs.declared.kept.Kept.{Kept}
use Rattle.buffered_files.specs.Present.{dirty_of_others}
use Rattle.vfs_ops.specs.Kinds.{KeepsOthers}
use Rattle.vfs_ops.specs.Operations.{is_of_names}
use Rattle.vfs_ops.specs.Steps.{IsIdle}

pub names_leave : (before after : Kept) (caller : ℕ) (op : Op) → is_of_names op ≡ true → KeepsOthers before after caller op
names_leave before after caller (Fsync slot) is = absurd (false≢true is)
names_leave before after caller op is = tt

pub others_on : (before after : Kept) (caller : ℕ) (op other : Op) → op ≡ other → KeepsOthers before after caller other → KeepsOthers before after caller op
others_on before after caller op other e h = subst (λ (o : Op). KeepsOthers before after caller o) (sym e) h

pub same_leave : (before after : Kept) (caller : ℕ) (op : Op) → after ≡ before → KeepsOthers before after caller op
same_leave before after caller (Fsync slot) same = λ ino found. ap (λ (k : Kept). dirty_of_others k.pages.dirty ino) same
same_leave before after caller op same = tt

-- a store that isn't read-only
pub not_closed : {P : Type 0} {A : Type 0} (o : Option A) → o ≡ None → IsSome o → P
not_closed None e some = absurd (false≢true some)
not_closed (Some x) e some = absurd cc

-- what isn't a sync doesn't sync a read-only store
pub names_idle : (old new : BackingState) (before after : Kept) (op : Op) → is_of_names op ≡ true → IsIdle old new before after op
names_idle old new before after (Fsync slot) is = absurd (false≢true is)
names_idle old new before after Flush is = absurd (false≢true is)
names_idle old new before after op is = λ sync closed. absurd (false≢true sync)

pub idle_on : (old new : BackingState) (before after : Kept) (op other : Op) → op ≡ other → IsIdle old new before after other → IsIdle old new before after op
idle_on old new before after op other e h = subst (λ (o : Op). IsIdle old new before after o) (sym e) h

-- and one that can be written isn't read-only
pub open_idle : (old new : BackingState) (before after : Kept) (op : Op) (mode : Mode) → mode ≡ old.mode → mode ≡ ReadWrite → IsIdle old new before after op
open_idle old new before after op mode told is = λ sync closed. absurd (closed (sym told ∙ is))
