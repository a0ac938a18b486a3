-- What is put for an operation.
use Rattle.std.specs.Prelude.{◌≡◌, ℕ, List}
use Rattle.fs_model.specs.declared.change.Change.{Change}
use Rattle.fs_model.specs.declared.op.Op.{Op}
use Rattle.fs_model.specs.declared.space.Need.{Need}
use Rattle.fs_model.specs.Files.{Tree, Handles}
use Rattle.fs_model.specs.Need.{need_of}
use Rattle.fs_model.specs.Operation.{group_of}
use Rattle.fs_laws.specs.Sound.{IsSound, IsMoment, IsCall}

-- a need and a group that are those of an operation
pub record IsAsked (tree : Tree) (need : Need) (group : List Change) : Type 0 where
  pub handles : Handles
  pub caller : ℕ
  pub now : ℕ
  pub op : Op
  pub sound : IsSound (record { tree = tree; handles = handles })
  pub moment : IsMoment now
  pub call : IsCall op
  pub need_is : need ≡ need_of (record { tree = tree; handles = handles }) caller now op
  pub group_is : group ≡ group_of (record { tree = tree; handles = handles }) caller now op
