-- What an operation's group has of its changes.
use Rattle.std.specs.Prelude.{◌≡◌, ℕ}
use Rattle.fs_model.specs.declared.op.Op.{Op}
use Rattle.fs_model.specs.declared.op.Op.TheVariants.{Write, Close}
use Rattle.fs_model.specs.Change.{apply}
use Rattle.fs_model.specs.Files.{Files}
use Rattle.fs_model.specs.Operation.{outcome_of, files_in, group_of}

-- an operation whose changes are one group: any but a write, whose pages are put one by one, and a close, after which an orphan goes without a node
abbrev pub IsGrouped : Op → Type 0
IsGrouped (Write slot offs len byte) = ⊥
IsGrouped (Close slot) = ⊥
IsGrouped op = Unit {0}

-- the tree is then what the group makes of it
abbrev pub GroupMakes : Files → ℕ → ℕ → Op → Type 0
GroupMakes files caller now op = IsGrouped op → (files_in files (outcome_of files caller now op)).tree ≡ apply files.tree (group_of files caller now op)
