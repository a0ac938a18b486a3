-- What contracts see of a caller's stock, and which files differ in credits alone.
use Rattle.std.specs.Prelude.{◌≡◌, ℕ, Bool}
use Rattle.atomic_table.specs.Seated.{TableId}
use Rattle.vfs_ops.specs.FilesState.{FilesState}

-- a stock: its pool, whose it is, how many credits it holds, and whether it has a seat at the pool
pub record StockState : Type 0 where
  pub pool : TableId
  pub caller : ℕ
  pub held : ℕ
  pub seated : Bool

-- other credits are covered, and all else is as it was, but for the grant that the last admission left
abbrev pub HasOtherCredits : FilesState → FilesState → Type 0
HasOtherCredits old new =
    new ≡ record old { backing = record old.backing { space = record old.backing.space { credits = new.backing.space.credits }; grant = new.backing.grant } }
