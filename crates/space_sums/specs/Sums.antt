-- Which numbers the sums take.
pub use Rattle.fs_model.specs.Backing.{IsSmall, IsModest}
