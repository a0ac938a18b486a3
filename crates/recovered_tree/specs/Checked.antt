-- What a check tells, for whoever reads an image's files once it was checked.
pub use Rattle.sound_check.specs.Reads.{told_of}
pub use Rattle.sound_check.specs.Shape.{HasShapeOfImage}
pub use Rattle.sound_check.specs.declared.sound.Sound.{Sound}
