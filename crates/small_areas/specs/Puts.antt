-- Bytes that are written at a place of a LEB, or else in place of all of it.
use Rattle.std.specs.Prelude.{ℕ, List, length, Option, Some, None}
use Rattle.ubi_volume.specs.Volume.{VolumeState, IsWritten, IsChanged, ChangeUnderWay, WriteUnderWay}

-- they were
abbrev pub IsPut : VolumeState → VolumeState → ℕ → List ℕ → Option ℕ → Type 0
IsPut old new lnum bytes (Some offs) = IsWritten old new lnum offs bytes
IsPut old new lnum bytes None = IsChanged old new lnum bytes

-- what a cut leaves while they are
abbrev pub PutUnderWay : VolumeState → ℕ → List ℕ → Option ℕ → List ℕ → Type 0
PutUnderWay old lnum bytes (Some offs) left = WriteUnderWay old lnum offs (length bytes) left
PutUnderWay old lnum bytes None left = ChangeUnderWay old lnum bytes left
