-- Clean nodes of a row that stand on a volume.
use Rattle.std.specs.Prelude.{◌<◌}
use Rattle.index_media.specs.KeyedRow.{KeyedRow}
use Rattle.index_media.specs.Standing.{AreStandingAs}
use Rattle.ubi_volume.specs.Volume.{VolumeState}

-- each clean node of a row stands on a volume, with all that is below it
abbrev pub IsOnVolume : VolumeState → KeyedRow → Type 0
IsOnVolume state row = AreStandingAs state.holds (λ place sqnum group. place.lnum < state.leb_cnt) row
