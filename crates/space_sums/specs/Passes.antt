-- What a whole collection of a LEB does to the numbers of LEBs and of bytes.
use Rattle.std.specs.Prelude.{ℕ, ◌+◌, ◌-◌, ◌*◌, ◌/◌, nat_le, if◌then◌else◌, List, fold}
use Rattle.ubifs_base.specs.declared.raw_geometry.RawGeometry.{RawGeometry}

-- how many LEBs are empty, and how many bytes the LEB of the collector's head has left, none if it has no LEB
pub record Copies : Type 0 where
  pub empty : ℕ
  pub room : ℕ

-- A node of so many bytes is copied: behind the last one, or to an empty LEB if the head's LEB hasn't so many left. What that one has left is wasted.
abbrev pub copied : RawGeometry → Copies → ℕ → Copies
copied geo at bytes =
    if nat_le bytes at.room then record at { room = at.room - bytes }
    else record { empty = at.empty - 1; room = geo.leb_size - bytes }

-- the head's last unit is filled, as by a sync
abbrev pub unit_filled : RawGeometry → Copies → Copies
unit_filled geo at = record at { room = at.room / geo.min_io * geo.min_io }

-- a whole collection: the live nodes of the victim, of so many bytes each, are copied and synced, and the victim is empty
abbrev pub collected : RawGeometry → Copies → List ℕ → Copies
collected geo at nodes =
    let end = unit_filled geo (fold (copied geo) at nodes) in
    record end { empty = end.empty + 1 }
