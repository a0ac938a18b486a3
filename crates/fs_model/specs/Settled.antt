-- Which stores may be written: what is promised fits, and a commit always has LEBs to write its index to.
use Rattle.std.specs.Prelude.{ℕ, ◌+◌, ◌-◌, ◌*◌, ◌≤◌, nat_le, if◌then◌else◌, Option, Some, None}
use Rattle.std.specs.Option.{option_or}
use Rattle.ubifs_base.specs.declared.raw_geometry.RawGeometry.{RawGeometry}
use Rattle.ubifs_base.specs.Geometry.{leb_reserve}
use Rattle.fs_model.specs.declared.space.Space.{Space}
use Rattle.fs_model.specs.declared.space.Need.{Need}
use Rattle.fs_model.specs.declared.space.Class.TheVariants.{Removal}
use Rattle.fs_model.specs.declared.refusal.Cause.{Cause}
use Rattle.fs_model.specs.declared.refusal.Cause.TheVariants.{Tight}
use Rattle.fs_model.specs.declared.refusal.Scarce.{Scarce}
use Rattle.fs_model.specs.declared.refusal.Scarce.TheVariants as scarce
use Rattle.fs_model.specs.Cover.{index_lebs, index_room, reserve, needed, room_for}

-- asking for nothing, with the reserve of removals
abbrev pub nothing : Need
nothing = record { credits = 0; bytes = 0; nodes = 0; class = Removal }

-- what is used and what was granted have room, beside the index that they may lead to
pub record IsCovered (geo : RawGeometry) (space : Space) : Type 0 where
  pub fits : needed space nothing ≤ room_for geo space nothing

-- one more empty LEB than the index takes, and with the LEBs of the index one more than it takes three times
pub record IsSettled (geo : RawGeometry) (space : Space) : Type 0 where
  pub empty : 1 + index_lebs geo space.weight ≤ space.empty
  pub index : 1 + 3 * index_lebs geo space.weight ≤ space.empty + space.index

-- what leaves may take where nothing is granted, in bytes
abbrev pub leaf_room : RawGeometry → Space → ℕ
leaf_room geo space = (space.main - index_room geo space.index space.weight - reserve Removal) * (geo.leb_size - leb_reserve geo)

-- none where what is needed has room, else what there is too little of
abbrev pub cause_of : Scarce → ℕ → ℕ → Option Cause
cause_of what need room = if nat_le need room then None else Some (Tight what need room)

-- why a store may only be read: the first of three tests that fails, on bytes, on empty LEBs, and on LEBs that are empty or the index's
abbrev pub settled : RawGeometry → Space → Option Cause
settled geo space =
    option_or (cause_of scarce.Space (space.used + space.held) (leaf_room geo space))
    (option_or (cause_of scarce.Empty (1 + index_lebs geo space.weight) space.empty)
    (cause_of scarce.Index (1 + 3 * index_lebs geo space.weight) (space.empty + space.index)))
