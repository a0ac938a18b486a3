-- What a cut with a pattern leaves of a volume in memory. The pattern is read in base 4.
use Rattle.std.specs.Prelude.{◌≡◌, ℕ, zero, suc, ◌+◌, ◌-◌, ◌/◌, ◌%◌, ◌==◌, if◌then◌else◌, List, ◌++◌, length, take, drop, replicate, Option, Some, None}
use Rattle.std.specs.Option.{unwrap_or}
use Rattle.ubi_volume.specs.Volume.{put}
use Rattle.ubi_volume.specs.Lebs.{LebView}
use Rattle.ubi_volume.specs.Loading.{IsWrittenPart}

-- what the lowest digit makes of the unit under way: old, new, zero bytes, or new in its first half and 255 in the rest
unfoldable pub unit_left : ℕ → List ℕ → List ℕ → List ℕ
unit_left digit old new =
    if digit == 0 then old
    else (if digit == 1 then new
    else (if digit == 2 then replicate (length new) 0
    else take (length new / 2) new ++ replicate (length new - length new / 2) 255))

-- A write of these bytes at this offset, where a cut falls into the unit behind n of them: these are new, that unit is by the
-- digit, and what is behind it is old.
unfoldable pub write_left : ℕ → ℕ → ℕ → ℕ → List ℕ → List ℕ → List ℕ
write_left unit n digit offs bytes old =
    let begun = put offs (take n bytes) old in
    put (offs + n) (unit_left digit (take unit (drop (offs + n) begun)) (take unit (drop n bytes))) begun

-- a LEB with an unmapping that may be undone takes a digit
abbrev pub digits_behind : ℕ → Option (List ℕ) → ℕ
digits_behind digits None = digits
digits_behind digits (Some before) = digits / 4

-- the digits that are left when the turn of a LEB comes, in order of LEB, the lowest for it
unfoldable pub digits_at : ℕ → (ℕ → LebView) → ℕ → ℕ
digits_at digits lebs zero = digits
digits_at digits lebs (suc k) = digits_behind (digits_at digits lebs k) (lebs k).pending

-- what a cut leaves of a LEB: an unmapping that may be undone stays where the digit is 0, else it is undone
abbrev pub left_in : ℕ → LebView → List ℕ
left_in digit leb = if digit == 0 then leb.bytes else unwrap_or leb.pending leb.bytes

-- a cut with these digits left this of a LEB, and nothing else
pub record IsSettled (unit digits : ℕ) (old new : LebView) : Type 0 where
  pub holds : new.bytes ≡ left_in (digits % 4) old
  pub written : IsWrittenPart unit new.bytes new.written
  pub final : new.pending ≡ None
