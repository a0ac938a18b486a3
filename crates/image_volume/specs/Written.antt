-- How far a LEB of an image counts as written, computed.
use Rattle.std.specs.Prelude.{ℕ, suc, zero, ◌+◌, ◌-◌, ◌*◌, ◌/◌, ◌==◌, if◌then◌else◌, List, [], ◌∷◌}

-- the length with one byte more in front: 0 as long as all are erased
abbrev pub longer : ℕ → ℕ → ℕ
longer byte zero = if byte == 255 then 0 else 1
longer byte (suc len) = suc (suc len)

-- how many bytes stand up to the last one that isn't erased
abbrev pub used_len : List ℕ → ℕ
used_len [] = 0
used_len (byte ∷ bytes) = longer byte (used_len bytes)

-- the end of the unit in which that one stands
abbrev pub written_end : ℕ → List ℕ → ℕ
written_end unit bytes = (used_len bytes + (unit - 1)) / unit * unit
