-- Bytes that stand in a word by themselves, and hex digits for the others.
use Rattle.std.specs.Prelude.{ℕ, ◌+◌, ◌==◌, ◌&&◌, Bool, not, nat_lt, if◌then◌else◌}

-- a lower-case hex digit
abbrev pub hex_digit : ℕ → ℕ
hex_digit n = if nat_lt n 10 then 48 + n else 87 + n

-- printable ASCII other than the space and `%`
abbrev pub is_printable : ℕ → Bool
is_printable byte = nat_lt 32 byte && nat_lt byte 127 && not (byte == 37)
