-- R5, the hash of names. Numbers have 32 bits, and a byte is a signed number.
use Rattle.std.specs.Prelude.{ℕ, ◌+◌, ◌-◌, ◌*◌, ◌/◌, ◌%◌, ◌^◌, nat_lt, nat_le, if◌then◌else◌, List, [], ◌∷◌}

-- a byte as a signed number, in 32 bits
abbrev pub signed : ℕ → ℕ
signed byte = if nat_lt byte 128 then byte else byte + (2 ^ 32 - 256)

-- a sixteenth of that signed number, rounded down, in 32 bits
abbrev pub signed_sixteenth : ℕ → ℕ
signed_sixteenth byte = if nat_lt byte 128 then byte / 16 else byte / 16 + (2 ^ 32 - 16)

-- the hash goes on by a byte
abbrev pub r5_step : ℕ → ℕ → ℕ
r5_step hash byte = (hash + 16 * signed byte + signed_sixteenth byte) * 11 % 2 ^ 32

-- and by each byte of a list
abbrev pub r5_from : ℕ → List ℕ → ℕ
r5_from hash [] = hash
r5_from hash (byte ∷ bytes) = r5_from (r5_step hash byte) bytes

-- the lowest 29 bits; 0, 1 and 2 are kept free
unfoldable pub r5_of : List ℕ → ℕ
r5_of name =
    let masked = r5_from 0 name % 2 ^ 29 in
    if nat_le masked 2 then masked + 3 else masked
