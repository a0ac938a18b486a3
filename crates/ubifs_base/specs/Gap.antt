-- What fills a gap between nodes.
use Rattle.std.specs.Prelude.{ℕ, ◌-◌, nat_lt, if◌then◌else◌, List, [], ◌∷◌, ◌++◌, replicate}
use Rattle.byteorder.specs.Endian.{little_bytes}
use Rattle.ubifs_base.specs.Node.{node_bytes}

-- a padding node, of 28 bytes, which announces so many bytes behind it
abbrev pub padding_node : ℕ → List ℕ
padding_node pad_len = node_bytes 0 5 0 (0 ∷ 0 ∷ []) (little_bytes 4 pad_len)

-- a gap of n bytes: 0xCE where a padding node has no room, else a padding node and zeros
unfoldable pub gap_of : ℕ → List ℕ
gap_of n = if nat_lt n 28 then replicate n 0xCE else padding_node (n - 28) ++ replicate (n - 28) 0
