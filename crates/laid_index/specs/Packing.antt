-- How many nodes an index of so many leaves has, how long they are, and how many LEBs take them one behind another.
use Rattle.std.specs.Prelude.{ℕ, zero, suc, ◌+◌, ◌*◌, ◌/◌, ◌%◌, ◌==◌, nat_le, if◌then◌else◌, List, [], ◌∷◌, ◌++◌, replicate}
use Rattle.std.specs.Int.{div_ceil}
use Rattle.ubifs_base.specs.declared.raw_geometry.RawGeometry.{RawGeometry}
use Rattle.index_media.specs.PlacedRow.{node_end}

-- the bytes of an index node with so many children
abbrev pub len_over : ℕ → ℕ
len_over children = 28 + 20 * children

-- the lengths of the nodes over so many siblings: each is full but for the last
abbrev pub level_lens : ℕ → ℕ → List ℕ
level_lens fanout n = replicate (n / fanout) (len_over fanout) ++ (if n % fanout == 0 then [] else len_over (n % fanout) ∷ [])

-- the lengths of the nodes over so many siblings and of all above them, of so many levels at most
unfoldable pub lens_above : ℕ → ℕ → ℕ → List ℕ
lens_above zero fanout n = []
lens_above (suc levels) fanout n = level_lens fanout n ++ (if nat_le n fanout then [] else lens_above levels fanout (div_ceil n fanout))

-- the lengths of the nodes of an index of so many leaves, level by level from the lowest on
abbrev pub index_lens : ℕ → ℕ → List ℕ
index_lens fanout leaves = lens_above leaves fanout leaves

-- what nodes of these lengths weigh: each counts once, and a full one twice
abbrev pub lens_weight : ℕ → List ℕ → ℕ
lens_weight fanout [] = 0
lens_weight fanout (len ∷ lens) = (if nat_le (len_over fanout) len then 2 else 1) + lens_weight fanout lens

-- what an index of so many leaves weighs
abbrev pub index_weight : ℕ → ℕ → ℕ
index_weight fanout leaves = lens_weight fanout (index_lens fanout leaves)

-- How many bytes are taken of each LEB, if nodes of these lengths stand one behind another, each at a multiple of 8 and in the next LEB
-- where it doesn't fit. Of the first LEB so many bytes are taken before
unfoldable pub packed : ℕ → ℕ → List ℕ → List ℕ
packed leb_size taken [] = taken ∷ []
packed leb_size taken (len ∷ lens) =
    if nat_le (taken + len) leb_size then packed leb_size (taken + node_end len) lens
    else taken ∷ packed leb_size (node_end len) lens

-- the bytes that the nodes of an index of so many leaves take of each of its LEBs
abbrev pub index_used : RawGeometry → ℕ → List ℕ
index_used geo leaves = packed geo.leb_size 0 (index_lens geo.fanout leaves)
