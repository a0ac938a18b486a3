-- The keys of a row that is kept while it is changed: they ascend, and what is below a branch lies between its key and the next one's.
use Rattle.std.specs.Prelude.{ℕ, ◌≤◌, Option, Some, ⊤}
use Rattle.index_tree.specs.Order.{key_rank, leaf_rank}
use Rattle.index_media.specs.KeyedRow.{KeyedRow, no_more, leaf_in, node_in}
use Rattle.index_media.specs.Keys.{IsAtMost}

-- what bounds the keys in front of a row: its first key, or what bounds the row where it has none
abbrev pub key_before : KeyedRow → Option ℕ → Option ℕ
key_before no_more most = most
key_before (leaf_in x rest) most = Some (leaf_rank x)
key_before (node_in key place children rest) most = Some (key_rank key)

-- the keys of a row ascend from the least to the most, and those below a branch from its key to the next one's
abbrev pub AreKeysBounded : ℕ → Option ℕ → KeyedRow → Type 0
AreKeysBounded least most no_more = ⊤
AreKeysBounded least most (leaf_in x rest) = (least ≤ leaf_rank x) × IsAtMost (leaf_rank x) most × AreKeysBounded (leaf_rank x) most rest
AreKeysBounded least most (node_in key place children rest) =
    (least ≤ key_rank key) × IsAtMost (key_rank key) most
    × AreKeysBounded (key_rank key) (key_before rest most) children
    × AreKeysBounded (key_rank key) most rest
