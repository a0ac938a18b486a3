-- What an insertion makes of an index whose branches have keys: it goes by these, and not by first leaves.
use Rattle.std.specs.Prelude.{ℕ, ◌+◌, ◌-◌, ◌==◌, nat_le, nat_lt, Bool, false, if◌then◌else◌, None}
use Rattle.ubifs_base.specs.declared.key.Key.{Key}
use Rattle.index_tree.specs.Order.{key_rank, leaf_rank}
use Rattle.index_tree.specs.Shape.{count, lone, left_half}
use Rattle.index_tree.specs.declared.leaf.Leaf.{Leaf}
use Rattle.index_media.specs.KeyedRow.{KeyedRow, no_more, leaf_in, node_in, bare}

-- whether the row's first key is of this rank or a lower one
abbrev pub starts_by : ℕ → KeyedRow → Bool
starts_by rank no_more = false
starts_by rank (leaf_in x rest) = nat_le (leaf_rank x) rank
starts_by rank (node_in key place children rest) = nat_le (key_rank key) rank

-- the row's first key, or this one where it has none
abbrev pub first_key : Key → KeyedRow → Key
first_key key no_more = key
first_key key (leaf_in x rest) = x.key
first_key key (node_in own place children rest) = own

-- the first n of a row
abbrev pub keyed_front : ℕ → KeyedRow → KeyedRow
keyed_front n no_more = no_more
keyed_front n (leaf_in x rest) = if n == 0 then no_more else leaf_in x (keyed_front (n - 1) rest)
keyed_front n (node_in key place children rest) = if n == 0 then no_more else node_in key place children (keyed_front (n - 1) rest)

-- the row behind its first n
abbrev pub keyed_back : ℕ → KeyedRow → KeyedRow
keyed_back n no_more = no_more
keyed_back n (leaf_in x rest) = if n == 0 then leaf_in x rest else keyed_back (n - 1) rest
keyed_back n (node_in key place children rest) = if n == 0 then node_in key place children rest else keyed_back (n - 1) rest

-- a dirty node before the row; one with more than fanout children splits in halves, the right one with its first key
unfoldable pub keyed_parted : ℕ → Key → KeyedRow → KeyedRow → KeyedRow
keyed_parted fanout key children rest =
    if nat_le (fanout + 1) (count (bare children))
    then node_in key None (keyed_front (left_half fanout) children)
    (node_in (first_key key (keyed_back (left_half fanout) children)) None (keyed_back (left_half fanout) children) rest)
    else node_in key None children rest

-- the key of a branch below which a leaf comes: a lower leaf's key takes its place
abbrev pub lowered : Leaf → Key → Key
lowered new key = if nat_lt (leaf_rank new) (key_rank key) then new.key else key

-- a row with one more leaf: in the last node whose branch's key isn't greater, or in the first one, and there after all
-- leaves whose key isn't greater. The nodes on its way are dirty, and all others as before
abbrev pub inserted_by_keys : ℕ → Leaf → KeyedRow → KeyedRow
inserted_by_keys fanout new no_more = leaf_in new no_more
inserted_by_keys fanout new (leaf_in x rest) =
    if nat_le (leaf_rank x) (leaf_rank new) then leaf_in x (inserted_by_keys fanout new rest) else leaf_in new (leaf_in x rest)
inserted_by_keys fanout new (node_in key place children rest) =
    if starts_by (leaf_rank new) rest then node_in key place children (inserted_by_keys fanout new rest)
    else keyed_parted fanout (lowered new key) (inserted_by_keys fanout new children) rest

-- the shape with one more leaf; a row that isn't one node alone gets a new root
unfoldable pub with_leaf_by_keys : ℕ → Leaf → KeyedRow → KeyedRow
with_leaf_by_keys fanout new row =
    let made = inserted_by_keys fanout new row in
    if lone (bare made) then made else node_in (first_key new.key made) None made no_more
