-- Indexes whose nodes have their keys in order.
use Rattle.std.specs.Prelude.{◌≡◌, true, None, Result, Ok, Err, ⊤}
use Rattle.index_media.specs.Clean.{placed_of}
use Rattle.index_media.specs.KeyedRow.{KeyedRow, no_more, leaf_in, node_in}
use Rattle.index_media.specs.PlacedRow.{branches_of}
use Rattle.media_sys.specs.Index.{in_order}
use Rattle.index_commit.specs.declared.index_fault.IndexFault.{IndexFault}
use Rattle.index_commit.specs.declared.index_fault.IndexFault.TheVariants.{Memory, Full, EqualKeys, Volume}

-- in each node of a row the keys of branches ascend, but that several may be one that is an entry's
abbrev pub AreKeysInOrder : KeyedRow → Type 0
AreKeysInOrder no_more = ⊤
AreKeysInOrder (leaf_in x rest) = AreKeysInOrder rest
AreKeysInOrder (node_in key place children rest) = (in_order None (branches_of (placed_of children)) ≡ true) × AreKeysInOrder children × AreKeysInOrder rest

-- the call didn't answer that two branches of a node have one key
abbrev pub IsNotEqualKeys : {T : Type 0} → Result T IndexFault → Type 0
IsNotEqualKeys (Ok x) = ⊤
IsNotEqualKeys (Err Memory) = ⊤
IsNotEqualKeys (Err (Full need given)) = ⊤
IsNotEqualKeys (Err EqualKeys) = ⊥
IsNotEqualKeys (Err (Volume count)) = ⊤
