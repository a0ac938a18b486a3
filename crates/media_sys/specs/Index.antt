-- Index nodes: branches in the order of their keys.
use Rattle.std.specs.Prelude.{ℕ, zero, suc, ◌+◌, ◌*◌, ◌≤◌, ◌==◌, ◌&&◌, ◌||◌, nat_lt, nat_le, Bool, true, false, IsTrue, List, [], ◌∷◌, length, drop, Option, Some, None, is_some, unwrap_or}
use Rattle.std.specs.List.{flat_map, AllByRecursion}
use Rattle.byteorder.specs.Endian.{little_number}
use Rattle.ubifs_base.specs.Key.{key_words, key_of, IsKey}
use Rattle.ubifs_base.specs.declared.key.Key.{Key}
use Rattle.ubifs_base.specs.declared.key.Key.TheVariants.{Ino, Block, Dent, Xent}
use Rattle.node_fields.specs.Fields.{Field, number}
use Rattle.media_sys.specs.declared.branch.Branch.{Branch}
use Rattle.media_sys.specs.declared.idx_node.IdxNode.{IdxNode}

-- what an index node says: its level, 0 over leaves, and its branches
pub record Index : Type 0 where
  pub level : ℕ
  pub branches : List Branch

-- what this one says
abbrev pub index_of : IdxNode → Index
index_of node = record { level = node.level; branches = node.branches.items }

-- whether a key is that of a directory entry or an extended entry, of which several may be equal
abbrev pub is_entry : Key → Bool
is_entry (Ino ino) = false
is_entry (Block ino block) = false
is_entry (Dent dir hash) = true
is_entry (Xent ino hash) = true

-- whether a key may stand behind the one before it: it is greater by its first word, then its second, or the same key of an entry
abbrev pub may_follow : Option Key → Key → Bool
may_follow None key = true
may_follow (Some before) key =
    let a = key_words before in
    let b = key_words key in
    nat_lt a.0 b.0 || (a.0 == b.0 && (nat_lt a.1 b.1 || (a.1 == b.1 && is_entry key)))

-- whether each key may stand behind the one before it
abbrev pub in_order : Option Key → List Branch → Bool
in_order before [] = true
in_order before (branch ∷ rest) = may_follow before branch.key && in_order (Some branch.key) rest

-- what an index node may say
pub record IsIdxNode (node : Index) : Type 0 where
  pub some : 1 ≤ length node.branches
  pub most : length node.branches ≤ 256
  pub keys : AllByRecursion (λ branch. IsKey branch.key) node.branches
  pub order : IsTrue (in_order None node.branches)

-- a branch: the LEB, the offset, the length, and the key's two words
abbrev pub branch_fields : Branch → List Field
branch_fields branch =
    number 4 branch.lnum ∷ number 4 branch.offs ∷ number 4 branch.len ∷ number 4 (key_words branch.key).0 ∷ number 4 (key_words branch.key).1 ∷ []

-- after the header: the number of branches, the level, and the branches
abbrev pub index_fields : Index → List Field
index_fields node = number 2 (length node.branches) ∷ number 2 node.level ∷ flat_map branch_fields node.branches

-- the key at a place, if one stands there
abbrev pub key_at : ℕ → List ℕ → Key
key_at place body = unwrap_or (key_of (drop place body)) (Ino 0)

-- whether so many keys stand in a body, one every 20 bytes from a place on, and each may stand behind the one before it
unfoldable pub keys_follow : ℕ → Option Key → ℕ → List ℕ → Bool
keys_follow zero before place body = true
keys_follow (suc n) before place body =
    is_some (key_of (drop place body)) && (may_follow before (key_at place body) && keys_follow n (Some (key_at place body)) (place + 20) body)

-- the branch at a place
unfoldable pub branch_at : ℕ → List ℕ → Branch
branch_at place body = record {
  lnum = little_number 4 (drop place body);
  offs = little_number 4 (drop (place + 4) body);
  len = little_number 4 (drop (place + 8) body);
  key = key_at (place + 12) body;
}

-- so many branches, from a place on
unfoldable pub branches_at : ℕ → ℕ → List ℕ → List Branch
branches_at zero place body = []
branches_at (suc n) place body = branch_at place body ∷ branches_at n (place + 20) body

-- whether a body of this type is that of an index node
unfoldable pub is_index : ℕ → List ℕ → Bool
is_index kind body =
    let count = little_number 2 body in
    kind == 9 && (nat_le 4 (length body) && (nat_le 1 count && (nat_le count 256 && (length body == 4 + 20 * count && keys_follow count None 16 body))))

-- and which
unfoldable pub index_at : List ℕ → Index
index_at body = record { level = little_number 2 (drop 2 body); branches = branches_at (little_number 2 body) 4 body }
