-- Orphan nodes: inodes that are open and have no name.
use Rattle.std.specs.Prelude.{ℕ, zero, suc, ◌+◌, ◌-◌, ◌*◌, ◌/◌, ◌%◌, ◌^◌, ◌<◌, ◌==◌, ◌&&◌, nat_lt, nat_le, if◌then◌else◌, Bool, true, List, [], ◌∷◌, length, drop}
use Rattle.std.specs.List.{flat_map, AllByRecursion}
use Rattle.byteorder.specs.Endian.{little_number}
use Rattle.node_fields.specs.Fields.{Field, number}
use Rattle.media_sys.specs.declared.orph_node.OrphNode.{OrphNode}

-- what an orphan node says: the commit, whether it is the last node of that commit, and inode numbers
pub record Orphans : Type 0 where
  pub cmt_no : ℕ
  pub last : Bool
  pub inos : List ℕ

-- what this one says
abbrev pub orphans_of : OrphNode → Orphans
orphans_of node = record { cmt_no = node.cmt_no; last = node.last; inos = node.inos.items }

-- what an orphan node may say: a commit's number has 63 bits and an inode's 32, and the node's length has 32
pub record IsOrphNode (node : Orphans) : Type 0 where
  pub cmt_fits : node.cmt_no < 2 ^ 63
  pub inos_fit : AllByRecursion (λ ino. ino < 2 ^ 32) node.inos
  pub most : 32 + 8 * length node.inos < 2 ^ 32

-- an inode number
abbrev pub ino_fields : ℕ → List Field
ino_fields ino = number 8 ino ∷ []

-- after the header: the commit's number, below the bit that says whether it is the last, and the inode numbers
abbrev pub orphan_fields : Orphans → List Field
orphan_fields node = number 8 (node.cmt_no + (if node.last then 2 ^ 63 else 0)) ∷ flat_map ino_fields node.inos

-- whether so many inode numbers stand in a body, one every 8 bytes from a place on
unfoldable pub inos_fit : ℕ → ℕ → List ℕ → Bool
inos_fit zero place body = true
inos_fit (suc n) place body = nat_lt (little_number 8 (drop place body)) (2 ^ 32) && inos_fit n (place + 8) body

-- so many inode numbers, from a place on
unfoldable pub inos_at : ℕ → ℕ → List ℕ → List ℕ
inos_at zero place body = []
inos_at (suc n) place body = little_number 8 (drop place body) ∷ inos_at n (place + 8) body

-- whether a body of this type is that of an orphan node
unfoldable pub is_orphans : ℕ → List ℕ → Bool
is_orphans kind body =
    kind == 11 && (nat_le 8 (length body) && (nat_lt (24 + length body) (2 ^ 32) && (length body % 8 == 0 && inos_fit ((length body - 8) / 8) 8 body)))

-- and which
unfoldable pub orphans_at : List ℕ → Orphans
orphans_at body =
    let word = little_number 8 body in
    record { cmt_no = word % 2 ^ 63; last = word / 2 ^ 63 == 1; inos = inos_at ((length body - 8) / 8) 8 body }
