-- The numbers of the types of nodes (ubifs-media.h).
use Rattle.std.proofs.Common.{refl}
use Rattle.std.specs.Prelude.{◌≡◌, ℕ, ◌==◌, if◌then◌else◌, Option, Some, None}
use Rattle.ubifs_base.specs.declared.node_type.NodeType.{NodeType}
use Rattle.ubifs_base.specs.declared.node_type.NodeType.TheVariants.{Inode, Data, Entry, Attribute, Truncation, Padding, Superblock, Master, Reference, Index, CommitStart, Orphans}

-- the number in a header
abbrev pub type_number : NodeType → ℕ
type_number Inode = 0
type_number Data = 1
type_number Entry = 2
type_number Attribute = 3
type_number Truncation = 4
type_number Padding = 5
type_number Superblock = 6
type_number Master = 7
type_number Reference = 8
type_number Index = 9
type_number CommitStart = 10
type_number Orphans = 11

-- the type of a number, where one has it
abbrev pub type_numbered : ℕ → Option NodeType
type_numbered n =
    if n == 0 then Some Inode
    else if n == 1 then Some Data
    else if n == 2 then Some Entry
    else if n == 3 then Some Attribute
    else if n == 4 then Some Truncation
    else if n == 5 then Some Padding
    else if n == 6 then Some Superblock
    else if n == 7 then Some Master
    else if n == 8 then Some Reference
    else if n == 9 then Some Index
    else if n == 10 then Some CommitStart
    else if n == 11 then Some Orphans
    else None

-- a type is that of its number
pub type-numbered : (type : NodeType) → type_numbered (type_number type) ≡ Some type
type-numbered Inode = refl
type-numbered Data = refl
type-numbered Entry = refl
type-numbered Attribute = refl
type-numbered Truncation = refl
type-numbered Padding = refl
type-numbered Superblock = refl
type-numbered Master = refl
type-numbered Reference = refl
type-numbered Index = refl
type-numbered CommitStart = refl
type-numbered Orphans = refl
