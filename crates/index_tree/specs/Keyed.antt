-- Leaves whose keys are keys: a block and a hash have 29 bits.
use Rattle.std.specs.Prelude.{List, All}
use Rattle.std.proofs.Props.{props}
use Rattle.ubifs_base.specs.declared.key.Key.{Key}
use Rattle.ubifs_base.specs.declared.key.Key.TheVariants.{Ino, Block, Dent, Xent}
use Rattle.ubifs_base.specs.Key.{IsKey}
use Rattle.index_tree.specs.declared.leaf.Leaf.{Leaf}

-- the leaf's key is one
abbrev pub HasKey : Leaf → Type 0
HasKey x = IsKey x.key

-- each leaf's key is one
abbrev pub HaveKeys : List Leaf → Type 0
HaveKeys xs = All HasKey xs

-- a key is one in one way at most
key-prop : (key : Key) → IsProp (IsKey key)
key-prop (Ino ino) = hlevel props
key-prop (Block ino block) = hlevel props
key-prop (Dent dir hash) = hlevel props
key-prop (Xent ino hash) = hlevel props

pub have_keys-prop : (xs : List Leaf) → IsProp (HaveKeys xs)
have_keys-prop xs = hlevel (props, key-prop)
