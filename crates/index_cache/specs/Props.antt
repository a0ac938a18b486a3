-- What an index says of its root is so in one way at most.
use Rattle.std.specs.Prelude.{ℕ, List, Option, None, Some}
use Rattle.std.proofs.Props.{props}
use Rattle.ubifs_base.specs.declared.key.Key.{Key}
use Rattle.ubifs_base.specs.declared.key.Key.TheVariants.{Ino, Block, Dent, Xent}
use Rattle.ubifs_base.specs.Key.{IsKey}
use Rattle.index_tree.specs.Order.{key_rank, leaf_rank}
use Rattle.index_media.specs.InsertionSound.{AreKeys}
use Rattle.index_media.specs.KeyedKeys.{key_before, AreKeysBounded}
use Rattle.index_media.specs.KeyedRow.{KeyedRow, no_more, leaf_in, node_in}
use Rattle.index_media.specs.Keys.{IsAtMost}
use Rattle.table_nodes.specs.NodeView.{IsRootIn}
use Rattle.table_nodes.specs.declared.node.Root.{Root}
use Rattle.table_nodes.specs.declared.node.TableNode.{TableNode}

pub root_in-prop : (nodes : List TableNode) (root : Option Root) → IsProp (IsRootIn nodes root)
root_in-prop nodes None = hlevel props
root_in-prop nodes (Some root) = hlevel props

key-prop : (key : Key) → IsProp (IsKey key)
key-prop (Ino ino) = hlevel props
key-prop (Block ino block) = hlevel props
key-prop (Dent dir hash) = hlevel props
key-prop (Xent ino hash) = hlevel props

pub keys-prop : (row : KeyedRow) → IsProp (AreKeys row)
keys-prop no_more = hlevel props
keys-prop (leaf_in x rest) = let own = key-prop x.key in let others = keys-prop rest in hlevel (props, own, others)
keys-prop (node_in key place children rest) =
    let own = key-prop key in let below = keys-prop children in let others = keys-prop rest in hlevel (props, own, below, others)

most-prop : (rank : ℕ) (most : Option ℕ) → IsProp (IsAtMost rank most)
most-prop rank None = hlevel props
most-prop rank (Some most) = hlevel props

pub bounded-prop : (least : ℕ) (most : Option ℕ) (row : KeyedRow) → IsProp (AreKeysBounded least most row)
bounded-prop least most no_more = hlevel props
bounded-prop least most (leaf_in x rest) =
    let own = most-prop (leaf_rank x) most in let others = bounded-prop (leaf_rank x) most rest in hlevel (props, own, others)
bounded-prop least most (node_in key place children rest) =
    let own = most-prop (key_rank key) most in
    let below = bounded-prop (key_rank key) (key_before rest most) children in
    let others = bounded-prop (key_rank key) most rest in
    hlevel (props, own, below, others)
