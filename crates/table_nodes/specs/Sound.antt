-- What holds of each node of a table.
use Rattle.std.specs.Prelude.{◌≡◌, ℕ, true, List, All, Option, None, Some}
use Rattle.std.proofs.Props.{props}
use Rattle.ubifs_base.specs.declared.key.Key.{Key}
use Rattle.ubifs_base.specs.declared.key.Key.TheVariants.{Ino, Block, Dent, Xent}
use Rattle.ubifs_base.specs.Key.{IsKey}
use Rattle.index_tree.specs.Levels.{levelled}
use Rattle.index_tree.specs.Order.{key_rank, leaf_rank}
use Rattle.index_tree.specs.Shape.{node, done, fits}
use Rattle.index_media.specs.InsertionSound.{AreKeys}
use Rattle.index_media.specs.KeyedKeys.{key_before, AreKeysBounded}
use Rattle.index_media.specs.KeyedRow.{KeyedRow, no_more, leaf_in, node_in, bare}
use Rattle.index_media.specs.Keys.{IsAtMost}
use Rattle.table_nodes.specs.NodeView.{NodeView}

-- a node has 1 to fanout children, and so has each below it; leaves stand on the lowest level; keys ascend, and those
-- below a branch lie between its key and the next one's
abbrev pub IsSoundView : ℕ → NodeView → Type 0
IsSoundView fanout v =
    (fits fanout (node (bare v.children) done) ≡ true)
    × (levelled v.level (bare v.children) ≡ true)
    × AreKeysBounded 0 None v.children
    × AreKeys v.children

abbrev pub AreSoundViews : ℕ → List NodeView → Type 0
AreSoundViews fanout seen = All (λ v. IsSoundView fanout v) seen

-- each of these is so in one way at most
key-prop : (key : Key) → IsProp (IsKey key)
key-prop (Ino ino) = hlevel props
key-prop (Block ino block) = hlevel props
key-prop (Dent dir hash) = hlevel props
key-prop (Xent ino hash) = hlevel props

keys-prop : (row : KeyedRow) → IsProp (AreKeys row)
keys-prop no_more = hlevel props
keys-prop (leaf_in x rest) = let own = key-prop x.key in let others = keys-prop rest in hlevel (props, own, others)
keys-prop (node_in key place children rest) =
    let own = key-prop key in let below = keys-prop children in let others = keys-prop rest in hlevel (props, own, below, others)

most-prop : (rank : ℕ) (most : Option ℕ) → IsProp (IsAtMost rank most)
most-prop rank None = hlevel props
most-prop rank (Some most) = hlevel props

bounded-prop : (least : ℕ) (most : Option ℕ) (row : KeyedRow) → IsProp (AreKeysBounded least most row)
bounded-prop least most no_more = hlevel props
bounded-prop least most (leaf_in x rest) =
    let own = most-prop (leaf_rank x) most in let others = bounded-prop (leaf_rank x) most rest in hlevel (props, own, others)
bounded-prop least most (node_in key place children rest) =
    let own = most-prop (key_rank key) most in
    let below = bounded-prop (key_rank key) (key_before rest most) children in
    let others = bounded-prop (key_rank key) most rest in
    hlevel (props, own, below, others)

sound-prop : (fanout : ℕ) (v : NodeView) → IsProp (IsSoundView fanout v)
sound-prop fanout v = let bounded = bounded-prop 0 None v.children in let keys = keys-prop v.children in hlevel (props, bounded, keys)

pub sound_views-prop : (fanout : ℕ) (seen : List NodeView) → IsProp (AreSoundViews fanout seen)
sound_views-prop fanout seen = hlevel (props, sound-prop fanout)
