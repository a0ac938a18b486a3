-- After a list of changes clean nodes stand where they stood.
use Rattle.std.proofs.Common.{◌≡◌, ℕ, ◌+◌, ◌≤◌, true, List, [], ◌∷◌, refl, arith, inl, inr}
use Rattle.std.specs.Prelude.{IsTrue, Option, None, Some, slice_get}
use Rattle.std.proofs.lemmas.Bool.{cases_Bool}
use Rattle.std.proofs.lemmas.Bool.Decides.{nat_tests}
use Rattle.ubifs_base.specs.declared.key.Key.{Key}
use Rattle.index_tree.specs.Order.{key_rank}
use Rattle.index_tree.specs.Removal.{holds}
use Rattle.index_tree.specs.Shape.{Shape, done, leaf, node, contents, count, fits, lone}
use Rattle.index_tree.specs.declared.leaf.Leaf.{Leaf}
use Rattle.index_media.specs.Insertion.{inserted_by_keys, with_leaf_by_keys}
use Rattle.index_media.specs.InsertionSound.{fit_node, fits_node, inserted_grown}
use Rattle.index_media.specs.KeyedRange.{pruned_by_keys, without_range_by_keys}
use Rattle.index_media.specs.KeyedRemoval.{keyed_collapsed, removed_by_keys, replaced_by_keys, without_leaf_by_keys}
use Rattle.index_media.specs.KeyedRow.{KeyedRow, no_more, leaf_in, node_in, bare}
use Rattle.node_table.specs.Changing.{changed_row, changed_by}
use Rattle.table_nodes.specs.NodeView.{NodeView, node_before, tree_at, node_views}
use Rattle.node_table.specs.declared.change.Change.{Change}
use Rattle.node_table.specs.declared.change.Change.TheVariants.{Insert, Remove, RemoveRange, Replace}
use Rattle.table_nodes.specs.declared.node.Root.{Root}
use Rattle.table_nodes.specs.declared.node.TableNode.{TableNode}
use Rattle.commit_steps.specs.UnderWayLaws.{outside_of, within_of}
use Rattle.index_commit.specs.Standing.{AreOutside}
use Rattle.ubi_volume.specs.Volume.{VolumeState, Keeps, SameShape}
use Rattle.mounted_index.specs.Changed.{ChangedNodesStand}
use Rattle.mounted_index.specs.Shown.{StandsIn}
use Rattle.mounted_index.specs.ShownLaws.{StandsIn-beside}

-- a row of one sibling at most, whose nodes have 1 to fanout children
pub record IsFitRow (f : ℕ) (row : KeyedRow) : Type 0 where
  pub sound : fits f (bare row) ≡ true
  pub one : count (bare row) ≤ 1

-- what index_media says of a removal, a replacement and a removal of a range
pub record ChangesFit : Type 0 where
  pub removed : (f : ℕ) (gone : Leaf) (row : KeyedRow) → IsTrue (fits f (bare row)) → IsTrue (fits f (bare (removed_by_keys gone row)))
  pub removed_number : (gone : Leaf) (row : KeyedRow) → count (bare (removed_by_keys gone row)) ≤ count (bare row)
  pub replaced : (f : ℕ) (old new : Leaf) (row : KeyedRow) → IsTrue (fits f (bare row)) → IsTrue (fits f (bare (replaced_by_keys old new row)))
  pub replaced_number : (old new : Leaf) (row : KeyedRow) → count (bare (replaced_by_keys old new row)) ≡ count (bare row)
  pub pruned : (f from to : ℕ) (row : KeyedRow) → IsTrue (fits f (bare row)) → IsTrue (fits f (bare (pruned_by_keys from to row)))
  pub pruned_number : (from to : ℕ) (row : KeyedRow) → count (bare (pruned_by_keys from to row)) ≤ count (bare row)

count_lone : (s : Shape) → lone s ≡ true → count s ≤ 1
count_lone done h = absurd cc
count_lone (leaf x rest) h = absurd cc
count_lone (node c rest) h = grind (arith, nat_tests, h)

collapsed_fit : (f : ℕ) (row : KeyedRow) → IsFitRow f row → IsFitRow f (keyed_collapsed row)
collapsed_fit f no_more h = h
collapsed_fit f (leaf_in x rest) h = h
collapsed_fit f (node_in key place c rest) h = elim (cases_Bool (lone (bare c))) [
  | inl e ↦ rw e (collapsed_fit f c (record { sound = (fit_node f (bare c) (bare rest) h.sound).children; one = count_lone (bare c) e }))
  | inr e ↦ rw e h
]

inserted_fit : (f : ℕ) (x : Leaf) (row : KeyedRow) → 3 ≤ f → IsFitRow f row → IsFitRow f (with_leaf_by_keys f x row)
unfolding with_leaf_by_keys
inserted_fit f x row three h =
    let made = bare (inserted_by_keys f x row) in
    let g = inserted_grown f x row three h.sound in
    let more : count made ≤ count (bare row) + 1 = g.one_more in
    let one : count (bare row) ≤ 1 = h.one in
    elim (cases_Bool (lone made)) [
      | inl e ↦ rw e (record { sound = g.sound; one = count_lone made e })
      | inr e ↦ rw e (record { sound = fits_node f made done g.some (omega (arith, more, one, three)) g.sound refl; one = omega arith })
    ]

removed_fit : ChangesFit → (f : ℕ) (x : Leaf) (row : KeyedRow) → IsFitRow f row → IsFitRow f (without_leaf_by_keys x row)
unfolding without_leaf_by_keys
removed_fit laws f x row h =
    let fewer = laws.removed_number x row in
    let one : count (bare row) ≤ 1 = h.one in
    collapsed_fit f (removed_by_keys x row) (record { sound = laws.removed f x row h.sound; one = omega (arith, fewer, one) })

pruned_fit : ChangesFit → (f from to : ℕ) (row : KeyedRow) → IsFitRow f row → IsFitRow f (without_range_by_keys from to row)
unfolding without_range_by_keys
pruned_fit laws f from to row h =
    let fewer = laws.pruned_number from to row in
    let one : count (bare row) ≤ 1 = h.one in
    collapsed_fit f (pruned_by_keys from to row) (record { sound = laws.pruned f from to row h.sound; one = omega (arith, fewer, one) })

changed_fit : ChangesFit → (f : ℕ) (change : Change) (row : KeyedRow) → 3 ≤ f → IsFitRow f row → IsFitRow f (changed_row f change row)
changed_fit laws f (Insert x) row three h = inserted_fit f x row three h
changed_fit laws f (Remove x) row three h = elim (cases_Bool (holds x (contents (bare row)))) [
  | inl e ↦ rw e (removed_fit laws f x row h)
  | inr e ↦ rw e h
]
changed_fit laws f (Replace gone come) row three h =
    let same = laws.replaced_number gone come row in
    let one : count (bare row) ≤ 1 = h.one in
    record { sound = laws.replaced f gone come row h.sound; one = omega (arith, same, one) }
changed_fit laws f (RemoveRange from to) row three h = pruned_fit laws f (key_rank from) (key_rank to) row h

pub all_outside : ChangedNodesStand → ChangesFit → (f : ℕ) (changes : List Change) (contents : ℕ → List ℕ) (lebs : List ℕ) (row : KeyedRow) → 3 ≤ f → IsFitRow f row → AreOutside contents lebs row
    → AreOutside contents lebs (changed_by f changes row)
all_outside stand laws f [] contents lebs row three fit h = h
all_outside stand laws f (change ∷ changes) contents lebs row three fit h =
    all_outside stand laws f changes contents lebs (changed_row f change row) three (changed_fit laws f change row three fit) (stand f change contents lebs row fit.sound h)

pub all_stand : ChangedNodesStand → ChangesFit → (a : VolumeState) (lebs : List ℕ) (f : ℕ) (changes : List Change) (row : KeyedRow) → 3 ≤ f → IsFitRow f row → StandsIn a lebs row
    → StandsIn a lebs (changed_by f changes row)
all_stand stand laws a lebs f changes row three fit h = record {
  there = h.there;
  within = within_of a.holds lebs (changed_by f changes row) (λ others two. all_outside stand laws f changes a.holds others row three fit (outside_of a.holds lebs others row two h.within));
}

-- ---- while a volume is only read
pub stands_kept : (a b : VolumeState) (lebs : List ℕ) (row : KeyedRow) → Keeps a b → SameShape a b → StandsIn a lebs row → StandsIn b lebs row
stands_kept a b lebs row keeps shape h = StandsIn-beside a b lebs row shape (λ k given. keeps.holds k) h

one_before : (key : Key) (seen : Option NodeView) → count (bare (node_before key seen no_more)) ≤ 1
one_before key None = omega arith
one_before key (Some v) = omega arith

-- the index below a root is one node at most
pub one_at : (nodes : List TableNode) (root : Option Root) → count (bare (tree_at nodes root)) ≤ 1
one_at nodes None = omega arith
one_at nodes (Some root) = one_before root.key (slice_get (node_views nodes) root.number)
