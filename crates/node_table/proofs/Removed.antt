-- The root that a removal and a replacement make.
use Rattle.std.proofs.Common.{◌≡◌, ℕ, ◌<◌, true, false, List, [], ◌∷◌, length, refl, ap, sym, ◌∙◌, subst, arith, inl, inr, append-nil}
use Rattle.std.specs.Prelude.{Option, None, Some, ◌==◌, slice_get}
use Rattle.std.proofs.lemmas.Bool.{cases_Bool}
use Rattle.ubifs_base.specs.declared.key.Key.{Key}
use Rattle.index_tree.specs.Removal.{holds}
use Rattle.index_tree.specs.Shape.{contents, count, fits, lone}
use Rattle.index_tree.specs.declared.leaf.Leaf.{Leaf}
use Rattle.index_media.specs.InsertionSound.{AreKeys}
use Rattle.index_media.specs.KeyedKeys.{AreKeysBounded}
use Rattle.index_media.specs.KeyedRemoval.{removed_by_keys, keyed_collapsed, without_leaf_by_keys, replaced_by_keys}
use Rattle.index_media.specs.KeyedRow.{KeyedRow, no_more, bare}
use Rattle.node_table.specs.Exchange.{exchanged_row, exchanged_node, tree_without}
use Rattle.table_nodes.specs.NodeView.{NodeView, node_before, row_of, node_views, children_in, tree_at, leaves_at, IsRootIn}
use Rattle.table_nodes.specs.NodeViewLaws.{sound_at, children_fit}
use Rattle.table_nodes.specs.Sound.{AreSoundViews}
use Rattle.table_nodes.specs.Links.{row_before, AreLinksIn, AreNodesAdded}
use Rattle.ubi_volume.specs.Volume.{VolumeState, Keeps, SameShape}
use Rattle.node_table.specs.UnloadedRoots.{root_moved, root_stays}
use Rattle.node_table.specs.Staging.{only_root, IsSoundRoot}
use Rattle.node_table.specs.Unloaded.{DoLinksStand, DoesRootStand}
use Rattle.table_nodes.specs.declared.link.Link.{Link}
use Rattle.table_nodes.specs.declared.node.Root.{Root}
use Rattle.table_nodes.specs.declared.node.TableNode.{TableNode}
use Rattle.node_table.proofs.Exchanged.{node_there, exchanged_same}
use Rattle.node_table.proofs.Inserted.{made_row, tree_kept}
use Rattle.node_table.proofs.Rooted.{only_row, only_stands, not_lone, link_in}
use Rattle.node_table.proofs.Rows.{row_size, node_size, node_apart}

-- a root with one link to a node gives way to it
node_stays_up : (key : Key) (o : Option NodeView) → lone (bare (children_in o)) ≡ false → node_before key o no_more ≡ keyed_collapsed (node_before key o no_more)
node_stays_up key None h = refl
node_stays_up key (Some v) h = rw h refl

node_sinks : (key : Key) (o : Option NodeView) → lone (bare (children_in o)) ≡ true → keyed_collapsed (node_before key o no_more) ≡ keyed_collapsed (children_in o)
node_sinks key None h = absurd cc
node_sinks key (Some v) h = rw h refl

pub root_stays_up : (old now : List TableNode) (root : Root) (links : List Link) → AreNodesAdded old now → root.number < length old
    → children_in (slice_get (node_views old) root.number) ≡ row_of (node_views now) links → only_root links ≡ None → tree_at now (Some root) ≡ keyed_collapsed (tree_at old (Some root))
root_stays_up old now root links a there e o =
    let P : KeyedRow → Type 0 = λ r. lone (bare r) ≡ false in
    tree_kept old now (Some root) a there ∙ node_stays_up root.key (slice_get (node_views old) root.number) (subst P (sym e) (not_lone (node_views now) links o))

-- the root to which links lead is a node of the table
pub only_linked : (n : ℕ) (links : List Link) (root : Root) → AreLinksIn n links → only_root links ≡ Some root → root.number < n
only_linked n [] root h o = absurd cc
only_linked n (link ∷ []) root h o = link_in n link root o h.0
only_linked n (link ∷ other ∷ links) root h o = absurd cc

node_alone : (key : Key) (o : Option NodeView) → lone (bare (node_before key o no_more)) ≡ true
node_alone key None = refl
node_alone key (Some v) = refl

pub record SunkTo (old now : List TableNode) (root child : Root) : Type 0 where
  pub small : row_size (children_in (slice_get (node_views now) child.number)) < row_size (children_in (slice_get (node_views old) root.number))
  pub same : keyed_collapsed (tree_at now (Some child)) ≡ keyed_collapsed (tree_at old (Some root))

pub sunk_to : (old now : List TableNode) (root child : Root) (links : List Link) → children_in (slice_get (node_views old) root.number) ≡ row_of (node_views now) links → only_root links ≡ Some child
    → SunkTo old now root child
sunk_to old now root child links e o =
    let seen = node_views now in
    let row = only_row now links child o in
    let is = e ∙ row in
    let size = ap row_size is ∙ node_size child.key (slice_get seen child.number) no_more in
    let P : KeyedRow → Type 0 = λ r. lone (bare r) ≡ true in
    let one = subst P (sym is) (node_alone child.key (slice_get seen child.number)) in
    record { small = omega (arith, size); same = sym (node_sinks root.key (slice_get (node_views old) root.number) one ∙ ap keyed_collapsed is) }

option_fits : (f : ℕ) (seen : List NodeView) (i : ℕ) (o : Option NodeView) → AreSoundViews f seen → slice_get seen i ≡ o → fits f (bare (children_in o)) ≡ true
option_fits f seen i None s e = refl
option_fits f seen i (Some v) s e = children_fit f v (sound_at f seen i v s e)

pub links_fit : (f : ℕ) (nodes : List TableNode) (i : ℕ) (links : List Link) → AreSoundViews f (node_views nodes) → children_in (slice_get (node_views nodes) i) ≡ row_of (node_views nodes) links
    → fits f (bare (row_of (node_views nodes) links)) ≡ true
links_fit f nodes i links s e =
    let P : KeyedRow → Type 0 = λ r. fits f (bare r) ≡ true in
    subst P e (option_fits f (node_views nodes) i (slice_get (node_views nodes) i) s refl)

-- whether a leaf is below a root is told below its node
pub top_holds : (nodes : List TableNode) (root : Root) (z : Leaf) → holds z (contents (bare (tree_at nodes (Some root)))) ≡ holds z (contents (bare (children_in (slice_get (node_views nodes) root.number))))
top_holds nodes root z = ap (holds z) (node_apart root.key (slice_get (node_views nodes) root.number) no_more ∙ append-nil (contents (bare (children_in (slice_get (node_views nodes) root.number)))))

-- where it isn't, the index stays
pub without_none : (nodes : List TableNode) (root : Root) (z : Leaf) → holds z (contents (bare (children_in (slice_get (node_views nodes) root.number)))) ≡ false
    → tree_at nodes (Some root) ≡ tree_without z (tree_at nodes (Some root))
without_none nodes root z h =
    let none : holds z (contents (bare (tree_at nodes (Some root)))) ≡ false = top_holds nodes root z ∙ h in
    rw none refl

pub replaced_none : (nodes : List TableNode) (root : Root) (z new : Leaf) → holds z (contents (bare (children_in (slice_get (node_views nodes) root.number)))) ≡ false
    → tree_at nodes (Some root) ≡ replaced_by_keys z new (tree_at nodes (Some root))
replaced_none nodes root z new h = sym (exchanged_same z (Some new) (tree_at nodes (Some root)) (top_holds nodes root z ∙ h))

-- where it is, the links that were pushed lead to what is left of the root
pub left_row : (old now : List TableNode) (root : Root) (z : Leaf) (come : Option Leaf) (none made : List Link) → none ≡ [] → holds z (contents (bare (children_in (slice_get (node_views old) root.number)))) ≡ true
    → row_before (node_views now) made no_more ≡ row_before (node_views old) none (exchanged_node z come root.key (slice_get (node_views old) root.number) no_more)
    → row_of (node_views now) made ≡ exchanged_row z come (tree_at old (Some root))
left_row old now root z come none made e h m = made_row old now none made _ e m ∙ node_there z come root.key (slice_get (node_views old) root.number) no_more h

without_held : (z : Leaf) (row : KeyedRow) → holds z (contents (bare row)) ≡ true → tree_without z row ≡ keyed_collapsed (removed_by_keys z row)
unfolding without_leaf_by_keys
without_held z row h = rw h refl

pub without_some : (nodes : List TableNode) (root : Root) (z : Leaf) → holds z (contents (bare (children_in (slice_get (node_views nodes) root.number)))) ≡ true
    → tree_without z (tree_at nodes (Some root)) ≡ keyed_collapsed (removed_by_keys z (tree_at nodes (Some root)))
without_some nodes root z h = without_held z (tree_at nodes (Some root)) (top_holds nodes root z ∙ h)

-- that is nothing, or one node
removed_top : (z : Leaf) (key : Key) (o : Option NodeView) → holds z (contents (bare (children_in o))) ≡ true → lone (bare (removed_by_keys z (node_before key o no_more))) ≡ false
    → removed_by_keys z (node_before key o no_more) ≡ no_more
removed_top z key None h l = absurd cc
removed_top z key (Some v) h l = elim (cases_Bool (count (bare (removed_by_keys z v.children)) == 0)) [
  | inl e ↦ rw (h, e) refl
  | inr e ↦ let one = rw (h, e) at l in absurd cc
]

pub none_left : (old now : List TableNode) (root : Root) (z : Leaf) (made : List Link) → holds z (contents (bare (children_in (slice_get (node_views old) root.number)))) ≡ true
    → row_of (node_views now) made ≡ removed_by_keys z (tree_at old (Some root)) → only_root made ≡ None → no_more ≡ tree_without z (tree_at old (Some root))
none_left old now root z made h r o =
    let P : KeyedRow → Type 0 = λ v. lone (bare v) ≡ false in
    let none = removed_top z root.key (slice_get (node_views old) root.number) h (subst P r (not_lone (node_views now) made o)) in
    sym (without_some old root z h ∙ ap keyed_collapsed none)

pub one_left : (old now last : List TableNode) (root left sunk : Root) (z : Leaf) (made : List Link) → holds z (contents (bare (children_in (slice_get (node_views old) root.number)))) ≡ true
    → row_of (node_views now) made ≡ removed_by_keys z (tree_at old (Some root)) → only_root made ≡ Some left → tree_at last (Some sunk) ≡ keyed_collapsed (tree_at now (Some left))
    → tree_at last (Some sunk) ≡ tree_without z (tree_at old (Some root))
one_left old now last root left sunk z made h r o s =
    s ∙ ap keyed_collapsed (sym (only_row now made left o) ∙ r) ∙ sym (without_some old root z h)

replaced_top : (z new : Leaf) (key : Key) (o : Option NodeView) → holds z (contents (bare (children_in o))) ≡ true → lone (bare (replaced_by_keys z new (node_before key o no_more))) ≡ true
replaced_top z new key None h = absurd cc
replaced_top z new key (Some v) h = rw h refl

only_tree : (nodes : List TableNode) (links : List Link) (o : Option Root) → only_root links ≡ o → lone (bare (row_of (node_views nodes) links)) ≡ true → tree_at nodes o ≡ row_of (node_views nodes) links
only_tree nodes links None e l = let none = not_lone (node_views nodes) links e in absurd cc
only_tree nodes links (Some root) e l = sym (only_row nodes links root e)

pub replaced_left : (old now : List TableNode) (root : Root) (o : Option Root) (z new : Leaf) (made : List Link) → holds z (contents (bare (children_in (slice_get (node_views old) root.number)))) ≡ true
    → row_of (node_views now) made ≡ replaced_by_keys z new (tree_at old (Some root)) → only_root made ≡ o → tree_at now o ≡ replaced_by_keys z new (tree_at old (Some root))
replaced_left old now root o z new made h r e =
    let P : KeyedRow → Type 0 = λ v. lone (bare v) ≡ true in
    only_tree now made o e (subst P (sym r) (replaced_top z new root.key (slice_get (node_views old) root.number) h)) ∙ r

pub option_linked : (nodes : List TableNode) (links : List Link) (o : Option Root) → AreLinksIn (length nodes) links → only_root links ≡ o → IsRootIn nodes o
option_linked nodes links None h e = tt
option_linked nodes links (Some root) h e = only_linked (length nodes) links root h e

-- what isn't loaded below the root to which links lead stands
pub option_stands : (s : VolumeState) (nodes : List TableNode) (links : List Link) (o : Option Root) → DoLinksStand s nodes links → only_root links ≡ o → DoesRootStand s nodes o
option_stands s nodes links None h e = tt
option_stands s nodes links (Some root) h e = only_stands s nodes links root e h

-- what isn't loaded below a root goes on standing where nodes were added and the volume was read
pub root_stands_on : (a b : VolumeState) (old now : List TableNode) (root : Option Root) → Keeps a b → SameShape a b → AreNodesAdded old now → IsRootIn old root → DoesRootStand a old root → DoesRootStand b now root
root_stands_on a b old now root keeps shape added there h = root_moved a b now root keeps shape (root_stays a old now root added there h)

-- a root is sound by the index below it
pub sound_by : (nodes : List TableNode) (root : Option Root) (tree : KeyedRow) → IsRootIn nodes root → tree_at nodes root ≡ tree → AreKeysBounded 0 None tree → AreKeys tree → IsSoundRoot nodes root
sound_by nodes root tree there is b k =
    let B : KeyedRow → Type 0 = λ v. AreKeysBounded 0 None v in
    let K : KeyedRow → Type 0 = λ v. AreKeys v in
    record { there = there; bounded = subst B (sym is) b; keys = subst K (sym is) k }

-- an index without a leaf has keys between those of branches, and keys
pub without_sound : (z : Leaf) (row : KeyedRow) → AreKeysBounded 0 None row → AreKeys row → AreKeysBounded 0 None (without_leaf_by_keys z row) → AreKeys (without_leaf_by_keys z row)
    → AreKeysBounded 0 None (tree_without z row) × AreKeys (tree_without z row)
without_sound z row b k c l = elim (cases_Bool (holds z (contents (bare row)))) [
  | inl e ↦ rw e (c, l)
  | inr e ↦ rw e (b, k)
]

-- a leaf that stands below the topmost node stands below the root
pub held_there : (nodes : List TableNode) (root : Option Root) (top : Root) (leaf : Leaf) → root ≡ Some top → holds leaf (contents (bare (children_in (slice_get (node_views nodes) top.number)))) ≡ true
    → holds leaf (leaves_at nodes root) ≡ false → ⊥
held_there nodes root top leaf is held none =
    let own = contents (bare (children_in (slice_get (node_views nodes) top.number))) in
    let whole = node_apart top.key (slice_get (node_views nodes) top.number) no_more ∙ append-nil own in
    let R : Option Root → Type 0 = λ r. holds leaf (leaves_at nodes r) ≡ false in
    let no : true ≡ false = sym (ap (holds leaf) whole ∙ held) ∙ subst R is none in
    cc
