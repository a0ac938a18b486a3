-- Where each clean node below a root stands, those that aren't loaded do, and they go on standing on a volume that was written to.
use Rattle.std.proofs.Common.{ℕ, zero, suc, ◌≡◌, ◌<◌, List, [], ◌∷◌, ◌++◌, length, refl, sym, subst, arith, length-append}
use Rattle.std.specs.Prelude.{Option, None, Some, is_none, if◌then◌else◌, slice_get}
use Rattle.index_media.specs.KeyedRow.{KeyedRow, no_more, leaf_in, node_in}
use Rattle.index_media.specs.PlacedRow.{Stretch}
use Rattle.index_media.specs.Standing.{AreStandingAs, OfClean, StandsAs}
use Rattle.node_cache.specs.OnVolume.{IsOnVolume}
use Rattle.told_value.specs.declared.told.Told.{Told}
use Rattle.table_nodes.specs.Beyond.{children_by}
use Rattle.table_nodes.specs.NodeView.{NodeView, node_before, node_view_of, node_views, row_of, stretch_at, tree_at, views_behind}
use Rattle.table_nodes.specs.Stubs.{unplaced, unplaced_node}
use Rattle.table_nodes.specs.declared.link.Link.{Link}
use Rattle.table_nodes.specs.declared.link.Link.TheVariants.{ToLeaf, ToNode}
use Rattle.table_nodes.specs.declared.node.NodePlace.{NodePlace}
use Rattle.table_nodes.specs.declared.node.Root.{Root}
use Rattle.table_nodes.specs.declared.node.TableNode.{TableNode}
use Rattle.table_nodes.specs.declared.seen.MediumSeen.{MediumSeen}
use Rattle.ubi_volume.specs.Volume.{VolumeState, SameShape}
use Rattle.ubifs_base.specs.declared.key.Key.{Key}
use Rattle.node_table.specs.Unloaded.{DoesRootStand}

-- what a place has to meet
abbrev Places : Type 1
Places = Stretch → ℕ → ℕ → Type 0

-- ---- what stands of a node before a row, and of the row
node_parts : (contents : ℕ → List ℕ) (P : Places) (key : Key) (o : Option NodeView) (rest : KeyedRow) → AreStandingAs contents P (node_before key o rest)
    → AreStandingAs contents P (node_before key o no_more) × AreStandingAs contents P rest
node_parts contents P key None rest h = ((h.0, h.1, tt), h.2)
node_parts contents P key (Some v) rest h = ((h.0, h.1, tt), h.2)

node_whole : (contents : ℕ → List ℕ) (P : Places) (key : Key) (o : Option NodeView) (rest : KeyedRow) → AreStandingAs contents P (node_before key o no_more) → AreStandingAs contents P rest
    → AreStandingAs contents P (node_before key o rest)
node_whole contents P key None rest h r = (h.0, h.1, r)
node_whole contents P key (Some v) rest h r = (h.0, h.1, r)

-- ---- wherever the one stands, the other one does
abbrev pub IsWeaker : (ℕ → List ℕ) → Places → List NodeView → List NodeView → Type 0
IsWeaker contents P less seen = (key : Key) (number : ℕ) → AreStandingAs contents P (node_before key (slice_get seen number) no_more) → AreStandingAs contents P (node_before key (slice_get less number) no_more)

pub row_weaker : (contents : ℕ → List ℕ) (P : Places) (less seen : List NodeView) (links : List Link) → IsWeaker contents P less seen → AreStandingAs contents P (row_of seen links) → AreStandingAs contents P (row_of less links)
row_weaker contents P less seen [] weak h = tt
row_weaker contents P less seen (ToLeaf x ∷ links) weak h = row_weaker contents P less seen links weak h
row_weaker contents P less seen (ToNode key number ∷ links) weak h =
    let p = node_parts contents P key (slice_get seen number) (row_of seen links) h in
    node_whole contents P key (slice_get less number) (row_of less links) (weak key number p.0) (row_weaker contents P less seen links weak p.1)

weaker_push : (contents : ℕ → List ℕ) (P : Places) (less seen : List NodeView) (v w : NodeView) → length less ≡ length seen → IsWeaker contents P less seen
    → ((key : Key) → AreStandingAs contents P (node_in key w.place w.children no_more) → AreStandingAs contents P (node_in key v.place v.children no_more)) → IsWeaker contents P (less ++ v ∷ []) (seen ++ w ∷ [])
weaker_push contents P [] [] v w long weak one key zero h = one key h
weaker_push contents P [] [] v w long weak one key (suc i) h = h
weaker_push contents P [] (y ∷ ys) v w long weak one key i h = absurd (omega (arith, long))
weaker_push contents P (x ∷ xs) [] v w long weak one key i h = absurd (omega (arith, long))
weaker_push contents P (x ∷ xs) (y ∷ ys) v w long weak one key zero h = weak key zero h
weaker_push contents P (x ∷ xs) (y ∷ ys) v w long weak one key (suc i) h = weaker_push contents P xs ys v w (omega (arith, long)) (λ k j e. weak k (suc j) e) one key i h

dropped_place : (contents : ℕ → List ℕ) (P : Places) (key : Key) (level : ℕ) (place : Option NodePlace) (beyond : Option (Told MediumSeen)) (less linked : KeyedRow) → (AreStandingAs contents P linked → AreStandingAs contents P less)
    → AreStandingAs contents P (node_in key (stretch_at place) (children_by level place beyond linked) no_more)
    → AreStandingAs contents P (node_in key (stretch_at (if is_none beyond then None else place)) (children_by level (if is_none beyond then None else place) beyond less) no_more)
dropped_place contents P key level None None less linked k h = (tt, k h.1, tt)
dropped_place contents P key level (Some place) None less linked k h = (tt, k h.1, tt)
dropped_place contents P key level None (Some told) less linked k h = (tt, k h.1, tt)
dropped_place contents P key level (Some place) (Some told) less linked k h = h

weaker_views : (contents : ℕ → List ℕ) (P : Places) (less seen : List NodeView) (nodes : List TableNode) → length less ≡ length seen → IsWeaker contents P less seen
    → IsWeaker contents P (views_behind less (unplaced nodes)) (views_behind seen nodes)
weaker_views contents P less seen [] long weak = weak
weaker_views contents P less seen (n ∷ ns) long weak =
    let v = node_view_of less (unplaced_node n) in
    let w = node_view_of seen n in
    let one = length-append less (v ∷ []) in
    let other = length-append seen (w ∷ []) in
    weaker_views contents P (less ++ v ∷ []) (seen ++ w ∷ []) ns (omega (arith, one, other, long))
    (weaker_push contents P less seen v w long weak
    (λ key h. dropped_place contents P key n.level n.place n.beyond (row_of less n.links.items) (row_of seen n.links.items) (row_weaker contents P less seen n.links.items weak) h))

pub all_weaker : (contents : ℕ → List ℕ) (P : Places) (nodes : List TableNode) → IsWeaker contents P (node_views (unplaced nodes)) (node_views nodes)
all_weaker contents P nodes = weaker_views contents P [] [] nodes refl (λ key number h. h)

-- ---- below a root
root_weaker : (contents : ℕ → List ℕ) (P : Places) (nodes : List TableNode) (root : Option Root) → AreStandingAs contents P (tree_at nodes root) → AreStandingAs contents P (tree_at (unplaced nodes) root)
root_weaker contents P nodes None h = tt
root_weaker contents P nodes (Some root) h = all_weaker contents P nodes root.key root.number h

-- where each clean node below a root stands, those that aren't loaded do
pub standing_row : (s : VolumeState) (nodes : List TableNode) (root : Option Root) → IsOnVolume s (tree_at nodes root) → DoesRootStand s nodes root
standing_row s nodes root h = root_weaker s.holds (λ place sqnum group. place.lnum < s.leb_cnt) nodes root h

-- ---- a volume that was written to
own_again : (old new : ℕ → List ℕ) (P Q R : Places) (key : Key) (place : Option Stretch) (children : KeyedRow) → ((s : Stretch) (n g m h : ℕ) → Q s n g → R s m h)
    → OfClean (StandsAs new P) key place children → OfClean (StandsAs old Q) key place children → OfClean (StandsAs new R) key place children
own_again old new P Q R key None children f h k = tt
own_again old new P Q R key (Some s) children f h k = record { clean = h.clean; level = h.level; levels = h.levels; node = h.node; holds = f s k.node.sqnum k.node.group h.node.sqnum h.node.group k.holds }

row_again : (old new : ℕ → List ℕ) (P Q R : Places) (row : KeyedRow) → ((s : Stretch) (n g m h : ℕ) → Q s n g → R s m h) → AreStandingAs new P row → AreStandingAs old Q row → AreStandingAs new R row
row_again old new P Q R no_more f h k = tt
row_again old new P Q R (leaf_in x rest) f h k = row_again old new P Q R rest f h k
row_again old new P Q R (node_in key place children rest) f h k =
    (own_again old new P Q R key place children f h.0 k.0, row_again old new P Q R children f h.1 k.1, row_again old new P Q R rest f h.2 k.2)

-- what isn't loaded goes on standing, if all clean nodes stand in what the LEBs hold now
pub root_written : (a b : VolumeState) (P : Places) (nodes : List TableNode) (root : Option Root) → SameShape a b → AreStandingAs b.holds P (tree_at nodes root) → DoesRootStand a nodes root → DoesRootStand b nodes root
root_written a b P nodes root shape now h =
    let Q : Places = λ place sqnum group. place.lnum < a.leb_cnt in
    let R : Places = λ place sqnum group. place.lnum < b.leb_cnt in
    row_again a.holds b.holds P Q R (tree_at (unplaced nodes) root) (λ s n g m k there. let N : ℕ → Type 0 = λ c. s.lnum < c in subst N (sym shape.leb_cnt) there) (root_weaker b.holds P nodes root now) h
