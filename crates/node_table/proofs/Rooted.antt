-- The root that an insertion makes.
use Rattle.std.proofs.Common.{◌≡◌, ℕ, ◌+◌, ◌-◌, ◌<◌, ◌≤◌, true, false, List, [], ◌∷◌, ◌++◌, length, refl, ap, sym, ◌∙◌, subst, arith, inl, inr, length-append}
use Rattle.std.specs.Prelude.{Option, None, Some, Result, Ok, Err, IfOk, ◌==◌, slice_get}
use Rattle.std.proofs.lemmas.Bool.{cases_Bool}
use Rattle.std.proofs.lemmas.Bool.Decides.{nat_tests}
use Rattle.ubifs_base.specs.Key.{IsKey}
use Rattle.ubifs_base.specs.declared.key.Key.{Key}
use Rattle.index_tree.specs.Levels.{levelled}
use Rattle.index_tree.specs.Shape.{done, count, fits, lone}
use Rattle.index_tree.specs.declared.leaf.Leaf.{Leaf}
use Rattle.index_media.specs.Insertion.{first_key, inserted_by_keys, with_leaf_by_keys}
use Rattle.index_media.specs.InsertionKeys.{inserted_bounded, with_leaf_bounded}
use Rattle.index_media.specs.InsertionSound.{AreKeys, fits_node, node_level, inserted_grown, inserted_levelled, inserted_keys, first_is_key}
use Rattle.index_media.specs.KeyedKeys.{AreKeysBounded}
use Rattle.index_media.specs.KeyedRow.{KeyedRow, no_more, node_in, bare}
use Rattle.table_nodes.specs.NodeView.{NodeView, node_before, row_of, node_view_of, node_views, tree_at}
use Rattle.table_nodes.specs.Sound.{IsSoundView, AreSoundViews}
use Rattle.table_nodes.specs.Links.{IsLinkIn}
use Rattle.table_nodes.specs.Stubs.{unplaced}
use Rattle.node_cache.specs.OnVolume.{IsOnVolume}
use Rattle.ubi_volume.specs.Volume.{VolumeState}
use Rattle.node_table.specs.StandingLinks.{standing_none, standing_pushed, standing_root}
use Rattle.node_table.specs.Unloaded.{AreStandingLinks, DoLinksStand, DoesRootStand}
use Rattle.node_table.specs.Staging.{root_by, only_root, IsSoundRoot, IsTopRow}
use Rattle.table_nodes.specs.declared.link.Link.{Link}
use Rattle.table_nodes.specs.declared.link.Link.TheVariants.{ToLeaf, ToNode}
use Rattle.table_nodes.specs.declared.node.Root.{Root}
use Rattle.table_nodes.specs.declared.node.TableNode.{TableNode}
use Rattle.table_nodes.specs.LinkLaws.{links_there}
use Rattle.node_table.proofs.Staged.{link_counted}
use Rattle.table_nodes.specs.NodeViewLaws.{opened, sound_at, views_length}

-- the index below a root, by its node
pub top_row : (f : ℕ) (nodes : List TableNode) (root : Root) (n : TableNode) → AreSoundViews f (node_views nodes) → IsSoundRoot nodes (Some root) → slice_get nodes root.number ≡ Some n
    → IsTopRow f (n.level + 1) (tree_at nodes (Some root))
top_row f nodes root n s r h =
    let there = opened f nodes root.number n s h in
    let v = node_view_of (node_views nodes) n in
    let sound = sound_at f (node_views nodes) root.number v s there in
    let is : tree_at nodes (Some root) ≡ node_in root.key v.place v.children no_more = ap (λ o. node_before root.key o no_more) there in
    let S : KeyedRow → Type 0 = λ t. (count (bare t) ≡ 1) × (fits f (bare t) ≡ true) × (levelled (n.level + 1) (bare t) ≡ true) in
    let same : n.level + 1 - 1 ≡ n.level = omega arith in
    let L : ℕ → Type 0 = λ k. levelled k (bare v.children) ≡ true in
    let parts = subst S (sym is) (refl, sound.0, node_level (n.level + 1) (bare v.children) done (omega arith) (subst L (sym same) sound.1) refl) in
    let one = parts.0 in
    record {
      short = omega (arith, one);
      lowest = λ z. absurd (omega (arith, one, z));
      sound = parts.1;
      levels = parts.2;
      bounded = r.bounded;
      keys = r.keys;
    }

pub none_row : (f : ℕ) (nodes : List TableNode) → IsTopRow f 0 (tree_at nodes None)
none_row f nodes = record { short = omega arith; lowest = λ z. refl; sound = refl; levels = refl; bounded = tt; keys = tt }

-- what an insertion makes of it may be the children of a root
pub row_sound : (f f' level : ℕ) (new : Leaf) (row made : KeyedRow) → 3 ≤ f → f' ≡ f → IsKey new.key → IsTopRow f level row → made ≡ inserted_by_keys f new row
    → IsSoundView f' (record { level = level; place = None; children = made })
row_sound f f' level new row made three e own t r =
    let g = inserted_grown f new row three t.sound in
    let short = t.short in
    let more = g.one_more in
    let P : KeyedRow → Type 0 = λ v. IsSoundView f (record { level = level; place = None; children = v }) in
    let Q : ℕ → Type 0 = λ n. IsSoundView n (record { level = level; place = None; children = made }) in
    subst Q (sym e) (subst P (sym r) (
      fits_node f (bare (inserted_by_keys f new row)) done g.some (omega (arith, short, more, three)) g.sound refl,
      inserted_levelled f level new row t.sound t.lowest t.levels,
      inserted_bounded f new 0 None row (omega (arith, three)) (omega arith) tt t.bounded,
      inserted_keys f new row own t.keys,
    ))

-- the whole index that it makes has keys between those of branches, and keys
with_leaf_keys : (f : ℕ) (new : Leaf) (row : KeyedRow) → IsKey new.key → AreKeys row → AreKeys (with_leaf_by_keys f new row)
unfolding with_leaf_by_keys
with_leaf_keys f new row own k =
    let made = inserted_by_keys f new row in
    let keys = inserted_keys f new row own k in
    elim (cases_Bool (lone (bare made))) [
      | inl e ↦ rw e keys
      | inr e ↦ rw e (first_is_key new.key made own keys, keys, tt)
    ]

pub root_sound : (f level : ℕ) (new : Leaf) (row : KeyedRow) (nodes : List TableNode) (root : Root) → 3 ≤ f → IsKey new.key → IsTopRow f level row → root.number < length nodes
    → tree_at nodes (Some root) ≡ with_leaf_by_keys f new row → IsSoundRoot nodes (Some root)
root_sound f level new row nodes root three own t there is =
    let B : KeyedRow → Type 0 = λ r. AreKeysBounded 0 None r in
    let K : KeyedRow → Type 0 = λ r. AreKeys r in
    record {
      there = there;
      bounded = subst B (sym is) (with_leaf_bounded f new row (omega (arith, three)) t.bounded);
      keys = subst K (sym is) (with_leaf_keys f new row own t.keys);
    }

-- links that are one link to a node
pub node_lone : (key : Key) (o : Option NodeView) → lone (bare (node_before key o no_more)) ≡ true
node_lone key None = refl
node_lone key (Some v) = refl

link_alone : (seen : List NodeView) (link : Link) (root : Root) → root_by link ≡ Some root → row_of seen (link ∷ []) ≡ node_before root.key (slice_get seen root.number) no_more
link_alone seen (ToLeaf x) root e = absurd cc
link_alone seen (ToNode key number) root e =
    let same : (record { key = key; number = number }) ≡ root = cc in
    ap (λ (r : Root). node_before r.key (slice_get seen r.number) no_more) same

pub only_row : (nodes : List TableNode) (links : List Link) (root : Root) → only_root links ≡ Some root → row_of (node_views nodes) links ≡ tree_at nodes (Some root)
only_row nodes [] root e = absurd cc
only_row nodes (link ∷ []) root e = link_alone (node_views nodes) link root e
only_row nodes (link ∷ other ∷ links) root e = absurd cc

with_lone : (f : ℕ) (new : Leaf) (row made : KeyedRow) → made ≡ inserted_by_keys f new row → lone (bare made) ≡ true → made ≡ with_leaf_by_keys f new row
unfolding with_leaf_by_keys
with_lone f new row made e l =
    let L : KeyedRow → Type 0 = λ r. lone (bare r) ≡ true in
    let own : lone (bare (inserted_by_keys f new row)) ≡ true = subst L e l in
    rw own e

pub only_made : (f : ℕ) (nodes : List TableNode) (new : Leaf) (row : KeyedRow) (links : List Link) (root : Root) → row_of (node_views nodes) links ≡ inserted_by_keys f new row
    → only_root links ≡ Some root → tree_at nodes (Some root) ≡ with_leaf_by_keys f new row
only_made f nodes new row links root e o =
    with_lone f new row (tree_at nodes (Some root)) (sym (only_row nodes links root o) ∙ e) (node_lone root.key (slice_get (node_views nodes) root.number))

pub link_in : (n : ℕ) (link : Link) (root : Root) → root_by link ≡ Some root → IsLinkIn n link → root.number < n
link_in n (ToLeaf x) root e h = absurd cc
link_in n (ToNode key number) root e h =
    let same : (record { key = key; number = number }) ≡ root = cc in
    subst (λ (r : Root). r.number < n) same h

pub only_there : (f : ℕ) (nodes : List TableNode) (links : List Link) (root : Root) → fits f (bare (row_of (node_views nodes) links)) ≡ true → only_root links ≡ Some root → root.number < length nodes
only_there f nodes [] root h o = absurd cc
only_there f nodes (link ∷ []) root h o =
    let long = views_length nodes in
    let low = link_in (length (node_views nodes)) link root o (links_there f (node_views nodes) (link ∷ []) h).0 in
    omega (arith, low, long)
only_there f nodes (link ∷ other ∷ links) root h o = absurd cc

-- links that aren't
node_several : (key : Key) (o : Option NodeView) (rest : KeyedRow) → 0 < count (bare rest) → lone (bare (node_before key o rest)) ≡ false
node_several key None rest h = let e : (count (bare rest) == 0) ≡ false = grind (arith, nat_tests, h) in e
node_several key (Some v) rest h = let e : (count (bare rest) == 0) ≡ false = grind (arith, nat_tests, h) in e

several : (seen : List NodeView) (link other : Link) (links : List Link) → lone (bare (row_of seen (link ∷ other ∷ links))) ≡ false
several seen (ToLeaf x) other links = refl
several seen (ToNode key number) other links =
    let one = link_counted seen other (row_of seen links) in
    node_several key (slice_get seen number) (row_of seen (other ∷ links)) (omega (arith, one))

leaf_alone : (seen : List NodeView) (link : Link) → root_by link ≡ None → lone (bare (row_of seen (link ∷ []))) ≡ false
leaf_alone seen (ToLeaf x) o = refl
leaf_alone seen (ToNode key number) o = absurd cc

pub not_lone : (seen : List NodeView) (links : List Link) → only_root links ≡ None → lone (bare (row_of seen links)) ≡ false
not_lone seen [] o = refl
not_lone seen (link ∷ []) o = leaf_alone seen link o
not_lone seen (link ∷ other ∷ links) o = several seen link other links

with_several : (f : ℕ) (new : Leaf) (row made : KeyedRow) → made ≡ inserted_by_keys f new row → lone (bare made) ≡ false
    → node_in (first_key new.key made) None made no_more ≡ with_leaf_by_keys f new row
unfolding with_leaf_by_keys
with_several f new row made e l =
    let L : KeyedRow → Type 0 = λ r. lone (bare r) ≡ false in
    let own : lone (bare (inserted_by_keys f new row)) ≡ false = subst L e l in
    rw own (ap (λ (r : KeyedRow). node_in (first_key new.key r) None r no_more) e)

pub raised_made : (f : ℕ) (seen : List NodeView) (new : Leaf) (row tree : KeyedRow) (links : List Link) (key : Key) → row_of seen links ≡ inserted_by_keys f new row
    → only_root links ≡ None → key ≡ first_key new.key (row_of seen links) → tree ≡ node_in key None (row_of seen links) no_more → tree ≡ with_leaf_by_keys f new row
raised_made f seen new row tree links key e o k t =
    t ∙ ap (λ n. node_in n None (row_of seen links) no_more) k ∙ with_several f new row (row_of seen links) e (not_lone seen links o)

pub row_fits : (f : ℕ) (new : Leaf) (row made : KeyedRow) → 3 ≤ f → fits f (bare row) ≡ true → made ≡ inserted_by_keys f new row → fits f (bare made) ≡ true
row_fits f new row made three h e = let P : KeyedRow → Type 0 = λ r. fits f (bare r) ≡ true in subst P (sym e) (inserted_grown f new row three h).sound

-- what an answer says, said otherwise
pub ok_to : {X E : Type 0} (P Q : X → Type 0) → ((x : X) → P x → Q x) → (r : Result X E) → IfOk r P → IfOk r Q
ok_to P Q f (Ok x) h = f x h
ok_to P Q f (Err e) h = tt

pub pushed_there : (old new : List TableNode) (n : TableNode) (number : ℕ) → new ≡ old ++ n ∷ [] → number ≡ length old → number < length new
pushed_there old new n number e k =
    let both = ap length e in
    let sum = length-append old (n ∷ []) in
    omega (arith, both, sum, k)

-- what isn't loaded below the root stands where it stood below the links: where they lead to the root alone, and where the root was added over them
pub only_stands : (s : VolumeState) (nodes : List TableNode) (links : List Link) (root : Root) → only_root links ≡ Some root → DoLinksStand s nodes links → DoesRootStand s nodes (Some root)
only_stands s nodes links root e h = subst (λ (r : KeyedRow). IsOnVolume s r) (only_row (unplaced nodes) links root e) h

pub raised_stands : (s : VolumeState) (old new : List TableNode) (n : TableNode) (number : ℕ) (key : Key) → new ≡ old ++ n ∷ [] → number ≡ length old → n.beyond ≡ None → AreStandingLinks s old n.links.items
    → DoesRootStand s new (Some (record { key = key; number = number }))
raised_stands s old new n number key is last loaded below = standing_root s new key number (standing_pushed s old new n number key [] is last loaded below (standing_none s old))
