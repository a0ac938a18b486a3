-- What is seen of the nodes of a table, each over all of them.
use Rattle.std.proofs.Common.{◌≡◌, ℕ, zero, suc, ◌+◌, ◌<◌, ◌≤◌, true, List, [], ◌∷◌, ◌++◌, length, refl, ap, sym, ◌∙◌, subst, arith, append-nil, append_assoc, length-append}
use Rattle.std.specs.Prelude.{Option, None, Some, slice_get}
use Rattle.std.proofs.lemmas.Option.{slice_get_past, slice_get_within, slice_get-get_or, get_or_from_slice_get}
use Rattle.ubifs_base.specs.declared.key.Key.{Key}
use Rattle.index_tree.specs.Shape.{done, fits}
use Rattle.index_media.specs.InsertionSound.{fit_node}
use Rattle.index_media.specs.KeyedKeys.{AreKeysBounded}
use Rattle.index_media.specs.KeyedRow.{KeyedRow, no_more, leaf_in, bare}
use Rattle.told_value.specs.declared.told.Told.{Told}
use Rattle.table_nodes.specs.Beyond.{children_by, is_loaded}
use Rattle.table_nodes.specs.BeyondLaws.{loaded_row}
use Rattle.table_nodes.specs.NodeView.{NodeView, stretch_at, node_before, linked_before, row_of, node_view_of, views_behind, node_views, children_in, tree_at, IsRootIn}
use Rattle.table_nodes.specs.Sound.{IsSoundView, AreSoundViews}
use Rattle.table_nodes.specs.declared.link.Link.{Link}
use Rattle.table_nodes.specs.declared.link.Link.TheVariants.{ToLeaf, ToNode}
use Rattle.table_nodes.specs.declared.node.NodePlace.{NodePlace}
use Rattle.table_nodes.specs.declared.node.Root.{Root}
use Rattle.table_nodes.specs.declared.node.TableNode.{TableNode}
use Rattle.table_nodes.specs.declared.seen.MediumSeen.{MediumSeen}

pub get_left : (xs ys : List NodeView) (i : ℕ) (v : NodeView) → slice_get xs i ≡ Some v → slice_get (xs ++ ys) i ≡ Some v
get_left [] ys i v h = absurd cc
get_left (z ∷ xs) ys zero v h = h
get_left (z ∷ xs) ys (suc i) v h = get_left xs ys i v h

pub get_seam : (xs : List NodeView) (v : NodeView) (ys : List NodeView) → slice_get (xs ++ v ∷ ys) (length xs) ≡ Some v
get_seam [] v ys = refl
get_seam (z ∷ xs) v ys = get_seam xs v ys

pub sound_at : (fanout : ℕ) (seen : List NodeView) (i : ℕ) (v : NodeView) → AreSoundViews fanout seen → slice_get seen i ≡ Some v → IsSoundView fanout v
sound_at fanout seen i v s h = subst (λ w. IsSoundView fanout w) (get_or_from_slice_get seen i v v h) (s i v (slice_get_within seen i v h))

pub children_fit : (fanout : ℕ) (v : NodeView) → IsSoundView fanout v → fits fanout (bare v.children) ≡ true
children_fit fanout v s = (fit_node fanout (bare v.children) done s.0).children

-- a link of a row whose nodes have children leads to a node that is there
node_there : (fanout : ℕ) (key : Key) (o : Option NodeView) (rest : KeyedRow) → fits fanout (bare (node_before key o rest)) ≡ true
    → (v : NodeView) × (o ≡ Some v) × (fits fanout (bare rest) ≡ true)
node_there fanout key None rest f = absurd cc
node_there fanout key (Some v) rest f = (v, refl, (fit_node fanout (bare v.children) (bare rest) f).others)

link_behind : (fanout : ℕ) (seen : List NodeView) (link : Link) (rest : KeyedRow) → fits fanout (bare (linked_before seen link rest)) ≡ true → fits fanout (bare rest) ≡ true
link_behind fanout seen (ToLeaf x) rest f = f
link_behind fanout seen (ToNode key number) rest f = (node_there fanout key (slice_get seen number) rest f).2

link_more : (fanout : ℕ) (seen more : List NodeView) (link : Link) (rest other : KeyedRow) → fits fanout (bare (linked_before seen link rest)) ≡ true → other ≡ rest
    → linked_before (seen ++ more) link other ≡ linked_before seen link rest
link_more fanout seen more (ToLeaf x) rest other f e = ap (leaf_in x) e
link_more fanout seen more (ToNode key number) rest other f e =
    let p = node_there fanout key (slice_get seen number) rest f in
    ap (λ o. node_before key o other) (get_left seen more number p.0 p.1) ∙ ap (λ r. node_before key (Some p.0) r) e ∙ ap (λ o. node_before key o rest) (sym p.1)

-- nodes behind change nothing of a row whose nodes have children
pub row_more : (fanout : ℕ) (seen more : List NodeView) (links : List Link) → fits fanout (bare (row_of seen links)) ≡ true → row_of (seen ++ more) links ≡ row_of seen links
row_more fanout seen more [] f = refl
row_more fanout seen more (link ∷ links) f =
    link_more fanout seen more link (row_of seen links) (row_of (seen ++ more) links) f
    (row_more fanout seen more links (link_behind fanout seen link (row_of seen links) f))

-- nor of what is below a node, loaded or not
children_more : (fanout : ℕ) (seen more : List NodeView) (links : List Link) (level : ℕ) (place : Option NodePlace) (beyond : Option (Told MediumSeen))
    → fits fanout (bare (children_by level place beyond (row_of seen links))) ≡ true
    → children_by level place beyond (row_of (seen ++ more) links) ≡ children_by level place beyond (row_of seen links)
children_more fanout seen more links level place None f = row_more fanout seen more links f
children_more fanout seen more links level None (Some told) f = row_more fanout seen more links f
children_more fanout seen more links level (Some p) (Some told) f = refl

-- nodes behind add to what is seen
pub views_more : (seen : List NodeView) (nodes : List TableNode) → (more : List NodeView) × (views_behind seen nodes ≡ seen ++ more)
views_more seen [] = ([], sym (append-nil seen))
views_more seen (n ∷ ns) =
    let p = views_more (seen ++ node_view_of seen n ∷ []) ns in
    (node_view_of seen n ∷ p.0, p.1 ∙ append_assoc seen (node_view_of seen n ∷ []) p.0)

pub views_append : (seen : List NodeView) (xs ys : List TableNode) → views_behind seen (xs ++ ys) ≡ views_behind (views_behind seen xs) ys
views_append seen [] ys = refl
views_append seen (x ∷ xs) ys = views_append (seen ++ node_view_of seen x ∷ []) xs ys

pub views_push : (nodes : List TableNode) (n : TableNode) → node_views (nodes ++ n ∷ []) ≡ node_views nodes ++ node_view_of (node_views nodes) n ∷ []
views_push nodes n = views_append [] nodes (n ∷ [])

views_long : (seen : List NodeView) (nodes : List TableNode) → length (views_behind seen nodes) ≡ length seen + length nodes
views_long seen [] = omega arith
views_long seen (n ∷ ns) =
    let more = views_long (seen ++ node_view_of seen n ∷ []) ns in
    let one = length-append seen (node_view_of seen n ∷ []) in
    omega (arith, more, one)

pub views_length : (nodes : List TableNode) → length (node_views nodes) ≡ length nodes
views_length nodes = let long = views_long [] nodes in omega (arith, long)

opened_behind : (fanout : ℕ) (seen : List NodeView) (nodes : List TableNode) (i : ℕ) (n : TableNode) → AreSoundViews fanout (views_behind seen nodes)
    → slice_get nodes i ≡ Some n → slice_get (views_behind seen nodes) (length seen + i) ≡ Some (node_view_of (views_behind seen nodes) n)
opened_behind fanout seen [] i n s h = absurd cc
opened_behind fanout seen (m ∷ ms) zero n s h =
    let v = node_view_of seen m in
    let whole = views_behind seen (m ∷ ms) in
    let p = views_more (seen ++ v ∷ []) ms in
    let all : whole ≡ seen ++ v ∷ p.0 = p.1 ∙ append_assoc seen (v ∷ []) p.0 in
    let place : length seen + 0 ≡ length seen = omega arith in
    let here : slice_get whole (length seen + 0) ≡ Some v = ap (λ k. slice_get whole k) place ∙ ap (λ w. slice_get w (length seen)) all ∙ get_seam seen v p.0 in
    let sound = sound_at fanout whole (length seen + 0) v s here in
    let row : (node_view_of whole m).children ≡ v.children = ap (λ (w : List NodeView). (node_view_of w m).children) all ∙ children_more fanout seen (v ∷ p.0) m.links.items m.level m.place m.beyond (children_fit fanout v sound) in
    let P : TableNode → Type 0 = λ t. slice_get whole (length seen + 0) ≡ Some (node_view_of whole t) in
    let same : m ≡ n = cc in
    subst P same (here ∙ ap (λ (r : KeyedRow). Some (record { level = m.level; place = stretch_at m.place; children = r })) (sym row))
opened_behind fanout seen (m ∷ ms) (suc i) n s h =
    let v = node_view_of seen m in
    let whole = views_behind seen (m ∷ ms) in
    let one = length-append seen (v ∷ []) in
    let place : length (seen ++ v ∷ []) + i ≡ length seen + suc i = omega (arith, one) in
    let P : ℕ → Type 0 = λ k. slice_get whole k ≡ Some (node_view_of whole n) in
    subst P place (opened_behind fanout (seen ++ v ∷ []) ms i n s h)

-- a node is seen over all nodes as it was over those before it
pub opened : (fanout : ℕ) (nodes : List TableNode) (i : ℕ) (n : TableNode) → AreSoundViews fanout (node_views nodes) → slice_get nodes i ≡ Some n
    → slice_get (node_views nodes) i ≡ Some (node_view_of (node_views nodes) n)
opened fanout nodes i n s h =
    let P : ℕ → Type 0 = λ k. slice_get (node_views nodes) k ≡ Some (node_view_of (node_views nodes) n) in
    let same : length {A = NodeView} [] + i ≡ i = omega arith in
    subst P same (opened_behind fanout [] nodes i n s h)

pub not_there : (nodes : List TableNode) (i : ℕ) → length nodes ≤ i → slice_get (node_views nodes) i ≡ None
not_there nodes i h = let long = views_length nodes in slice_get_past (node_views nodes) i (omega (arith, h, long))

-- what a walk that opens a node knows of its links
pub record Opened (nodes : List TableNode) (i : ℕ) (n : TableNode) : Type 0 where
  pub children : children_in (slice_get (node_views nodes) i) ≡ row_of (node_views nodes) n.links.items
  pub bounded : AreKeysBounded 0 None (row_of (node_views nodes) n.links.items)

pub opened_node : (fanout : ℕ) (nodes : List TableNode) (i : ℕ) (n : TableNode) → AreSoundViews fanout (node_views nodes) → slice_get nodes i ≡ Some n → is_loaded n ≡ true → Opened nodes i n
opened_node fanout nodes i n s h l =
    let there = opened fanout nodes i n s h in
    let row = loaded_row (node_views nodes) n l in
    let sound = sound_at fanout (node_views nodes) i (node_view_of (node_views nodes) n) s there in
    let P : KeyedRow → Type 0 = λ r. AreKeysBounded 0 None r in
    record { children = ap children_in there ∙ row; bounded = subst P row sound.2 }

-- where there is no node, none has children
pub none_opened : (nodes : List TableNode) (i : ℕ) → length nodes ≤ i → children_in (slice_get (node_views nodes) i) ≡ no_more
none_opened nodes i h = ap children_in (not_there nodes i h)

-- each node below a root has children, and not too many
view_fits : (fanout : ℕ) (seen : List NodeView) (key : Key) (i : ℕ) (o : Option NodeView) → AreSoundViews fanout seen → slice_get seen i ≡ o → i < length seen
    → fits fanout (bare (node_before key o no_more)) ≡ true
view_fits fanout seen key i None s e h = let v : NodeView = record { level = 0; place = None; children = no_more } in let there = sym e ∙ slice_get-get_or seen i v h in absurd cc
view_fits fanout seen key i (Some v) s e h = (sound_at fanout seen i v s e).0

pub root_fits : (fanout : ℕ) (nodes : List TableNode) (root : Option Root) → AreSoundViews fanout (node_views nodes) → IsRootIn nodes root → fits fanout (bare (tree_at nodes root)) ≡ true
root_fits fanout nodes None s h = refl
root_fits fanout nodes (Some root) s h =
    let long = views_length nodes in
    view_fits fanout (node_views nodes) root.key root.number (slice_get (node_views nodes) root.number) s refl (omega (arith, long, h))
