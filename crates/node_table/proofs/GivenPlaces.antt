-- What a place that is given to a node changes of what is seen.
use Rattle.std.proofs.Common.{◌≡◌, ℕ, zero, suc, ◌+◌, true, List, [], ◌∷◌, ◌++◌, length, refl, ap, sym, ◌∙◌, subst, arith, inl, inr, length-append, append_assoc}
use Rattle.std.specs.Prelude.{◌⊎◌, ◌||◌, Option, None, Some, is_some, is_none, slice_get}
use Rattle.std.proofs.lemmas.List.Elements.{All-cons, All-head, All-tail}
use Rattle.ubifs_base.specs.declared.key.Key.{Key}
use Rattle.index_tree.specs.Levels.{levelled}
use Rattle.index_tree.specs.Order.{key_rank, leaf_rank}
use Rattle.index_tree.specs.Shape.{node, done, fits}
use Rattle.index_media.specs.Clean.{is_clean_row}
use Rattle.index_media.specs.InsertionSound.{AreKeys}
use Rattle.index_media.specs.KeyedKeys.{key_before, AreKeysBounded}
use Rattle.index_media.specs.KeyedRow.{KeyedRow, no_more, leaf_in, node_in, bare}
use Rattle.index_media.specs.PlacedRow.{Stretch}
use Rattle.told_value.specs.declared.told.Told.{Told}
use Rattle.table_nodes.specs.Beyond.{children_by, is_loaded, row_told, branch_at_place}
use Rattle.table_nodes.specs.BeyondLaws.{loaded_row}
use Rattle.table_nodes.specs.Clean.{is_clean_below, are_clean_below}
use Rattle.table_nodes.specs.NodeView.{NodeView, stretch_at, node_before, linked_before, row_of, node_view_of, views_behind, node_views, children_in, tree_at, IsRootIn}
use Rattle.node_table.specs.Placing.{with_place, IsPlacedRow}
use Rattle.table_nodes.specs.Sound.{IsSoundView, AreSoundViews}
use Rattle.node_table.specs.Staging.{IsSoundRoot}
use Rattle.node_table.specs.Unloaded.{is_loaded_if_dirty, are_loaded_if_dirty}
use Rattle.table_nodes.specs.declared.link.Link.{Link}
use Rattle.table_nodes.specs.declared.link.Link.TheVariants.{ToLeaf, ToNode}
use Rattle.table_nodes.specs.declared.node.NodePlace.{NodePlace}
use Rattle.table_nodes.specs.declared.node.Root.{Root}
use Rattle.table_nodes.specs.declared.node.TableNode.{TableNode}
use Rattle.table_nodes.specs.declared.seen.MediumSeen.{MediumSeen}
use Rattle.table_nodes.specs.NodeViewLaws.{get_seam, views_more}
use Rattle.node_cache.specs.CleanRows.{and_left, and_right, clean_node}

-- nothing but places changes of a row
pub placed_same : (p : NodePlace) (b row : KeyedRow) → IsPlacedRow p b row row
placed_same p b no_more = refl
placed_same p b (leaf_in x rest) = (rest, refl, placed_same p b rest)
placed_same p b (node_in key old children rest) = (old, children, rest, refl, inl refl, placed_same p b children, placed_same p b rest)

pub placed_bare : (p : NodePlace) (b row new : KeyedRow) → IsPlacedRow p b row new → bare new ≡ bare row
placed_bare p b no_more new h = ap bare h
placed_bare p b (leaf_in x rest) new h = let e = placed_bare p b rest h.0 h.2 in ap bare h.1 ∙ rw e refl
placed_bare p b (node_in key old children rest) new h =
    let c = placed_bare p b children h.1 h.5 in
    let r = placed_bare p b rest h.2 h.6 in
    ap bare h.3 ∙ rw (c, r) refl

placed_before : (p : NodePlace) (b row new : KeyedRow) (most : Option ℕ) → IsPlacedRow p b row new → key_before new most ≡ key_before row most
placed_before p b no_more new most h = ap (λ r. key_before r most) h
placed_before p b (leaf_in x rest) new most h = ap (λ r. key_before r most) h.1
placed_before p b (node_in key old children rest) new most h = ap (λ r. key_before r most) h.3

pub placed_bounded : (p : NodePlace) (b : KeyedRow) (least : ℕ) (most : Option ℕ) (row new : KeyedRow) → IsPlacedRow p b row new → AreKeysBounded least most row → AreKeysBounded least most new
placed_bounded p b least most no_more new h k = subst (λ r. AreKeysBounded least most r) (sym h) k
placed_bounded p b least most (leaf_in x rest) new h k =
    subst (λ r. AreKeysBounded least most r) (sym h.1) (k.0, k.1, placed_bounded p b (leaf_rank x) most rest h.0 h.2 k.2)
placed_bounded p b least most (node_in key old children rest) new h k =
    let P : Option ℕ → Type 0 = λ o. AreKeysBounded (key_rank key) o h.1 in
    let below = subst P (sym (placed_before p b rest h.2 most h.6)) (placed_bounded p b (key_rank key) (key_before rest most) children h.1 h.5 k.2) in
    subst (λ r. AreKeysBounded least most r) (sym h.3) (k.0, k.1, below, placed_bounded p b (key_rank key) most rest h.2 h.6 k.3)

pub placed_keys : (p : NodePlace) (b row new : KeyedRow) → IsPlacedRow p b row new → AreKeys row → AreKeys new
placed_keys p b no_more new h k = subst AreKeys (sym h) k
placed_keys p b (leaf_in x rest) new h k = subst AreKeys (sym h.1) (k.0, placed_keys p b rest h.0 h.2 k.1)
placed_keys p b (node_in key old children rest) new h k =
    subst AreKeys (sym h.3) (k.0, placed_keys p b children h.1 h.5 k.1, placed_keys p b rest h.2 h.6 k.2)

-- where all is clean, nothing changes
clean_place : (p : NodePlace) (b children : KeyedRow) (old now : Option Stretch) → is_some old ≡ true → (now ≡ old) ⊎ ((old ≡ None) × (now ≡ stretch_at (Some p)) × (children ≡ b)) → now ≡ old
clean_place p b children None now s h = absurd cc
clean_place p b children (Some x) now s (inl e) = e
clean_place p b children (Some x) now s (inr e) = let bad = e.0 in absurd cc

pub placed_clean : (p : NodePlace) (b row new : KeyedRow) → is_clean_row row ≡ true → IsPlacedRow p b row new → new ≡ row
placed_clean p b no_more new c h = h
placed_clean p b (leaf_in x rest) new c h = h.1 ∙ ap (leaf_in x) (placed_clean p b rest h.0 c h.2)
placed_clean p b (node_in key old children rest) new c h =
    let s = clean_node key old children rest c in
    let e = clean_place p b children old h.0 s.0 h.4 in
    let below = placed_clean p b children h.1 s.1 h.5 in
    let behind = placed_clean p b rest h.2 s.2 h.6 in
    h.3 ∙ ap (λ (o : Option Stretch). node_in key o h.1 h.2) e ∙ ap (λ (r : KeyedRow). node_in key old r h.2) below ∙ ap (λ (r : KeyedRow). node_in key old children r) behind

-- what is seen of nodes, some of which were given a place
pub record IsPlacedView (p : NodePlace) (b : KeyedRow) (v w : NodeView) : Type 0 where
  pub level : w.level ≡ v.level
  pub place : (w.place ≡ v.place) ⊎ ((v.place ≡ None) × (w.place ≡ stretch_at (Some p)) × (v.children ≡ b))
  pub children : IsPlacedRow p b v.children w.children

abbrev pub ArePlacedViews : NodePlace → KeyedRow → List NodeView → List NodeView → Type 0
ArePlacedViews p b [] ws = ws ≡ []
ArePlacedViews p b (v ∷ vs) ws = (w : NodeView) × (ws' : List NodeView) × (ws ≡ w ∷ ws') × IsPlacedView p b v w × ArePlacedViews p b vs ws'

abbrev IsPlacedOption : NodePlace → KeyedRow → Option NodeView → Option NodeView → Type 0
IsPlacedOption p b None o = o ≡ None
IsPlacedOption p b (Some v) o = (w : NodeView) × (o ≡ Some w) × IsPlacedView p b v w

same_view : (p : NodePlace) (b : KeyedRow) (v : NodeView) → IsPlacedView p b v v
same_view p b v = record { level = refl; place = inl refl; children = placed_same p b v.children }

same_views : (p : NodePlace) (b : KeyedRow) (vs : List NodeView) → ArePlacedViews p b vs vs
same_views p b [] = refl
same_views p b (v ∷ vs) = (v, vs, refl, same_view p b v, same_views p b vs)

push_view : (p : NodePlace) (b : KeyedRow) (vs ws : List NodeView) (v w : NodeView) → ArePlacedViews p b vs ws → IsPlacedView p b v w → ArePlacedViews p b (vs ++ v ∷ []) (ws ++ w ∷ [])
push_view p b [] ws v w h n = (w, [], ap (λ (xs : List NodeView). xs ++ w ∷ []) h, n, refl)
push_view p b (x ∷ vs) ws v w h n = (h.0, h.1 ++ w ∷ [], ap (λ (xs : List NodeView). xs ++ w ∷ []) h.2, h.3, push_view p b vs h.1 v w h.4 n)

get_placed : (p : NodePlace) (b : KeyedRow) (vs ws : List NodeView) (i : ℕ) → ArePlacedViews p b vs ws → IsPlacedOption p b (slice_get vs i) (slice_get ws i)
get_placed p b [] ws i h = ap (λ xs. slice_get xs i) h
get_placed p b (v ∷ vs) ws zero h = (h.0, ap (λ xs. slice_get xs 0) h.2, h.3)
get_placed p b (v ∷ vs) ws (suc i) h =
    let P : List NodeView → Type 0 = λ xs. IsPlacedOption p b (slice_get vs i) (slice_get xs (suc i)) in
    subst P (sym h.2) (get_placed p b vs h.1 i h.4)

node_placed : (p : NodePlace) (b : KeyedRow) (key : Key) (o o' : Option NodeView) (rest rest' : KeyedRow) → IsPlacedOption p b o o' → IsPlacedRow p b rest rest'
    → IsPlacedRow p b (node_before key o rest) (node_before key o' rest')
node_placed p b key None o' rest rest' h r = (None, no_more, rest', ap (λ o. node_before key o rest') h, inl refl, refl, r)
node_placed p b key (Some v) o' rest rest' h r =
    let w = h.0 in
    (w.place, w.children, rest', ap (λ o. node_before key o rest') h.1, h.2.place, h.2.children, r)

link_placed : (p : NodePlace) (b : KeyedRow) (vs ws : List NodeView) (link : Link) (rest rest' : KeyedRow) → ArePlacedViews p b vs ws → IsPlacedRow p b rest rest'
    → IsPlacedRow p b (linked_before vs link rest) (linked_before ws link rest')
link_placed p b vs ws (ToLeaf x) rest rest' h r = (rest', refl, r)
link_placed p b vs ws (ToNode key number) rest rest' h r = node_placed p b key (slice_get vs number) (slice_get ws number) rest rest' (get_placed p b vs ws number h) r

row_placed : (p : NodePlace) (b : KeyedRow) (vs ws : List NodeView) (links : List Link) → ArePlacedViews p b vs ws → IsPlacedRow p b (row_of vs links) (row_of ws links)
row_placed p b vs ws [] h = refl
row_placed p b vs ws (link ∷ links) h = link_placed p b vs ws link (row_of vs links) (row_of ws links) h (row_placed p b vs ws links h)

children_placed : (p : NodePlace) (b : KeyedRow) (vs ws : List NodeView) (links : List Link) (level : ℕ) (place : Option NodePlace) (beyond : Option (Told MediumSeen)) → ArePlacedViews p b vs ws
    → IsPlacedRow p b (children_by level place beyond (row_of vs links)) (children_by level place beyond (row_of ws links))
children_placed p b vs ws links level place None h = row_placed p b vs ws links h
children_placed p b vs ws links level None (Some told) h = row_placed p b vs ws links h
children_placed p b vs ws links level (Some q) (Some told) h = placed_same p b (row_told told.value level (branch_at_place q))

behind_placed : (p : NodePlace) (b : KeyedRow) (vs ws : List NodeView) (nodes : List TableNode) → ArePlacedViews p b vs ws → ArePlacedViews p b (views_behind vs nodes) (views_behind ws nodes)
behind_placed p b vs ws [] h = h
behind_placed p b vs ws (n ∷ ns) h =
    let own : IsPlacedView p b (node_view_of vs n) (node_view_of ws n) = record { level = refl; place = inl refl; children = children_placed p b vs ws n.links.items n.level n.place n.beyond h } in
    behind_placed p b (vs ++ node_view_of vs n ∷ []) (ws ++ node_view_of ws n ∷ []) ns (push_view p b vs ws (node_view_of vs n) (node_view_of ws n) h own)

-- what is seen of a table in which a dirty node was given a place
record GivenPlace (seen : List NodeView) (nodes : List TableNode) (number : ℕ) (p : NodePlace) (n : TableNode) : Type 0 where
  below : KeyedRow
  seen_there : slice_get (views_behind seen nodes) (length seen + number) ≡ Some (record { level = n.level; place = None; children = below })
  placed : ArePlacedViews p below (views_behind seen nodes) (views_behind seen (with_place number p nodes))

seen_dirty : (whole : List NodeView) (i level l : ℕ) (o : Option Stretch) (row : KeyedRow) → slice_get whole i ≡ Some (record { level = level; place = o; children = row }) → o ≡ None → level ≡ l
    → slice_get whole i ≡ Some (record { level = l; place = None; children = row })
seen_dirty whole i level l o row h d e =
    h ∙ ap (λ (x : Option Stretch). Some (record { level = level; place = x; children = row })) d ∙ ap (λ (k : ℕ). Some (record { level = k; place = None; children = row })) e

seen_whole : (seen more whole : List NodeView) (v : NodeView) → whole ≡ seen ++ v ∷ more → slice_get whole (length seen + 0) ≡ Some v
seen_whole seen more whole v all =
    let start : length seen + 0 ≡ length seen = omega arith in
    ap (λ k. slice_get whole k) start ∙ ap (λ (xs : List NodeView). slice_get xs (length seen)) all ∙ get_seam seen v more

seen_here : (seen : List NodeView) (m : TableNode) (ms : List TableNode) → slice_get (views_behind seen (m ∷ ms)) (length seen + 0) ≡ Some (node_view_of seen m)
seen_here seen m ms =
    let v = node_view_of seen m in
    let more = views_more (seen ++ v ∷ []) ms in
    seen_whole seen more.0 (views_behind seen (m ∷ ms)) v (more.1 ∙ append_assoc seen (v ∷ []) more.0)

given_place : (seen : List NodeView) (nodes : List TableNode) (number : ℕ) (p : NodePlace) (n : TableNode) → slice_get nodes number ≡ Some n → n.place ≡ None → is_loaded n ≡ true
    → GivenPlace seen nodes number p n
given_place seen [] number p n h d l = absurd cc
given_place seen (m ∷ ms) zero p n h d l =
    let same : m ≡ n = cc in
    let none : m.place ≡ None = ap (λ (x : TableNode). x.place) same ∙ d in
    let v = node_view_of seen m in
    let loaded : is_loaded m ≡ true = ap is_loaded same ∙ l in
    let after : TableNode = record m { place = Some p } in
    let w = node_view_of seen after in
    let row : w.children ≡ v.children = loaded_row seen after loaded ∙ sym (loaded_row seen m loaded) in
    let P : KeyedRow → Type 0 = λ r. IsPlacedRow p v.children v.children r in
    let here = seen_here seen m ms in
    let dirty : v.place ≡ None = ap stretch_at none in
    record {
      below = v.children;
      seen_there = seen_dirty (views_behind seen (m ∷ ms)) (length seen + 0) m.level n.level v.place v.children here dirty (ap (λ (x : TableNode). x.level) same);
      placed = behind_placed p v.children (seen ++ v ∷ []) (seen ++ w ∷ []) ms
          (push_view p v.children seen seen v w (same_views p v.children seen) (record { level = refl; place = inr (dirty, refl, refl); children = subst P (sym row) (placed_same p v.children v.children) }));
    }
given_place seen (m ∷ ms) (suc k) p n h d l =
    let one = length-append seen (node_view_of seen m ∷ []) in
    let place : length (seen ++ node_view_of seen m ∷ []) + k ≡ length seen + suc k = omega (arith, one) in
    let g = given_place (seen ++ node_view_of seen m ∷ []) ms k p n h d l in
    let P : ℕ → Type 0 = λ i. slice_get (views_behind seen (m ∷ ms)) i ≡ Some (record { level = n.level; place = None; children = g.below }) in
    record { below = g.below; seen_there = subst P place g.seen_there; placed = g.placed }

-- the same, by what is seen of the node
pub placed_views : (nodes : List TableNode) (number : ℕ) (p : NodePlace) (n : TableNode) → slice_get nodes number ≡ Some n → n.place ≡ None → is_loaded n ≡ true
    → ArePlacedViews p (children_in (slice_get (node_views nodes) number)) (node_views nodes) (node_views (with_place number p nodes))
placed_views nodes number p n h d l =
    let g = given_place [] nodes number p n h d l in
    let start : length {A = NodeView} [] + number ≡ number = omega arith in
    let here = ap children_in (ap (λ k. slice_get (node_views nodes) k) (sym start) ∙ g.seen_there) in
    let P : KeyedRow → Type 0 = λ b. ArePlacedViews p b (node_views nodes) (node_views (with_place number p nodes)) in
    subst P (sym here) g.placed

pub placed_tree : (p : NodePlace) (b : KeyedRow) (old new : List TableNode) (root : Option Root) → ArePlacedViews p b (node_views old) (node_views new) → IsPlacedRow p b (tree_at old root) (tree_at new root)
placed_tree p b old new None h = refl
placed_tree p b old new (Some root) h =
    node_placed p b root.key (slice_get (node_views old) root.number) (slice_get (node_views new) root.number) no_more no_more (get_placed p b (node_views old) (node_views new) root.number h) refl

-- what holds of each node holds of it then
view_sound : (f : ℕ) (p : NodePlace) (b : KeyedRow) (v w : NodeView) → IsPlacedView p b v w → IsSoundView f v → IsSoundView f w
view_sound f p b v w h s =
    let e = placed_bare p b v.children w.children h.children in
    let fit = ap (λ c. fits f (node c done)) e ∙ s.0 in
    let level = ap (λ n. levelled n (bare w.children)) h.level ∙ ap (levelled v.level) e ∙ s.1 in
    (fit, level, placed_bounded p b 0 None v.children w.children h.children s.2, placed_keys p b v.children w.children h.children s.3)

pub views_sound : (f : ℕ) (p : NodePlace) (b : KeyedRow) (vs ws : List NodeView) → ArePlacedViews p b vs ws → AreSoundViews f vs → AreSoundViews f ws
views_sound f p b [] ws h s = subst (λ xs. AreSoundViews f xs) (sym h) s
views_sound f p b (v ∷ vs) ws h s =
    let P : NodeView → Type 0 = λ x. IsSoundView f x in
    subst (λ xs. AreSoundViews f xs) (sym h.2)
    (All-cons P h.0 h.1 (view_sound f p b v h.0 h.3 (All-head P v vs s)) (views_sound f p b vs h.1 h.4 (All-tail P v vs s)))

settled_view : (p : NodePlace) (b : KeyedRow) (v : NodeView) (o : Option Stretch) (row : KeyedRow) → is_clean_row b ≡ true
    → (o ≡ v.place) ⊎ ((v.place ≡ None) × (o ≡ stretch_at (Some p)) × (v.children ≡ b)) → IsPlacedRow p b v.children row → is_clean_below v ≡ true → (is_none o || is_clean_row row) ≡ true
settled_view p b v None row c e h s = refl
settled_view p b v (Some x) row c (inl e) h s =
    let own : is_clean_row v.children ≡ true = ap (λ (o : Option Stretch). is_none o || is_clean_row v.children) e ∙ s in
    ap is_clean_row (placed_clean p b v.children row own h) ∙ own
settled_view p b v (Some x) row c (inr e) h s =
    let own : is_clean_row v.children ≡ true = ap is_clean_row e.2 ∙ c in
    ap is_clean_row (placed_clean p b v.children row own h) ∙ own

pub views_settled : (p : NodePlace) (b : KeyedRow) (vs ws : List NodeView) → is_clean_row b ≡ true → ArePlacedViews p b vs ws → are_clean_below vs ≡ true → are_clean_below ws ≡ true
views_settled p b [] ws c h s = ap are_clean_below h
views_settled p b (v ∷ vs) ws c h s =
    let own = settled_view p b v h.0.place h.0.children c h.3.place h.3.children (and_left (is_clean_below v) (are_clean_below vs) s) in
    let more = views_settled p b vs h.1 c h.4 (and_right (is_clean_below v) (are_clean_below vs) s) in
    ap are_clean_below h.2 ∙ rw (own, more) refl

-- a node that is dirty is loaded, and so it is where others get places
pub with_loaded_if_dirty : (number : ℕ) (p : NodePlace) (nodes : List TableNode) → are_loaded_if_dirty nodes ≡ true → are_loaded_if_dirty (with_place number p nodes) ≡ true
with_loaded_if_dirty number p [] h = refl
with_loaded_if_dirty zero p (n ∷ ns) h = and_right (is_loaded_if_dirty n) (are_loaded_if_dirty ns) h
with_loaded_if_dirty (suc k) p (n ∷ ns) h =
    let own = and_left (is_loaded_if_dirty n) (are_loaded_if_dirty ns) h in
    let more = with_loaded_if_dirty k p ns (and_right (is_loaded_if_dirty n) (are_loaded_if_dirty ns) h) in
    rw (own, more) refl

loaded_without : (n : TableNode) (place : Option NodePlace) → place ≡ None → (is_some place || is_loaded n) ≡ true → is_loaded n ≡ true
loaded_without n None e h = h
loaded_without n (Some p) e h = absurd cc

pub dirty_loaded : (nodes : List TableNode) (i : ℕ) (n : TableNode) → are_loaded_if_dirty nodes ≡ true → slice_get nodes i ≡ Some n → n.place ≡ None → is_loaded n ≡ true
dirty_loaded [] i n h e d = absurd cc
dirty_loaded (m ∷ ms) zero n h e d =
    let same : m ≡ n = cc in
    let P : TableNode → Type 0 = λ x. is_loaded_if_dirty x ≡ true in
    loaded_without n n.place d (subst P same (and_left (is_loaded_if_dirty m) (are_loaded_if_dirty ms) h))
dirty_loaded (m ∷ ms) (suc i) n h e d = dirty_loaded ms i n (and_right (is_loaded_if_dirty m) (are_loaded_if_dirty ms) h) e d

pub there_placed : (old new : List TableNode) (root : Option Root) → length new ≡ length old → IsRootIn old root → IsRootIn new root
there_placed old new None l h = tt
there_placed old new (Some root) l h = omega (arith, l, h)

pub with_length : (number : ℕ) (p : NodePlace) (nodes : List TableNode) → length (with_place number p nodes) ≡ length nodes
with_length number p [] = refl
with_length zero p (n ∷ ns) = refl
with_length (suc k) p (n ∷ ns) = let more = with_length k p ns in omega (arith, more)

pub root_placed : (p : NodePlace) (b : KeyedRow) (old new : List TableNode) (root : Option Root) → length new ≡ length old → ArePlacedViews p b (node_views old) (node_views new)
    → IsSoundRoot old root → IsSoundRoot new root
root_placed p b old new root l h s =
    let t = placed_tree p b old new root h in
    record {
      there = there_placed old new root l s.there;
      bounded = placed_bounded p b 0 None (tree_at old root) (tree_at new root) t s.bounded;
      keys = placed_keys p b (tree_at old root) (tree_at new root) t s.keys;
    }
