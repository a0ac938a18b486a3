-- What a walk to dirty nodes finds, and where none is left.
use Rattle.std.proofs.Common.{◌≡◌, ℕ, zero, suc, ◌<◌, true, false, List, [], ◌∷◌, ◌++◌, length, get_or, refl, ap, sym, ◌∙◌, subst, arith, append-nil}
use Rattle.std.specs.Prelude.{◌&&◌, ◌||◌, Bool, Option, None, Some, is_some, is_none, slice_get, unwrap_or}
use Rattle.std.proofs.lemmas.Option.{slice_get-get_or, slice_get_within}
use Rattle.ubifs_base.specs.declared.key.Key.{Key}
use Rattle.index_media.specs.Clean.{is_clean_row, node_branch, placed_of}
use Rattle.index_media.specs.KeyedRow.{KeyedRow, no_more, leaf_in, node_in, all_clean}
use Rattle.index_media.specs.PlacedRow.{Stretch}
use Rattle.table_nodes.specs.BeyondLaws.{dirty_row}
use Rattle.node_table.specs.Clean.{is_clean_node, IsReadyNode}
use Rattle.table_nodes.specs.Clean.{is_clean_below, are_clean_below}
use Rattle.node_table.specs.Dirty.{dirty_node, dirty_among, dirty_lists, dirty_from}
use Rattle.table_nodes.specs.NodeView.{NodeView, stretch_at, node_before, row_of, node_view_of, node_views, children_in, tree_at}
use Rattle.node_table.specs.Pruning.{stretch_in}
use Rattle.table_nodes.specs.Sound.{AreSoundViews}
use Rattle.table_nodes.specs.declared.link.Link.{Link}
use Rattle.table_nodes.specs.declared.link.Link.TheVariants.{ToLeaf, ToNode}
use Rattle.table_nodes.specs.declared.node.NodePlace.{NodePlace}
use Rattle.table_nodes.specs.declared.node.Root.{Root}
use Rattle.table_nodes.specs.declared.node.TableNode.{TableNode}
use Rattle.node_table.proofs.DirtyLists.{dirty_opened}
use Rattle.table_nodes.specs.NodeViewLaws.{opened, views_length}
use Rattle.node_cache.specs.CleanRows.{and_left, and_right, clean_node}

-- a clean node before a row
pub clean_before : (key : Key) (o : Option NodeView) (rest : KeyedRow) → is_clean_node o ≡ true → is_clean_row rest ≡ true → is_clean_row (node_before key o rest) ≡ true
clean_before key None rest h r = absurd cc
clean_before key (Some v) rest h r =
    let p = and_left (is_some v.place) (is_clean_row v.children) h in
    let c = and_right (is_some v.place) (is_clean_row v.children) h in
    rw (p, c, r) refl

pub clean_apart : (key : Key) (o : Option NodeView) (rest : KeyedRow) → is_clean_row (node_before key o rest) ≡ true → (is_clean_node o ≡ true) × (is_clean_row rest ≡ true)
clean_apart key None rest h = absurd cc
clean_apart key (Some v) rest h =
    let s = clean_node key v.place v.children rest h in
    (rw (s.0, s.1) refl, s.2)

pub clean_first : (seen : List NodeView) (link : Link) (rest : List Link) → is_clean_row (row_of seen (link ∷ [])) ≡ true → is_clean_row (row_of seen rest) ≡ true → is_clean_row (row_of seen (link ∷ rest)) ≡ true
clean_first seen (ToLeaf x) rest h r = r
clean_first seen (ToNode key number) rest h r = clean_before key (slice_get seen number) (row_of seen rest) (clean_apart key (slice_get seen number) no_more h).0 r

clean_there : (seen : List NodeView) (i : ℕ) (o : Option NodeView) → slice_get seen i ≡ o → is_clean_node o ≡ true → (i < length seen) × (is_some (stretch_in o) ≡ true)
clean_there seen i None e h = absurd cc
clean_there seen i (Some v) e h = (slice_get_within seen i v e, and_left (is_some v.place) (is_clean_row v.children) h)

none_dirty : (o : Option NodePlace) (number : ℕ) (below : List ℕ) → is_some (stretch_at o) ≡ true → dirty_node o number below ≡ []
none_dirty None number below h = absurd cc
none_dirty (Some p) number below h = refl

-- a clean node has no dirty one
clean_at : (f : ℕ) (nodes : List TableNode) (d : TableNode) (i : ℕ) → AreSoundViews f (node_views nodes) → is_clean_node (slice_get (node_views nodes) i) ≡ true → dirty_from nodes i ≡ []
clean_at f nodes d i s h =
    let t = clean_there (node_views nodes) i (slice_get (node_views nodes) i) refl h in
    let long = views_length nodes in
    let n = get_or nodes i d in
    let there : slice_get nodes i ≡ Some n = slice_get-get_or nodes i d (omega (arith, t.0, long)) in
    let seen = opened f nodes i n s there in
    let place : is_some (stretch_at n.place) ≡ true = sym (ap (λ o. is_some (stretch_in o)) seen) ∙ t.1 in
    dirty_opened f nodes i n s there ∙ none_dirty n.place i (dirty_among (dirty_lists nodes) n.links.items) place

clean_among : (f : ℕ) (nodes : List TableNode) (d : TableNode) (links : List Link) → AreSoundViews f (node_views nodes) → is_clean_row (row_of (node_views nodes) links) ≡ true → dirty_among (dirty_lists nodes) links ≡ []
clean_among f nodes d [] s h = refl
clean_among f nodes d (ToLeaf x ∷ links) s h = clean_among f nodes d links s h
clean_among f nodes d (ToNode key number ∷ links) s h =
    let c = clean_apart key (slice_get (node_views nodes) number) (row_of (node_views nodes) links) h in
    rw (clean_at f nodes d number s c.0, clean_among f nodes d links s c.1) refl

-- a node that is ready, and what is seen of it
dirty_place : (o : Option NodePlace) → stretch_at o ≡ None → o ≡ None
dirty_place None h = refl
dirty_place (Some p) h = absurd cc

pub record ReadyNode (f : ℕ) (nodes : List TableNode) (number : ℕ) (n : TableNode) : Type 0 where
  pub dirty : n.place ≡ None
  pub children : children_in (slice_get (node_views nodes) number) ≡ row_of (node_views nodes) n.links.items
  pub alone : dirty_from nodes number ≡ number ∷ []

pub ready_node : (f : ℕ) (nodes : List TableNode) (number : ℕ) (n : TableNode) → AreSoundViews f (node_views nodes) → IsReadyNode nodes number → slice_get nodes number ≡ Some n → ReadyNode f nodes number n
ready_node f nodes number n s r h =
    let seen = opened f nodes number n s h in
    let dirty = dirty_place n.place (sym (ap stretch_in seen) ∙ r.dirty) in
    let children = ap children_in seen ∙ dirty_row (node_views nodes) n dirty in
    let clean = ap is_clean_row (sym children) ∙ r.below in
    record {
      dirty = dirty;
      children = children;
      alone = dirty_opened f nodes number n s h ∙ ap (λ (o : Option NodePlace). dirty_node o number (dirty_among (dirty_lists nodes) n.links.items)) dirty
          ∙ ap (λ (below : List ℕ). below ++ number ∷ []) (clean_among f nodes n n.links.items s clean);
    }

-- the first of several lists
pub first_some : (xs ys : List ℕ) (x : ℕ) → Some x ≡ slice_get xs 0 → Some x ≡ slice_get (xs ++ ys) 0
first_some [] ys x h = absurd cc
first_some (y ∷ xs) ys x h = h

pub first_none : (xs ys : List ℕ) → None ≡ slice_get xs 0 → slice_get (xs ++ ys) 0 ≡ slice_get ys 0
first_none [] ys h = refl
first_none (y ∷ xs) ys h = absurd cc

pub among_first : (known : List (List ℕ)) (link : Link) (rest : List Link) → dirty_among known (link ∷ rest) ≡ dirty_among known (link ∷ []) ++ dirty_among known rest
among_first known (ToLeaf x) rest = refl
among_first known (ToNode key number) rest = ap (λ (v : List ℕ). v ++ dirty_among known rest) (sym (append-nil (unwrap_or (slice_get known number) [])))

-- a node that is settled and has a place is clean
pub settled_at : (seen : List NodeView) (i : ℕ) (v : NodeView) → are_clean_below seen ≡ true → slice_get seen i ≡ Some v → is_clean_below v ≡ true
settled_at [] i v s h = absurd cc
settled_at (w ∷ seen) zero v s h = let same : w ≡ v = cc in subst (λ x. is_clean_below x ≡ true) same (and_left (is_clean_below w) (are_clean_below seen) s)
settled_at (w ∷ seen) (suc i) v s h = settled_at seen i v (and_right (is_clean_below w) (are_clean_below seen) s) h

settled_clean : (o : Option Stretch) (b : Bool) → is_some o ≡ true → (is_none o || b) ≡ true → (is_some o && b) ≡ true
settled_clean None b h s = absurd cc
settled_clean (Some x) b h s = s

some_stretch : (o : Option NodePlace) → is_some o ≡ true → is_some (stretch_at o) ≡ true
some_stretch None h = absurd cc
some_stretch (Some p) h = refl

pub placed_is_clean : (nodes : List TableNode) (i : ℕ) (n : TableNode) → are_clean_below (node_views nodes) ≡ true → slice_get (node_views nodes) i ≡ Some (node_view_of (node_views nodes) n) → is_some n.place ≡ true
    → is_clean_node (slice_get (node_views nodes) i) ≡ true
placed_is_clean nodes i n s h p =
    let own = settled_at (node_views nodes) i (node_view_of (node_views nodes) n) s h in
    ap is_clean_node h ∙ settled_clean (stretch_at n.place) (is_clean_row (node_view_of (node_views nodes) n).children) (some_stretch n.place p) own

pub placed_list : (o : Option NodePlace) (number : ℕ) (below : List ℕ) → is_some o ≡ true → dirty_node o number below ≡ []
placed_list None number below h = absurd cc
placed_list (Some p) number below h = refl

pub dirty_list : (o : Option NodePlace) (number : ℕ) (below : List ℕ) → is_some o ≡ false → dirty_node o number below ≡ below ++ number ∷ []
dirty_list None number below h = refl
dirty_list (Some p) number below h = absurd cc

pub dirty_view : (o : Option NodePlace) → is_some o ≡ false → stretch_at o ≡ None
dirty_view None h = refl
dirty_view (Some p) h = absurd cc

-- the index below a root
pub clean_tree : (nodes : List TableNode) (root : Root) → is_clean_node (slice_get (node_views nodes) root.number) ≡ true → is_clean_row (tree_at nodes (Some root)) ≡ true
clean_tree nodes root h = clean_before root.key (slice_get (node_views nodes) root.number) no_more h refl

-- a row that is clean stands on a medium
node_clean : (key : Key) (place : Option Stretch) (children rest : KeyedRow) → is_some place ≡ true
    → node_in key place children rest ≡ node_in key (Some (record { lnum = (node_branch key place).lnum; offs = (node_branch key place).offs; len = (node_branch key place).len })) children rest
node_clean key None children rest h = absurd cc
node_clean key (Some p) children rest h = refl

branch_keeps : (key : Key) (place : Option Stretch) → (node_branch key place).key ≡ key
branch_keeps key None = refl
branch_keeps key (Some p) = refl

pub clean_placed : (row : KeyedRow) → is_clean_row row ≡ true → row ≡ all_clean (placed_of row)
clean_placed no_more h = refl
clean_placed (leaf_in x rest) h = ap (leaf_in x) (clean_placed rest h)
clean_placed (node_in key place children rest) h =
    let s = clean_node key place children rest h in
    let b = node_branch key place in
    let at : Option Stretch = Some (record { lnum = b.lnum; offs = b.offs; len = b.len }) in
    node_clean key place children rest s.0
    ∙ ap (λ (k : Key). node_in k at children rest) (sym (branch_keeps key place))
    ∙ ap (λ (r : KeyedRow). node_in b.key at r rest) (clean_placed children s.1)
    ∙ ap (λ (r : KeyedRow). node_in b.key at (all_clean (placed_of children)) r) (clean_placed rest s.2)
