-- A commit has as many nodes to write as the row that is shown has dirty ones.
use Rattle.std.proofs.Common.{◌≡◌, ℕ, zero, suc, ◌+◌, true, List, [], ◌∷◌, ◌++◌, length, refl, ap, sym, ◌∙◌, subst, arith, inl, inr, length-append}
use Rattle.std.specs.Prelude.{◌||◌, Option, None, Some, All, is_none, slice_get, unwrap_or}
use Rattle.std.proofs.lemmas.Bool.{cases_Bool}
use Rattle.std.proofs.lemmas.List.Elements.{All-head, All-tail}
use Rattle.std.proofs.lemmas.Option.{slice_get_cases}
use Rattle.ubifs_base.specs.declared.key.Key.{Key}
use Rattle.index_tree.specs.Shape.{done, fits}
use Rattle.index_media.specs.Clean.{is_clean_row}
use Rattle.index_media.specs.InsertionSound.{fit_node}
use Rattle.index_media.specs.KeyedRow.{KeyedRow, no_more, leaf_in, node_in, all_clean, bare}
use Rattle.table_nodes.specs.BeyondLaws.{dirty_row}
use Rattle.table_nodes.specs.Clean.{are_clean_below, is_clean_below}
use Rattle.node_table.specs.Dirty.{dirty_among, dirty_behind, dirty_below, dirty_lists, dirty_node}
use Rattle.table_nodes.specs.NodeView.{NodeView, IsRootIn, node_before, row_of, stretch_at, tree_at, node_view_of, node_views, views_behind}
use Rattle.table_nodes.specs.Sound.{AreSoundViews, IsSoundView}
use Rattle.table_nodes.specs.declared.link.Link.{Link}
use Rattle.table_nodes.specs.declared.link.Link.TheVariants.{ToLeaf, ToNode}
use Rattle.table_nodes.specs.declared.node.NodePlace.{NodePlace}
use Rattle.table_nodes.specs.declared.node.Root.{Root}
use Rattle.table_nodes.specs.declared.node.TableNode.{TableNode}
use Rattle.index_cache.specs.Paged.{fanout_of}
use Rattle.index_cache.specs.declared.paged.PagedIndex.{PagedIndex}
use Rattle.ubi_volume.specs.Volume.{VolumeState}
use Rattle.mounted_index.specs.Committed.{dirty_nodes_in, dirty_one, nodes_to_write}
use Rattle.mounted_index.specs.Shown.{IsRowOfNodes, Shows}
use Rattle.mounted_index.specs.declared.mounted.IndexNodes.{IndexNodes}
use Rattle.mounted_index.specs.declared.mounted.IndexNodes.TheVariants.{OnMedium, InMemory}
use Rattle.mounted_index.specs.declared.mounted.MountedIndex.{MountedIndex}
use Rattle.node_cache.specs.CleanRows.{all_is_clean}

-- a row in which each node has a place has no dirty one
clean_none : (row : KeyedRow) → is_clean_row row ≡ true → dirty_nodes_in row ≡ 0
clean_none no_more h = refl
clean_none (leaf_in x rest) h = clean_none rest h
clean_none (node_in key None children rest) h = absurd cc
clean_none (node_in key (Some place) children rest) h = elim (cases_Bool (is_clean_row children)) [
  | inr e ↦ let none = rw e at h in absurd cc
  | inl e ↦
      let below = clean_none children e in
      let behind = clean_none rest (rw e at h) in
      omega (arith, below, behind)
]

-- of each node that is seen so many dirty ones are known as it has, with those below it
abbrev AreCounted : List (List ℕ) → List NodeView → Type 0
AreCounted known seen = (i : ℕ) (v : NodeView) → slice_get seen i ≡ Some v → length (unwrap_or (slice_get known i) []) ≡ dirty_one v.place + dirty_nodes_in v.children

others_fit : (f : ℕ) (key : Key) (o : Option NodeView) (rest : KeyedRow) → fits f (bare (node_before key o rest)) ≡ true → fits f (bare rest) ≡ true
others_fit f key None rest fit = absurd cc
others_fit f key (Some v) rest fit = (fit_node f (bare v.children) (bare rest) fit).others

node_counted : (f : ℕ) (known : List (List ℕ)) (seen : List NodeView) (key : Key) (number n : ℕ) (o : Option NodeView) (rest : KeyedRow) → slice_get seen number ≡ o → AreCounted known seen
    → fits f (bare (node_before key o rest)) ≡ true → n ≡ dirty_nodes_in rest → length (unwrap_or (slice_get known number) []) + n ≡ dirty_nodes_in (node_before key o rest)
node_counted f known seen key number n None rest is counted fit behind = absurd cc
node_counted f known seen key number n (Some v) rest is counted fit behind = let own = counted number v is in omega (arith, own, behind)

among_counted : (f : ℕ) (known : List (List ℕ)) (seen : List NodeView) (links : List Link) → AreCounted known seen → fits f (bare (row_of seen links)) ≡ true
    → length (dirty_among known links) ≡ dirty_nodes_in (row_of seen links)
among_counted f known seen [] counted fit = refl
among_counted f known seen (ToLeaf x ∷ links) counted fit = among_counted f known seen links counted fit
among_counted f known seen (ToNode key number ∷ links) counted fit =
    let behind = among_counted f known seen links counted (others_fit f key (slice_get seen number) (row_of seen links) fit) in
    length-append (unwrap_or (slice_get known number) []) (dirty_among known links)
    ∙ node_counted f known seen key number (length (dirty_among known links)) (slice_get seen number) (row_of seen links) refl counted fit behind

own_counted : (place : Option NodePlace) (number : ℕ) (below : List ℕ) (row : KeyedRow) → (place ≡ None → length below ≡ dirty_nodes_in row) → (is_none (stretch_at place) || is_clean_row row) ≡ true
    → length (dirty_node place number below) ≡ dirty_one (stretch_at place) + dirty_nodes_in row
own_counted None number below row count clean =
    let one = length-append below (number ∷ []) in
    let same = count refl in
    omega (arith, one, same)
own_counted (Some place) number below row count clean =
    let none : dirty_nodes_in row ≡ 0 = clean_none row clean in
    let both : 0 ≡ 0 + dirty_nodes_in row = omega (arith, none) in
    both

-- one more node is seen
counted_push : (known : List (List ℕ)) (seen : List NodeView) (own : List ℕ) (v : NodeView) → length known ≡ length seen → AreCounted known seen → length own ≡ dirty_one v.place + dirty_nodes_in v.children
    → AreCounted (known ++ own ∷ []) (seen ++ v ∷ [])
counted_push [] [] own v long counted count zero w is =
    let same : v ≡ w = cc in
    let P : NodeView → Type 0 = λ u. length own ≡ dirty_one u.place + dirty_nodes_in u.children in
    subst P same count
counted_push [] [] own v long counted count (suc i) w is = absurd cc
counted_push [] (s ∷ seen) own v long counted count i w is = absurd (omega (arith, long))
counted_push (k ∷ known) [] own v long counted count i w is = absurd (omega (arith, long))
counted_push (k ∷ known) (s ∷ seen) own v long counted count zero w is = counted zero w is
counted_push (k ∷ known) (s ∷ seen) own v long counted count (suc i) w is = counted_push known seen own v (omega (arith, long)) (λ j u e. counted (suc j) u e) count i w is

get_left : (xs ys : List NodeView) (i : ℕ) (v : NodeView) → slice_get xs i ≡ Some v → slice_get (xs ++ ys) i ≡ Some v
get_left [] ys i v h = absurd cc
get_left (x ∷ xs) ys zero v h = h
get_left (x ∷ xs) ys (suc i) v h = get_left xs ys i v h

get_last : (xs : List NodeView) (v : NodeView) → slice_get (xs ++ v ∷ []) (length xs) ≡ Some v
get_last [] v = refl
get_last (x ∷ xs) v = get_last xs v

behind_stays : (seen : List NodeView) (nodes : List TableNode) (i : ℕ) (v : NodeView) → slice_get seen i ≡ Some v → slice_get (views_behind seen nodes) i ≡ Some v
behind_stays seen [] i v h = h
behind_stays seen (n ∷ nodes) i v h = behind_stays (seen ++ node_view_of seen n ∷ []) nodes i v (get_left seen (node_view_of seen n ∷ []) i v h)

behind_long : (seen : List NodeView) (nodes : List TableNode) → length (views_behind seen nodes) ≡ length seen + length nodes
behind_long seen [] = omega arith
behind_long seen (n ∷ nodes) =
    let more = behind_long (seen ++ node_view_of seen n ∷ []) nodes in
    let one = length-append seen (node_view_of seen n ∷ []) in
    omega (arith, more, one)

-- each node that is seen has children that fit, and is dirty, or clean with all below it
abbrev AreFitAndClean : ℕ → List NodeView → Type 0
AreFitAndClean f seen = (i : ℕ) (v : NodeView) → slice_get seen i ≡ Some v → (fits f (bare v.children) ≡ true) × (is_clean_below v ≡ true)

behind_counted : (f : ℕ) (known : List (List ℕ)) (seen : List NodeView) (nodes : List TableNode) → length known ≡ length seen → AreCounted known seen → AreFitAndClean f (views_behind seen nodes)
    → AreCounted (dirty_behind known nodes) (views_behind seen nodes)
behind_counted f known seen [] long counted good = counted
behind_counted f known seen (n ∷ nodes) long counted good =
    let v = node_view_of seen n in
    let below = dirty_among known n.links.items in
    let own = dirty_node n.place (length known) below in
    let here = good (length seen) v (behind_stays (seen ++ v ∷ []) nodes (length seen) v (get_last seen v)) in
    let F : KeyedRow → Type 0 = λ r. fits f (bare r) ≡ true in
    let among : n.place ≡ None → length below ≡ dirty_nodes_in v.children = λ dirty.
    let row = dirty_row seen n dirty in
    among_counted f known seen n.links.items counted (subst F row here.0) ∙ sym (ap dirty_nodes_in row) in
    let count = own_counted n.place (length known) below v.children among here.1 in
    let one = length-append known (own ∷ []) in
    let other = length-append seen (v ∷ []) in
    behind_counted f (known ++ own ∷ []) (seen ++ v ∷ []) nodes (omega (arith, one, other, long)) (counted_push known seen own v long counted count) good

sound_at : (f : ℕ) (seen : List NodeView) (i : ℕ) (v : NodeView) → All (IsSoundView f) seen → slice_get seen i ≡ Some v → IsSoundView f v
sound_at f [] i v all is = absurd cc
sound_at f (w ∷ seen) zero v all is = let same : w ≡ v = cc in subst (IsSoundView f) same (All-head (IsSoundView f) w seen all)
sound_at f (w ∷ seen) (suc i) v all is = sound_at f seen i v (All-tail (IsSoundView f) w seen all) is

clean_at : (seen : List NodeView) (i : ℕ) (v : NodeView) → are_clean_below seen ≡ true → slice_get seen i ≡ Some v → is_clean_below v ≡ true
clean_at [] i v all is = absurd cc
clean_at (w ∷ seen) zero v all is = elim (cases_Bool (is_clean_below w)) [
  | inr e ↦ let none = rw e at all in absurd cc
  | inl e ↦ let same : w ≡ v = cc in let P : NodeView → Type 0 = λ u. is_clean_below u ≡ true in subst P same e
]
clean_at (w ∷ seen) (suc i) v all is = elim (cases_Bool (is_clean_below w)) [
  | inr e ↦ let none = rw e at all in absurd cc
  | inl e ↦ clean_at seen i v (rw e at all) is
]

none_known : AreCounted [] []
none_known i v is = absurd cc

-- below a root as many nodes are dirty as the index there has dirty ones
pub counted_below : (index : PagedIndex) (root : Option Root) → IsRootIn index.table.nodes.items root → length (dirty_below index.table.nodes.items root) ≡ dirty_nodes_in (tree_at index.table.nodes.items root)
counted_below index None there = refl
counted_below index (Some root) there =
    let nodes = index.table.nodes.items in
    let f = fanout_of index in
    let sound : AreSoundViews f (node_views nodes) = index.table.sound in
    let good : AreFitAndClean f (node_views nodes) = λ i v is. ((fit_node f (bare v.children) done (sound_at f (node_views nodes) i v sound is).0).children, clean_at (node_views nodes) i v index.table.clean is) in
    let all = behind_counted f [] [] nodes refl none_known good in
    let long = behind_long [] nodes in
    elim (slice_get_cases (node_views nodes) root.number).1 [
      | inr past ↦ absurd (omega (arith, past.0, long, there))
      | inl found ↦
          let own = all root.number found.0 found.2 in
          let P : Option NodeView → Type 0 = λ o. length (unwrap_or (slice_get (dirty_lists nodes) root.number) []) ≡ dirty_nodes_in (node_before root.key o no_more) in
          subst P (sym found.2) (omega (arith, own))
    ]

nodes_counted : (state : VolumeState) (fanout : ℕ) (row : KeyedRow) (nodes : IndexNodes) → IsRowOfNodes state fanout row nodes → nodes_to_write nodes ≡ dirty_nodes_in row
nodes_counted state fanout row (OnMedium root) h = sym (ap dirty_nodes_in h.1 ∙ clean_none (all_clean h.0) (all_is_clean h.0))
nodes_counted state fanout row (InMemory index) h = counted_below index index.root index.there ∙ ap dirty_nodes_in (sym h.0)

-- of the row that is shown a commit has to write each dirty node, once for each branch that leads to it
pub nodes_to_write-row : (state : VolumeState) (index : MountedIndex) (row : KeyedRow) → Shows state index row → nodes_to_write index.nodes ≡ dirty_nodes_in row
nodes_to_write-row state index row shown = nodes_counted state index.geometry.fanout row index.nodes shown.nodes
